use Rattle.std.specs.Prelude.{◌<◌, ◌^◌}
use Rattle.std.proofs.Common.{ap, ◌∙◌, arith}
use Rattle.cpog_defs.specs.Codes.{bit}
use Rattle.pg_normal.proofs.ListingLemmas.{bit_more}
use Rattle.pg_normal.proofs.binding.with_param.Goals as goal

small : (c : goal.After-with_bit) → c.with_bit.result < 64
small c = let few : c.from.result < 2 ^ 6 = omega (arith, c.from.ensures, c.requires.few) in let less = c.with_bit.ensures.below 6 c.requires.place few in omega (arith, less)

pub overflow_cast-result : goal.overflow_cast-result
overflow_cast-result c = let h = small c in omega (arith, h)

pub returns-clause-few : goal.returns-clause-few
returns-clause-few c = small c

pub returns-clause-bits : goal.returns-clause-bits
returns-clause-bits c k = bit_more c.args.mask c.with_bit.result c.args.place k c.with_bit.ensures.same (λ j ne. c.with_bit.ensures.others j ne ∙ ap (λ w. bit w j) c.from.ensures)
