use Rattle.std.proofs.Common.{arith}
use Rattle.std.proofs.lemmas.Bool.{eq-eqb, eqb-true}
use Rattle.cpog_base.proofs.BitLemmas.{within_from, from_within}
use Rattle.cpog_base.proofs.bits.is_within.Goals as goal

pub returns : goal.returns
returns c =
    let a = c.args.word in
    let b = c.args.other in
    (λ t. within_from a b (omega arith) (omega arith) (eqb-true _ _ t), λ all. eq-eqb _ _ (from_within a b (omega arith) (omega arith) all))
