use Rattle.std.proofs.Common.{◌∙◌, sym, arith}
use Rattle.std.proofs.lemmas.Bool.{le-ltb}
use Rattle.cpog_base.specs.BitLaws.{bit_read, none_above}
use Rattle.cpog_base.proofs.bits.has_bit.Goals as goal

pub returns-then-i-lt64 : goal.returns-then-i-lt64
returns-then-i-lt64 c = bit_read c.args.word c.args.i

pub returns-else-i-lt64 : goal.returns-else-i-lt64
returns-else-i-lt64 c = le-ltb c.args.i 64 c.if-i-lt64.false ∙ sym (none_above 64 c.args.word c.args.i (omega arith) c.if-i-lt64.false)
