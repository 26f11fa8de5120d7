use Rattle.std.proofs.Common.{◌∙◌, sym, arith}
use Rattle.cpog_base.specs.BitLaws.{raised_same, raised_other, raised-lt, lowered_same, lowered_other}
use Rattle.cpog_base.proofs.bits.with_bit.Goals as goal

pub returns-then-value-clause-same : goal.returns-then-value-clause-same
returns-then-value-clause-same c = raised_same c.args.word c.args.i c.requires ∙ sym c.if-value.true

pub returns-then-value-clause-others : goal.returns-then-value-clause-others
returns-then-value-clause-others c = raised_other c.args.word c.args.i c.requires

pub returns-then-value-clause-below : goal.returns-then-value-clause-below
returns-then-value-clause-below c = raised-lt c.args.word c.args.i

pub returns-else-value-clause-same : goal.returns-else-value-clause-same
returns-else-value-clause-same c = lowered_same c.args.word c.args.i c.requires ∙ sym c.if-value.false

pub returns-else-value-clause-others : goal.returns-else-value-clause-others
returns-else-value-clause-others c = lowered_other c.args.word c.args.i (omega arith) c.requires
