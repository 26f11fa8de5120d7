use Rattle.std.proofs.Common.{length, ap, ◌∙◌}
use Rattle.cpog_base.specs.PatternLaws.{length-given}
use Rattle.opcode_assign.proofs.tests.both_ones.Goals as goal

pub returns : goal.returns
returns c = ap length c.new.ensures ∙ length-given 2 3 3
