use Rattle.std.proofs.Common.{length, ap, ◌∙◌}
use Rattle.cpog_base.specs.PatternLaws.{length-given}
use Rattle.cnf_build.proofs.tests.one_at_1.Goals as goal

pub returns : goal.returns
returns c = ap length c.new.ensures ∙ length-given 2 2 2
