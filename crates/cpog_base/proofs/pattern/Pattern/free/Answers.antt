use Rattle.cpog_base.proofs.PatternLemmas.{none_given, given_none}
use Rattle.cpog_base.proofs.pattern.Pattern.free.Goals as goal

pub returns : goal.returns
returns c = none_given c.args.length

pub invariant_of-result : goal.invariant_of-result
invariant_of-result c = given_none c.args.length c.requires
