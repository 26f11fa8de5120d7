use Rattle.scenario_check.proofs.EqualLemmas.{members_from, from_members}
use Rattle.scenario_check.proofs.equals.same_members.Goals as goal

pub returns : goal.returns
returns c =
    let a = c.args.a.now in
    let b = c.args.b.now in
    rw (c.subset.ensures, c.subset-2.ensures) (members_from a b, from_members a b)
