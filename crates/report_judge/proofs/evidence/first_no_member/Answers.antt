use Rattle.std.proofs.Common.{add-one, below_more}
use Rattle.std.proofs.lemmas.Bool.{both_ways}
use Rattle.report_judge.specs.Known.{IsMember}
use Rattle.report_judge.proofs.evidence.first_no_member.Goals as goal

pub returns-then-not-is_member : goal.returns-then-not-is_member
returns-then-not-is_member c =
    let orders = c.args.basis.now.orders.items in
    rw (add-one c.loop-i.i) (c.loop-i-test.true, λ member. both_ways _ c.if-not-is_member.true (c.is_member.ensures.1 member), c.loop-i.invariant)

pub loop-i-preserved : goal.loop-i-preserved
loop-i-preserved c = below_more (IsMember c.args.basis.now.orders.items c.args.places.now) _ c.loop-i.invariant (c.is_member.ensures.0 c.if-not-is_member.false)
