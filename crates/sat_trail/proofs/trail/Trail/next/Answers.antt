use Rattle.std.proofs.Common.{◌≤◌, ◌+◌, length, subst, arith}
use Rattle.sat_trail.specs.Trails.{IsTrail}
use Rattle.sat_trail.proofs.TrailLemmas.{trail_by, kept_given}
use Rattle.sat_trail.proofs.trail.Trail.next.Goals as goal

pub returns-then-self-len-clause-valid : goal.returns-then-self-len-clause-valid
returns-then-self-len-clause-valid c =
    let a = c.self.inside in
    let fits : a.given + 1 ≤ length a.lits.items = omega (arith, a.lits.ok.0) in
    trail_by _ _ _ _ _ _ _ (kept_given _ _ _ _ _ (a.given + 1) _ _ c.self.invariant fits)

pub returns-else-self-len-clause-valid : goal.returns-else-self-len-clause-valid
returns-else-self-len-clause-valid c = subst IsTrail c.self.view_is (trail_by _ _ _ _ _ _ _ c.self.invariant)
