use Rattle.std.proofs.Common.{subst}
use Rattle.sat_trail.specs.Trails.{IsTrail}
use Rattle.sat_trail.proofs.TrailLemmas.{trail_by}
use Rattle.sat_trail.proofs.trail.Trail.len.Goals as goal

pub returns-clause-valid : goal.returns-clause-valid
returns-clause-valid c = subst IsTrail c.self.view_is (trail_by _ _ _ _ _ _ _ c.self.invariant)
