use Rattle.std.proofs.Common.{◌≤◌, ◌-◌}
use Rattle.watch_lists.specs.Watched.{AreSameListed, ArePendingFrom, AreRearranged}
use Rattle.watch_lists.specs.Steps.{AreFit, IsExtended}
use Rattle.watch_lists.proofs.visit.run.Given as goal

abbrev pub invariant-given : goal.invariant-given
invariant-given l = record {
  sets : AreRearranged l.fn.arena.clauses l.arena.clauses;
  listed : AreSameListed l.heads l.fn.links l.links;
  grown : IsExtended l.heads l.fn.links l.fn.arena.clauses l.fn.trail l.trail;
  given : l.fn.trail.given ≤ l.trail.given;
  fit : AreFit l.heads l.links l.arena.clauses l.trail l.trail.given;
  pending : ArePendingFrom l.trail l.trail.given;
}

abbrev pub decreases-given : goal.decreases-given
decreases-given l = l.trail.variables - l.trail.given
