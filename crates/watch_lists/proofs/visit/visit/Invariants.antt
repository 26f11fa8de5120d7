use Rattle.std.proofs.Common.{◌≡◌}
use Rattle.watch_lists.specs.Watched.{AreSameListed, count_left, AreRearranged}
use Rattle.watch_lists.specs.Steps.{AtList, IsExtended}
use Rattle.watch_lists.proofs.visit.visit.Given as goal

abbrev pub invariant-list : goal.invariant-list
invariant-list l = record {
  sets : AreRearranged l.fn.arena.clauses l.arena.clauses;
  listed : AreSameListed l.heads l.fn.links l.links;
  grown : IsExtended l.heads l.fn.links l.fn.arena.clauses l.fn.trail l.trail;
  given : l.trail.given ≡ l.fn.trail.given;
  at : AtList l.heads l.links l.arena.clauses l.trail l.lit l.before;
}

abbrev pub decreases-list : goal.decreases-list
decreases-list l = count_left l.links l.before
