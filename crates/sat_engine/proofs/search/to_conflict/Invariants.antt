use Rattle.std.proofs.Common.{◌≡◌, ◌-◌, length}
use Rattle.watch_lists.specs.Watched.{AreRearranged}
use Rattle.watch_lists.specs.Watching.{IsFit}
use Rattle.sat_engine.specs.Searches.{IsSearching, AreListed}
use Rattle.sat_engine.proofs.search.to_conflict.Given as goal

abbrev pub invariant-decisions : goal.invariant-decisions
invariant-decisions l = record {
  variables : l.trail.variables ≡ l.fn.trail.variables;
  log : l.known.log ≡ l.fn.known.log;
  sets : AreRearranged l.fn.known.arena.clauses l.known.arena.clauses;
  searching : IsSearching l.known.arena.clauses l.trail;
  listed : AreListed l.known.arena.clauses l.known.watches l.trail;
  fit : IsFit l.known.watches l.known.arena.clauses l.trail;
}

abbrev pub decreases-decisions : goal.decreases-decisions
decreases-decisions l = l.trail.variables - length l.trail.entries
