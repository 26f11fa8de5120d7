use Rattle.std.proofs.Common.{◌≡◌, ◌-◌, ◌<◌, List, length}
use Rattle.proof_check.specs.Lines.{numbers}
use Rattle.clause_arena.specs.Clauses.{Clause}
use Rattle.watch_lists.specs.Watching.{IsFit}
use Rattle.sat_engine.specs.Lessons.{IsClear}
use Rattle.sat_engine.specs.Searches.{IsSearching, AreListed, IsSized, IsLogged}
use Rattle.sat_engine.proofs.search.search.Given as goal

abbrev pub invariant-conflicts : goal.invariant-conflicts
invariant-conflicts l = record {
  variables : l.trail.variables ≡ l.fn.trail.variables;
  first : l.known.log.first ≡ l.fn.known.log.first;
  unspent : numbers l.known.log.lines < l.budget;
  searching : IsSearching l.known.arena.clauses l.trail;
  listed : AreListed l.known.arena.clauses l.known.watches l.trail;
  fit : IsFit l.known.watches l.known.arena.clauses l.trail;
  sized : IsSized l.trail.variables l.known.arena.clauses l.known.log;
  flags : length l.work.seen.items ≡ l.trail.variables;
  clear : IsClear l.work.seen.items;
  logged : (formula : List Clause) → IsLogged formula l.fn.trail.variables l.fn.known.arena.clauses l.fn.known.log.lines → IsLogged formula l.trail.variables l.known.arena.clauses l.known.log.lines;
}

abbrev pub decreases-conflicts : goal.decreases-conflicts
decreases-conflicts l = l.budget - numbers l.known.log.lines
