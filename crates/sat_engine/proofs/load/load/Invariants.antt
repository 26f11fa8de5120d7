use Rattle.std.proofs.Common.{◌≡◌, ◌≤◌, [], take, length}
use Rattle.watch_lists.specs.Watching.{reserved, IsFit}
use Rattle.proof_check.specs.Marks.{IsTable}
use Rattle.sat_engine.specs.Copies.{IsLoaded}
use Rattle.sat_engine.proofs.load.load.Given as goal

abbrev pub invariant-clauses : goal.invariant-clauses
invariant-clauses l = record {
  loaded : IsLoaded (take l.id l.formula.clauses) l.known.arena.clauses l.known.watches;
  fit : IsFit l.known.watches l.known.arena.clauses l.trail;
  places : length l.formula.clauses ≤ reserved l.known.watches;
  table : IsTable l.variables l.marks.items l.id;
  lines : l.known.log.lines ≡ [];
  clauses : l.known.log.first ≡ length l.formula.clauses;
}
