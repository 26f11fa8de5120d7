use Rattle.std.proofs.Common.{ℕ, ◌<◌, ◌≤◌}
use Rattle.clause_arena.specs.Clauses.{In, opposite}
use Rattle.sat_trail.specs.Trails.{true_lits, lit_at}
use Rattle.watch_lists.proofs.visit.first_open.Given as goal

abbrev pub invariant-loop-i : goal.invariant-loop-i
invariant-loop-i l = (k : ℕ) → l.start ≤ k → k < l.i → In (opposite (lit_at l.clause k)) (true_lits l.trail.entries)
