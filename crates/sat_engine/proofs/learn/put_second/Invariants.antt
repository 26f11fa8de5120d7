use Rattle.std.proofs.Common.{◌≡◌, ◌<◌, ℕ, length}
use Rattle.sat_trail.specs.Trails.{lit_at}
use Rattle.sat_engine.specs.Searches.{IsOfLevel}
use Rattle.sat_engine.proofs.learn.put_second.Given as goal

abbrev pub invariant-places : goal.invariant-places
invariant-places l = record {
  same : l.lits.items ≡ l.initial.lits.items;
  none : (i : ℕ) → 0 < i → i < l.place → i < length l.lits.items → IsOfLevel l.trail l.level (lit_at l.lits.items i) → ⊥;
}
