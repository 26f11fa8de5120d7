-- The clauses of one literal.
use Rattle.std.specs.Prelude.{◌≡◌, ℕ, ◌<◌, List, length, Some, slice_get}
use Rattle.clause_arena.specs.Clauses.{Lit, Clause, In}
use Rattle.sat_trail.specs.Trails.{TrailState, IsTrueBy}

-- those below place n are true at level 0
abbrev pub AreUnitsTrueTo : ℕ → List Clause → TrailState → Type 0
AreUnitsTrueTo n clauses t = (k : ℕ) (c : Clause) → k < n → slice_get clauses k ≡ Some c → length c ≡ 1 → (l : Lit) × In l c × IsTrueBy t.entries 0 l

-- each clause of one literal is true at level 0
abbrev pub AreUnitsTrue : List Clause → TrailState → Type 0
AreUnitsTrue clauses t = AreUnitsTrueTo (length clauses) clauses t
