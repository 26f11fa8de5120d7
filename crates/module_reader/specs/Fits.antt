-- What the line of the inner wires may declare.
use Rattle.std.specs.Prelude.{◌≡◌, ℕ, ◌+◌, ◌<◌, ◌≤◌, eqb, Bool, true, false, List, length}
use Rattle.line_rows.proofs.RowLaws.{FitsMany}
use Rattle.module_reader.specs.Modules.{gate_room}

-- none leads from an operation to itself
abbrev pub NotOwn : ℕ → ℕ → Bool → Type 0
NotOwn u v b = eqb u v ≡ true → b ≡ false

-- a row with a bit for each operation
abbrev pub IsRow : ℕ → ℕ → List Bool → Type 0
IsRow count u bs = FitsMany (NotOwn u) (λ v _. v + 1) count 0 bs

-- a row for each operation
abbrev pub IsMatrix : ℕ → List (List Bool) → Type 0
IsMatrix count rows = FitsMany (IsRow count) (λ u _. u + 1) count 0 rows

-- a few gates, and a bit for each two operations; and one wire at least
pub record IsWires (inputs : ℕ) (names : List (List ℕ)) (d : ℕ × List (List Bool)) : Type 0 where
  pub few : d.0 ≤ gate_room inputs
  pub matrix : IsMatrix (length names) d.1
  pub some : 0 < d.0 + length names
