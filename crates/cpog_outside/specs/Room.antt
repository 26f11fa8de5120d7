-- When no fault comes: a sink that tells room takes so many bytes without one, and a steady source has none at all.
use Rattle.std.specs.Prelude.{◌≡◌, ℕ, ◌-◌, ◌≤◌, Bool, true, false, List, [], None, Some, IfOk, IsOk, IsTrue}
use Rattle.std.specs.declared.option.Option.{Option}
use Rattle.std.specs.declared.result.Result.{Result}

-- so many bytes are taken without a fault
abbrev pub HasRoom : Option ℕ → ℕ → Type 0
HasRoom None count = ⊥
HasRoom (Some room) count = count ≤ room

-- a call that took some bytes from the front of a piece: no fault came, and the room fell by what was taken
pub record TakesQuietly {E : Type 0} (room room_after : Option ℕ) (faults faults_after : ℕ) (result : Result ℕ E) : Type 0 where
  pub ok : IsOk result
  pub same : faults_after ≡ faults
  pub left : (count : ℕ) → HasRoom room count → IfOk result (λ n. HasRoom room_after (count - n))

-- a call that read into a buffer from a steady source: no fault came, and it stays steady
pub record ReadsQuietly {E : Type 0} (steady_after : Bool) (faults faults_after : ℕ) (result : Result ℕ E) : Type 0 where
  pub ok : IsOk result
  pub same : faults_after ≡ faults
  pub steady : IsTrue steady_after

-- whether no call is told to fail
abbrev pub names_none : List ℕ → Bool
names_none [] = true
names_none other = false
