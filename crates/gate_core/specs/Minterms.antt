-- Minterms while they are put to a list of gates and joined.
use Rattle.std.specs.Prelude.{◌≡◌, ◌↔◌, ℕ, ◌<◌, false, IsTrue, List, [], ◌∷◌}
use Rattle.std.specs.List.{AllByRecursion}
use Rattle.cpog_defs.specs.Codes.{bit}
use Rattle.cpog_defs.specs.Gates.{GateList, IsGateList, signal_count}
use Rattle.gate_core.specs.Words.{value_at}

-- the two words have the same bits below n
abbrev pub SameBits : ℕ → ℕ → ℕ → Type 0
SameBits n s t = (b : ℕ) → b < n → bit t b ≡ bit s b

-- a signal that is 1 on the words that have all bits of s
pub record IsMintermSignal (list : GateList) (s m : ℕ) : Type 0 where
  pub in_range : m < signal_count list
  pub value : (t : ℕ) → IsTrue (value_at list m t) ↔ SameBits list.inputs s t

-- each signal is the minterm of the code at its place
abbrev pub AreMinterms : GateList → List ℕ → List ℕ → Type 0
AreMinterms list [] [] = Unit {0}
AreMinterms list [] (m ∷ ms) = ⊥
AreMinterms list (s ∷ ss) [] = ⊥
AreMinterms list (s ∷ ss) (m ∷ ms) = IsMintermSignal list s m × AreMinterms list ss ms

-- any two codes have different bits
abbrev pub AllDiffer : ℕ → List ℕ → Type 0
AllDiffer n [] = Unit {0}
AllDiffer n (s ∷ ss) = AllByRecursion (λ t. SameBits n s t → ⊥) ss × AllDiffer n ss

-- a signal that can be joined with minterms: of codes that differ, at none of which it is 1
pub record CanJoin (list : GateList) (signal : ℕ) (ss ms : List ℕ) : Type 0 where
  pub gates : IsGateList list
  pub in_range : signal < signal_count list
  pub each : AreMinterms list ss ms
  pub fresh : AllByRecursion (λ s. value_at list signal s ≡ false) ss
  pub differ : AllDiffer list.inputs ss

-- a signal that can be joined with minterms
pub record CanJoinAll (list : GateList) (signal : ℕ) (ms : List ℕ) : Type 0 where
  pub codes : List ℕ
  pub can_join : CanJoin list signal codes ms
