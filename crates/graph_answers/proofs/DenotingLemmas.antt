-- Scenarios that are denoted.
use Rattle.std.proofs.Common.{◌≡◌, ℕ, zero, suc, List, [], ◌∷◌, length, Some, slice_get, refl, ap, subst}
use Rattle.std.proofs.lemmas.Option.{none-some, same_Some}
use Rattle.cpog_defs.specs.Scenarios.{Scenario}
use Rattle.pg_normal.specs.Denoting.{Stated, IsDenoted, AreDenoted, LeavesOpen}
use Rattle.pg_normal.proofs.OpenLemmas.{denoted_closed}

-- none that has its scenario leaves a parameter open
pub none_open : (count : ℕ) (xs : List Stated) (scs : List Scenario) → AreDenoted count xs scs → (t k : ℕ) (x : Stated) → slice_get xs t ≡ Some x → LeavesOpen x k → ⊥
none_open count [] scs h t k x at left = none-some x at
none_open count (y ∷ xs) [] h t k x at left = h
none_open count (y ∷ xs) (s ∷ scs) h zero k x at left = denoted_closed count x s k (subst (λ z. IsDenoted count z s) (same_Some y x at) h.0) left
none_open count (y ∷ xs) (s ∷ scs) h (suc t) k x at left = none_open count xs scs h.1 t k x at left

pub length-denoted : (count : ℕ) (xs : List Stated) (scs : List Scenario) → AreDenoted count xs scs → length scs ≡ length xs
length-denoted count [] [] h = refl
length-denoted count [] (s ∷ scs) h = absurd h
length-denoted count (x ∷ xs) [] h = absurd h
length-denoted count (x ∷ xs) (s ∷ scs) h = ap suc (length-denoted count xs scs h.1)
