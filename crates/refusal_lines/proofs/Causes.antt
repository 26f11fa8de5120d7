-- Causes of answers: each has a status and an output, and one of them has a turn before the other.
use Rattle.std.proofs.Common.{◌≡◌, ◌⊎◌, ℕ, List, sym, ◌∙◌, inl, inr}
use Rattle.cpog_base.specs.declared.status.Status.{Status}
use Rattle.refusal_lines.specs.Refusal.{At}

-- what is printed at a status for a cause
abbrev pub Cause : Type 1
Cause = Status → List ℕ → Type 0

abbrev pub Agree : Status → List ℕ → Status → List ℕ → Type 0
Agree s x t y = (s ≡ t) × (x ≡ y)

-- it has one status and one output
abbrev pub IsOne : Cause → Type 0
IsOne c = (s t : Status) (x y : List ℕ) → c s x → c t y → Agree s x t y

-- the two never stand together
abbrev pub AreApart : Cause → Cause → Type 0
AreApart c d = (s t : Status) (x y : List ℕ) → c s x → d t y → ⊥

-- one or the other
abbrev pub either : Cause → Cause → Cause
either c d s x = c s x ⊎ d s x

pub one_at : (status : Status) (answer : List ℕ → Type 0) → ((x y : List ℕ) → answer x → answer y → x ≡ y) → IsOne (At status answer)
one_at status answer one s t x y h k = (h.0 ∙ sym k.0, one x y h.1 k.1)

pub one_either : (c d : Cause) → IsOne c → IsOne d → AreApart c d → IsOne (either c d)
one_either c d first second apart s t x y (inl h) (inl k) = first s t x y h k
one_either c d first second apart s t x y (inl h) (inr k) = absurd (apart s t x y h k)
one_either c d first second apart s t x y (inr h) (inl k) = absurd (apart t s y x k h)
one_either c d first second apart s t x y (inr h) (inr k) = second s t x y h k
