-- When two answers to one question say the same.
use Rattle.std.specs.Prelude.{◌≡◌, ◌⊎◌, ℕ, List}
use Rattle.cpog_base.specs.declared.status.Status.{Status}

-- two answers have one status and one output; or each is what a search found
abbrev pub AreOneOrFound : (Status → Type 0) → Status → List ℕ → Status → List ℕ → Type 0
AreOneOrFound IsFound s x t y = ((s ≡ t) × (x ≡ y)) ⊎ (IsFound s × IsFound t)
