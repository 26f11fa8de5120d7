-- What reading a whole input and writing a whole output do to the bytes that a source and a sink tell.
use Rattle.std.specs.Prelude.{◌≡◌, ℕ, ◌<◌, List, [], ◌++◌, length, ⊤, None, Some}
use Rattle.std.specs.declared.option.Option.{Option}

-- told bytes were read to their end: they are these, and none is left
abbrev pub IsAllOf : Option (List ℕ) → Option (List ℕ) → List ℕ → Type 0
IsAllOf None new bytes = ⊤
IsAllOf (Some xs) new bytes = (bytes ≡ xs) × (new ≡ Some [])

-- told bytes are more than the limit
abbrev pub IsLonger : ℕ → Option (List ℕ) → Type 0
IsLonger limit None = ⊤
IsLonger limit (Some xs) = limit < length xs

-- told bytes lost a front: what is left ended them before
abbrev pub LosesFront : Option (List ℕ) → Option (List ℕ) → Type 0
LosesFront None new = ⊤
LosesFront (Some xs) None = ⊥
LosesFront (Some xs) (Some ys) = (front : List ℕ) × (xs ≡ front ++ ys)

-- told bytes grew by a front of these, and not by all of them
abbrev pub TakesFront : Option (List ℕ) → Option (List ℕ) → List ℕ → Type 0
TakesFront None new bytes = ⊤
TakesFront (Some xs) None bytes = ⊥
TakesFront (Some xs) (Some ys) bytes = (front rest : List ℕ) × (bytes ≡ front ++ rest) × (0 < length rest) × (ys ≡ xs ++ front)
