-- Lists of nodes along next links.
use Rattle.std.specs.Prelude.{◌≡◌, ◌≢◌, ◌⊎◌, ℕ, zero, suc, ◌<◌, ◌≤◌, ◌==◌, List, [], ◌∷◌, if◌then◌else◌}

-- the node stands in the list
abbrev pub Has : ℕ → List ℕ → Type 0
Has n [] = ⊥
Has n (m ∷ ns) = (n ≡ m) ⊎ Has n ns

-- no node twice
abbrev pub AreApart : List ℕ → Type 0
AreApart [] = Unit {0}
AreApart (n ∷ ns) = (Has n ns → ⊥) × AreApart ns

-- from n the next links lead through these nodes and end in 0
abbrev pub IsPath : (ℕ → ℕ) → ℕ → List ℕ → Type 0
IsPath next n [] = next n ≡ 0
IsPath next n (m ∷ ns) = (next n ≡ m) × (0 < m) × IsPath next m ns

-- the last node, or n
abbrev pub end_of : ℕ → List ℕ → ℕ
end_of n [] = n
end_of n (m ∷ ns) = end_of m ns

-- 0 at the end of a list, else one more
abbrev pub one_more_if : ℕ → ℕ → ℕ
one_more_if zero r = 0
one_more_if (suc n) r = suc r

-- how many nodes follow n
abbrev pub steps : ℕ → (ℕ → ℕ) → ℕ → ℕ
steps zero next n = 0
steps (suc f) next n = one_more_if (next n) (steps f next (next n))

-- one list a head, with the nodes whose own head it is; a node whose next is 1 is in none
pub record AreLists (heads size : ℕ) (next own : ℕ → ℕ) (lists : ℕ → List ℕ) : Type 0 where
  pub path : (h : ℕ) → 1 < h → h < heads → IsPath next h (lists h)
  pub sound : (h m : ℕ) → 1 < h → h < heads → Has m (lists h) → (heads ≤ m) × (m < size) × (own m ≡ h) × (next m ≢ 1)
  pub complete : (m : ℕ) → heads ≤ m → m < size → next m ≢ 1 → Has m (lists (own m))
  pub ranged : (m : ℕ) → heads ≤ m → m < size → next m ≢ 1 → (1 < own m) × (own m < heads)
  pub apart : (h : ℕ) → 1 < h → h < heads → AreApart (lists h)

-- the lists after a node went from the end of a part of one list to the front of another
abbrev pub moved_lists : (ℕ → List ℕ) → ℕ → ℕ → List ℕ → ℕ → ℕ → List ℕ
moved_lists lists a c left m h = if h == a then left else (if h == c then m ∷ lists h else lists h)
