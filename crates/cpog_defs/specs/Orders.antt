-- The order of a scenario: its operations, and which are before which.
use Rattle.std.specs.Prelude.{◌≡◌, ℕ, zero, suc, ◌<◌, Bool, true, false, not, ◌&&◌, ◌||◌, if◌then◌else◌, IsTrue, List, [], ◌∷◌, ◌++◌, length, slice_index_or}
use Rattle.std.specs.Ordering.{nat_cmp}
use Rattle.std.specs.FinSet as set
use Rattle.cpog_defs.specs.declared.types.OpId.{OpId}
use Rattle.cpog_defs.specs.Walks.{IsStrictOrder}

-- a set of operations, by their numbers
abbrev pub Set : Type 0
Set = set.FinSet nat_cmp

-- how many operations there may be, those that the scenario has, and for each operation the set of those before it
pub record Order : Type 0 where
  pub count : ℕ
  pub ops : Set
  pub before : List Set

abbrev pub has : Order → ℕ → Bool
has o v = set.contains o.ops v

abbrev pub is_before : Order → ℕ → ℕ → Bool
is_before o u v = set.contains (slice_index_or o.before v set.empty) u

-- a strict partial order of the operations that the scenario has
pub record IsOrder (o : Order) : Type 0 where
  pub below : (v : ℕ) → IsTrue (has o v) → v < o.count
  pub rows : length o.before ≡ o.count
  pub strict : IsStrictOrder o.count (is_before o)
  pub first_kept : (u v : ℕ) → IsTrue (is_before o u v) → IsTrue (has o u)
  pub second_kept : (u v : ℕ) → IsTrue (is_before o u v) → IsTrue (has o v)

-- an order among so many operations
pub record IsOrderOf (count : ℕ) (o : Order) : Type 0 where
  pub count_is : o.count ≡ count
  pub order : IsOrder o

-- two orders are equal where their operations and their before relations are
pub record AreEqual (a b : Order) : Type 0 where
  pub ops : (v : ℕ) → has a v ≡ has b v
  pub before : (u v : ℕ) → is_before a u v ≡ is_before b u v

-- whether some number below n passes
abbrev pub any_below : (ℕ → Bool) → ℕ → Bool
any_below p zero = false
any_below p (suc n) = p n || any_below p n

-- whether each number below n passes
abbrev pub all_below : (ℕ → Bool) → ℕ → Bool
all_below p zero = true
all_below p (suc n) = p n && all_below p n

-- the lists of the numbers below n, one behind the other
abbrev pub each_below : {A : Type 0} → (ℕ → List A) → ℕ → List A
each_below f zero = []
each_below f (suc n) = each_below f n ++ f n

-- whether u is covered by v: before it, and no operation lies between
abbrev pub is_covered : Order → ℕ → ℕ → Bool
is_covered o u v = is_before o u v && not (any_below (λ z. is_before o u z && is_before o z v) o.count)

-- the ordered pair of two operations
abbrev pub arc_of : ℕ → ℕ → OpId × OpId
arc_of u v = (record { 0 = u }, record { 0 = v })

-- the covering pairs, by u and then v
abbrev pub covering_pairs : Order → List (OpId × OpId)
covering_pairs o = each_below (λ u. each_below (λ v. if is_covered o u v then arc_of u v ∷ [] else []) o.count) o.count
