-- Words for scenarios, each of which takes some words alone: lists of distinct words, and what shows that there is
-- none.
use Rattle.std.specs.Prelude.{◌≡◌, ◌≢◌, ℕ, ◌<◌, nat_lt, ◌||◌, Bool, true, false, IsTrue, List, [], length, slice_index, slice_index_or}
use Rattle.cpog_base.specs.declared.limits.TheConstants.{SCENARIO_LIMIT}

-- one word for each of n scenarios, which its scenario may have, any two different
pub record IsMatching (may_have : ℕ → ℕ → Type 0) (top n : ℕ) (words : List ℕ) : Type 0 where
  pub within : (i : ℕ) → i < n → slice_index words i < top
  pub had : (i : ℕ) → i < n → may_have i (slice_index words i)
  pub apart : (i j : ℕ) → i < n → j < n → slice_index words i ≡ slice_index words j → i ≡ j

-- the same but for one scenario, whose entry means nothing
pub record IsMatchingBut (may_have : ℕ → ℕ → Type 0) (top n hole : ℕ) (words : List ℕ) : Type 0 where
  pub hole_within : hole < n
  pub within : (i : ℕ) → i < n → i ≢ hole → slice_index words i < top
  pub had : (i : ℕ) → i < n → i ≢ hole → may_have i (slice_index words i)
  pub apart : (i j : ℕ) → i < n → j < n → i ≢ hole → j ≢ hole → slice_index words i ≡ slice_index words j → i ≡ j

-- scenario o has the word, and is not the one without a word
pub record IsOwner (n hole : ℕ) (words : List ℕ) (word o : ℕ) : Type 0 where
  pub within : o < n
  pub other : o ≢ hole
  pub has : slice_index words o ≡ word

-- the one without a word is among these, and so is each that has a word which one of these may have: together they have
-- fewer words than there are of them
pub record IsHallViolator (may_have : ℕ → ℕ → Type 0) (top n hole : ℕ) (words : List ℕ)
    (among : ℕ → Bool) : Type 0 where
  pub has_hole : IsTrue (among hole)
  pub owned : (i word : ℕ) → i < n → IsTrue (among i) → word < top → may_have i word →
      (o : ℕ) × IsOwner n hole words word o × IsTrue (among o)

-- ---- the search

-- the list that a scenario has
abbrev pub list_at : List (List ℕ) → ℕ → List ℕ
list_at lists i = slice_index_or lists i []

-- whether a scenario is marked
abbrev pub is_in : List Bool → ℕ → Bool
is_in marks i = slice_index_or marks i false

-- for each scenario that is reached, words for all others, which differ from those at first in the reached ones alone
-- and are among those at first
pub record IsReach (may_have : ℕ → ℕ → Type 0) (top n hole : ℕ) (words : List ℕ) (lists : List (List ℕ))
    (reached : List Bool) : Type 0 where
  pub list_count : length lists ≡ SCENARIO_LIMIT
  pub mark_count : length reached ≡ SCENARIO_LIMIT
  pub has_hole : IsTrue (is_in reached hole)
  pub sizes : (i : ℕ) → i < n → IsTrue (is_in reached i) → length (list_at lists i) ≡ SCENARIO_LIMIT
  pub matched : (i : ℕ) → i < n → IsTrue (is_in reached i) → IsMatchingBut may_have top n i (list_at lists i)
  pub kept : (i j : ℕ) → i < n → IsTrue (is_in reached i) → j < n → is_in reached j ≡ false →
      slice_index (list_at lists i) j ≡ slice_index words j
  pub owned : (i j : ℕ) → i < n → IsTrue (is_in reached i) → j < n → j ≢ i →
      (o : ℕ) × IsOwner n hole words (slice_index (list_at lists i) j) o

-- a scenario that is reached has the word
pub record IsOwned (n hole : ℕ) (words : List ℕ) (reached : List Bool) (word : ℕ) : Type 0 where
  pub owner : ℕ
  pub is_owner : IsOwner n hole words word owner
  pub is_reached : IsTrue (is_in reached owner)

-- the word is one of a scenario before that without a word, or of a marked one
pub record IsBlocked (n hole : ℕ) (words : List ℕ) (marks : List Bool) (word : ℕ) : Type 0 where
  pub owner : ℕ
  pub is_owner : IsOwner n hole words word owner
  pub is_among : IsTrue (nat_lt owner hole || is_in marks owner)

-- a scenario was tried: each word that it may have is one of a scenario that is reached
abbrev pub IsTried : (ℕ → ℕ → Type 0) → ℕ → ℕ → ℕ → List ℕ → List Bool → ℕ → Type 0
IsTried may_have top n hole words reached i =
    (word : ℕ) → word < top → may_have i word → IsOwned n hole words reached word

-- none that was reached is lost
abbrev pub Grows : List Bool → List Bool → Type 0
Grows before after = (i : ℕ) → IsTrue (is_in before i) → IsTrue (is_in after i)

-- one for each that is left to try
abbrev pub weight : Bool → ℕ
weight true = 0
weight false = 1

-- each word that a marked scenario, but for the one without a word, may have is one of a marked scenario
abbrev pub IsTight : (ℕ → ℕ → Type 0) → ℕ → ℕ → ℕ → List ℕ → List Bool → Type 0
IsTight may_have top n hole words marks =
    (i word : ℕ) → i < n → i ≢ hole → IsTrue (is_in marks i) → word < top → may_have i word →
    IsOwned n hole words marks word
