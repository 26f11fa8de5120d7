-- Names, as each is put into the list.
use Rattle.std.specs.Prelude.{◌≡◌, ℕ, ◌<◌, ◌≤◌, Bool, true, false, cond, ◌||◌, List, [], ◌∷◌, ◌++◌, length, Some, None, refl}
use Rattle.std.proofs.Common.{get_or, arith, zero, suc, inl, inr, length-append}
use Rattle.std.specs.List.{list_any, position_or_len, AllByRecursion}
use Rattle.std.proofs.lemmas.Bool.{ltb-true, cases_Bool}
use Rattle.cpog_base.proofs.NamesLemmas.{place-with_text}
use Rattle.std.specs.Str.{bytes_eq}
use Rattle.std.proofs.lemmas.List.Quantifiers.{position-Some}
use Rattle.cpog_base.specs.Names.{has_text, place_of, with_text}

-- ---- a name that has a place stands in the list already

or_right : (a b : Bool) → b ≡ true → (a || b) ≡ true
or_right true b h = refl
or_right false b h = h

any_at : (p : List ℕ → Bool) (xs : List (List ℕ)) (i : ℕ) (d : List ℕ) → i < length xs → p (get_or xs i d) ≡ true → list_any p xs ≡ true
any_at p [] i d lt h = absurd (omega arith)
any_at p (x ∷ xs) zero d lt h = rw h refl
any_at p (x ∷ xs) (suc i) d lt h = or_right (p x) (list_any p xs) (any_at p xs i d (omega arith) h)

pub has_known : (names : List (List ℕ)) (w : List ℕ) (n : ℕ) → place_of names w ≡ Some n → has_text names w ≡ true
has_known names w n e = let at = position-Some (bytes_eq w) names n [] e in any_at (bytes_eq w) names n [] at.0 at.1

pub known : (names : List (List ℕ)) (w : List ℕ) (n : ℕ) → place_of names w ≡ Some n → names ≡ with_text names w
known names w n e = let h : has_text names w ≡ true = has_known names w n e in rw h refl

some_at : (b : Bool) (a i : ℕ) → cond b (Some a) None ≡ Some i → b ≡ true
some_at true a i e = refl
some_at false a i e = cc

-- a text that was put in has its place below the length
pub place-below : (names : List (List ℕ)) (w : List ℕ) → position_or_len (bytes_eq w) (with_text names w) < length (with_text names w)
place-below names w =
    ltb-true _ _ (some_at _ (position_or_len (bytes_eq w) (with_text names w)) (position_or_len (bytes_eq w) names) (place-with_text names w))

-- the list with a text is not shorter
pub with_text-grows : (names : List (List ℕ)) (w : List ℕ) → length names ≤ length (with_text names w)
with_text-grows names w = elim (cases_Bool (has_text names w)) [
  | inl there ↦ rw there (omega arith)
  | inr new ↦ rw new (omega (arith, length-append names (w ∷ [])))
]

all_both : {X : Type 0} (P : X → Type 0) (xs ys : List X) → AllByRecursion P xs → AllByRecursion P ys → AllByRecursion P (xs ++ ys)
all_both P [] ys h k = k
all_both P (x ∷ xs) ys h k = (h.0, all_both P xs ys h.1 k)

-- what holds of each text, and of one that is put in, holds of each after
pub all-with_text : (P : List ℕ → Type 0) (names : List (List ℕ)) (w : List ℕ) → AllByRecursion P names → P w → AllByRecursion P (with_text names w)
all-with_text P names w h k = elim (cases_Bool (has_text names w)) [
  | inl there ↦ rw there h
  | inr new ↦ rw new (all_both P names (w ∷ []) h (k, tt))
]
