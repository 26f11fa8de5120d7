-- A list of texts that is kept as an `IndexSet` of strings.
use Rattle.std.specs.Prelude.{◌≡◌, ℕ, ◌+◌, ◌<◌, ◌≤◌, ◌^◌, ◌-◌, Bool, true, false, cond, not, ◌||◌, List, [], ◌∷◌, ◌++◌, map, length, position, Some, refl}
use Rattle.std.proofs.Common.{zero, suc, inl, inr, sym, ◌∙◌, ap, arith, get_or, take, slice_get}
use Rattle.std.proofs.lemmas.Option.{slice_get-get_or}
use Rattle.std.proofs.lemmas.List.{length-map, map-append, same_lists, take_more}
use Rattle.indexmap.specs.IndexSet.{insert_key}
use Rattle.std.proofs.lemmas.Bool.{both_ways, cases_Bool}
use Rattle.std.specs.List.{list_any, IsDistinct, AllByRecursion, position_or_len}
use Rattle.std.specs.Str.{bytes_eq}
use Rattle.std.specs.Cmp.Lexicographic.{bytes_decides}
use Rattle.std.specs.Prelude.{String}
use Rattle.std.specs.String.{string_bytes, string_eq}
use Rattle.cpog_base.specs.Names.{has_text, with_text, AreDistinct}
pub use Rattle.cpog_base.specs.NamesLaws.{place-with_text}

module _ {X Y : Type 0} (f : X → Y) (p : Y → Bool) where
  pub position_or_len-map : (xs : List X) → position_or_len p (map f xs) ≡ position_or_len (λ x. p (f x)) xs
  position_or_len-map [] = refl
  position_or_len-map (x ∷ xs) = ap (λ n. cond (not (p (f x))) (1 + n) 0) (position_or_len-map xs)

  pub position-map : (xs : List X) → position p (map f xs) ≡ position (λ x. p (f x)) xs
  position-map xs = rw (position_or_len-map xs, length-map) refl

  pub list_any-map : (xs : List X) → list_any p (map f xs) ≡ list_any (λ x. p (f x)) xs
  list_any-map [] = refl
  list_any-map (x ∷ xs) = ap (λ b. p (f x) || b) (list_any-map xs)

-- the texts of strings that differ are distinct
pub AreDistinct-map : {Z : Type 0} (xs : List (String Z)) → IsDistinct string_eq xs → AreDistinct (map string_bytes xs)
unfolding IsDistinct
AreDistinct-map {Z = Z} [] h = tt
AreDistinct-map {Z = Z} (x ∷ xs) h = (others xs h.0, AreDistinct-map xs h.1)
  where
    others : (ys : List (String Z)) → AllByRecursion (λ y. string_eq x y ≡ false) ys → AllByRecursion (λ y. bytes_eq (string_bytes x) y ≡ false) (map string_bytes ys)
    others [] h = tt
    others (y ∷ ys) h = (h.0, others ys h.1)

few_more : (b : Bool) → cond b 1 0 ≤ 1
few_more true = omega arith
few_more false = omega arith

pub keys-lt : {Z : Type 0} (ks : List (String Z)) (names : List (List ℕ)) (n : ℕ) (b : Bool) → map string_bytes ks ≡ names → length names < 2 ^ 32 - 1 → n ≡ length ks + cond b 1 0 → n < 2 ^ 32
keys-lt ks names n b same few is = let e : length ks ≡ length names = sym (length-map ks string_bytes) ∙ ap length same in omega (arith, few_more b)

-- the texts after a string is inserted
pub texts-insert_key : {Z : Type 0} (ks : List (String Z)) (t : String Z) → map string_bytes (insert_key string_eq ks t) ≡ with_text (map string_bytes ks) (string_bytes t)
texts-insert_key ks t =
    map-cond (list_any (string_eq t) ks)
    ∙ ap (λ b. cond b (map string_bytes ks) (map string_bytes ks ++ string_bytes t ∷ [])) (sym (list_any-map string_bytes (bytes_eq (string_bytes t)) ks))
  where
    map-cond : (b : Bool) → map string_bytes (cond b ks (ks ++ t ∷ [])) ≡ cond b (map string_bytes ks) (map string_bytes ks ++ string_bytes t ∷ [])
    map-cond true = refl
    map-cond false = map-append string_bytes ks (t ∷ [])

-- ---- a copy, and a comparison

pub all_same : {X : Type 0} (xs ys : List X) → length xs ≡ length ys → ((k : ℕ) → k < length xs → slice_get xs k ≡ slice_get ys k) → xs ≡ ys
all_same xs ys size same = same_lists xs ys size (λ k d l.
    let e : Some (get_or xs k d) ≡ Some (get_or ys k d) = sym (slice_get-get_or xs k d l) ∙ same k l ∙ slice_get-get_or ys k d (omega (arith, size, l)) in
    cc)

differ_turned : (a b : List ℕ) → bytes_eq a b ≡ false → bytes_eq b a ≡ false
differ_turned a b differ = elim (cases_Bool (bytes_eq b a)) [
  | inl t ↦ absurd (both_ways _ differ ((bytes_decides a b).1 (sym ((bytes_decides b a).0 t))))
  | inr f ↦ f
]

apart_at : (x : List ℕ) (ys : List (List ℕ)) (i : ℕ) → AllByRecursion (λ y. bytes_eq x y ≡ false) ys → i < length ys → bytes_eq x (get_or ys i []) ≡ false
apart_at x [] i h l = absurd (omega arith)
apart_at x (y ∷ ys) zero h l = h.0
apart_at x (y ∷ ys) (suc i) h l = apart_at x ys i h.1 (omega arith)

-- none of the names before a place is the name there
new_there : (names : List (List ℕ)) (i : ℕ) → AreDistinct names → i < length names → has_text (take i names) (get_or names i []) ≡ false
unfolding IsDistinct
new_there [] i h l = absurd (omega arith)
new_there (x ∷ xs) zero h l = refl
new_there (x ∷ xs) (suc i) h l = rw (differ_turned x (get_or xs i []) (apart_at x xs i h.0 (omega arith))) (new_there xs i h.1 (omega arith))

pub with_next : (names : List (List ℕ)) (i : ℕ) (name : List ℕ) → AreDistinct names → i < length names → slice_get names i ≡ Some name → with_text (take i names) name ≡ take (i + 1) names
with_next names i name distinct l there =
    let e : Some name ≡ Some (get_or names i []) = sym there ∙ slice_get-get_or names i [] l in
    let is : name ≡ get_or names i [] = cc in
    rw (is, new_there names i distinct l) (sym (take_more names i [] l))
