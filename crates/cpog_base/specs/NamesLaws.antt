-- Where a text stands once it is among others.
use Rattle.std.specs.Prelude.{◌≡◌, ℕ, ◌+◌, ◌<◌, Bool, true, false, cond, not, ◌||◌, List, [], ◌∷◌, ◌++◌, length, position, Some, refl}
use Rattle.std.proofs.Common.{inl, inr, ◌∙◌, arith, eq-eqb, length-append}
use Rattle.std.proofs.lemmas.Bool.{lt-ltb, both_ways, cases_Bool}
use Rattle.std.proofs.lemmas.List.Folds.{position_or_len_push}
use Rattle.std.specs.List.{list_any, position_or_len}
use Rattle.std.specs.Str.{bytes_eq}
use Rattle.std.specs.Cmp.Lexicographic.{bytes_decides}
use Rattle.cpog_base.specs.Names.{has_text, place_of, with_text}

-- where an element passes, the place of the first is in the list
found_within : {X : Type 0} (p : X → Bool) (xs : List X) → list_any p xs ≡ true → position_or_len p xs < length xs
found_within p [] h = absurd (both_ways _ refl h)
found_within p (x ∷ xs) h = elim (p x) as (λ b. (b || list_any p xs) ≡ true → cond (not b) (1 + position_or_len p xs) 0 < length (x ∷ xs)) [
  | true ↦ λ _. omega arith
  | false ↦ λ rest. omega (arith, found_within p xs rest)
] h

not_found : {X : Type 0} (p : X → Bool) (xs : List X) → list_any p xs ≡ false → position_or_len p xs ≡ length xs
not_found p [] h = refl
not_found p (x ∷ xs) h = elim (p x) as (λ b. (b || list_any p xs) ≡ false → cond (not b) (1 + position_or_len p xs) 0 ≡ length (x ∷ xs)) [
  | true ↦ λ no. absurd (both_ways _ no refl)
  | false ↦ λ rest. omega (arith, not_found p xs rest)
] h

position-at : {X : Type 0} (p : X → Bool) (xs : List X) (i : ℕ) → position_or_len p xs ≡ i → i < length xs → position p xs ≡ Some i
position-at p xs i e h = rw (e, lt-ltb i (length xs) h) refl

-- the place of a text once it is in the list
pub place-with_text : (names : List (List ℕ)) (name : List ℕ) → place_of (with_text names name) name ≡ Some (position_or_len (bytes_eq name) names)
place-with_text names name = elim (cases_Bool (has_text names name)) [
  | inl there ↦ rw there (position-at (bytes_eq name) names (position_or_len (bytes_eq name) names) refl (found_within (bytes_eq name) names there))
  | inr new ↦ rw new (position-at (bytes_eq name) (names ++ name ∷ []) (position_or_len (bytes_eq name) names) (at_end new) (let e = not_found (bytes_eq name) names new in omega (arith, e, length-append names (name ∷ []))))
]
  where
    at_end : has_text names name ≡ false → position_or_len (bytes_eq name) (names ++ name ∷ []) ≡ position_or_len (bytes_eq name) names
    at_end new =
        position_or_len_push (bytes_eq name) names name
        ∙ rw (eq-eqb _ _ (not_found (bytes_eq name) names new), (bytes_decides name name).1 refl) (omega (arith, not_found (bytes_eq name) names new))
