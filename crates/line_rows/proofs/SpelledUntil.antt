-- Rows until the one that ends them, also where the values don't fix their lines.
use Rattle.std.proofs.Common.{◌≡◌, ℕ, zero, suc, Bool, true, false, List, [], ◌∷◌, ◌++◌, Result, refl, ap, subst, ◌∙◌, inl, inr}
use Rattle.line_rows.specs.Position.{Position}
use Rattle.line_rows.specs.Reading.{view_of, then_of}
use Rattle.line_rows.specs.Either.{none_before, one_before, until_of}
use Rattle.line_rows.specs.Spelling.{ThenSpells, EitherSpells, SpellsUntil}
use Rattle.line_rows.proofs.SpelledLaws.{IsSpelled, spelled-then, spelled-view, spelled-same}
use Rattle.line_rows.proofs.SpelledEither.{BegunBy, spelled-either}

module _ {S A E : Type 0} (T : S → A → List (List ℕ) → Type 0) (next : S → A → S) (r : S → Position → Result (A × Position) ℕ) (L : E → List (List ℕ) → Type 0) (last : Position → Result (E × Position) ℕ) (front : List ℕ → Bool) where
  abbrev Spelt : ℕ → S → List A × E → List (List ℕ) → Type 0
  Spelt n s = SpellsUntil T next L n s

  -- none is left
  abbrev Ended : List A × E → List (List ℕ) → Type 0
  Ended x ls = (x.0 ≡ []) × L x.1 ls

  -- one more, and what follows it
  abbrev Going : ℕ → S → List A × E → List (List ℕ) → Type 0
  Going n s x ls = (y : A × (List A × E)) × ThenSpells (T s) (λ a. Spelt n (next s a)) y ls × (one_before y ≡ x)

  ended_rows : IsSpelled L last → IsSpelled Ended (view_of none_before last)
  ended_rows end = spelled-view none_before Ended end from (λ e ls h. (refl, h))
    where
      from : (x : List A × E) (ls : List (List ℕ)) → Ended x ls → (e : E) × L e ls × (none_before e ≡ x)
      from ([], e) ls h = (e, h.1, refl)
      from (v ∷ vs, e) ls h = absurd cc

  going_rows : (n : ℕ) (s : S) → IsSpelled (T s) (r s) → ((a : A) (ls : List (List ℕ)) → T s a ls → IsSpelled (Spelt n (next s a)) (until_of front r next last n (next s a)))
      → IsSpelled (Going n s) (view_of one_before (then_of (r s) (λ a. until_of front r next last n (next s a))))
  going_rows n s one more = spelled-view one_before (Going n s) (spelled-then one more) (λ x ls h. h) (λ y ls h. (y, h, refl))

  to_sum : (n : ℕ) (s : S) (x : List A × E) (ls : List (List ℕ)) → Spelt (suc n) s x ls → EitherSpells (Going n s) Ended x ls
  to_sum n s ([], e) ls h = inr (refl, h)
  to_sum n s (v ∷ vs, e) ls h = inl ((v, (vs, e)), h, refl)

  from_sum : (n : ℕ) (s : S) (x : List A × E) (ls : List (List ℕ)) → EitherSpells (Going n s) Ended x ls → Spelt (suc n) s x ls
  from_sum n s x ls (inl g) = subst (λ (z : List A × E). Spelt (suc n) s z ls) g.2 g.1
  from_sum n s ([], e) ls (inr h) = h.1
  from_sum n s (v ∷ vs, e) ls (inr h) = absurd cc

  only_ended : (s : S) (x : List A × E) (ls : List (List ℕ)) → Spelt zero s x ls → Ended x ls
  only_ended s ([], e) ls h = (refl, h)
  only_ended s (v ∷ vs, e) ls h = absurd h

  then_ended : (s : S) (x : List A × E) (ls : List (List ℕ)) → Ended x ls → Spelt zero s x ls
  then_ended s ([], e) ls h = h.1
  then_ended s (v ∷ vs, e) ls h = absurd cc

  begun_ended : BegunBy L front false → BegunBy Ended front false
  begun_ended b x ls h = b x.1 ls h.1

  begun_going : (n : ℕ) (s : S) → BegunBy (T s) front true → BegunBy (Going n s) front true
  begun_going n s b x ls g =
      let a = b g.0.0 g.1.0 g.1.2 in
      (a.0, a.1 ++ g.1.1, g.1.4 ∙ ap (λ (z : List (List ℕ)). z ++ g.1.1) a.2, a.3)

  -- the rows may depend on the state; P is what is known of how many may still come and of the state
  pub spelled-until : (P : ℕ → S → Type 0) → ((n : ℕ) (s : S) → P (suc n) s → IsSpelled (T s) (r s)) → ((n : ℕ) (s : S) → P (suc n) s → BegunBy (T s) front true) → ((n : ℕ) (s : S) (v : A) (ls : List (List ℕ)) → P (suc n) s → T s v ls → P n (next s v))
      → IsSpelled L last → BegunBy L front false → (n : ℕ) (s : S) → P n s → IsSpelled (Spelt n s) (until_of front r next last n s)
  spelled-until P each begun keep end other zero s h = spelled-same (Spelt zero s) (ended_rows end) (only_ended s) (then_ended s)
  spelled-until P each begun keep end other (suc n) s h =
      spelled-same (Spelt (suc n) s)
      (spelled-either front (going_rows n s (each n s h) (λ a ls fits. spelled-until P each begun keep end other n (next s a) (keep n s a ls h fits))) (ended_rows end) (begun_going n s (begun n s h)) (begun_ended other))
      (to_sum n s) (from_sum n s)
