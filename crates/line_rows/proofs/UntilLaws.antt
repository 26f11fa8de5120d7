-- Rows until the one that ends them.
use Rattle.std.proofs.Common.{◌≡◌, ℕ, zero, suc, Bool, true, false, List, [], ◌∷◌, ◌++◌, Result, Ok, Err, refl, sym, ap, subst, ◌∙◌, append_assoc, inl, inr, ◌⊎◌}
use Rattle.line_rows.specs.Position.{Position}
use Rattle.line_rows.specs.Reading.{◌>>=◌, view_of, then_of, lines_many}
use Rattle.line_rows.specs.Either.{none_before, one_before, until_of}
use Rattle.line_rows.proofs.RowLaws.{IsRows, rows-then, rows-view}
use Rattle.line_rows.proofs.EitherLaws.{Begun, rows-either}

-- each row fits its state, and there are at most so many
abbrev pub FitsUntil : {S A E : Type 0} → (S → A → Type 0) → (S → A → S) → (E → Type 0) → ℕ → S → List A → E → Type 0
FitsUntil F next L n s [] e = L e
FitsUntil F next L zero s (v ∷ vs) e = ⊥
FitsUntil F next L (suc n) s (v ∷ vs) e = F s v × FitsUntil F next L n (next s v) vs e

same_result : {A : Type 0} (o : Result (A × Position) ℕ) → (o >>= λ x. Ok (x.0, x.1)) ≡ o
same_result (Ok x) = refl
same_result (Err k) = refl

rows-same : {A : Type 0} {F : A → Type 0} {t : A → List (List ℕ)} {r : Position → Result (A × Position) ℕ} (G : A → Type 0) → IsRows F t r → ((v : A) → G v → F v) → ((v : A) → F v → G v) → IsRows G t r
rows-same {A = A} {t = t} {r = r} G rows from to = subst (IsRows G t) (λ i p. same_result (r p) i) (rows-view (λ (x : A). x) G t rows (λ b h. (b, from b h, refl, refl)) (λ a h. (to a h, refl)))

module _ {S A E : Type 0} (F : S → A → Type 0) (t : S → A → List (List ℕ)) (next : S → A → S) (r : S → Position → Result (A × Position) ℕ) (L : E → Type 0) (u : E → List (List ℕ)) (last : Position → Result (E × Position) ℕ) (front : List ℕ → Bool) where
  abbrev until_lines : S → List A × E → List (List ℕ)
  until_lines s x = lines_many t next s x.0 ++ u x.1

  abbrev Fit : ℕ → S → List A × E → Type 0
  Fit n s x = FitsUntil F next L n s x.0 x.1

  abbrev Ended : List A × E → Type 0
  Ended x = (x.0 ≡ []) × L x.1

  abbrev Going : ℕ → S → List A × E → Type 0
  Going n s x = (y : A × (List A × E)) × (F s y.0 × Fit n (next s y.0) y.1) × (one_before y ≡ x)

  ended_rows : (s : S) → IsRows L u last → IsRows Ended (until_lines s) (view_of none_before last)
  ended_rows s end = rows-view none_before Ended (until_lines s) end from (λ e h. ((refl, h), refl))
    where
      from : (x : List A × E) → Ended x → (e : E) × L e × (until_lines s x ≡ u e) × (none_before e ≡ x)
      from ([], e) h = (e, h.1, refl, refl)
      from (v ∷ vs, e) h = absurd cc

  going_rows : (n : ℕ) (s : S) → IsRows (F s) (t s) (r s) → ((a : A) → F s a → IsRows (Fit n (next s a)) (until_lines (next s a)) (until_of front r next last n (next s a)))
      → IsRows (Going n s) (until_lines s) (view_of one_before (then_of (r s) (λ a. until_of front r next last n (next s a))))
  going_rows n s one more = rows-view one_before (Going n s) (until_lines s) (rows-then one more)
      (λ x h. (h.0, h.1, ap (until_lines s) (sym h.2) ∙ append_assoc (t s h.0.0) (lines_many t next (next s h.0.0) h.0.1.0) (u h.0.1.1), h.2))
      (λ y h. ((y, h, refl), append_assoc (t s y.0) (lines_many t next (next s y.0) y.1.0) (u y.1.1)))

  to_sum : (n : ℕ) (s : S) (x : List A × E) → Fit (suc n) s x → Going n s x ⊎ Ended x
  to_sum n s ([], e) h = inr (refl, h)
  to_sum n s (v ∷ vs, e) h = inl ((v, (vs, e)), h, refl)

  from_sum : (n : ℕ) (s : S) (x : List A × E) → Going n s x ⊎ Ended x → Fit (suc n) s x
  from_sum n s x (inl g) = subst (Fit (suc n) s) g.2 g.1
  from_sum n s ([], e) (inr h) = h.1
  from_sum n s (v ∷ vs, e) (inr h) = absurd cc

  only_ended : (s : S) (x : List A × E) → Fit zero s x → Ended x
  only_ended s ([], e) h = (refl, h)
  only_ended s (v ∷ vs, e) h = absurd h

  then_ended : (s : S) (x : List A × E) → Ended x → Fit zero s x
  then_ended s ([], e) h = h.1
  then_ended s (v ∷ vs, e) h = absurd cc

  begun_ended : (s : S) → Begun L u front false → Begun Ended (until_lines s) front false
  begun_ended s b = record { starts = from }
    where
      from : (x : List A × E) → Ended x → (l : List ℕ) × (ls : List (List ℕ)) × (until_lines s x ≡ l ∷ ls) × (front l ≡ false)
      from ([], e) h = b.starts e h.1
      from (v ∷ vs, e) h = absurd cc

  begun_going : (n : ℕ) (s : S) → Begun (F s) (t s) front true → Begun (Going n s) (until_lines s) front true
  begun_going n s b = record {
    starts = λ x g.
        let a = b.starts g.0.0 g.1.0 in
        (a.0, (a.1 ++ lines_many t next (next s g.0.0) g.0.1.0) ++ u g.0.1.1, ap (until_lines s) (sym g.2) ∙ ap (λ (ls : List (List ℕ)). (ls ++ lines_many t next (next s g.0.0) g.0.1.0) ++ u g.0.1.1) a.2, a.3);
  }

  -- the rows may depend on the state; P is what is known of how many may still come and of the state
  pub rows-until : (P : ℕ → S → Type 0) → ((n : ℕ) (s : S) → P (suc n) s → IsRows (F s) (t s) (r s)) → ((n : ℕ) (s : S) → P (suc n) s → Begun (F s) (t s) front true) → ((n : ℕ) (s : S) (v : A) → P (suc n) s → F s v → P n (next s v))
      → IsRows L u last → Begun L u front false → (n : ℕ) (s : S) → P n s → IsRows (Fit n s) (until_lines s) (until_of front r next last n s)
  rows-until P each begun keep end other zero s h = rows-same (Fit zero s) (ended_rows s end) (only_ended s) (then_ended s)
  rows-until P each begun keep end other (suc n) s h =
      rows-same (Fit (suc n) s)
      (rows-either front (going_rows n s (each n s h) (λ a fits. rows-until P each begun keep end other n (next s a) (keep n s a h fits))) (ended_rows s end) (begun_going n s (begun n s h)) (begun_ended s other))
      (to_sum n s) (from_sum n s)
