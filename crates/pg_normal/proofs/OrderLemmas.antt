-- Numbers in the order of their first occurrence.
use Rattle.std.specs.Prelude.{◌≡◌, refl, ℕ, ◌==◌, true, false, cond, List, [], ◌∷◌, ◌++◌}
use Rattle.std.proofs.Common.{ap, ◌∙◌, sym, subst, inl, inr, eqb-true}
use Rattle.std.proofs.lemmas.Bool.{both_ways, or_cases, or_left, or_right, cases_Bool}
use Rattle.std.proofs.lemmas.List.Folds.{list_any-append}
use Rattle.pg_normal.specs.Appearing.{has, with_number, with_numbers}

-- the two cases of a number that is added
with_number_is : (P : List ℕ → Type 0) (vs : List ℕ) (x : ℕ) → (has vs x ≡ true → P vs) → (has vs x ≡ false → P (vs ++ x ∷ [])) → P (with_number vs x)
with_number_is P vs x there new = elim (cases_Bool (has vs x)) [
  | inl e ↦ subst (λ b. P (cond b vs (vs ++ x ∷ []))) (sym e) (there e)
  | inr e ↦ subst (λ b. P (cond b vs (vs ++ x ∷ []))) (sym e) (new e)
]

has_more : (vs : List ℕ) (x v : ℕ) → has vs v ≡ true → has (with_number vs x) v ≡ true
has_more vs x v h = with_number_is (λ ws. has ws v ≡ true) vs x (λ _. h) (λ _. list_any-append (λ w. v == w) vs (x ∷ []) ∙ or_left (has vs v) (has (x ∷ []) v) h)

has_new : (vs : List ℕ) (x v : ℕ) → (v == x) ≡ true → has (with_number vs x) v ≡ true
has_new vs x v e = with_number_is (λ ws. has ws v ≡ true) vs x
    (λ there. ap (has vs) (eqb-true v x e) ∙ there)
    (λ _. list_any-append (λ w. v == w) vs (x ∷ []) ∙ or_right (has vs v) (has (x ∷ []) v) (or_left (v == x) false e))

kept : (vs xs : List ℕ) (v : ℕ) → has vs v ≡ true → has (with_numbers vs xs) v ≡ true
kept vs [] v h = h
kept vs (x ∷ xs) v h = kept (with_number vs x) xs v (has_more vs x v h)

-- each number that occurs is listed
pub listed : (vs xs : List ℕ) (v : ℕ) → has xs v ≡ true → has (with_numbers vs xs) v ≡ true
listed vs [] v h = absurd (both_ways _ refl h)
listed vs (x ∷ xs) v h = elim (or_cases (v == x) (has xs v) h) [
  | inl one ↦ kept (with_number vs x) xs v (has_new vs x v one)
  | inr rest ↦ listed (with_number vs x) xs v rest
]
