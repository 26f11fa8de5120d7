-- Behind fewer than 64 names another may come.
use Rattle.std.proofs.Common.{lit<, ◌≡◌, ℕ, zero, suc, ◌<◌, ◌≤◌, ◌+◌, ◌-◌, ◌^◌, Bool, true, false, cond, eqb, ltb, leb, ◌&&◌, ◌||◌, not, List, [], ◌∷◌, ◌++◌, length, map, Option, Some, None, refl, sym, ap, subst, ◌∙◌, arith, inl, inr, ◌⊎◌}
use Rattle.std.specs.Str.{bytes_eq}
use Rattle.std.specs.List.{list_any}
use Rattle.std.proofs.lemmas.Bool.{cases_Bool, cases_eq, both_ways, eqb-true, eq-eqb, ne_eqb, lt-ltb, le-leb}
use Rattle.std.proofs.lemmas.Slice.Eq.{bytes_eq-Decides}
use Rattle.cpog_base.specs.Names.{has_text}
use Rattle.cpog_defs.specs.Codes.{word_bits}
use Rattle.line_text.specs.Words.{is_free_name, all_continue}
use Rattle.report_text.specs.Rows.{digit, digits_of}
use Rattle.line_rows.proofs.Exact.{some_is}
use Rattle.report_reader.specs.Reading.{is_next}
use Rattle.report_reader.specs.Codes.{digits_in}
use Rattle.report_reader.proofs.CodeLaws.{digits_exact, length-digits}

abbrev Found : (ℕ → Bool) → ℕ → Type 0
Found p n = ((k : ℕ) × (k < n) × (p k ≡ true)) ⊎ ((k : ℕ) → k < n → p k ≡ false)

search_below : (p : ℕ → Bool) (n : ℕ) → Found p n
search_below p zero = inr (λ k lt. absurd (omega arith))
search_below p (suc n) = step (search_below p n) (cases_Bool (p n))
  where
    step : Found p n → (p n ≡ true) ⊎ (p n ≡ false) → Found p (suc n)
    step (inl f) last = inl (f.0, omega (arith, f.1), f.2)
    step (inr none) (inl h) = inl (n, omega arith, h)
    step (inr none) (inr h) = inr (λ k lt. elim (cases_eq k n) [
      | inl same ↦ ap p same ∙ h
      | inr other ↦ none k (omega (arith, lt, other))
    ])

-- the last in the place of k
abbrev moved : ℕ → ℕ → ℕ → ℕ
moved k m i = cond (eqb i k) m i

moved_below : (k m i : ℕ) → i < m → moved k m i < suc m
moved_below k m i lt = elim (cases_eq i k) [
  | inl same ↦ rw (eq-eqb i k same) (omega arith)
  | inr other ↦ rw (ne_eqb i k other) (omega arith)
]

moved_off : (k m i : ℕ) → i < m → k < suc m → moved k m i ≡ k → ⊥
moved_off k m i lt within e = elim (cases_eq i k) [
  | inl same ↦ let h : m ≡ k = ap (λ (b : Bool). cond b m i) (sym (eq-eqb i k same)) ∙ e in absurd (omega (arith, h, same))
  | inr other ↦ let h : i ≡ k = ap (λ (b : Bool). cond b m i) (sym (ne_eqb i k other)) ∙ e in absurd (other h)
]

moved_is : (k m i j : ℕ) → i < m → j < m → moved k m i ≡ moved k m j → i ≡ j
moved_is k m i j li lj e = elim (cases_eq i k) [
  | inl a ↦ elim (cases_eq j k) [
    | inl b ↦ a ∙ sym b
    | inr b ↦ let h : m ≡ j = ap (λ (c : Bool). cond c m i) (sym (eq-eqb i k a)) ∙ e ∙ ap (λ (c : Bool). cond c m j) (ne_eqb j k b) in absurd (omega (arith, h))
  ]
  | inr a ↦ elim (cases_eq j k) [
    | inl b ↦ let h : i ≡ m = ap (λ (c : Bool). cond c m i) (sym (ne_eqb i k a)) ∙ e ∙ ap (λ (c : Bool). cond c m j) (eq-eqb j k b) in absurd (omega (arith, h))
    | inr b ↦ ap (λ (c : Bool). cond c m i) (sym (ne_eqb i k a)) ∙ e ∙ ap (λ (c : Bool). cond c m j) (ne_eqb j k b)
  ]
]

in_rest : (a b : Bool) → a ≡ false → (a || b) ≡ true → b ≡ true
in_rest false b h e = e
in_rest true b h e = absurd cc

abbrev Distinct : ℕ → (ℕ → List ℕ) → Type 0
Distinct n f = (i j : ℕ) → i < n → j < n → f i ≡ f j → i ≡ j

-- so many different texts of a list are no more than it has
pigeon : (done : List (List ℕ)) (n : ℕ) (f : ℕ → List ℕ) → Distinct n f → ((k : ℕ) → k < n → has_text done (f k) ≡ true) → n ≤ length done
pigeon [] zero f distinct all = omega arith
pigeon [] (suc n) f distinct all = absurd (both_ways false refl (all 0 (omega arith)))
pigeon (d ∷ ds) zero f distinct all = omega arith
pigeon (d ∷ ds) (suc m) f distinct all = elim (search_below (λ k. bytes_eq (f k) d) (suc m)) [
  | inl found ↦
      let k = found.0 in
      let here : f k ≡ d = (bytes_eq-Decides (f k) d).0 found.2 in
      let le : m ≤ length ds = pigeon ds m (λ i. f (moved k m i)) (λ i j li lj e. moved_is k m i j li lj (distinct (moved k m i) (moved k m j) (moved_below k m i li) (moved_below k m j lj) e))
      (λ i lt. in_rest (bytes_eq (f (moved k m i)) d) (has_text ds (f (moved k m i))) (differs k found.1 here i lt (cases_Bool (bytes_eq (f (moved k m i)) d))) (all (moved k m i) (moved_below k m i lt))) in
      omega (arith, le)
  | inr none ↦ let le = pigeon ds (suc m) f distinct (λ k lt. in_rest (bytes_eq (f k) d) (has_text ds (f k)) (none k lt) (all k lt)) in omega (arith, le)
]
  where
    differs : (k : ℕ) → k < suc m → f k ≡ d → (i : ℕ) → i < m → (bytes_eq (f (moved k m i)) d ≡ true) ⊎ (bytes_eq (f (moved k m i)) d ≡ false) → bytes_eq (f (moved k m i)) d ≡ false
    differs k within here i lt (inr h) = h
    differs k within here i lt (inl h) = absurd (moved_off k m i lt within (distinct (moved k m i) k (moved_below k m i lt) within ((bytes_eq-Decides (f (moved k m i)) d).0 h ∙ sym here)))

-- ---- names

abbrev numbered : ℕ → List ℕ
numbered k = 122 ∷ digits_of 6 k

tail_of : (xs ys : List ℕ) → (122 ∷ xs) ≡ (122 ∷ ys) → xs ≡ ys
tail_of xs ys e = cc

numbered_distinct : Distinct 64 numbered
numbered_distinct i j li lj e =
    let same : digits_of 6 i ≡ digits_of 6 j = tail_of (digits_of 6 i) (digits_of 6 j) e in
    some_is i j (sym ((digits_exact 6).again i (omega arith)) ∙ ap (digits_in 6) same ∙ (digits_exact 6).again j (omega arith))

all_digits_continue : (bs : List Bool) → all_continue (map digit bs) ≡ true
all_digits_continue [] = refl
all_digits_continue (true ∷ bs) = all_digits_continue bs
all_digits_continue (false ∷ bs) = all_digits_continue bs

numbered_free : (k : ℕ) → is_free_name (numbered k) ≡ true
numbered_free k = rw (all_digits_continue (word_bits k 6)) refl

pub fresh_name : (done : List (List ℕ)) → length done < 64 → (w : List ℕ) × (is_next 64 done w ≡ true)
fresh_name done few = elim (search_below (λ k. not (has_text done (numbered k))) 64) [
  | inl found ↦ (numbered found.0, rw (numbered_free found.0, found.2, lt-ltb (length done) 64 few) refl)
  | inr none ↦ absurd (let le = pigeon done 64 numbered numbered_distinct (λ k lt. not_false (has_text done (numbered k)) (none k lt)) in omega (arith, le))
]
  where
    not_false : (b : Bool) → not b ≡ false → b ≡ true
    not_false true h = refl
    not_false false h = absurd cc
