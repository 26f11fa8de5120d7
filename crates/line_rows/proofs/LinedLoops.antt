-- A loop over rows of one line each up to a line that ends them: what it has read stands in front of what is left to read.
use Rattle.std.proofs.Common.{◌≡◌, ℕ, ◌+◌, Bool, true, false, List, [], ◌∷◌, ◌++◌, Option, Some, None, Result, Ok, Err, refl, sym, ap, subst, ◌∙◌, append_assoc}
use Rattle.std.proofs.lemmas.List.{append-nil}
use Rattle.line_rows.specs.Position.{Position}
use Rattle.line_rows.specs.Reading.{◌>>=◌, line_at, Fails}
use Rattle.line_rows.specs.declared.fault.ReadError.{ReadError}
use Rattle.line_rows.specs.declared.fault.ReadError.TheVariants as errors
use Rattle.line_rows.specs.Lined.{with_one, row_then, end_then, one_or_end, lined_of}
use Rattle.line_rows.proofs.RowLaws.{at, ok_is, err_is}

abbrev Read : Type 0 → Type 0 → Type 0
Read A E = Result ((List A × E) × Position) ℕ

abbrev pub with_rows : {A E : Type 0} → List A → Read A E → Read A E
with_rows done read = read >>= λ x. Ok ((done ++ x.0.0, x.0.1), x.1)

abbrev rows_of : {A E : Type 0} → List A → E → Position → Read A E
rows_of xs e p = Ok ((xs, e), p)

pub rows_start : {A E : Type 0} (read : Read A E) → with_rows [] read ≡ read
rows_start (Err k) = refl
rows_start (Ok x) = refl

regroup : {A E : Type 0} (done : List A) (v : A) (read : Read A E) → with_rows done (read >>= λ x. Ok (with_one v x)) ≡ with_rows (done ++ v ∷ []) read
regroup done v (Err k) = refl
regroup done v (Ok y) = ap (λ vs. rows_of vs y.0.1 y.1) (sym (append_assoc done (v ∷ []) y.0.0))

module _ {S A E : Type 0} (front : List ℕ → Bool) (read : S → List ℕ → Option A) (next : S → A → S) (last : List ℕ → Option E) where
  abbrev reader : S → Position → Read A E
  reader = lined_of front read next last

  -- by the line in turn
  abbrev by_line : S → List ℕ → Position → Read A E
  by_line s l q = one_or_end (front l) (row_then (read s l) q.number (λ v. reader (next s v) q)) (end_then (last l) q.lines q.number)

  among : (s : S) (ls : List (List ℕ)) (n : ℕ) (l : List ℕ) (q : Position) → line_at (at ls n) ≡ Ok (l, q) → reader s (at ls n) ≡ by_line s l q
  among s [] n l q e = absurd cc
  among s (m ∷ ms) n l q e = subst (λ (x : List ℕ × Position). reader s (at (m ∷ ms) n) ≡ by_line s x.0 x.1) (ok_is (m, at ms (n + 1)) (l, q) e) refl

  pub rows_go_on : (done : List A) (s : S) (p q : Position) (l : List ℕ) (v : A) (total : Read A E) → line_at p ≡ Ok (l, q) → front l ≡ true → read s l ≡ Some v
      → with_rows done (reader s p) ≡ total → with_rows (done ++ v ∷ []) (reader (next s v) q) ≡ total
  rows_go_on done s p q l v total e f is so_far =
      let here : reader s p ≡ (reader (next s v) q >>= λ x. Ok (with_one v x)) = among s p.lines p.number l q e ∙ rw (f, is) refl in
      sym (regroup done v (reader (next s v) q)) ∙ sym (ap (with_rows done) here) ∙ so_far

  pub row_is_bad : (done : List A) (s : S) (p q : Position) (l : List ℕ) (total : Read A E) → line_at p ≡ Ok (l, q) → front l ≡ true → read s l ≡ None
      → with_rows done (reader s p) ≡ total → total ≡ Err q.number
  row_is_bad done s p q l total e f is so_far = sym so_far ∙ ap (with_rows done) (among s p.lines p.number l q e) ∙ rw (f, is) refl

  pub end_is_bad : (done : List A) (s : S) (p q : Position) (l : List ℕ) (total : Read A E) → line_at p ≡ Ok (l, q) → front l ≡ false → last l ≡ None
      → with_rows done (reader s p) ≡ total → total ≡ Err q.number
  end_is_bad done s p q l total e f is so_far = sym so_far ∙ ap (with_rows done) (among s p.lines p.number l q e) ∙ rw (f, is) refl

  pub rows_end : (done : List A) (s : S) (p q : Position) (l : List ℕ) (x : E) (total : Read A E) → line_at p ≡ Ok (l, q) → front l ≡ false → last l ≡ Some x
      → with_rows done (reader s p) ≡ total → total ≡ Ok ((done, x), q)
  rows_end done s p q l x total e f is so_far =
      sym so_far ∙ ap (with_rows done) (among s p.lines p.number l q e) ∙ rw (f, is) (ap (λ vs. rows_of vs x q) (append-nil done))

  none_left_fails : (e : ReadError) (s : S) (ls : List (List ℕ)) (n : ℕ) → Fails e (line_at (at ls n)) → Fails e (reader s (at ls n))
  none_left_fails errors.Memory s ls n h = tt
  none_left_fails (errors.BadLine k) s [] n h = ap (λ (x : ℕ). Err x) (err_is (n + 1) k h)
  none_left_fails (errors.BadLine k) s (l ∷ ls) n h = absurd cc

  fails_with : (done : List A) (e : ReadError) (r : Read A E) → Fails e r → Fails e (with_rows done r)
  fails_with done errors.Memory r h = tt
  fails_with done (errors.BadLine k) r h = rw h refl

  pub rows_break_off : (done : List A) (e : ReadError) (s : S) (p : Position) (total : Read A E) → Fails e (line_at p) → with_rows done (reader s p) ≡ total → Fails e total
  rows_break_off done e s p total h so_far = subst (Fails e) so_far (fails_with done e (reader s p) (none_left_fails e s p.lines p.number h))
