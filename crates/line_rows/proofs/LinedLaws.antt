-- Rows of one line each up to a line that ends them are read exactly, and how a loop over them goes on.
use Rattle.std.proofs.Common.{◌≡◌, ℕ, ◌+◌, Bool, true, false, List, [], ◌∷◌, ◌++◌, length, Option, Some, None, Result, Ok, Err, refl, sym, ap, subst, ◌∙◌, arith, inl, inr}
use Rattle.line_rows.specs.Position.{Position}
use Rattle.line_rows.specs.Lined.{with_one, row_then, end_then, one_or_end, lined_among, lined_of, SpellsLined}
use Rattle.line_rows.proofs.RowLaws.{at, StaysBad, ok_is, err_is, bind_ok, bind_err}
use Rattle.line_rows.proofs.BadLines.{no_ok_err}
use Rattle.line_rows.proofs.SpelledLaws.{IsSpelled, IsSpelledFault, IsTaken}

-- a line is read as each value that it spells, and as no other
pub record IsExactOf {A : Type 0} (T : A → List ℕ → Type 0) (read : List ℕ → Option A) : Type 0 where
  pub again : (v : A) (l : List ℕ) → T v l → read l ≡ Some v
  pub takes : (l : List ℕ) (v : A) → read l ≡ Some v → T v l

module _ {S A E : Type 0} (T : S → A → List ℕ → Type 0) (next : S → A → S) (U : E → List ℕ → Type 0) (front : List ℕ → Bool) (read : S → List ℕ → Option A) (last : List ℕ → Option E) where
  abbrev Spelt : S → List A × E → List (List ℕ) → Type 0
  Spelt = SpellsLined T next U

  abbrev reader : S → Position → Result ((List A × E) × Position) ℕ
  reader = lined_of front read next last

  abbrev Results : Type 0
  Results = Result ((List A × E) × Position) ℕ

  module _ (each : (s : S) → IsExactOf (T s) (read s)) (begun : (s : S) (v : A) (l : List ℕ) → T s v l → front l ≡ true) (end : IsExactOf U last) (other : (e : E) (l : List ℕ) → U e l → front l ≡ false) (some : (e : E) × (l : List ℕ) × U e l) where
    again : (s : S) (vs : List A) (e : E) (ls : List (List ℕ)) → Spelt s (vs, e) ls → (more : List (List ℕ)) (n : ℕ) → reader s (at (ls ++ more) n) ≡ Ok ((vs, e), at more (n + length ls))
    again s [] e ls h more n =
        rw (h.2, other e h.0 h.1, end.again e h.0 h.1) refl
    again s (v ∷ vs) e ls h more n =
        rw (h.4, begun s v h.0 h.2, (each s).again v h.0 h.2, again (next s v) vs e h.1 h.3 more (n + 1))
        (ap (λ (j : ℕ). Ok ((v ∷ vs, e), at more j)) (omega arith))

    takes : (s : S) (ls : List (List ℕ)) (n : ℕ) (x : (List A × E) × Position) → reader s (at ls n) ≡ Ok x → IsTaken (Spelt s) (at ls n) x
    takes s [] n x h = absurd cc
    takes s (l ∷ ls) n x h = step (λ v y g. takes (next s v) ls (n + 1) y g) (front l) h
      where
        More : Type 0
        More = (v : A) (y : (List A × E) × Position) → reader (next s v) (at ls (n + 1)) ≡ Ok y → IsTaken (Spelt (next s v)) (at ls (n + 1)) y

        one : More → (o : Option A) → read s l ≡ o → row_then o (n + 1) (λ v. lined_among front read next last (next s v) ls (n + 1)) ≡ Ok x → IsTaken (Spelt s) (at (l ∷ ls) n) x
        one more None is h = absurd cc
        one more (Some v) is h =
            let a = bind_ok (lined_among front read next last (next s v) ls (n + 1)) (λ x. Ok (with_one v x)) x h in
            let r = more v a.0 a.1 in
            subst (λ (y : (List A × E) × Position). IsTaken (Spelt s) (at (l ∷ ls) n) y) (ok_is (with_one v a.0) x a.2)
            (l ∷ r.0, (l, r.0, (each s).takes l v is, r.1, refl), ap (λ (z : List (List ℕ)). l ∷ z) r.2, omega (arith, r.3))

        last_one : (o : Option E) → last l ≡ o → end_then o ls (n + 1) ≡ Ok x → IsTaken (Spelt s) (at (l ∷ ls) n) x
        last_one None is h = absurd cc
        last_one (Some e) is h = subst (λ (y : (List A × E) × Position). IsTaken (Spelt s) (at (l ∷ ls) n) y) (ok_is (([], e), at ls (n + 1)) x h) (l ∷ [], (l, end.takes l e is, refl), refl, refl)

        step : More → (b : Bool) → one_or_end b (row_then (read s l) (n + 1) (λ v. lined_among front read next last (next s v) ls (n + 1))) (end_then (last l) ls (n + 1)) ≡ Ok x → IsTaken (Spelt s) (at (l ∷ ls) n) x
        step more true h = one more (read s l) refl h
        step more false h = last_one (last l) refl h

    -- where the first line itself is bad
    at_once : (s : S) (l : List ℕ) (ls : List (List ℕ)) (n k : ℕ) → ((more : List (List ℕ)) → reader s (at (l ∷ more) n) ≡ Err k) → k ≡ n + 1 → IsSpelledFault (Spelt s) (reader s) (at (l ∷ ls) n) k
    at_once s l ls n k bad number = record {
      good = [];
      after = l ∷ ls;
      parts = refl;
      number = omega (arith, number);
      begins = (([], some.0), some.1 ∷ [], (some.1, some.2, refl));
      short = ap (λ (j : ℕ). Err j) (sym number);
      bad = bad;
    }

    stays_behind : (s : S) (l : List ℕ) (v : A) (good after : List (List ℕ)) (n k : ℕ) → front l ≡ true → read s l ≡ Some v → StaysBad (reader (next s v)) good after (n + 1) k → StaysBad (reader s) (l ∷ good) after n k
    stays_behind s l v good [] n k f is h = tt
    stays_behind s l v good (x ∷ rest) n k f is h = λ more. rw (f, is, h more) refl

    fault : (s : S) (ls : List (List ℕ)) (n k : ℕ) → reader s (at ls n) ≡ Err k → IsSpelledFault (Spelt s) (reader s) (at ls n) k
    fault s [] n k h = record {
      good = [];
      after = [];
      parts = refl;
      number = sym (err_is (n + 1) k h) ∙ omega arith;
      begins = (([], some.0), some.1 ∷ [], (some.1, some.2, refl));
      short = h;
      bad = tt;
    }
    fault s (l ∷ ls) n k h = step (λ v g. fault (next s v) ls (n + 1) k g) (front l) refl h
      where
        More : Type 0
        More = (v : A) → reader (next s v) (at ls (n + 1)) ≡ Err k → IsSpelledFault (Spelt (next s v)) (reader (next s v)) (at ls (n + 1)) k

        one : More → (o : Option A) → front l ≡ true → read s l ≡ o → row_then o (n + 1) (λ v. lined_among front read next last (next s v) ls (n + 1)) ≡ Err k → IsSpelledFault (Spelt s) (reader s) (at (l ∷ ls) n) k
        one rest None f is h = at_once s l ls n k (λ more. rw (f, is) h) (sym (err_is (n + 1) k h))
        one rest (Some v) f is h =
            elim (bind_err (lined_among front read next last (next s v) ls (n + 1)) (λ x. Ok (with_one v x)) k h) [
              | inl g ↦
                  let r = rest v g in
                  record {
                    good = l ∷ r.good;
                    after = r.after;
                    parts = ap (λ (z : List (List ℕ)). l ∷ z) r.parts;
                    number = omega (arith, r.number);
                    begins = ((v ∷ r.begins.0.0, r.begins.0.1), r.begins.1, (l, r.good ++ r.begins.1, (each s).takes l v is, r.begins.2, refl));
                    short = rw (f, is, r.short) refl;
                    bad = stays_behind s l v r.good r.after n k f is r.bad;
                  }
              | inr g ↦ absurd (no_ok_err _ k g.2)
            ]

        last_one : (o : Option E) → front l ≡ false → last l ≡ o → end_then {A = A} o ls (n + 1) ≡ Err k → IsSpelledFault (Spelt s) (reader s) (at (l ∷ ls) n) k
        last_one None f is h = at_once s l ls n k (λ more. rw (f, is) h) (sym (err_is (n + 1) k h))
        last_one (Some e) f is h = absurd (no_ok_err _ k h)

        step : More → (b : Bool) → front l ≡ b → one_or_end b (row_then (read s l) (n + 1) (λ v. lined_among front read next last (next s v) ls (n + 1))) (end_then (last l) ls (n + 1)) ≡ Err k → IsSpelledFault (Spelt s) (reader s) (at (l ∷ ls) n) k
        step rest true f h = one rest (read s l) f refl h
        step rest false f h = last_one (last l) f refl h

    pub spelled-lined : (s : S) → IsSpelled (Spelt s) (reader s)
    spelled-lined s = record {
      again = λ v ls h more n. again s v.0 v.1 ls h more n;
      takes = λ p x e. takes s p.lines p.number x e;
      fault = λ p k e. fault s p.lines p.number k e;
      some = (([], some.0), some.1 ∷ [], (some.1, some.2, refl));
    }
