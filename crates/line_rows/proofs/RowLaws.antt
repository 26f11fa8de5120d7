-- A text that is read row by row: what was written is read again, what is read was written so, and the fault is the first bad line.
use Rattle.std.proofs.Common.{◌≡◌, ℕ, zero, suc, ◌+◌, List, [], ◌∷◌, ◌++◌, length, Option, Some, None, Result, Ok, Err, refl, sym, ap, subst, ◌∙◌, arith, append_assoc, length-append, ◌⊎◌, inl, inr}
use Rattle.std.proofs.lemmas.List.{append-nil}
use Rattle.line_rows.specs.Position.{Position}
use Rattle.line_rows.specs.Reading.{◌>>=◌, read_or_fault, row, exactly, then_of, view_of, many_of, lines_many, none_left, ended, whole}
use Rattle.line_rows.specs.FirstBad.{Begins, NoneBegins, IsFirstBad}
use Rattle.line_rows.proofs.Exact.{IsExact, same_bytes, tested}
use Rattle.std.specs.Str.{bytes_eq}
use Rattle.std.proofs.lemmas.Slice.Eq.{bytes_eq-Decides}

abbrev pub at : List (List ℕ) → ℕ → Position
at ls n = record { lines = ls; number = n }

-- whatever follows the bad line, it is the fault; where no line is left there is nothing to say
abbrev pub StaysBad : {A : Type 0} → (Position → Result (A × Position) ℕ) → List (List ℕ) → List (List ℕ) → ℕ → ℕ → Type 0
StaysBad read good [] n k = Unit {0}
StaysBad read good (l ∷ rest) n k = (more : List (List ℕ)) → read (at (good ++ l ∷ more) n) ≡ Err k

-- k is the first bad line: the good lines before it begin a text, and are faulted only where they end
pub record IsFault {A : Type 0} (F : A → Type 0) (t : A → List (List ℕ)) (read : Position → Result (A × Position) ℕ) (p : Position) (k : ℕ) : Type 0 where
  pub good : List (List ℕ)
  pub after : List (List ℕ)
  pub parts : p.lines ≡ good ++ after
  pub number : k ≡ p.number + length good + 1
  pub begins : Begins F t good
  pub short : read (at good p.number) ≡ Err k
  pub bad : StaysBad read good after p.number k

pub record IsRows {A : Type 0} (Fits : A → Type 0) (lines : A → List (List ℕ)) (read : Position → Result (A × Position) ℕ) : Type 0 where
  pub again : (v : A) → Fits v → (more : List (List ℕ)) (n : ℕ) → read (at (lines v ++ more) n) ≡ Ok (v, at more (n + length (lines v)))
  pub takes : (p : Position) (x : A × Position) → read p ≡ Ok x → Fits x.0 × (p.lines ≡ lines x.0 ++ x.1.lines) × (x.1.number ≡ p.number + length (lines x.0))
  pub fault : (p : Position) (k : ℕ) → read p ≡ Err k → IsFault Fits lines read p k
  -- so what is begun can go on
  pub some : (v : A) × Fits v

abbrev pub okay : {A : Type 0} → A → Result A ℕ
okay x = Ok x

pub ok_is : {A : Type 0} (x y : A) → okay x ≡ okay y → x ≡ y
ok_is x y e = cc

abbrev pub failed : {A : Type 0} → ℕ → Result A ℕ
failed k = Err k

pub err_is : {A : Type 0} (j k : ℕ) → failed {A = A} j ≡ failed {A = A} k → j ≡ k
err_is j k e = cc

-- ---- one row

row_from_takes : {A : Type 0} (read : List ℕ → Option A) (l : List ℕ) (o : Option A) (q : Position) (x : A × Position) → o ≡ read l → read_or_fault o q ≡ Ok x → (read l ≡ Some x.0) × (x.1 ≡ q)
row_from_takes {A = A} read l (Some v) q x eo e = let same : (v, q) ≡ x = ok_is (v, q) x e in (sym eo ∙ ap (λ (y : A × Position). Some y.0) same, sym (ap (λ (y : A × Position). y.1) same))
row_from_takes read l None q x eo e = absurd cc

row_from_fault : {A : Type 0} (read : List ℕ → Option A) (l : List ℕ) (o : Option A) (q : Position) (k : ℕ) → o ≡ read l → read_or_fault o q ≡ Err k → (read l ≡ None) × (q.number ≡ k)
row_from_fault read l (Some v) q k eo e = absurd cc
row_from_fault read l None q k eo e = (sym eo, err_is q.number k e)

row_takes : {A : Type 0} {Fits : A → Type 0} {text : A → List ℕ} (read : List ℕ → Option A) → IsExact Fits text read → (ls : List (List ℕ)) (n : ℕ) (x : A × Position) → row read (at ls n) ≡ Ok x → Fits x.0 × (ls ≡ text x.0 ∷ x.1.lines) × (x.1.number ≡ n + 1)
row_takes read exact [] n x e = absurd cc
row_takes {text = text} read exact (l ∷ ls) n x e =
    let r = row_from_takes read l (read l) (at ls (n + 1)) x refl e in
    let t = exact.takes l x.0 r.0 in
    (t.0, ap (λ (y : List ℕ). y ∷ ls) t.1 ∙ ap (λ (q : Position). text x.0 ∷ q.lines) (sym r.1), ap (λ (q : Position). q.number) r.1)

row_fault : {A : Type 0} {F : A → Type 0} (t : A → List ℕ) (read : List ℕ → Option A) → (v : A) × F v → (ls : List (List ℕ)) (n k : ℕ) → row read (at ls n) ≡ Err k → IsFault F (λ v. t v ∷ []) (row read) (at ls n) k
row_fault t read some [] n k e = record { begins = (some.0, t some.0 ∷ [], some.1, refl); good = []; after = []; parts = refl; number = sym (err_is (n + 1) k e) ∙ omega arith; short = e; bad = tt }
row_fault t read some (l ∷ ls) n k e =
    let r = row_from_fault read l (read l) (at ls (n + 1)) k refl e in
    record { begins = (some.0, t some.0 ∷ [], some.1, refl); good = []; after = l ∷ ls; parts = refl; number = sym r.1 ∙ omega arith; short = ap (λ (j : ℕ). Err j) r.1; bad = λ more. rw r.0 (ap (λ (j : ℕ). Err j) r.1) }

pub rows-row : {A : Type 0} {Fits : A → Type 0} {text : A → List ℕ} {read : List ℕ → Option A} → IsExact Fits text read → (v : A) × Fits v → IsRows Fits (λ v. text v ∷ []) (row read)
rows-row {text = text} {read = read} exact some = record {
  some = some;
  again = λ v fits more n. rw (exact.again v fits) refl;
  takes = λ p x e. row_takes read exact p.lines p.number x e;
  fault = λ p k e. row_fault text read some p.lines p.number k e;
}

-- ---- some rows, and then others

pub bind_ok : {A B : Type 0} (r : Result A ℕ) (f : A → Result B ℕ) (y : B) → (r >>= f) ≡ Ok y → (x : A) × (r ≡ Ok x) × (f x ≡ Ok y)
bind_ok (Ok x) f y e = (x, refl, e)
bind_ok (Err d) f y e = absurd cc

pub bind_err : {A B : Type 0} (r : Result A ℕ) (f : A → Result B ℕ) (k : ℕ) → (r >>= f) ≡ Err k → (r ≡ Err k) ⊎ ((x : A) × (r ≡ Ok x) × (f x ≡ Err k))
bind_err (Ok x) f k e = inr (x, refl, e)
bind_err (Err d) f k e = inl (ap (λ (j : ℕ). Err j) (err_is d k e))

stays_then : {A B : Type 0} (read : Position → Result (A × Position) ℕ) (more : A → Position → Result (B × Position) ℕ) (good after : List (List ℕ)) (n k : ℕ) → StaysBad read good after n k → StaysBad (then_of read more) good after n k
stays_then read more good [] n k h = tt
stays_then read more good (l ∷ rest) n k h = λ others. rw (h others) refl

-- the first rows are there, and the others stay bad
stays_second : {A B : Type 0} (read : Position → Result (A × Position) ℕ) (more : A → Position → Result (B × Position) ℕ) (a : A) (front good after : List (List ℕ)) (n m k : ℕ)
    → ((others : List (List ℕ)) → read (at (front ++ others) n) ≡ Ok (a, at others m)) → StaysBad (more a) good after m k → StaysBad (then_of read more) (front ++ good) after n k
stays_second read more a front good [] n m k first h = tt
stays_second read more a front good (l ∷ rest) n m k first h = λ others.
    rw (append_assoc front good (l ∷ others), first (good ++ l ∷ others), h others) refl

no_ok_err : {A : Type 0} (x : A) (k : ℕ) → okay x ≡ failed k → ⊥
no_ok_err x k e = cc

place_is : (q : Position) (m : ℕ) → q.number ≡ m → q ≡ at q.lines m
place_is q m e = ap (at q.lines) e

then_fault : {A B : Type 0} {F : A → Type 0} {t : A → List (List ℕ)} {G : A → B → Type 0} {u : A → B → List (List ℕ)} (r : Position → Result (A × Position) ℕ) (s : A → Position → Result (B × Position) ℕ) → IsRows F t r → ((a : A) → F a → IsRows (G a) (u a) (s a))
    → (p : Position) (k : ℕ) → then_of r s p ≡ Err k → IsFault (λ (p : A × B). F p.0 × G p.0 p.1) (λ (p : A × B). t p.0 ++ u p.0 p.1) (then_of r s) p k
then_fault {A = A} {B = B} {F = F} {t = t} {G = G} {u = u} r s first second p k e =
    elim (bind_err (r p) (λ x. s x.0 x.1 >>= λ y. Ok ((x.0, y.0), y.1)) k e) [
      | inl h ↦
          let f = first.fault p k h in
          let b = (second f.begins.0 f.begins.2).some in
          record { begins = ((f.begins.0, b.0), f.begins.1 ++ u f.begins.0 b.0, (f.begins.2, b.1), ap (λ (ls : List (List ℕ)). ls ++ u f.begins.0 b.0) f.begins.3 ∙ append_assoc f.good f.begins.1 (u f.begins.0 b.0)); good = f.good; after = f.after; parts = f.parts; number = f.number; short = rw f.short refl; bad = stays_then r s f.good f.after p.number k f.bad }
      | inr h ↦
          let x = h.0 in
          let one = first.takes p x h.1 in
          let len = length (t x.0) in
          elim (bind_err (s x.0 x.1) (λ y. Ok ((x.0, y.0), y.1)) k h.2) [
            | inl g ↦
                let f = (second x.0 one.0).fault x.1 k g in
                let again : (others : List (List ℕ)) → r (at (t x.0 ++ others) p.number) ≡ Ok (x.0, at others x.1.number) = λ others. first.again x.0 one.0 others p.number ∙ ap (λ (j : ℕ). Ok (x.0, at others j)) (sym one.2) in
                record {
                  good = t x.0 ++ f.good;
                  begins = ((x.0, f.begins.0), f.begins.1, (one.0, f.begins.2), ap (λ (ls : List (List ℕ)). t x.0 ++ ls) f.begins.3 ∙ sym (append_assoc (t x.0) f.good f.begins.1));
                  after = f.after;
                  parts = one.1 ∙ ap (λ (ls : List (List ℕ)). t x.0 ++ ls) f.parts ∙ sym (append_assoc (t x.0) f.good f.after);
                  number = omega (arith, f.number, one.2, length-append (t x.0) f.good);
                  short = rw (again f.good, f.short) refl;
                  bad = stays_second r s x.0 (t x.0) f.good f.after p.number x.1.number k again f.bad;
                }
            | inr g ↦ absurd (no_ok_err _ k g.2)
          ]
    ]

pub rows-then : {A B : Type 0} {F : A → Type 0} {t : A → List (List ℕ)} {r : Position → Result (A × Position) ℕ} {G : A → B → Type 0} {u : A → B → List (List ℕ)} {s : A → Position → Result (B × Position) ℕ} → IsRows F t r → ((a : A) → F a → IsRows (G a) (u a) (s a))
    → IsRows (λ (p : A × B). F p.0 × G p.0 p.1) (λ (p : A × B). t p.0 ++ u p.0 p.1) (then_of r s)
rows-then {A = A} {B = B} {F = F} {t = t} {r = r} {G = G} {u = u} {s = s} first second = record {
  again = λ v fits more n.
      rw (append_assoc (t v.0) (u v.0 v.1) more, first.again v.0 fits.0 (u v.0 v.1 ++ more) n, (second v.0 fits.0).again v.1 fits.1 more (n + length (t v.0)))
      (ap (λ (j : ℕ). Ok (v, at more j)) (omega (arith, length-append (t v.0) (u v.0 v.1))));
  takes = λ p x e.
      let a = bind_ok (r p) (λ x. s x.0 x.1 >>= λ y. Ok ((x.0, y.0), y.1)) x e in
      let b = bind_ok (s a.0.0 a.0.1) (λ y. Ok ((a.0.0, y.0), y.1)) x a.2 in
      let one = first.takes p a.0 a.1 in
      let two = (second a.0.0 one.0).takes a.0.1 b.0 b.1 in
      let made : (A × B) × Position = ((a.0.0, b.0.0), b.0.1) in
      let both : p.lines ≡ (t a.0.0 ++ u a.0.0 b.0.0) ++ b.0.1.lines = one.1 ∙ ap (λ (ls : List (List ℕ)). t a.0.0 ++ ls) two.1 ∙ sym (append_assoc (t a.0.0) (u a.0.0 b.0.0) b.0.1.lines) in
      subst (λ (y : (A × B) × Position). (F y.0.0 × G y.0.0 y.0.1) × (p.lines ≡ (t y.0.0 ++ u y.0.0 y.0.1) ++ y.1.lines) × (y.1.number ≡ p.number + length (t y.0.0 ++ u y.0.0 y.0.1)))
      (ok_is made x b.2) ((one.0, two.0), both, omega (arith, one.2, two.2, length-append (t a.0.0) (u a.0.0 b.0.0)));
  fault = then_fault r s first second;
  some = let b = (second first.some.0 first.some.1).some in ((first.some.0, b.0), (first.some.1, b.1));
}

-- ---- the same rows for another value

stays_view : {A B : Type 0} (make : A → B) (read : Position → Result (A × Position) ℕ) (good after : List (List ℕ)) (n k : ℕ) → StaysBad read good after n k → StaysBad (view_of make read) good after n k
stays_view make read good [] n k h = tt
stays_view make read good (l ∷ rest) n k h = λ others. rw (h others) refl

pub rows-view : {A B : Type 0} (make : A → B) {F : A → Type 0} {t : A → List (List ℕ)} {r : Position → Result (A × Position) ℕ} (G : B → Type 0) (u : B → List (List ℕ)) → IsRows F t r
    → ((b : B) → G b → (a : A) × F a × (u b ≡ t a) × (make a ≡ b)) → ((a : A) → F a → G (make a) × (u (make a) ≡ t a)) → IsRows G u (view_of make r)
rows-view {A = A} {B = B} make {t = t} {r = r} G u rows from to = record {
  again = λ b fits more n.
      let a = from b fits in
      let e : r (at (u b ++ more) n) ≡ Ok (a.0, at more (n + length (u b))) = ap (λ (ls : List (List ℕ)). r (at (ls ++ more) n)) a.2 ∙ rows.again a.0 a.1 more n ∙ ap (λ (ls : List (List ℕ)). Ok (a.0, at more (n + length ls))) (sym a.2) in
      rw e (ap (λ (y : B). Ok (y, at more (n + length (u b)))) a.3);
  takes = λ p x e.
      let a = bind_ok (r p) (λ x. Ok (make x.0, x.1)) x e in
      let one = rows.takes p a.0 a.1 in
      let there = to a.0.0 one.0 in
      let made : B × Position = (make a.0.0, a.0.1) in
      subst (λ (y : B × Position). G y.0 × (p.lines ≡ u y.0 ++ y.1.lines) × (y.1.number ≡ p.number + length (u y.0))) (ok_is made x a.2)
      (there.0, one.1 ∙ ap (λ (ls : List (List ℕ)). ls ++ a.0.1.lines) (sym there.1), one.2 ∙ ap (λ (ls : List (List ℕ)). p.number + length ls) (sym there.1));
  fault = λ p k e.
      elim (bind_err (r p) (λ x. Ok (make x.0, x.1)) k e) [
        | inl h ↦
            let f = rows.fault p k h in
            let there = to f.begins.0 f.begins.2 in
            record { begins = (make f.begins.0, f.begins.1, there.0, there.1 ∙ f.begins.3); good = f.good; after = f.after; parts = f.parts; number = f.number; short = rw f.short refl; bad = stays_view make r f.good f.after p.number k f.bad }
        | inr h ↦ absurd (no_ok_err _ k h.2)
      ];
  some = (make rows.some.0, (to rows.some.0 rows.some.1).0);
}

-- nothing to read
pub rows-none : {A : Type 0} (x : A) → IsRows (λ (y : A). y ≡ x) (λ _. []) (λ p. Ok (x, p))
rows-none {A = A} x = record {
  again = λ v fits more n. ap (λ (y : A). Ok (y, at more n)) (sym fits) ∙ ap (λ (j : ℕ). Ok (v, at more j)) (omega arith);
  takes = λ p y e. let same : (x, p) ≡ y = ok_is (x, p) y e in subst (λ (z : A × Position). (z.0 ≡ x) × (p.lines ≡ z.1.lines) × (z.1.number ≡ p.number + 0)) same (refl, refl, omega arith);
  fault = λ p k e. absurd (no_ok_err (x, p) k e);
  some = (x, refl);
}

-- ---- a row for each state

abbrev pub FitsMany : {S A : Type 0} → (S → A → Type 0) → (S → A → S) → ℕ → S → List A → Type 0
FitsMany F next zero s [] = Unit {0}
FitsMany F next zero s (v ∷ vs) = ⊥
FitsMany F next (suc n) s [] = ⊥
FitsMany F next (suc n) s (v ∷ vs) = F s v × FitsMany F next n (next s v) vs

first_of : {S A : Type 0} (F : S → A → Type 0) (t : S → A → List (List ℕ)) (next : S → A → S) (n : ℕ) (s : S) (b : List A) → FitsMany F next (suc n) s b
    → (a : A × List A) × (F s a.0 × FitsMany F next n (next s a.0) a.1) × (lines_many t next s b ≡ t s a.0 ++ lines_many t next (next s a.0) a.1) × ((a.0 ∷ a.1) ≡ b)
first_of F t next n s [] h = absurd h
first_of F t next n s (v ∷ vs) h = ((v, vs), h, refl, refl)

none_fit : {S A : Type 0} (F : S → A → Type 0) (next : S → A → S) (s : S) (b : List A) → FitsMany F next zero s b → b ≡ []
none_fit F next s [] h = refl
none_fit F next s (v ∷ vs) h = absurd h

none_again : {S A : Type 0} (F : S → A → Type 0) (t : S → A → List (List ℕ)) (next : S → A → S) (s : S) (v : List A) → FitsMany F next zero s v → (more : List (List ℕ)) (n : ℕ) → okay {A = List A × Position} ([], at (lines_many t next s v ++ more) n) ≡ Ok (v, at more (n + length (lines_many t next s v)))
none_again {A = A} F t next s [] h more n = ap (λ (j : ℕ). okay {A = List A × Position} ([], at more j)) (omega arith)
none_again F t next s (v ∷ vs) h more n = absurd h

-- P holds of the number of rows that are left and of the state
pub rows-many : {S A : Type 0} {F : S → A → Type 0} {t : S → A → List (List ℕ)} {r : S → Position → Result (A × Position) ℕ} (next : S → A → S) (P : ℕ → S → Type 0) → ((n : ℕ) (s : S) → P (suc n) s → IsRows (F s) (t s) (r s)) → ((n : ℕ) (s : S) (v : A) → P (suc n) s → F s v → P n (next s v))
    → (n : ℕ) (s : S) → P n s → IsRows (FitsMany F next n s) (lines_many t next s) (many_of r next n s)
rows-many {A = A} {F = F} {t = t} next P each keep zero s h = record {
  again = λ v fits more n. none_again F t next s v fits more n;
  takes = λ p x e. subst (λ (y : List A × Position). FitsMany F next zero s y.0 × (p.lines ≡ lines_many t next s y.0 ++ y.1.lines) × (y.1.number ≡ p.number + length (lines_many t next s y.0))) (ok_is ([], p) x e) (tt, refl, omega arith);
  fault = λ p k e. absurd (no_ok_err ([], p) k e);
  some = ([], tt);
}
rows-many {A = A} {F = F} {t = t} {r = r} next P each keep (suc n) s h =
    rows-view (λ (x : A × List A). x.0 ∷ x.1) (FitsMany F next (suc n) s) (lines_many t next s) (rows-then (each n s h) (λ a fits. rows-many next P each keep n (next s a) (keep n s a h fits))) (first_of F t next n s) (λ a h. (h, refl))

-- ---- a whole text

none_left_ok : {A : Type 0} (x : A) (ls : List (List ℕ)) (n : ℕ) (v : A) → none_left x ls n ≡ Ok v → (x ≡ v) × (ls ≡ [])
none_left_ok x [] n v e = (ok_is x v e, refl)
none_left_ok x (l ∷ ls) n v e = absurd cc

no_cons_nil : (l : List ℕ) (ls : List (List ℕ)) → (l ∷ ls) ≡ [] → ⊥
no_cons_nil l ls e = cc

pub whole_found : {A : Type 0} {F : A → Type 0} {t : A → List (List ℕ)} {r : Position → Result (A × Position) ℕ} → IsRows F t r → (lines : List (List ℕ)) (v : A) → whole r lines ≡ Ok v → F v × (lines ≡ t v)
whole_found {A = A} {F = F} {t = t} {r = r} rows lines v e =
    let a = bind_ok (r (at lines 0)) ended v e in
    let one = rows.takes (at lines 0) a.0 a.1 in
    let end = none_left_ok a.0.0 a.0.1.lines a.0.1.number v a.2 in
    subst (λ (y : A). F y × (lines ≡ t y)) end.0 (one.0, one.1 ∙ ap (λ (ls : List (List ℕ)). t a.0.0 ++ ls) end.1 ∙ append-nil (t a.0.0))

pub whole_again : {A : Type 0} {F : A → Type 0} {t : A → List (List ℕ)} {r : Position → Result (A × Position) ℕ} → IsRows F t r → (v : A) → F v → whole r (t v) ≡ Ok v
whole_again {A = A} {F = F} {t = t} {r = r} rows v fits =
    let e : r (at (t v) 0) ≡ Ok (v, at [] (0 + length (t v))) = ap (λ (ls : List (List ℕ)). r (at ls 0)) (sym (append-nil (t v))) ∙ rows.again v fits [] 0 in
    rw e refl

none_begins : {A : Type 0} {F : A → Type 0} {t : A → List (List ℕ)} {r : Position → Result (A × Position) ℕ} → IsRows F t r → (good after : List (List ℕ)) (k : ℕ) → r (at good 0) ≡ Err k → StaysBad r good after 0 k → NoneBegins F t good after
none_begins {A = A} {t = t} {r = r} rows good [] k short h = λ v fits e. no_ok_err _ k (sym (rows.again v fits [] 0) ∙ ap (λ (ls : List (List ℕ)). r (at ls 0)) (append-nil (t v) ∙ e) ∙ short)
none_begins {A = A} {t = t} {r = r} rows good (l ∷ rest) k short h = λ v more fits e. no_ok_err _ k (sym (rows.again v fits [] 0) ∙ ap (λ (ls : List (List ℕ)). r (at ls 0)) (append-nil (t v) ∙ e) ∙ h more)

-- two texts of which one begins the other are one
no_longer : {A : Type 0} {F : A → Type 0} {t : A → List (List ℕ)} {r : Position → Result (A × Position) ℕ} → IsRows F t r → (v w : A) (l : List ℕ) (more : List (List ℕ)) → F v → F w → t w ≡ t v ++ l ∷ more → ⊥
no_longer {A = A} {t = t} {r = r} rows v w l more fv fw e =
    let a : r (at (t w) 0) ≡ Ok (v, at (l ∷ more) (0 + length (t v))) = ap (λ (ls : List (List ℕ)). r (at ls 0)) e ∙ rows.again v fv (l ∷ more) 0 in
    let b : r (at (t w) 0) ≡ Ok (w, at [] (0 + length (t w))) = ap (λ (ls : List (List ℕ)). r (at ls 0)) (sym (append-nil (t w))) ∙ rows.again w fw [] 0 in
    no_cons_nil l more (ap (λ (x : A × Position). x.1.lines) (ok_is (v, at (l ∷ more) (0 + length (t v))) (w, at [] (0 + length (t w))) (sym a ∙ b)))

after_end : {A : Type 0} {F : A → Type 0} {t : A → List (List ℕ)} {r : Position → Result (A × Position) ℕ} → IsRows F t r → (v : A) (rest : List (List ℕ)) (n k : ℕ) → F v → none_left v rest n ≡ Err k → (k ≡ n + 1) × NoneBegins F t (t v) rest
after_end rows v [] n k fits e = absurd cc
after_end rows v (l ∷ rest) n k fits e = (sym (err_is (n + 1) k e), λ w more fw same. no_longer rows v w l more fits fw same)

pub whole_first_bad : {A : Type 0} {F : A → Type 0} {t : A → List (List ℕ)} {r : Position → Result (A × Position) ℕ} → IsRows F t r → (lines : List (List ℕ)) (k : ℕ) → whole r lines ≡ Err k → IsFirstBad F t lines k
whole_first_bad {A = A} {F = F} {t = t} {r = r} rows lines k e =
    elim (bind_err (r (at lines 0)) ended k e) [
      | inl h ↦
          let f = rows.fault (at lines 0) k h in
          record { good = f.good; after = f.after; parts = f.parts; number = omega (arith, f.number); begins = f.begins; none = none_begins rows f.good f.after k f.short f.bad }
      | inr h ↦
          let one = rows.takes (at lines 0) h.0 h.1 in
          let end = after_end rows h.0.0 h.0.1.lines h.0.1.number k one.0 h.2 in
          record { good = t h.0.0; after = h.0.1.lines; parts = one.1; number = omega (arith, end.0, one.2); begins = (h.0.0, [], one.0, sym (append-nil (t h.0.0))); none = end.1 }
    ]

-- a line that the rows before fix
pub exact-exactly : (line : List ℕ) → IsExact (λ (_ : Unit {0}). Unit {0}) (λ _. line) (exactly line)
exact-exactly line = record {
  again = λ v fits. rw (same_bytes line) refl;
  takes = λ bytes v e. let t = tested (bytes_eq bytes line) tt v e in (tt, (bytes_eq-Decides bytes line).0 t.0);
}
