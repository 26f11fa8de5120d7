-- A text that is read row by row, where the lines of a value aren't fixed by it: whatever spells a value is read as it,
-- what is read was spelled so, and the fault is the first bad line.
use Rattle.std.proofs.Common.{◌≡◌, ℕ, zero, suc, ◌+◌, List, [], ◌∷◌, ◌++◌, length, Option, Result, Ok, Err, refl, sym, ap, subst, ◌∙◌, arith, append_assoc, length-append, inl, inr}
use Rattle.std.proofs.lemmas.List.{append-nil}
use Rattle.text_rows.specs.FirstBad as texts
use Rattle.line_rows.specs.Position.{Position}
use Rattle.line_rows.specs.Reading.{◌>>=◌, row, then_of, view_of, many_of, none_left, ended, whole}
use Rattle.line_rows.specs.Spelling.{IsOf, ThenSpells, SpellsMany, IsSpelledText}
use Rattle.line_rows.proofs.Exact.{IsExact}
use Rattle.line_rows.proofs.RowLaws.{at, IsRows, StaysBad, okay, ok_is, err_is, bind_ok, bind_err, rows-row}
use Rattle.line_rows.proofs.BadLines.{no_ok_err, stays_then, stays_second, stays_view, none_left_ok, no_cons_nil}

-- some value is spelled by lines that begin with these
abbrev pub BeginsSpelled : {A : Type 0} → (A → List (List ℕ) → Type 0) → List (List ℕ) → Type 0
BeginsSpelled {A = A} S good = (v : A) × (more : List (List ℕ)) × S v (good ++ more)

-- k is the first bad line: the good lines before it begin a text, and are faulted only where they end
pub record IsSpelledFault {A : Type 0} (S : A → List (List ℕ) → Type 0) (read : Position → Result (A × Position) ℕ) (p : Position) (k : ℕ) : Type 0 where
  pub good : List (List ℕ)
  pub after : List (List ℕ)
  pub parts : p.lines ≡ good ++ after
  pub number : k ≡ p.number + length good + 1
  pub begins : BeginsSpelled S good
  pub short : read (at good p.number) ≡ Err k
  pub bad : StaysBad read good after p.number k

-- what is read from a place: lines that spell the value, and the place after them
abbrev pub IsTaken : {A : Type 0} → (A → List (List ℕ) → Type 0) → Position → A × Position → Type 0
IsTaken S p x = (ls : List (List ℕ)) × S x.0 ls × (p.lines ≡ ls ++ x.1.lines) × (x.1.number ≡ p.number + length ls)

pub record IsSpelled {A : Type 0} (S : A → List (List ℕ) → Type 0) (read : Position → Result (A × Position) ℕ) : Type 0 where
  pub again : (v : A) (ls : List (List ℕ)) → S v ls → (more : List (List ℕ)) (n : ℕ) → read (at (ls ++ more) n) ≡ Ok (v, at more (n + length ls))
  pub takes : (p : Position) (x : A × Position) → read p ≡ Ok x → IsTaken S p x
  pub fault : (p : Position) (k : ℕ) → read p ≡ Err k → IsSpelledFault S read p k
  -- so what is begun can go on
  pub some : (v : A) × (ls : List (List ℕ)) × S v ls

-- ---- lines that are fixed by the value are the case where they are its lines

pub spelled-rows : {A : Type 0} {F : A → Type 0} {t : A → List (List ℕ)} {r : Position → Result (A × Position) ℕ} → IsRows F t r → IsSpelled (IsOf F t) r
spelled-rows {A = A} {t = t} {r = r} rows = record {
  again = λ v ls h more n. subst (λ (z : List (List ℕ)). r (at (z ++ more) n) ≡ Ok (v, at more (n + length z))) (sym h.1) (rows.again v h.0 more n);
  takes = λ p x e. let o = rows.takes p x e in (t x.0, (o.0, refl), o.1, o.2);
  fault = λ p k e.
      let f = rows.fault p k e in
      record { good = f.good; after = f.after; parts = f.parts; number = f.number; begins = (f.begins.0, f.begins.1, (f.begins.2, sym f.begins.3)); short = f.short; bad = f.bad };
  some = (rows.some.0, t rows.some.0, (rows.some.1, refl));
}

-- one row
pub spelled-row : {A : Type 0} {F : A → Type 0} {text : A → List ℕ} {read : List ℕ → Option A} → IsExact F text read → (v : A) × F v → IsSpelled (IsOf F (λ v. text v ∷ [])) (row read)
spelled-row exact some = spelled-rows (rows-row exact some)

-- ---- some rows, and then others

then_again : {A B : Type 0} {S : A → List (List ℕ) → Type 0} {r : Position → Result (A × Position) ℕ} {T : A → B → List (List ℕ) → Type 0} {s : A → Position → Result (B × Position) ℕ} → IsSpelled S r → ((a : A) (ls : List (List ℕ)) → S a ls → IsSpelled (T a) (s a))
    → (v : A × B) (front rest : List (List ℕ)) → S v.0 front → T v.0 v.1 rest → (more : List (List ℕ)) (n : ℕ) → then_of r s (at ((front ++ rest) ++ more) n) ≡ Ok (v, at more (n + length (front ++ rest)))
then_again first second v front rest a b more n =
    rw (append_assoc front rest more, first.again v.0 front a (rest ++ more) n, (second v.0 front a).again v.1 rest b more (n + length front))
    (ap (λ (j : ℕ). Ok (v, at more j)) (omega (arith, length-append front rest)))

then_fault : {A B : Type 0} {S : A → List (List ℕ) → Type 0} {T : A → B → List (List ℕ) → Type 0} (r : Position → Result (A × Position) ℕ) (s : A → Position → Result (B × Position) ℕ) → IsSpelled S r → ((a : A) (ls : List (List ℕ)) → S a ls → IsSpelled (T a) (s a))
    → (p : Position) (k : ℕ) → then_of r s p ≡ Err k → IsSpelledFault (ThenSpells S T) (then_of r s) p k
then_fault {A = A} {B = B} {S = S} {T = T} r s first second p k e =
    elim (bind_err (r p) (λ x. s x.0 x.1 >>= λ y. Ok ((x.0, y.0), y.1)) k e) [
      | inl h ↦
          let f = first.fault p k h in
          let b = (second f.begins.0 (f.good ++ f.begins.1) f.begins.2).some in
          record {
            begins = ((f.begins.0, b.0), f.begins.1 ++ b.1, (f.good ++ f.begins.1, b.1, f.begins.2, b.2, sym (append_assoc f.good f.begins.1 b.1)));
            good = f.good;
            after = f.after;
            parts = f.parts;
            number = f.number;
            short = rw f.short refl;
            bad = stays_then r s f.good f.after p.number k f.bad;
          }
      | inr h ↦
          let x = h.0 in
          let one = first.takes p x h.1 in
          let front = one.0 in
          elim (bind_err (s x.0 x.1) (λ y. Ok ((x.0, y.0), y.1)) k h.2) [
            | inl g ↦
                let f = (second x.0 front one.1).fault x.1 k g in
                let again : (others : List (List ℕ)) → r (at (front ++ others) p.number) ≡ Ok (x.0, at others x.1.number) = λ others. first.again x.0 front one.1 others p.number ∙ ap (λ (j : ℕ). Ok (x.0, at others j)) (sym one.3) in
                record {
                  good = front ++ f.good;
                  begins = ((x.0, f.begins.0), f.begins.1, (front, f.good ++ f.begins.1, one.1, f.begins.2, append_assoc front f.good f.begins.1));
                  after = f.after;
                  parts = one.2 ∙ ap (λ (ls : List (List ℕ)). front ++ ls) f.parts ∙ sym (append_assoc front f.good f.after);
                  number = omega (arith, f.number, one.3, length-append front f.good);
                  short = rw (again f.good, f.short) refl;
                  bad = stays_second r s x.0 front f.good f.after p.number x.1.number k again f.bad;
                }
            | inr g ↦ absurd (no_ok_err _ k g.2)
          ]
    ]

pub spelled-then : {A B : Type 0} {S : A → List (List ℕ) → Type 0} {r : Position → Result (A × Position) ℕ} {T : A → B → List (List ℕ) → Type 0} {s : A → Position → Result (B × Position) ℕ} → IsSpelled S r → ((a : A) (ls : List (List ℕ)) → S a ls → IsSpelled (T a) (s a)) → IsSpelled (ThenSpells S T) (then_of r s)
spelled-then {A = A} {B = B} {S = S} {r = r} {T = T} {s = s} first second = record {
  again = λ v ls h more n. subst (λ (z : List (List ℕ)). then_of r s (at (z ++ more) n) ≡ Ok (v, at more (n + length z))) (sym h.4) (then_again first second v h.0 h.1 h.2 h.3 more n);
  takes = λ p x e.
      let a = bind_ok (r p) (λ x. s x.0 x.1 >>= λ y. Ok ((x.0, y.0), y.1)) x e in
      let b = bind_ok (s a.0.0 a.0.1) (λ y. Ok ((a.0.0, y.0), y.1)) x a.2 in
      let one = first.takes p a.0 a.1 in
      let two = (second a.0.0 one.0 one.1).takes a.0.1 b.0 b.1 in
      let made : (A × B) × Position = ((a.0.0, b.0.0), b.0.1) in
      let both : p.lines ≡ (one.0 ++ two.0) ++ b.0.1.lines = one.2 ∙ ap (λ (ls : List (List ℕ)). one.0 ++ ls) two.2 ∙ sym (append_assoc one.0 two.0 b.0.1.lines) in
      subst (λ (y : (A × B) × Position). IsTaken (ThenSpells S T) p y) (ok_is made x b.2)
      (one.0 ++ two.0, (one.0, two.0, one.1, two.1, refl), both, omega (arith, one.3, two.3, length-append one.0 two.0));
  fault = then_fault r s first second;
  some = let a = first.some in let b = (second a.0 a.1 a.2).some in ((a.0, b.0), a.1 ++ b.1, (a.1, b.1, a.2, b.2, refl));
}

-- ---- the same rows for another value

pub spelled-view : {A B : Type 0} (make : A → B) {S : A → List (List ℕ) → Type 0} {r : Position → Result (A × Position) ℕ} (T : B → List (List ℕ) → Type 0) → IsSpelled S r
    → ((b : B) (ls : List (List ℕ)) → T b ls → (a : A) × S a ls × (make a ≡ b)) → ((a : A) (ls : List (List ℕ)) → S a ls → T (make a) ls) → IsSpelled T (view_of make r)
spelled-view {A = A} {B = B} make {r = r} T rows from to = record {
  again = λ b ls h more n.
      let a = from b ls h in
      rw (rows.again a.0 ls a.1 more n) (ap (λ (y : B). Ok (y, at more (n + length ls))) a.2);
  takes = λ p x e.
      let a = bind_ok (r p) (λ x. Ok (make x.0, x.1)) x e in
      let one = rows.takes p a.0 a.1 in
      let made : B × Position = (make a.0.0, a.0.1) in
      subst (λ (y : B × Position). IsTaken T p y) (ok_is made x a.2) (one.0, to a.0.0 one.0 one.1, one.2, one.3);
  fault = λ p k e.
      elim (bind_err (r p) (λ x. Ok (make x.0, x.1)) k e) [
        | inl h ↦
            let f = rows.fault p k h in
            record { begins = (make f.begins.0, f.begins.1, to f.begins.0 (f.good ++ f.begins.1) f.begins.2); good = f.good; after = f.after; parts = f.parts; number = f.number; short = rw f.short refl; bad = stays_view make r f.good f.after p.number k f.bad }
        | inr h ↦ absurd (no_ok_err _ k h.2)
      ];
  some = (make rows.some.0, rows.some.1, to rows.some.0 rows.some.1 rows.some.2);
}

-- the same rows under another name of what spells them
pub spelled-same : {A : Type 0} {S : A → List (List ℕ) → Type 0} {r : Position → Result (A × Position) ℕ} (T : A → List (List ℕ) → Type 0) → IsSpelled S r → ((v : A) (ls : List (List ℕ)) → T v ls → S v ls) → ((v : A) (ls : List (List ℕ)) → S v ls → T v ls) → IsSpelled T r
spelled-same T rows from to = record {
  again = λ v ls h more n. rows.again v ls (from v ls h) more n;
  takes = λ p x e. let o = rows.takes p x e in (o.0, to x.0 o.0 o.1, o.2, o.3);
  fault = λ p k e.
      let f = rows.fault p k e in
      record { good = f.good; after = f.after; parts = f.parts; number = f.number; begins = (f.begins.0, f.begins.1, to f.begins.0 (f.good ++ f.begins.1) f.begins.2); short = f.short; bad = f.bad };
  some = (rows.some.0, rows.some.1, to rows.some.0 rows.some.1 rows.some.2);
}

-- ---- a row for each state

first_of : {S A : Type 0} (T : S → A → List (List ℕ) → Type 0) (next : S → A → S) (n : ℕ) (s : S) (b : List A) (ls : List (List ℕ)) → SpellsMany T next (suc n) s b ls
    → (a : A × List A) × ThenSpells (T s) (λ v. SpellsMany T next n (next s v)) a ls × ((a.0 ∷ a.1) ≡ b)
first_of T next n s [] ls h = absurd h
first_of T next n s (v ∷ vs) ls h = ((v, vs), h, refl)

none_again : {S A : Type 0} (T : S → A → List (List ℕ) → Type 0) (next : S → A → S) (s : S) (v : List A) (ls : List (List ℕ)) → SpellsMany T next zero s v ls → (more : List (List ℕ)) (n : ℕ) → okay {A = List A × Position} ([], at (ls ++ more) n) ≡ Ok (v, at more (n + length ls))
none_again {A = A} T next s [] ls h more n = rw h (ap (λ (j : ℕ). okay {A = List A × Position} ([], at more j)) (omega arith))
none_again T next s (v ∷ vs) ls h more n = absurd h

-- P holds of the number of rows that are left and of the state
pub spelled-many : {S A : Type 0} {T : S → A → List (List ℕ) → Type 0} {r : S → Position → Result (A × Position) ℕ} (next : S → A → S) (P : ℕ → S → Type 0) → ((n : ℕ) (s : S) → P (suc n) s → IsSpelled (T s) (r s)) → ((n : ℕ) (s : S) (v : A) (ls : List (List ℕ)) → P (suc n) s → T s v ls → P n (next s v))
    → (n : ℕ) (s : S) → P n s → IsSpelled (SpellsMany T next n s) (many_of r next n s)
spelled-many {A = A} {T = T} next P each keep zero s h = record {
  again = λ v ls fits more n. none_again T next s v ls fits more n;
  takes = λ p x e. subst (λ (y : List A × Position). IsTaken (SpellsMany T next zero s) p y) (ok_is ([], p) x e) ([], refl, refl, omega arith);
  fault = λ p k e. absurd (no_ok_err ([], p) k e);
  some = ([], [], refl);
}
spelled-many {A = A} {T = T} {r = r} next P each keep (suc n) s h =
    spelled-view (λ (x : A × List A). x.0 ∷ x.1) (SpellsMany T next (suc n) s) (spelled-then (each n s h) (λ a ls fits. spelled-many next P each keep n (next s a) (keep n s a ls h fits))) (first_of T next n s) (λ a ls h. h)

-- ---- a whole text

pub spelled_found : {A : Type 0} {S : A → List (List ℕ) → Type 0} {r : Position → Result (A × Position) ℕ} → IsSpelled S r → (lines : List (List ℕ)) (v : A) → whole r lines ≡ Ok v → S v lines
spelled_found {A = A} {S = S} {r = r} rows lines v e =
    let a = bind_ok (r (at lines 0)) ended v e in
    let one = rows.takes (at lines 0) a.0 a.1 in
    let end = none_left_ok a.0.0 a.0.1.lines a.0.1.number v a.2 in
    let all : lines ≡ one.0 = one.2 ∙ ap (λ (ls : List (List ℕ)). one.0 ++ ls) end.1 ∙ append-nil one.0 in
    subst (λ (y : A). S y lines) end.0 (subst (S a.0.0) (sym all) one.1)

pub spelled_again : {A : Type 0} {S : A → List (List ℕ) → Type 0} {r : Position → Result (A × Position) ℕ} → IsSpelled S r → (v : A) (lines : List (List ℕ)) → S v lines → whole r lines ≡ Ok v
spelled_again {A = A} {r = r} rows v lines h =
    let e : r (at lines 0) ≡ Ok (v, at [] (0 + length lines)) = ap (λ (ls : List (List ℕ)). r (at ls 0)) (sym (append-nil lines)) ∙ rows.again v lines h [] 0 in
    rw e refl

-- lines spell one value
pub spelled_one : {A : Type 0} {S : A → List (List ℕ) → Type 0} {r : Position → Result (A × Position) ℕ} → IsSpelled S r → (v w : A) (lines : List (List ℕ)) → S v lines → S w lines → v ≡ w
spelled_one {r = r} rows v w lines h k = ok_is v w (sym (spelled_again rows v lines h) ∙ spelled_again rows w lines k)

none_begins : {A : Type 0} {S : A → List (List ℕ) → Type 0} {r : Position → Result (A × Position) ℕ} → IsSpelled S r → (good after : List (List ℕ)) (k : ℕ) → r (at good 0) ≡ Err k → StaysBad r good after 0 k → texts.NoneBegins (IsSpelledText S) good after
none_begins {r = r} rows good [] k short h = λ x. no_ok_err _ k (sym (rows.again x.0 good x.1 [] 0) ∙ ap (λ (ls : List (List ℕ)). r (at ls 0)) (append-nil good) ∙ short)
none_begins {r = r} rows good (l ∷ rest) k short h = λ more x. no_ok_err _ k (sym (rows.again x.0 (good ++ l ∷ more) x.1 [] 0) ∙ ap (λ (ls : List (List ℕ)). r (at ls 0)) (append-nil (good ++ l ∷ more)) ∙ h more)

-- two texts of which one begins the other are one
no_longer : {A : Type 0} {S : A → List (List ℕ) → Type 0} {r : Position → Result (A × Position) ℕ} → IsSpelled S r → (v w : A) (front : List (List ℕ)) (l : List ℕ) (more : List (List ℕ)) → S v front → S w (front ++ l ∷ more) → ⊥
no_longer {A = A} {r = r} rows v w front l more fv fw =
    let a : r (at (front ++ l ∷ more) 0) ≡ Ok (v, at (l ∷ more) (0 + length front)) = rows.again v front fv (l ∷ more) 0 in
    let b : r (at (front ++ l ∷ more) 0) ≡ Ok (w, at [] (0 + length (front ++ l ∷ more))) = ap (λ (ls : List (List ℕ)). r (at ls 0)) (sym (append-nil (front ++ l ∷ more))) ∙ rows.again w (front ++ l ∷ more) fw [] 0 in
    no_cons_nil l more (ap (λ (x : A × Position). x.1.lines) (ok_is (v, at (l ∷ more) (0 + length front)) (w, at [] (0 + length (front ++ l ∷ more))) (sym a ∙ b)))

after_end : {A : Type 0} {S : A → List (List ℕ) → Type 0} {r : Position → Result (A × Position) ℕ} → IsSpelled S r → (v : A) (front rest : List (List ℕ)) (n k : ℕ) → S v front → none_left v rest n ≡ Err k → (k ≡ n + 1) × texts.NoneBegins (IsSpelledText S) front rest
after_end rows v front [] n k fits e = absurd cc
after_end rows v front (l ∷ rest) n k fits e = (sym (err_is (n + 1) k e), λ more x. no_longer rows v x.0 front l more fits x.1)

pub spelled_first_bad : {A : Type 0} {S : A → List (List ℕ) → Type 0} {r : Position → Result (A × Position) ℕ} → IsSpelled S r → (lines : List (List ℕ)) (k : ℕ) → whole r lines ≡ Err k → texts.IsFirstBad (IsSpelledText S) lines k
spelled_first_bad {A = A} {S = S} {r = r} rows lines k e =
    elim (bind_err (r (at lines 0)) ended k e) [
      | inl h ↦
          let f = rows.fault (at lines 0) k h in
          record { good = f.good; after = f.after; parts = f.parts; number = omega (arith, f.number); begins = (f.begins.1, (f.begins.0, f.begins.2)); none = none_begins rows f.good f.after k f.short f.bad }
      | inr h ↦
          let one = rows.takes (at lines 0) h.0 h.1 in
          let end = after_end rows h.0.0 one.0 h.0.1.lines h.0.1.number k one.1 h.2 in
          record { good = one.0; after = h.0.1.lines; parts = one.2; number = omega (arith, end.0, one.3); begins = ([], (h.0.0, subst (S h.0.0) (sym (append-nil one.0)) one.1)); none = end.1 }
    ]
