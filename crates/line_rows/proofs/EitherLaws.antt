-- Rows of two kinds are read exactly where their first lines tell them.
use Rattle.std.proofs.Common.{◌≡◌, ℕ, ◌+◌, Bool, true, false, List, [], ◌∷◌, ◌++◌, length, Result, Ok, Err, refl, sym, ap, ◌∙◌, arith, inl, inr, ◌⊎◌}
use Rattle.line_rows.specs.Position.{Position}
use Rattle.line_rows.specs.Either.{fork, either_of}
use Rattle.line_rows.proofs.RowLaws.{at, IsRows, IsFault, StaysBad, err_is}

-- each value's lines begin with one whose front is so
pub record Begun {A : Type 0} (Fits : A → Type 0) (lines : A → List (List ℕ)) (front : List ℕ → Bool) (b : Bool) : Type 0 where
  pub starts : (v : A) → Fits v → (l : List ℕ) × (ls : List (List ℕ)) × (lines v ≡ l ∷ ls) × (front l ≡ b)

-- reads as the one kind, at each line with its front
abbrev ReadsAs : {A : Type 0} → (List ℕ → Bool) → Bool → (Position → Result (A × Position) ℕ) → (Position → Result (A × Position) ℕ) → Type 0
ReadsAs front b read one = (l : List ℕ) (ls : List (List ℕ)) (n : ℕ) → front l ≡ b → read (at (l ∷ ls) n) ≡ one (at (l ∷ ls) n)

as_first : {A : Type 0} (front : List ℕ → Bool) (r s : Position → Result (A × Position) ℕ) → ReadsAs front true (either_of front r s) r
as_first front r s l ls n h = rw h refl

as_second : {A : Type 0} (front : List ℕ → Bool) (r s : Position → Result (A × Position) ℕ) → ReadsAs front false (either_of front r s) s
as_second front r s l ls n h = rw h refl

one_again : {A : Type 0} {F : A → Type 0} {t : A → List (List ℕ)} {one : Position → Result (A × Position) ℕ} (front : List ℕ → Bool) (b : Bool) (read : Position → Result (A × Position) ℕ) → ReadsAs front b read one → IsRows F t one → Begun F t front b
    → (v : A) → F v → (more : List (List ℕ)) (n : ℕ) → read (at (t v ++ more) n) ≡ Ok (v, at more (n + length (t v)))
one_again {t = t} {one = one} front b read same rows begun v fits more n =
    let s = begun.starts v fits in
    let lines : t v ++ more ≡ s.0 ∷ (s.1 ++ more) = ap (λ (ls : List (List ℕ)). ls ++ more) s.2 in
    ap (λ (ls : List (List ℕ)). read (at ls n)) lines ∙ same s.0 (s.1 ++ more) n s.3 ∙ ap (λ (ls : List (List ℕ)). one (at ls n)) (sym lines) ∙ rows.again v fits more n

head_of : (l m : List ℕ) (ls ms : List (List ℕ)) → (l ∷ ls) ≡ (m ∷ ms) → l ≡ m
head_of l m ls ms e = cc

stays_one : {A : Type 0} (one : Position → Result (A × Position) ℕ) (front : List ℕ → Bool) (b : Bool) (read : Position → Result (A × Position) ℕ) → ReadsAs front b read one
    → (l : List ℕ) (ls good after : List (List ℕ)) (n k : ℕ) → front l ≡ b → (l ∷ ls) ≡ good ++ after → StaysBad one good after n k → StaysBad read good after n k
stays_one one front b read same l ls good [] n k h parts bad = tt
stays_one one front b read same l ls [] (x ∷ rest) n k h parts bad = λ more. same x more n (ap front (sym (head_of l x ls rest parts)) ∙ h) ∙ bad more
stays_one one front b read same l ls (g ∷ gs) (x ∷ rest) n k h parts bad = λ more. same g (gs ++ x ∷ more) n (ap front (sym (head_of l g ls (gs ++ x ∷ rest) parts)) ∙ h) ∙ bad more

short_one : {A : Type 0} (one : Position → Result (A × Position) ℕ) (front : List ℕ → Bool) (b : Bool) (read : Position → Result (A × Position) ℕ) → ReadsAs front b read one → ((n : ℕ) → read (at [] n) ≡ Err (n + 1))
    → (l : List ℕ) (ls good after : List (List ℕ)) (n k : ℕ) → front l ≡ b → (l ∷ ls) ≡ good ++ after → k ≡ n + length good + 1 → one (at good n) ≡ Err k → read (at good n) ≡ Err k
short_one {A = A} one front b read same ends l ls [] after n k h parts number short = ends n ∙ ap (λ (j : ℕ). Err j) (omega (arith, number))
short_one one front b read same ends l ls (g ∷ gs) after n k h parts number short = same g gs n (ap front (sym (head_of l g ls (gs ++ after) parts)) ∙ h) ∙ short

one_fault : {A : Type 0} {F : A → Type 0} {t : A → List (List ℕ)} {one : Position → Result (A × Position) ℕ} (G : A → Type 0) (front : List ℕ → Bool) (b : Bool) (read : Position → Result (A × Position) ℕ) → ((v : A) → F v → G v) → ReadsAs front b read one → ((n : ℕ) → read (at [] n) ≡ Err (n + 1))
    → (l : List ℕ) (ls : List (List ℕ)) (n k : ℕ) → front l ≡ b → IsFault F t one (at (l ∷ ls) n) k → IsFault G t read (at (l ∷ ls) n) k
one_fault {one = one} G front b read into same ends l ls n k h f = record {
  good = f.good;
  after = f.after;
  parts = f.parts;
  number = f.number;
  begins = (f.begins.0, f.begins.1, into f.begins.0 f.begins.2, f.begins.3);
  short = short_one one front b read same ends l ls f.good f.after n k h f.parts f.number f.short;
  bad = stays_one one front b read same l ls f.good f.after n k h f.parts f.bad;
}

module _ {A : Type 0} {F G : A → Type 0} {t : A → List (List ℕ)} {r s : Position → Result (A × Position) ℕ} (front : List ℕ → Bool) (first : IsRows F t r) (second : IsRows G t s) where
  takes_among : (ls : List (List ℕ)) (n : ℕ) (x : A × Position) → either_of front r s (at ls n) ≡ Ok x → (F x.0 ⊎ G x.0) × (ls ≡ t x.0 ++ x.1.lines) × (x.1.number ≡ n + length (t x.0))
  takes_among [] n x e = absurd cc
  takes_among (l ∷ ls) n x e = step (front l) e
    where
      step : (b : Bool) → fork b r s (at (l ∷ ls) n) ≡ Ok x → (F x.0 ⊎ G x.0) × ((l ∷ ls) ≡ t x.0 ++ x.1.lines) × (x.1.number ≡ n + length (t x.0))
      step true h = let o = first.takes (at (l ∷ ls) n) x h in (inl o.0, o.1, o.2)
      step false h = let o = second.takes (at (l ∷ ls) n) x h in (inr o.0, o.1, o.2)

  fault_among : (ls : List (List ℕ)) (n k : ℕ) → either_of front r s (at ls n) ≡ Err k → IsFault (λ v. F v ⊎ G v) t (either_of front r s) (at ls n) k
  fault_among [] n k e = record { good = []; after = []; parts = refl; number = sym (err_is (n + 1) k e) ∙ omega arith; begins = (first.some.0, t first.some.0, inl first.some.1, refl); short = e; bad = tt }
  fault_among (l ∷ ls) n k e = step (front l) refl e
    where
      step : (b : Bool) → front l ≡ b → fork b r s (at (l ∷ ls) n) ≡ Err k → IsFault (λ v. F v ⊎ G v) t (either_of front r s) (at (l ∷ ls) n) k
      step true h e = one_fault (λ v. F v ⊎ G v) front true (either_of front r s) (λ v f. inl f) (as_first front r s) (λ n. refl) l ls n k h (first.fault (at (l ∷ ls) n) k e)
      step false h e = one_fault (λ v. F v ⊎ G v) front false (either_of front r s) (λ v g. inr g) (as_second front r s) (λ n. refl) l ls n k h (second.fault (at (l ∷ ls) n) k e)

  pub rows-either : Begun F t front true → Begun G t front false → IsRows (λ v. F v ⊎ G v) t (either_of front r s)
  rows-either begun other = record {
    again = λ v fits more n. elim fits [
      | inl f ↦ one_again front true (either_of front r s) (as_first front r s) first begun v f more n
      | inr g ↦ one_again front false (either_of front r s) (as_second front r s) second other v g more n
    ];
    takes = λ p x e. takes_among p.lines p.number x e;
    fault = λ p k e. fault_among p.lines p.number k e;
    some = (first.some.0, inl first.some.1);
  }
