-- Rows of two kinds are read exactly where their first lines tell them, also where the values don't fix their lines.
use Rattle.std.proofs.Common.{◌≡◌, ℕ, ◌+◌, Bool, true, false, List, [], ◌∷◌, ◌++◌, length, Result, Ok, Err, refl, sym, ap, ◌∙◌, arith, inl, inr}
use Rattle.line_rows.specs.Position.{Position}
use Rattle.line_rows.specs.Either.{fork, either_of}
use Rattle.line_rows.specs.Spelling.{EitherSpells}
use Rattle.line_rows.proofs.RowLaws.{at, err_is}
use Rattle.line_rows.proofs.BadLines.{ReadsAs, as_first, as_second, stays_one, short_one}
use Rattle.line_rows.proofs.SpelledLaws.{IsSpelled, IsSpelledFault, IsTaken}

-- each value's lines begin with one whose front is so
abbrev pub BegunBy : {A : Type 0} → (A → List (List ℕ) → Type 0) → (List ℕ → Bool) → Bool → Type 0
BegunBy {A = A} S front b = (v : A) (ls : List (List ℕ)) → S v ls → (l : List ℕ) × (more : List (List ℕ)) × (ls ≡ l ∷ more) × (front l ≡ b)

one_again : {A : Type 0} {S : A → List (List ℕ) → Type 0} {one : Position → Result (A × Position) ℕ} (front : List ℕ → Bool) (b : Bool) (read : Position → Result (A × Position) ℕ) → ReadsAs front b read one → IsSpelled S one → BegunBy S front b
    → (v : A) (ls : List (List ℕ)) → S v ls → (more : List (List ℕ)) (n : ℕ) → read (at (ls ++ more) n) ≡ Ok (v, at more (n + length ls))
one_again {one = one} front b read same rows begun v ls h more n =
    let s = begun v ls h in
    let lines : ls ++ more ≡ s.0 ∷ (s.1 ++ more) = ap (λ (z : List (List ℕ)). z ++ more) s.2 in
    ap (λ (z : List (List ℕ)). read (at z n)) lines ∙ same s.0 (s.1 ++ more) n s.3 ∙ ap (λ (z : List (List ℕ)). one (at z n)) (sym lines) ∙ rows.again v ls h more n

one_fault : {A : Type 0} {S : A → List (List ℕ) → Type 0} {one : Position → Result (A × Position) ℕ} (T : A → List (List ℕ) → Type 0) (front : List ℕ → Bool) (b : Bool) (read : Position → Result (A × Position) ℕ) → ((v : A) (ls : List (List ℕ)) → S v ls → T v ls) → ReadsAs front b read one → ((n : ℕ) → read (at [] n) ≡ Err (n + 1))
    → (l : List ℕ) (ls : List (List ℕ)) (n k : ℕ) → front l ≡ b → IsSpelledFault S one (at (l ∷ ls) n) k → IsSpelledFault T read (at (l ∷ ls) n) k
one_fault {one = one} T front b read into same ends l ls n k h f = record {
  good = f.good;
  after = f.after;
  parts = f.parts;
  number = f.number;
  begins = (f.begins.0, f.begins.1, into f.begins.0 (f.good ++ f.begins.1) f.begins.2);
  short = short_one one front b read same ends l ls f.good f.after n k h f.parts f.number f.short;
  bad = stays_one one front b read same l ls f.good f.after n k h f.parts f.bad;
}

module _ {A : Type 0} {S T : A → List (List ℕ) → Type 0} {r s : Position → Result (A × Position) ℕ} (front : List ℕ → Bool) (first : IsSpelled S r) (second : IsSpelled T s) where
  takes_among : (ls : List (List ℕ)) (n : ℕ) (x : A × Position) → either_of front r s (at ls n) ≡ Ok x → IsTaken (EitherSpells S T) (at ls n) x
  takes_among [] n x e = absurd cc
  takes_among (l ∷ ls) n x e = step (front l) e
    where
      step : (b : Bool) → fork b r s (at (l ∷ ls) n) ≡ Ok x → IsTaken (EitherSpells S T) (at (l ∷ ls) n) x
      step true h = let o = first.takes (at (l ∷ ls) n) x h in (o.0, inl o.1, o.2, o.3)
      step false h = let o = second.takes (at (l ∷ ls) n) x h in (o.0, inr o.1, o.2, o.3)

  fault_among : (ls : List (List ℕ)) (n k : ℕ) → either_of front r s (at ls n) ≡ Err k → IsSpelledFault (EitherSpells S T) (either_of front r s) (at ls n) k
  fault_among [] n k e = record { good = []; after = []; parts = refl; number = sym (err_is (n + 1) k e) ∙ omega arith; begins = (first.some.0, first.some.1, inl first.some.2); short = e; bad = tt }
  fault_among (l ∷ ls) n k e = step (front l) refl e
    where
      step : (b : Bool) → front l ≡ b → fork b r s (at (l ∷ ls) n) ≡ Err k → IsSpelledFault (EitherSpells S T) (either_of front r s) (at (l ∷ ls) n) k
      step true h e = one_fault (EitherSpells S T) front true (either_of front r s) (λ v ls f. inl f) (as_first front r s) (λ n. refl) l ls n k h (first.fault (at (l ∷ ls) n) k e)
      step false h e = one_fault (EitherSpells S T) front false (either_of front r s) (λ v ls g. inr g) (as_second front r s) (λ n. refl) l ls n k h (second.fault (at (l ∷ ls) n) k e)

  pub spelled-either : BegunBy S front true → BegunBy T front false → IsSpelled (EitherSpells S T) (either_of front r s)
  spelled-either begun other = record {
    again = λ v ls fits more n. elim fits [
      | inl f ↦ one_again front true (either_of front r s) (as_first front r s) first begun v ls f more n
      | inr g ↦ one_again front false (either_of front r s) (as_second front r s) second other v ls g more n
    ];
    takes = λ p x e. takes_among p.lines p.number x e;
    fault = λ p k e. fault_among p.lines p.number k e;
    some = (first.some.0, first.some.1, inl first.some.2);
  }
