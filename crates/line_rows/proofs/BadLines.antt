-- A bad line stays bad in what is composed of its reader.
use Rattle.std.proofs.Common.{◌≡◌, ℕ, ◌+◌, Bool, true, false, List, [], ◌∷◌, ◌++◌, length, Result, Ok, Err, refl, sym, ap, ◌∙◌, arith, append_assoc}
use Rattle.line_rows.specs.Position.{Position}
use Rattle.line_rows.specs.Reading.{then_of, view_of, none_left}
use Rattle.line_rows.specs.Either.{either_of}
use Rattle.line_rows.proofs.RowLaws.{at, StaysBad, okay, ok_is, failed}

pub no_ok_err : {A : Type 0} (x : A) (k : ℕ) → okay x ≡ failed k → ⊥
no_ok_err x k e = cc

pub no_cons_nil : (l : List ℕ) (ls : List (List ℕ)) → (l ∷ ls) ≡ [] → ⊥
no_cons_nil l ls e = cc

pub head_of : (l m : List ℕ) (ls ms : List (List ℕ)) → (l ∷ ls) ≡ (m ∷ ms) → l ≡ m
head_of l m ls ms e = cc

pub none_left_ok : {A : Type 0} (x : A) (ls : List (List ℕ)) (n : ℕ) (v : A) → none_left x ls n ≡ Ok v → (x ≡ v) × (ls ≡ [])
none_left_ok x [] n v e = (ok_is x v e, refl)
none_left_ok x (l ∷ ls) n v e = absurd cc

pub stays_then : {A B : Type 0} (read : Position → Result (A × Position) ℕ) (more : A → Position → Result (B × Position) ℕ) (good after : List (List ℕ)) (n k : ℕ) → StaysBad read good after n k → StaysBad (then_of read more) good after n k
stays_then read more good [] n k h = tt
stays_then read more good (l ∷ rest) n k h = λ others. rw (h others) refl

-- the first rows are there, and the others stay bad
pub stays_second : {A B : Type 0} (read : Position → Result (A × Position) ℕ) (more : A → Position → Result (B × Position) ℕ) (a : A) (front good after : List (List ℕ)) (n m k : ℕ)
    → ((others : List (List ℕ)) → read (at (front ++ others) n) ≡ Ok (a, at others m)) → StaysBad (more a) good after m k → StaysBad (then_of read more) (front ++ good) after n k
stays_second read more a front good [] n m k first h = tt
stays_second read more a front good (l ∷ rest) n m k first h = λ others.
    rw (append_assoc front good (l ∷ others), first (good ++ l ∷ others), h others) refl

pub stays_view : {A B : Type 0} (make : A → B) (read : Position → Result (A × Position) ℕ) (good after : List (List ℕ)) (n k : ℕ) → StaysBad read good after n k → StaysBad (view_of make read) good after n k
stays_view make read good [] n k h = tt
stays_view make read good (l ∷ rest) n k h = λ others. rw (h others) refl

-- reads as the one kind, at each line with its front
abbrev pub ReadsAs : {A : Type 0} → (List ℕ → Bool) → Bool → (Position → Result (A × Position) ℕ) → (Position → Result (A × Position) ℕ) → Type 0
ReadsAs front b read one = (l : List ℕ) (ls : List (List ℕ)) (n : ℕ) → front l ≡ b → read (at (l ∷ ls) n) ≡ one (at (l ∷ ls) n)

pub as_first : {A : Type 0} (front : List ℕ → Bool) (r s : Position → Result (A × Position) ℕ) → ReadsAs front true (either_of front r s) r
as_first front r s l ls n h = rw h refl

pub as_second : {A : Type 0} (front : List ℕ → Bool) (r s : Position → Result (A × Position) ℕ) → ReadsAs front false (either_of front r s) s
as_second front r s l ls n h = rw h refl

pub stays_one : {A : Type 0} (one : Position → Result (A × Position) ℕ) (front : List ℕ → Bool) (b : Bool) (read : Position → Result (A × Position) ℕ) → ReadsAs front b read one
    → (l : List ℕ) (ls good after : List (List ℕ)) (n k : ℕ) → front l ≡ b → (l ∷ ls) ≡ good ++ after → StaysBad one good after n k → StaysBad read good after n k
stays_one one front b read same l ls good [] n k h parts bad = tt
stays_one one front b read same l ls [] (x ∷ rest) n k h parts bad = λ more. same x more n (ap front (sym (head_of l x ls rest parts)) ∙ h) ∙ bad more
stays_one one front b read same l ls (g ∷ gs) (x ∷ rest) n k h parts bad = λ more. same g (gs ++ x ∷ more) n (ap front (sym (head_of l g ls (gs ++ x ∷ rest) parts)) ∙ h) ∙ bad more

pub short_one : {A : Type 0} (one : Position → Result (A × Position) ℕ) (front : List ℕ → Bool) (b : Bool) (read : Position → Result (A × Position) ℕ) → ReadsAs front b read one → ((n : ℕ) → read (at [] n) ≡ Err (n + 1))
    → (l : List ℕ) (ls good after : List (List ℕ)) (n k : ℕ) → front l ≡ b → (l ∷ ls) ≡ good ++ after → k ≡ n + length good + 1 → one (at good n) ≡ Err k → read (at good n) ≡ Err k
short_one {A = A} one front b read same ends l ls [] after n k h parts number short = ends n ∙ ap (λ (j : ℕ). Err j) (omega (arith, number))
short_one one front b read same ends l ls (g ∷ gs) after n k h parts number short = same g gs n (ap front (sym (head_of l g ls (gs ++ after) parts)) ∙ h) ∙ short
