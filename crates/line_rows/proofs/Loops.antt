-- A loop over rows: what it has read stands in front of what is left to read.
use Rattle.std.proofs.Common.{◌≡◌, ℕ, suc, List, [], ◌∷◌, ◌++◌, Result, Ok, Err, refl, sym, ap, ◌∙◌, append_assoc}
use Rattle.std.proofs.lemmas.List.{append-nil}
use Rattle.line_rows.specs.Position.{Position}
use Rattle.line_rows.specs.declared.fault.ReadError.{ReadError}
use Rattle.line_rows.specs.declared.fault.ReadError.TheVariants as errors
use Rattle.line_rows.specs.Reading.{◌>>=◌, many_of, Fails}

abbrev pub with_front : {A : Type 0} → List A → Result (List A × Position) ℕ → Result (List A × Position) ℕ
with_front front read = read >>= λ x. Ok (front ++ x.0, x.1)

abbrev list_of : {A : Type 0} → List A → Position → Result (List A × Position) ℕ
list_of xs p = Ok (xs, p)

abbrev pair_with : {A : Type 0} → A → Result (List A × Position) ℕ → Result ((A × List A) × Position) ℕ
pair_with v read = read >>= λ y. Ok ((v, y.0), y.1)

abbrev cons_of : {A : Type 0} → Result ((A × List A) × Position) ℕ → Result (List A × Position) ℕ
cons_of read = read >>= λ x. Ok (x.0.0 ∷ x.0.1, x.1)

regroup : {A : Type 0} (front : List A) (v : A) (read : Result (List A × Position) ℕ) → with_front front (cons_of (pair_with v read)) ≡ with_front (front ++ v ∷ []) read
regroup front v (Err k) = refl
regroup {A = A} front v (Ok y) = ap (λ (vs : List A). list_of vs y.1) (sym (append_assoc front (v ∷ []) y.0))

pub starts : {A : Type 0} (read : Result (List A × Position) ℕ) → with_front [] read ≡ read
starts (Err k) = refl
starts (Ok x) = refl

pub goes_on : {S A : Type 0} (r : S → Position → Result (A × Position) ℕ) (next : S → A → S) (front : List A) (m n : ℕ) (s : S) (p : Position) (x : A × Position) (total : Result (List A × Position) ℕ) → m ≡ suc n → r s p ≡ Ok x
    → with_front front (many_of r next m s p) ≡ total → with_front (front ++ x.0 ∷ []) (many_of r next n (next s x.0) x.1) ≡ total
goes_on r next front m n s p x total e h so_far = sym (regroup front x.0 (many_of r next n (next s x.0) x.1)) ∙ sym (rw (e, h) refl) ∙ so_far

pub stops : {S A : Type 0} (e : ReadError) (r : S → Position → Result (A × Position) ℕ) (next : S → A → S) (front : List A) (m n : ℕ) (s : S) (p : Position) (total : Result (List A × Position) ℕ) → m ≡ suc n → Fails e (r s p)
    → with_front front (many_of r next m s p) ≡ total → Fails e total
stops errors.Memory r next front m n s p total is h so_far = tt
stops (errors.BadLine k) r next front m n s p total is h so_far = sym so_far ∙ rw (is, h) refl

pub is_done : {S A : Type 0} (r : S → Position → Result (A × Position) ℕ) (next : S → A → S) (front : List A) (m : ℕ) (s : S) (p : Position) (total : Result (List A × Position) ℕ) → m ≡ 0 → with_front front (many_of r next m s p) ≡ total → total ≡ Ok (front, p)
is_done {A = A} r next front m s p total is so_far = sym so_far ∙ rw is (ap (λ (vs : List A). list_of vs p) (append-nil front))
