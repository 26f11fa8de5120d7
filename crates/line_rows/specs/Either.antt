-- Two kinds of rows, told by their first line.
use Rattle.std.specs.Prelude.{ℕ, zero, suc, ◌+◌, Bool, true, false, List, [], ◌∷◌, Result, Err}
use Rattle.line_rows.specs.Position.{Position}
use Rattle.line_rows.specs.Reading.{then_of, view_of}

-- the first reader or the second, by a test
abbrev pub fork : {A : Type 0} → Bool → (Position → Result (A × Position) ℕ) → (Position → Result (A × Position) ℕ) → Position → Result (A × Position) ℕ
fork true first second p = first p
fork false first second p = second p

-- the same by the next line, which has to be there
abbrev pub either_among : {A : Type 0} → (List ℕ → Bool) → (Position → Result (A × Position) ℕ) → (Position → Result (A × Position) ℕ) → List (List ℕ) → ℕ → Result (A × Position) ℕ
either_among front first second [] n = Err (n + 1)
either_among front first second (l ∷ ls) n = fork (front l) first second (record { lines = l ∷ ls; number = n })

-- the first kind where the next line has its front, else the second
abbrev pub either_of : {A : Type 0} → (List ℕ → Bool) → (Position → Result (A × Position) ℕ) → (Position → Result (A × Position) ℕ) → Position → Result (A × Position) ℕ
either_of front first second p = either_among front first second p.lines p.number

abbrev pub none_before : {A E : Type 0} → E → List A × E
none_before e = ([], e)

abbrev pub one_before : {A E : Type 0} → A × (List A × E) → List A × E
one_before x = (x.0 ∷ x.1.0, x.1.1)

-- rows as long as the next line has the front, at most so many, and then the row that ends them
abbrev pub until_of : {S A E : Type 0} → (List ℕ → Bool) → (S → Position → Result (A × Position) ℕ) → (S → A → S) → (Position → Result (E × Position) ℕ) → ℕ → S → Position → Result ((List A × E) × Position) ℕ
until_of front read next last zero s = view_of none_before last
until_of front read next last (suc n) s = either_of front (view_of one_before (then_of (read s) (λ a. until_of front read next last n (next s a)))) (view_of none_before last)
