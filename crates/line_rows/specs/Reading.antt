-- A text is read row by row: each row takes one line, whole. The fault is the number of the first line that isn't its row.
use Rattle.std.specs.Prelude.{◌≡◌, ℕ, ◌+◌, zero, suc, List, [], ◌∷◌, ◌++◌, Option, Some, None, Result, Ok, Err, if◌then◌else◌}
use Rattle.std.specs.Str.{bytes_eq}
use Rattle.line_rows.specs.declared.fault.ReadError.{ReadError}
use Rattle.line_rows.specs.declared.fault.ReadError.TheVariants as errors
use Rattle.line_rows.specs.Position.{Position}

-- what comes next, of what was read; a fault stays
infixl 10 ◌>>=◌
abbrev pub ◌>>=◌ : {A B : Type 0} → Result A ℕ → (A → Result B ℕ) → Result B ℕ
(Ok x) >>= f = f x
(Err e) >>= f = Err e

-- What a function returned, seen by view, is what reading gives, unless memory ran out.
abbrev pub Fails : {Y : Type 0} → ReadError → Result Y ℕ → Type 0
Fails errors.Memory read = Unit {0}
Fails (errors.BadLine n) read = read ≡ Err n

abbrev pub Gives : {X Y : Type 0} → (X → Y) → Result X ReadError → Result Y ℕ → Type 0
Gives view (Ok x) read = read ≡ Ok (view x)
Gives view (Err e) read = Fails e read

abbrev pub line_among : List (List ℕ) → ℕ → Result (List ℕ × Position) ℕ
line_among [] n = Err (n + 1)
line_among (l ∷ ls) n = Ok (l, record { lines = ls; number = n + 1 })

-- a line that isn't its row is the fault
abbrev pub read_or_fault : {A : Type 0} → Option A → Position → Result (A × Position) ℕ
read_or_fault None p = Err p.number
read_or_fault (Some x) p = Ok (x, p)

-- the line that comes next, and the place after it
abbrev pub line_at : Position → Result (List ℕ × Position) ℕ
line_at p = line_among p.lines p.number

-- the value that the line in turn spells
abbrev pub row : {A : Type 0} → (List ℕ → Option A) → Position → Result (A × Position) ℕ
row read p = line_at p >>= λ l. read_or_fault (read l.0) l.1

abbrev pub exactly : List ℕ → List ℕ → Option (Unit {0})
exactly text line = if bytes_eq line text then Some tt else None

-- some rows, and then others that may depend on what they say
abbrev pub then_of : {A B : Type 0} → (Position → Result (A × Position) ℕ) → (A → Position → Result (B × Position) ℕ) → Position → Result ((A × B) × Position) ℕ
then_of read more p = read p >>= λ x. more x.0 x.1 >>= λ y. Ok ((x.0, y.0), y.1)

-- the same rows, for the value that is made of theirs
abbrev pub view_of : {A B : Type 0} → (A → B) → (Position → Result (A × Position) ℕ) → Position → Result (B × Position) ℕ
view_of make read p = read p >>= λ x. Ok (make x.0, x.1)

-- a row for each of the states, which the values before fix
abbrev pub many_of : {S A : Type 0} → (S → Position → Result (A × Position) ℕ) → (S → A → S) → ℕ → S → Position → Result (List A × Position) ℕ
many_of read next zero s p = Ok ([], p)
many_of read next (suc n) s p = view_of (λ x. x.0 ∷ x.1) (then_of (read s) (λ x. many_of read next n (next s x))) p

-- and the lines of such rows
abbrev pub lines_many : {S A : Type 0} → (S → A → List (List ℕ)) → (S → A → S) → S → List A → List (List ℕ)
lines_many t next s [] = []
lines_many t next s (v ∷ vs) = t s v ++ lines_many t next (next s v) vs

abbrev pub none_left : {A : Type 0} → A → List (List ℕ) → ℕ → Result A ℕ
none_left x [] n = Ok x
none_left x (l ∷ ls) n = Err (n + 1)

-- the text ends where its rows are through
abbrev pub ended : {A : Type 0} → A × Position → Result A ℕ
ended x = none_left x.0 x.1.lines x.1.number

abbrev pub whole : {A : Type 0} → (Position → Result (A × Position) ℕ) → List (List ℕ) → Result A ℕ
whole read lines = read (record { lines = lines; number = 0 }) >>= ended
