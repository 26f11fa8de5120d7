-- Rows of one line each, any number of them, up to a line that ends them.
use Rattle.std.specs.Prelude.{◌≡◌, ℕ, ◌+◌, Bool, true, false, List, [], ◌∷◌, Option, Some, None, Result, Ok, Err}
use Rattle.line_rows.specs.Position.{Position}
use Rattle.line_rows.specs.Reading.{◌>>=◌}

-- behind one more value
abbrev pub with_one : {A E : Type 0} → A → (List A × E) × Position → (List A × E) × Position
with_one v x = ((v ∷ x.0.0, x.0.1), x.1)

-- the line in turn, of number n, is one more row, and others follow
abbrev pub row_then : {A E : Type 0} → Option A → ℕ → (A → Result ((List A × E) × Position) ℕ) → Result ((List A × E) × Position) ℕ
row_then None n others = Err n
row_then (Some v) n others = others v >>= λ x. Ok (with_one v x)

-- the line in turn, of number n, is the end
abbrev pub end_then : {A E : Type 0} → Option E → List (List ℕ) → ℕ → Result ((List A × E) × Position) ℕ
end_then None ls n = Err n
end_then (Some e) ls n = Ok (([], e), record { lines = ls; number = n })

-- the one or the other
abbrev pub one_or_end : {X : Type 0} → Bool → X → X → X
one_or_end true one end = one
one_or_end false one end = end

-- rows as long as the next line has the front, and then the line that ends them
abbrev pub lined_among : {S A E : Type 0} → (List ℕ → Bool) → (S → List ℕ → Option A) → (S → A → S) → (List ℕ → Option E) → S → List (List ℕ) → ℕ → Result ((List A × E) × Position) ℕ
lined_among front read next last s [] n = Err (n + 1)
lined_among front read next last s (l ∷ ls) n =
    one_or_end (front l) (row_then (read s l) (n + 1) (λ v. lined_among front read next last (next s v) ls (n + 1))) (end_then (last l) ls (n + 1))

-- the same at a place
abbrev pub lined_of : {S A E : Type 0} → (List ℕ → Bool) → (S → List ℕ → Option A) → (S → A → S) → (List ℕ → Option E) → S → Position → Result ((List A × E) × Position) ℕ
lined_of front read next last s p = lined_among front read next last s p.lines p.number

-- values of one line each, and then the end
abbrev pub SpellsLined : {S A E : Type 0} → (S → A → List ℕ → Type 0) → (S → A → S) → (E → List ℕ → Type 0) → S → List A × E → List (List ℕ) → Type 0
SpellsLined Spells next Ends s ([], e) ls = (l : List ℕ) × Ends e l × (ls ≡ l ∷ [])
SpellsLined Spells next Ends s (v ∷ vs, e) ls = (l : List ℕ) × (rest : List (List ℕ)) × Spells s v l × SpellsLined Spells next Ends (next s v) (vs, e) rest × (ls ≡ l ∷ rest)
