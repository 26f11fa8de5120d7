-- How a line of a log is read: words with one blank between them.
use Rattle.std.specs.Prelude.{ℕ, ◌+◌, Bool, true, false, nat_lt, List, [], ◌∷◌, Option, Some, None, codes, if◌then◌else◌}
use Rattle.std.specs.Fmt.{decimal}
use Rattle.std.specs.Str.{bytes_eq}
use Rattle.clause_arena.specs.Clauses.{Lit}
use Rattle.text_rows.specs.Words.{tokens, spaced}
use Rattle.line_rows.specs.Words.{◌>>=?◌, number_in, behind_of, made_of}
use Rattle.proof_check.specs.Lines.{Line}

-- the first of two answers that is one
abbrev pub first_of : {A : Type 0} → Option A → Option A → Option A
first_of (Some x) other = Some x
first_of None other = other

-- a number, where it is above 0
abbrev pub if_positive : ℕ → Option ℕ
if_positive n = if nat_lt 0 n then Some n else None

-- an id or a hint: a number from 1 to 4294967295
abbrev pub id_in : List ℕ → Option ℕ
id_in = made_of if_positive (number_in 4294967296)

-- a variable, from 1 to so many
abbrev pub variable_in : ℕ → List ℕ → Option ℕ
variable_in variables = made_of if_positive (number_in (variables + 1))

-- the literal of a variable
abbrev pub lit_of : Bool → ℕ → Option Lit
lit_of negated n = Some (record { var = n; negated = negated })

-- a variable, behind a minus where it is negated
abbrev pub lit_in : ℕ → List ℕ → Option Lit
lit_in variables word = first_of (made_of (lit_of false) (variable_in variables) word) (behind_of (codes "-") (made_of (lit_of true) (variable_in variables)) word)

-- what is read of the words up to `0`, and the words behind it
abbrev pub items_in : {X : Type 0} → (List ℕ → Option X) → List (List ℕ) → Option (List X × List (List ℕ))
items_in read [] = None
items_in read (word ∷ words) =
    if bytes_eq word (decimal 0) then Some ([], words) else read word >>=? λ x. items_in read words >>=? λ xs. Some (x ∷ xs.0, xs.1)

-- where no word is left
abbrev pub at_end : {X Y : Type 0} → (X → Y) → X × List (List ℕ) → Option Y
at_end make (x, []) = Some (make x)
at_end make (x, word ∷ words) = None

-- the letter `d`, and the ids of a deletion
abbrev pub deletion_in : List (List ℕ) → Option Line
deletion_in [] = None
deletion_in (word ∷ words) = if bytes_eq word (codes "d") then items_in id_in words >>=? at_end Line.Del else None

-- the literals and the hints of an addition, whose id is above the last
abbrev pub addition_in : ℕ → ℕ → ℕ → List (List ℕ) → Option Line
addition_in variables last id words =
    if nat_lt last id then (items_in (lit_in variables) words >>=? λ lits. items_in id_in lits.1 >>=? at_end (Line.Add id lits.0)) else None

-- an id, and behind it a deletion or an addition
abbrev pub line_of_words : ℕ → ℕ → List (List ℕ) → Option Line
line_of_words variables last [] = None
line_of_words variables last (word ∷ words) = id_in word >>=? λ id. first_of (deletion_in words) (addition_in variables last id words)

-- the line of a log, behind additions of which the last has this id
unfoldable pub log_line_in : ℕ → ℕ → List ℕ → Option Line
log_line_in variables last line = if bytes_eq line (spaced (tokens line)) then line_of_words variables last (tokens line) else None
