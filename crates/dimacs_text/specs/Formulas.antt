-- The text of a formula.
use Rattle.std.specs.Prelude.{◌≡◌, ℕ, ◌<◌, ◌==◌, List, [], ◌∷◌, length, map, codes, if◌then◌else◌, slice_index}
use Rattle.std.specs.List.{AllByRecursion, flat_map}
use Rattle.std.specs.Fmt.{decimal}
use Rattle.clause_arena.specs.Clauses.{Clause}
use Rattle.text_rows.specs.Words.{tokens}
use Rattle.dimacs_text.specs.Logs.{ended, lit_word, LitsWithin, is_passed, SpellsIf}

-- what a line behind the `p` line adds to the words
abbrev pub body_words : List ℕ → List (List ℕ)
body_words line = if slice_index line 0 == 99 then [] else tokens line

-- the words of a clause: its literals and `0`
abbrev pub clause_words : Clause → List (List ℕ)
clause_words c = ended (map lit_word c)

-- the words of clauses, one after another
abbrev pub clauses_words : List Clause → List (List ℕ)
clauses_words clauses = flat_map clause_words clauses

-- the variables of all literals are from 1 to so many
abbrev pub AreClauses : ℕ → List Clause → Type 0
AreClauses variables clauses = AllByRecursion (LitsWithin variables) clauses

-- the words of the `p` line
abbrev pub header_words : ℕ → ℕ → List (List ℕ)
header_words variables count = codes "p" ∷ codes "cnf" ∷ decimal variables ∷ decimal count ∷ []

-- The lines of a text spell these clauses over so many variables: lines that are passed over, the `p` line, and lines
-- whose words are those of the clauses one after another, wherever the lines end.
abbrev pub SpellsFormula : List (List ℕ) → ℕ → List Clause → Type 0
SpellsFormula [] variables clauses = ⊥
SpellsFormula (l ∷ ls) variables clauses = SpellsIf (is_passed l) (SpellsFormula ls variables clauses)
    ((variables < 10000000000) × (length clauses < 10000000000) × (tokens l ≡ header_words variables (length clauses)) × AreClauses variables clauses × (flat_map body_words ls ≡ clauses_words clauses))
