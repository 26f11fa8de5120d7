-- The lines of formulas and logs as they are written.
use Rattle.std.specs.Prelude.{ℕ, ◌<◌, List, [], ◌∷◌, ◌++◌, length, map, codes}
use Rattle.std.specs.List.{AllByRecursion, flat_map}
use Rattle.std.specs.Fmt.{decimal}
use Rattle.clause_arena.specs.Clauses.{Clause}
use Rattle.proof_check.specs.Lines.{Line}
use Rattle.text_rows.specs.Words.{spaced}
use Rattle.dimacs_text.specs.Logs.{ended, lit_word, id_after, LitsWithin}
use Rattle.dimacs_text.specs.Formulas.{clause_words, header_words}

-- each word with a blank behind it
abbrev pub blanked : List (List ℕ) → List ℕ
blanked words = flat_map (λ w. w ++ 32 ∷ []) words

-- a comment, the `p` line, and a line for each clause
abbrev pub formula_lines : List ℕ → ℕ → List Clause → List (List ℕ)
formula_lines comment variables clauses = (codes "c " ++ comment) ∷ spaced (header_words variables (length clauses)) ∷ map (λ c. spaced (clause_words c)) clauses

-- the words of a line, where the last addition written had this id
abbrev pub written_words : ℕ → Line → List (List ℕ)
written_words last (Line.Add id lits hints) = decimal id ∷ (ended (map lit_word lits) ++ ended (map decimal hints))
written_words last (Line.Del ids) = decimal last ∷ codes "d" ∷ ended (map decimal ids)

-- a line for each line of a log
abbrev pub written_lines : ℕ → List Line → List (List ℕ)
written_lines last [] = []
written_lines last (l ∷ ls) = spaced (written_words last l) ∷ written_lines (id_after last l) ls

-- before the first addition a deletion has the id 1
abbrev pub log_lines : List Line → List (List ℕ)
log_lines lines = written_lines 1 lines

-- its numbers are words of 32 bits
abbrev pub LineFits : Line → Type 0
LineFits (Line.Add id lits hints) = (id < 4294967296) × AllByRecursion (λ n. n < 4294967296) hints
LineFits (Line.Del ids) = AllByRecursion (λ n. n < 4294967296) ids

-- the variables of its literals are from 1 to this one
abbrev pub line_within : ℕ → Line → Type 0
line_within variables (Line.Add id lits hints) = LitsWithin variables lits
line_within variables (Line.Del ids) = Unit {0}

-- those of all lines are
abbrev pub LinesWithin : ℕ → List Line → Type 0
LinesWithin variables lines = AllByRecursion (line_within variables) lines
