-- What is proved of texts with free spacing.
use Rattle.std.specs.Prelude.{◌≡◌, ℕ, List}
use Rattle.std.specs.List.{AllByRecursion}
use Rattle.line_text.specs.Lines.{text_of}
use Rattle.text_rows.specs.Words.{tokens, spaced, IsWord}
use Rattle.text_rows.specs.Lines.{free_lines, IsUnbroken}
use Rattle.text_rows.specs.FirstBad.{IsFirstBad}

-- lines without line feeds and carriage returns are those of their text
abbrev pub LinesAreRead : Type 0
LinesAreRead = (lines : List (List ℕ)) → AllByRecursion IsUnbroken lines → free_lines (text_of lines) ≡ lines

-- words are those of the line that has single blanks between them
abbrev pub WordsAreRead : Type 0
WordsAreRead = (words : List (List ℕ)) → AllByRecursion IsWord words → tokens (spaced words) ≡ words

-- lines that are a text have no bad line, and others have one first bad line at most
abbrev pub BadLinesAreTold : (List (List ℕ) → Type 0) → Type 0
BadLinesAreTold IsText = ((lines : List (List ℕ)) (j : ℕ) → IsFirstBad IsText lines j → IsText lines → ⊥) × ((lines : List (List ℕ)) (j k : ℕ) → IsFirstBad IsText lines j → IsFirstBad IsText lines k → j ≡ k)
