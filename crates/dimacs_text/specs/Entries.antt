-- What the reader of a log says.
use Rattle.std.specs.Prelude.{ℕ, List}
use Rattle.clause_arena.specs.Clauses.{Clause}
use Rattle.proof_check.specs.Lines.{Line}
use Rattle.dimacs_text.specs.declared.log.Entry.{Entry}
use Rattle.dimacs_text.specs.declared.log.Entry.TheVariants as entries
use Rattle.dimacs_text.specs.declared.line_lits.LineLits.{LineLits}
use Rattle.dimacs_text.specs.Keeping.{HoldsLits}
use Rattle.dimacs_text.specs.Logs.{SpellsLine}

-- a line with these words is the addition or the deletion of these numbers, or none
abbrev pub IsEntry : ℕ → ℕ → List (List ℕ) → LineLits → List ℕ → Entry → Type 0
IsEntry variables last words lits hints (entries.Add id) = (ls : Clause) × HoldsLits lits ls × SpellsLine variables last (Line.Add id ls hints) words
IsEntry variables last words lits hints entries.Del = SpellsLine variables last (Line.Del hints) words
IsEntry variables last words lits hints entries.Bad = (line : Line) → SpellsLine variables last line words → ⊥
