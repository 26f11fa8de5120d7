use Rattle.std.proofs.Common.{◌≡◌, ◌++◌, string_bytes, take}
use Rattle.line_text.specs.Lines.{text_of}
use Rattle.dimacs_text.proofs.WritingLemmas.{clause_lines}
use Rattle.dimacs_text.proofs.writing.formula_text.Given as goal

abbrev pub invariant-clauses : goal.invariant-clauses
invariant-clauses l = string_bytes l.out ≡ string_bytes l.initial.out ++ text_of (clause_lines (take l.id l.clauses.clauses))
