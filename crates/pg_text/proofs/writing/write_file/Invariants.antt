use Rattle.std.specs.Prelude.{◌≡◌, map, take}
use Rattle.line_text.specs.Lines.{text_of}
use Rattle.pg_text.specs.Writing.{statement_text}
use Rattle.pg_text.proofs.writing.write_file.Given as goal

abbrev pub invariant-statements : goal.invariant-statements
invariant-statements l = l.out.items ≡ text_of (map (λ s. statement_text l.file.operations s.statement) (take l.i l.file.statements))
