use Rattle.std.proofs.Common.{◌≡◌, ◌++◌, string_bytes, take}
use Rattle.std.specs.List.{AllByRecursion}
use Rattle.line_text.specs.Lines.{text_of}
use Rattle.proof_check.specs.Lines.{last_id}
use Rattle.dimacs_text.specs.Writing.{written_lines, LineFits, LinesWithin}
use Rattle.dimacs_text.proofs.writing.put_lines.Given as goal

abbrev pub invariant-lines : goal.invariant-lines
invariant-lines l = record {
  text : string_bytes l.out ≡ string_bytes l.initial.out ++ text_of (written_lines 1 (take l.i l.log.lines));
  last : l.last ≡ last_id 1 (take l.i l.log.lines);
  fit : AllByRecursion LineFits (take l.i l.log.lines);
  within : LinesWithin 2147483647 (take l.i l.log.lines);
}
