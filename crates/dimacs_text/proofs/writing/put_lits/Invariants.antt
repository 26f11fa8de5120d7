use Rattle.std.proofs.Common.{◌≡◌, ◌++◌, string_bytes, map, take}
use Rattle.dimacs_text.specs.Logs.{lit_word, LitsWithin}
use Rattle.dimacs_text.specs.Writing.{blanked}
use Rattle.dimacs_text.proofs.writing.put_lits.Given as goal

abbrev pub invariant-lits : goal.invariant-lits
invariant-lits l = record {
  text : string_bytes l.out ≡ string_bytes l.initial.out ++ blanked (map lit_word (take l.i l.lits));
  within : LitsWithin 2147483647 (take l.i l.lits);
}
