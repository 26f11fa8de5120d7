use Rattle.std.proofs.Common.{◌≡◌, ◌++◌, string_bytes, map, take}
use Rattle.std.specs.Fmt.{decimal}
use Rattle.dimacs_text.specs.Writing.{blanked}
use Rattle.dimacs_text.proofs.writing.put_ids.Given as goal

abbrev pub invariant-ids : goal.invariant-ids
invariant-ids l = string_bytes l.out ≡ string_bytes l.initial.out ++ blanked (map decimal (take l.i l.ids))
