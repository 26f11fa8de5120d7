use Rattle.std.proofs.Common.{◌≡◌, drop}
use Rattle.pg_normal.specs.Appearing.{with_numbers}
use Rattle.pg_normal.proofs.appearance.Appearance.note_all.Given as goal

abbrev pub invariant-places : goal.invariant-places
invariant-places l = with_numbers l.self (drop l.i l.more) ≡ with_numbers l.fn.self l.more
