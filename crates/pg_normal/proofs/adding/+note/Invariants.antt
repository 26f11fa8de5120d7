use Rattle.std.proofs.Common.{◌≡◌, drop}
use Rattle.std.specs.List.{flat_map}
use Rattle.pg_normal.specs.Appearing.{appearing, with_numbers}
use Rattle.pg_normal.specs.Known.{orders_known}
use Rattle.pg_normal.proofs.adding.+note.Given as goal

abbrev pub invariant-note_each-members : goal.invariant-note_each-members
invariant-note_each-members l =
    with_numbers l.order (flat_map (appearing (orders_known l.known))
    (drop l.member-index l.members)) ≡ with_numbers l.fn.order (flat_map (appearing (orders_known l.known)) l.members)
