use Rattle.std.proofs.Common.{sym}
use Rattle.std.proofs.lemmas.Option.{get_or_from_slice_get, slice_get_within}
use Rattle.pg_normal.proofs.MemberLemmas.{note_one}
use Rattle.pg_normal.proofs.appearance.Appearance.note_all.Goals as goal

pub places-preserved : goal.places-preserved
places-preserved c =
    note_one c.args.more.now c.places.i c.get.result c.places.self c.note.new.self _
    (slice_get_within c.args.more.now c.places.i c.get.result c.get.ensures)
    (sym (get_or_from_slice_get c.args.more.now c.places.i c.get.result c.get.result c.get.ensures))
    c.in_ok-note.ensures c.places.invariant
