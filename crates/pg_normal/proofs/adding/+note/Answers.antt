use Rattle.std.proofs.Common.{ap, ◌∙◌, sym, subst}
use Rattle.std.specs.Prelude.{OnOk, ◌≡◌}
use Rattle.std.specs.List.{flat_map}
use Rattle.pg_normal.specs.Appearing.{appearing, with_numbers}
use Rattle.pg_normal.specs.Known.{orders_known}
use Rattle.pg_normal.proofs.MemberLemmas.{appearing-When, appearing-row}
use Rattle.pg_normal.proofs.adding.+note.Goals as goal

pub note-returns-in-When : goal.note-returns-in-When
note-returns-in-When t c = subst (λ vs. OnOk c.note-in-When.result (c.note-in-When.new.order ≡ with_numbers c.args.order.now vs))
    (ap (appearing (orders_known c.args.known.now)) c.get.ensures
    ∙ sym (appearing-When (orders_known c.args.known.now) c.in-When.field-0 c.in-When.inner)
    ∙ ap (appearing (orders_known c.args.known.now)) (sym c.in-When.is))
    c.note-in-When.ensures

pub note-returns-in-Overlay : goal.note-returns-in-Overlay
note-returns-in-Overlay t c = subst (λ vs. OnOk c.note_each.result (c.note_each.new.order ≡ with_numbers c.args.order.now vs))
    (ap (flat_map (appearing (orders_known c.args.known.now))) c.members.ensures ∙ appearing-row (orders_known c.args.known.now) c.args.expr.now c.in-Overlay.list.members c.in-Overlay.is)
    c.note_each.ensures
