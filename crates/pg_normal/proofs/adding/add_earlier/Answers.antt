use Rattle.std.specs.Prelude.{Some}
use Rattle.std.proofs.Common.{ap, ◌∙◌, sym, get_or, ◌&&◌, ◌||◌}
use Rattle.std.proofs.lemmas.Option.{slice_get-get_or}
use Rattle.cpog_defs.specs.Codes.{bit}
use Rattle.pg_normal.specs.Known.{entry}
use Rattle.pg_normal.proofs.UnitedLemmas.{earlier_added, arcs_there}
use Rattle.pg_normal.proofs.adding.add_earlier.Goals as goal

pub returns-then-left-ne0-clause-graph : goal.returns-then-left-ne0-clause-graph
returns-then-left-ne0-clause-graph c n h =
    earlier_added c.args.known.now c.args.place c.index-as_slice-place.result
    (slice_get-get_or c.args.known.now.tables c.args.place c.index-as_slice-place.result c.requires.place
    ∙ ap Some (ap (λ ts. get_or ts c.args.place c.index-as_slice-place.result) (sym c.as_slice.ensures)
    ∙ sym c.index-as_slice-place.is))
    c.args.guard.0 c.args.vertices.now c.unite.new.self c.args.arcs.now c.unite_rows.new.into n (λ v. c.unite.ensures.each v n)
    (λ u v. c.unite_rows.ensures.each u v n ∙ ap (λ rows. bit (entry c.args.arcs.now u v) n || (bit c.args.guard.0 n && bit (entry rows u v) n)) c.as_slice-then-left-ne0.ensures)

pub returns-else-left-ne0-clause-graph : goal.returns-else-left-ne0-clause-graph
returns-else-left-ne0-clause-graph c n h =
    let at = slice_get-get_or c.args.known.now.tables c.args.place c.index-as_slice-place.result c.requires.place
    ∙ ap Some (ap (λ ts. get_or ts c.args.place c.index-as_slice-place.result) (sym c.as_slice.ensures)
    ∙ sym c.index-as_slice-place.is) in
    earlier_added c.args.known.now c.args.place c.index-as_slice-place.result at
    c.args.guard.0 c.args.vertices.now c.unite.new.self c.args.arcs.now c.args.arcs.now n (λ v. c.unite.ensures.each v n)
    (λ u v. arcs_there c.args.known.now c.args.place c.index-as_slice-place.result at c.args.guard.0 c.args.united.now c.args.arcs.now c.requires.rows.there c.get.result c.and-left.result.0
    c.if-left-ne0.false c.get.ensures (λ m k. c.and-left.ensures m k ∙ ap (λ b. bit c.args.guard.0 m && b) (c.not.ensures m k)) u v n h)
