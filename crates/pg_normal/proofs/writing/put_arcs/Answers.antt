use Rattle.std.specs.Prelude.{codes, refl}
use Rattle.std.proofs.Common.{get_or}
use Rattle.pg_normal.specs.Writing.{arc_terms_from}
use Rattle.pg_normal.proofs.WritingLemmas.{follow_more}
use Rattle.pg_normal.proofs.writing.put_arcs.Goals as goal

pub firsts-preserved : goal.firsts-preserved
firsts-preserved c =
    follow_more (arc_terms_from c.args.form.now c.args.names.now c.args.params.now c.args.vertices.now)
    (codes " + ") c.args.vertices.now c.firsts.u-index (get_or c.args.vertices.now c.firsts.u-index 0) 0
    c.args.out.now.items c.firsts.out.items c.put_arcs_from.new.out.items c.firsts-test.true refl c.firsts.invariant c.in_ok-put_arcs_from.ensures
