use Rattle.std.specs.Prelude.{codes, refl}
use Rattle.std.proofs.Common.{get_or}
use Rattle.pg_normal.specs.Writing.{arc_terms}
use Rattle.pg_normal.proofs.WritingLemmas.{follow_more}
use Rattle.pg_normal.proofs.writing.put_arcs_from.Goals as goal

pub seconds-preserved : goal.seconds-preserved
seconds-preserved c =
    follow_more (arc_terms c.args.form.now c.args.names.now c.args.params.now c.args.u) (codes " + ") c.args.vertices.now c.seconds.v-index (get_or c.args.vertices.now c.seconds.v-index 0) 0
    c.args.out.now.items c.seconds.out.items c.put_pair.new.out.items c.seconds-test.true refl c.seconds.invariant c.in_ok-put_pair.ensures
