use Rattle.std.proofs.Common.{subst, arith}
use Rattle.pg_normal.specs.Forms.{arc_table}
use Rattle.pg_normal.specs.Changes.{Keeps}
use Rattle.pg_normal.proofs.ListedLemmas.{all_more, all_arcs_keep}
use Rattle.pg_normal.proofs.instances.arcs_change.Goals as goal

pub arcs-preserved : goal.arcs-preserved
arcs-preserved c = all_more (λ a. Keeps (arc_table c.args.form.now a.0 a.1) c.args.k c.args.among.0) c.args.form.now.arcs c.arcs.i c.arc_ends-u.result c.arc_ends-u.ensures
    (subst (λ t. Keeps t c.args.k c.args.among.0) c.arc_table.ensures c.if-changes.ensures) c.arcs.invariant

pub returns : goal.returns
returns c = all_arcs_keep c.args.form.now c.args.k c.args.among.0 c.arcs.i (omega (arith, c.arcs-i-end.ensures.len, c.arcs-test.false)) c.arcs.invariant
