use Rattle.std.proofs.Common.{◌∙◌, ◌||◌, ap, length}
use Rattle.cpog_base.specs.Rows.{row_has, has_arc}
use Rattle.scenario_check.proofs.RowLemmas.{filled}
use Rattle.scenario_check.proofs.rows.fill.Goals as goal

pub returns : goal.returns
returns c =
    rw c.close.ensures (filled (length c.args.rows.now) c.args.arcs.now c.add_arcs.new.rows
    (λ u v. c.add_arcs.ensures u v ∙ ap (λ r. row_has r u v || has_arc c.args.arcs.now u v) c.requires.none))
