use Rattle.std.proofs.Common.{◌∙◌, ap, sym, set, get_or}
use Rattle.std.proofs.lemmas.List.Edits.{map_over_more}
use Rattle.scenario_check.specs.Rows.{joined_row}
use Rattle.scenario_check.proofs.RowLemmas.{joined-has, joined-lacks}
use Rattle.scenario_check.proofs.rows.join_through.Goals as goal
use Rattle.scenario_check.proofs.rows.join_through.Goals.{then-contains, else-contains}

pub loop-row-preserved : goal.loop-row-preserved
loop-row-preserved c =
    let f = joined_row c.args.k.0 c.index-rows-k.result in
    let row = get_or c.loop-row.rows c.loop-row.row-index c.row-item.result in
    let l = c.loop-row-test.true in
    let step = map_over_more f c.args.rows.now c.loop-row.rows c.loop-row.row-index row l c.loop-row.invariant (ap (λ d. get_or c.loop-row.rows c.loop-row.row-index d) c.row-item.is) in
    elim c.if-contains.branch [
      | then-contains w ↦ w.rows-is ∙ ap (set c.loop-row.rows c.loop-row.row-index) (w.union.ensures ∙ sym (joined-has _ _ _ (sym c.contains.ensures ∙ w.if-contains.true))) ∙ step
      | else-contains w ↦ w.rows-is ∙ ap (set c.loop-row.rows c.loop-row.row-index) (sym (joined-lacks _ _ _ (sym c.contains.ensures ∙ w.if-contains.false))) ∙ step
    ]
