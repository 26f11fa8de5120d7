use Rattle.std.proofs.Common.{◌∙◌, ap, length}
use Rattle.std.proofs.lemmas.List.{length-replicate}
use Rattle.scenario_check.proofs.RowLemmas.{written}
use Rattle.scenario_check.proofs.rows.walks.Goals as goal

pub returns-clause-length : goal.returns-clause-length
returns-clause-length c =
    let rows = c.in_ok-rows.rows in
    ap length (written rows.len rows.items c.fill.new.rows (c.fill.auto.rows ∙ c.deref_mut.ensures.len))
    ∙ c.fill.auto.rows ∙ ap length (c.deref_mut.ensures.value ∙ c.in_ok-rows.ensures) ∙ length-replicate _ _

pub returns-clause-walks : goal.returns-clause-walks
returns-clause-walks c =
    let rows = c.in_ok-rows.rows in
    rw (written rows.len rows.items c.fill.new.rows (c.fill.auto.rows ∙ c.deref_mut.ensures.len)) c.fill.ensures
