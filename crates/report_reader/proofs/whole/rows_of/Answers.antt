use Rattle.std.proofs.Common.{◌≡◌, ℕ}
use Rattle.std.proofs.lemmas.Result.{err_from_is_err_and}
use Rattle.report_reader.proofs.FinalLaws.{netlist_fails, design_fails}
use Rattle.report_reader.proofs.whole.rows_of.Goals as goal

pub returns-in_err-exactly : goal.returns-in_err-exactly
returns-in_err-exactly c =
    let p = err_from_is_err_and c.from_residual-in_err-exactly.result c.from_residual-in_err-exactly.ensures.1 in
    rw (p.1, p.2) (netlist_fails c.in_err-exactly.field-0.0 _ _ _ _ _ _ _ _ _ _ _ _ _ _ c.in_ok-head.ensures.value c.in_ok-scenarios.ensures.value c.in_ok-gates.ensures c.in_ok-ops.ensures.value c.in_ok-arcs.ensures.value c.in_ok-shown.ensures c.in_err-exactly.ensures)

pub returns-in_err-design : goal.returns-in_err-design
returns-in_err-design c =
    let p = err_from_is_err_and c.from_residual-in_err-design.result c.from_residual-in_err-design.ensures.1 in
    rw (p.1, p.2) (design_fails c.in_err-design.field-0.0 _ _ _ _ _ _ _ _ _ _ _ _ _ _ _ _ c.in_ok-head.ensures.value c.in_ok-scenarios.ensures.value c.in_ok-gates.ensures c.in_ok-ops.ensures.value c.in_ok-arcs.ensures.value c.in_ok-shown.ensures c.in_ok-exactly.ensures c.in_err-design.ensures)
