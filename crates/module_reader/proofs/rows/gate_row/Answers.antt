use Rattle.std.proofs.Common.{[], arith, sym}
use Rattle.module_reader.proofs.GateLaws.{gate_exact}
use Rattle.module_reader.proofs.rows.gate_row.Goals as goal

pub returns-clause-below : goal.returns-clause-below
returns-clause-below c =
    let h = ((gate_exact c.args.inputs c.args.g [] (omega (arith, c.requires))).takes c.in_ok-line.line.now c.in-Some.gate (sym c.in-Some.ensures)).0 in
    (h.lower, h.earlier, h.table)
