use Rattle.std.proofs.Common.{◌≡◌, ℕ, ◌<◌, ◌-◌, ◌+◌, suc, arith, sym, ap, ◌∙◌, [], ◌∷◌, ◌++◌, length, length-append, List}
use Rattle.cpog_defs.specs.declared.types.Gate.{Gate}
use Rattle.std.proofs.lemmas.Result.{err_from_is_err_and}
use Rattle.line_rows.specs.Reading.{row}
use Rattle.line_rows.proofs.Loops.{goes_on, stops}
use Rattle.report_reader.specs.Gates.{gate_in}
use Rattle.report_reader.proofs.GateLaws.{gate_exact, row_spells}
use Rattle.report_reader.proofs.gates.gates_of.Goals as goal

pub push-requires-clause-lower : goal.push-requires-clause-lower
push-requires-clause-lower c =
    let over = row_spells (gate_in c.args.inputs c.loop-index.index) (gate_exact c.args.inputs c.loop-index.index (omega (arith, c.requires.small, c.requires.few, c.loop-index-test.true))) c.loop-index.cursor (c.in_ok-gate.gate, c.gate_row.new.cursor) c.in_ok-gate.ensures in
    over.lower

pub push-requires-clause-earlier : goal.push-requires-clause-earlier
push-requires-clause-earlier c =
    let over = row_spells (gate_in c.args.inputs c.loop-index.index) (gate_exact c.args.inputs c.loop-index.index (omega (arith, c.requires.small, c.requires.few, c.loop-index-test.true))) c.loop-index.cursor (c.in_ok-gate.gate, c.gate_row.new.cursor) c.in_ok-gate.ensures in
    omega (arith, over.earlier, c.loop-index.invariant.1, c.loop-index.invariant.2)

pub push-requires-clause-table : goal.push-requires-clause-table
push-requires-clause-table c =
    let over = row_spells (gate_in c.args.inputs c.loop-index.index) (gate_exact c.args.inputs c.loop-index.index (omega (arith, c.requires.small, c.requires.few, c.loop-index-test.true))) c.loop-index.cursor (c.in_ok-gate.gate, c.gate_row.new.cursor) c.in_ok-gate.ensures in
    over.table

pub loop-index-preserved : goal.loop-index-preserved
loop-index-preserved c =
    let m : c.args.count - c.loop-index.index ≡ suc (c.args.count - (c.loop-index.index + 1)) = omega (arith, c.loop-index-test.true) in
    rw c.in-Ok.ensures.gates (
      goes_on (λ g. row (gate_in c.args.inputs g)) (λ g _. g + 1) c.loop-index.gates.gates (c.args.count - c.loop-index.index) (c.args.count - (c.loop-index.index + 1)) c.loop-index.index c.loop-index.cursor _ _ m c.in_ok-gate.ensures c.loop-index.invariant.0,
      c.loop-index.invariant.1,
      length-append c.loop-index.gates.gates (c.in_ok-gate.gate ∷ []) ∙ ap (λ (n : ℕ). n + 1) c.loop-index.invariant.2,
    )
