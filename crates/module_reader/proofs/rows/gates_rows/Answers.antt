use Rattle.std.proofs.Common.{◌≡◌, ◌-◌, ◌+◌, suc, arith, [], ◌∷◌, List, length, length-append, ap, ◌∙◌}
use Rattle.cpog_defs.specs.declared.types.Gate.{Gate}
use Rattle.cpog_defs.specs.Gates.{GateList}
use Rattle.line_rows.specs.Reading.{row}
use Rattle.line_rows.proofs.Loops.{goes_on}
use Rattle.module_reader.specs.Gates.{gate_in}
use Rattle.module_reader.proofs.rows.gates_rows.Goals as goal

pub loop-index-preserved : goal.loop-index-preserved
loop-index-preserved c =
    let m : c.args.count - c.loop-index.index ≡ suc (c.args.count - (c.loop-index.index + 1)) = omega (arith, c.loop-index-test.true) in
    let made = c.in-Ok.ensures.gates in
    let gates = ap (λ (l : GateList). l.gates) made in (
      ap (λ (l : GateList). l.inputs) made ∙ c.loop-index.invariant.0,
      ap (λ (xs : List Gate). length xs) gates ∙ omega (arith, length-append c.loop-index.gates.gates (c.in_ok-gate.gate ∷ []), c.loop-index.invariant.1),
      rw gates (goes_on (λ g. row (gate_in c.args.inputs g)) (λ g _. g + 1) c.loop-index.gates.gates (c.args.count - c.loop-index.index) (c.args.count - (c.loop-index.index + 1)) c.loop-index.index c.loop-index.cursor _ _ m c.in_ok-gate.ensures.read c.loop-index.invariant.2),
    )
