use Rattle.std.proofs.Common.{◌≡◌, ◌-◌, ◌+◌, suc, arith, length}
use Rattle.std.proofs.lemmas.Result.{err_from_is_err_and}
use Rattle.netlist_verilog.specs.Wires.{name_of}
use Rattle.line_rows.specs.Reading.{row}
use Rattle.line_rows.proofs.Loops.{goes_on, stops}
use Rattle.module_reader.specs.Reading.{condition_in}
use Rattle.module_reader.proofs.rows.conditions_rows.Goals as goal

pub returns-in_err-condition : goal.returns-in_err-condition
returns-in_err-condition c =
    let p = err_from_is_err_and c.from_residual.result c.from_residual.ensures.1 in
    let names = c.args.names.now in
    let m : length names - c.loop-index.index ≡ suc (length names - (c.loop-index.index + 1)) = omega arith in
    rw (p.1, p.2) (stops c.in_err-condition.field-0.0 (λ v. row (condition_in c.args.inputs c.args.gates (name_of names v))) (λ v _. v + 1) c.loop-index.conditions.items (length names - c.loop-index.index) (length names - (c.loop-index.index + 1)) c.loop-index.index c.loop-index.cursor _ m c.in_err-condition.ensures c.loop-index.invariant)

pub loop-index-preserved : goal.loop-index-preserved
loop-index-preserved c =
    let names = c.args.names.now in
    let m : length names - c.loop-index.index ≡ suc (length names - (c.loop-index.index + 1)) = omega arith in
    rw c.in_ok-push.ensures.items (goes_on (λ v. row (condition_in c.args.inputs c.args.gates (name_of names v))) (λ v _. v + 1) c.loop-index.conditions.items (length names - c.loop-index.index) (length names - (c.loop-index.index + 1)) c.loop-index.index c.loop-index.cursor _ _ m c.in_ok-condition.ensures c.loop-index.invariant)
