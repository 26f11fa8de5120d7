use Rattle.std.proofs.Common.{◌≡◌, ◌-◌, ◌+◌, suc, arith, false, length, slice_index_or}
use Rattle.std.proofs.lemmas.Result.{err_from_is_err_and}
use Rattle.line_rows.proofs.Loops.{goes_on, stops}
use Rattle.module_reader.specs.Rows.{arc_at}
use Rattle.module_reader.proofs.rows.arcs_from_rows.Goals as goal

pub returns-in_err-wire : goal.returns-in_err-wire
returns-in_err-wire c =
    let p = err_from_is_err_and c.from_residual.result c.from_residual.ensures.1 in
    let d = c.args.declared.now in
    let m : length d - c.loop-v.v ≡ suc (length d - (c.loop-v.v + 1)) = omega (arith, c.loop-v-test.true) in
    rw (p.1, p.2) (stops c.in_err-wire.field-0.0 (λ v. arc_at c.args.inputs c.args.gates (slice_index_or d v false) c.args.u v) (λ v _. v + 1) c.loop-v.wires.items (length d - c.loop-v.v) (length d - (c.loop-v.v + 1)) c.loop-v.v c.loop-v.cursor _ m c.in_err-wire.ensures c.loop-v.invariant)

pub loop-v-preserved : goal.loop-v-preserved
loop-v-preserved c =
    let d = c.args.declared.now in
    let m : length d - c.loop-v.v ≡ suc (length d - (c.loop-v.v + 1)) = omega (arith, c.loop-v-test.true) in
    rw c.in_ok-push.ensures.items (goes_on (λ v. arc_at c.args.inputs c.args.gates (slice_index_or d v false) c.args.u v) (λ v _. v + 1) c.loop-v.wires.items (length d - c.loop-v.v) (length d - (c.loop-v.v + 1)) c.loop-v.v c.loop-v.cursor _ _ m c.in_ok-wire.ensures c.loop-v.invariant)
