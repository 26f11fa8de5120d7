use Rattle.std.proofs.Common.{◌≡◌, ◌-◌, ◌+◌, suc, arith, Bool, List, length, map}
use Rattle.std.proofs.lemmas.Result.{err_from_is_err_and}
use Rattle.line_rows.specs.Reading.{row}
use Rattle.line_rows.proofs.Loops.{goes_on, stops}
use Rattle.module_reader.specs.Modules.{request_in}
use Rattle.module_reader.proofs.requests.requests_rows.Goals as goal

pub returns-in_err-waits : goal.returns-in_err-waits
returns-in_err-waits c =
    let p = err_from_is_err_and c.from_residual.result c.from_residual.ensures.1 in
    let names = c.args.names.now in
    let rows : List (List Bool) = map (λ row. row.items) c.args.arcs.now in
    let m : length names - c.loop-v.v ≡ suc (length names - (c.loop-v.v + 1)) = omega (arith, c.loop-v-test.true) in
    rw (p.1, p.2) (stops c.in_err-waits.field-0.0 (λ v. row (request_in names rows v)) (λ v _. v + 1) c.loop-v.sets.items (length names - c.loop-v.v) (length names - (c.loop-v.v + 1)) c.loop-v.v c.loop-v.cursor _ m c.in_err-waits.ensures c.loop-v.invariant)

pub loop-v-preserved : goal.loop-v-preserved
loop-v-preserved c =
    let names = c.args.names.now in
    let rows : List (List Bool) = map (λ row. row.items) c.args.arcs.now in
    let m : length names - c.loop-v.v ≡ suc (length names - (c.loop-v.v + 1)) = omega (arith, c.loop-v-test.true) in
    rw c.in_ok-push.ensures.items (goes_on (λ v. row (request_in names rows v)) (λ v _. v + 1) c.loop-v.sets.items (length names - c.loop-v.v) (length names - (c.loop-v.v + 1)) c.loop-v.v c.loop-v.cursor _ _ m c.in_ok-waits.ensures c.loop-v.invariant)
