use Rattle.std.proofs.Common.{◌≡◌, ℕ, ◌≤◌, ◌-◌, ◌+◌, suc, arith, [], ◌∷◌, Bool, List, length, map, ap, sym, ◌∙◌, subst}
use Rattle.std.proofs.lemmas.Result.{err_from_is_err_and}
use Rattle.std.proofs.lemmas.List.{map-append}
use Rattle.line_rows.specs.Reading.{Fails}
use Rattle.line_rows.proofs.Loops.{goes_on, stops}
use Rattle.module_reader.specs.Rows.{arcs_from_at}
use Rattle.module_reader.specs.Modules.{is_declared}
use Rattle.module_reader.proofs.LoopLaws.{row_same}
use Rattle.module_reader.proofs.rows.arcs_rows.Goals as goal

pub arcs_from_rows-requires-clause-few : goal.arcs_from_rows-requires-clause-few
arcs_from_rows-requires-clause-few c =
    let rows : List (List Bool) = map (λ row. row.items) c.args.arcs.now in
    subst (λ (x : List Bool). length x ≤ 128) (sym c.row_at.ensures) (omega (arith, c.requires.square c.loop-u.u c.loop-u-test.true, c.requires.few))

pub returns-in_err-row : goal.returns-in_err-row
returns-in_err-row c =
    let p = err_from_is_err_and c.from_residual.result c.from_residual.ensures.1 in
    let rows : List (List Bool) = map (λ row. row.items) c.args.arcs.now in
    let count : ℕ = length c.args.arcs.now in
    let m : count - c.loop-u.u ≡ suc (count - (c.loop-u.u + 1)) = omega (arith, c.loop-u-test.true) in
    let same = row_same c.args.inputs c.args.gates count c.loop-u.u rows c.row_at.result.now c.loop-u.cursor c.row_at.ensures (c.requires.square c.loop-u.u c.loop-u-test.true) in
    rw (p.1, p.2) (stops c.in_err-row.field-0.0 (λ u. arcs_from_at c.args.inputs c.args.gates (is_declared rows) count u) (λ u _. u + 1) (map (λ row. row.items) c.loop-u.rows.items) (count - c.loop-u.u) (count - (c.loop-u.u + 1)) c.loop-u.u c.loop-u.cursor _ m (subst (λ x. Fails c.in_err-row.field-0.0 x) same c.in_err-row.ensures) c.loop-u.invariant)

pub loop-u-preserved : goal.loop-u-preserved
loop-u-preserved c =
    let rows : List (List Bool) = map (λ row. row.items) c.args.arcs.now in
    let count : ℕ = length c.args.arcs.now in
    let m : count - c.loop-u.u ≡ suc (count - (c.loop-u.u + 1)) = omega (arith, c.loop-u-test.true) in
    let same = row_same c.args.inputs c.args.gates count c.loop-u.u rows c.row_at.result.now c.loop-u.cursor c.row_at.ensures (c.requires.square c.loop-u.u c.loop-u-test.true) in
    let pushed = ap (map (λ row. row.items)) c.in_ok-push.ensures.items ∙ map-append (λ row. row.items) c.loop-u.rows.items (c.in_ok-row.row ∷ []) in
    rw pushed (goes_on (λ u. arcs_from_at c.args.inputs c.args.gates (is_declared rows) count u) (λ u _. u + 1) (map (λ row. row.items) c.loop-u.rows.items) (count - c.loop-u.u) (count - (c.loop-u.u + 1)) c.loop-u.u c.loop-u.cursor _ _ m (sym same ∙ c.in_ok-row.ensures) c.loop-u.invariant)
