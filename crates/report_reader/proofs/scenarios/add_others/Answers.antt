use Rattle.std.proofs.Common.{◌≡◌, ℕ, ◌-◌, ◌+◌, suc, arith, sym, ap, subst, ◌∙◌, Result}
use Rattle.std.proofs.lemmas.Result.{err_from_is_err_and}
use Rattle.line_rows.specs.Position.{Position}
use Rattle.line_rows.specs.Reading.{Gives, Fails}
use Rattle.report_reader.specs.Columns.{columns_of}
use Rattle.report_reader.specs.Scenarios.{Columns, others_at}
use Rattle.report_reader.proofs.OthersLaws.{others_none, others_end, others_last, others_more, more_fails, count_gives, next_others}
use Rattle.report_reader.proofs.scenarios.add_others.Goals as goal

pub returns-in_err-line : goal.returns-in_err-line
returns-in_err-line c =
    let p = err_from_is_err_and c.from_residual.result c.from_residual.ensures.1 in
    rw (p.1, p.2) (subst (Fails c.in_err-line.field-0.0) c.loop-index.invariant (others_none c.args.bits c.args.names.now c.in_err-line.field-0.0 (columns_of c.loop-index.read) (63 - c.loop-index.index) c.loop-index.cursor c.in_err-line.ensures))

pub returns-then-not-is_label : goal.returns-then-not-is_label
returns-then-not-is_label c =
    let bits = c.args.bits in
    let names = c.args.names.now in
    let cols : Columns = columns_of c.loop-index.read in
    let m : 63 - c.loop-index.index ≡ suc (63 - (c.loop-index.index + 1)) = omega (arith, c.loop-index-test.true) in
    let there = others_end bits names cols (63 - (c.loop-index.index + 1)) c.loop-index.cursor c.line.new.self c.in_ok-line.line.now c.in_ok-line.ensures (sym c.is_label.ensures ∙ c.if-not-is_label.true) in
    let same = sym there ∙ ap (λ (n : ℕ). others_at bits names cols n c.loop-index.cursor) (sym m) ∙ c.loop-index.invariant in
    subst (λ (t : Result ((Columns × ℕ) × Position) ℕ). Gives (λ n. ((cols, n), c.line.new.self)) c.count_from.result t) same (count_gives bits names cols c.line.new.self c.in_ok-line.line.now c.count_from.result c.count_from.ensures)

pub returns-in_err-add_scenario : goal.returns-in_err-add_scenario
returns-in_err-add_scenario c =
    let p = err_from_is_err_and c.from_residual-in_err-add_scenario.result c.from_residual-in_err-add_scenario.ensures.1 in
    let bits = c.args.bits in
    let names = c.args.names.now in
    let cols : Columns = columns_of c.loop-index.read in
    let m : 63 - c.loop-index.index ≡ suc (63 - (c.loop-index.index + 1)) = omega (arith, c.loop-index-test.true) in
    let there = others_more bits names cols (63 - (c.loop-index.index + 1)) c.loop-index.cursor c.line.new.self c.in_ok-line.line.now c.in_ok-line.ensures (sym c.is_label.ensures ∙ c.if-not-is_label.false) in
    let same = sym there ∙ ap (λ (n : ℕ). others_at bits names cols n c.loop-index.cursor) (sym m) ∙ c.loop-index.invariant in
    rw (p.1, p.2) (subst (Fails c.in_err-add_scenario.field-0.0) same (more_fails bits names c.in_err-add_scenario.field-0.0 (63 - (c.loop-index.index + 1)) _ c.in_err-add_scenario.ensures))

pub loop-index-preserved : goal.loop-index-preserved
loop-index-preserved c =
    let bits = c.args.bits in
    let names = c.args.names.now in
    let cols : Columns = columns_of c.loop-index.read in
    let m : 63 - c.loop-index.index ≡ suc (63 - (c.loop-index.index + 1)) = omega (arith, c.loop-index-test.true) in
    let there = others_more bits names cols (63 - (c.loop-index.index + 1)) c.loop-index.cursor c.line.new.self c.in_ok-line.line.now c.in_ok-line.ensures (sym c.is_label.ensures ∙ c.if-not-is_label.false) in
    sym (ap (next_others bits names (63 - (c.loop-index.index + 1))) c.in_ok-add_scenario.ensures) ∙ sym there ∙ ap (λ (n : ℕ). others_at bits names cols n c.loop-index.cursor) (sym m) ∙ c.loop-index.invariant

pub returns-in_err-line-2 : goal.returns-in_err-line-2
returns-in_err-line-2 c =
    let p = err_from_is_err_and c.from_residual-in_err-line-2.result c.from_residual-in_err-line-2.ensures.1 in
    rw (p.1, p.2) (subst (Fails c.in_err-line-2.field-0.0) c.loop-index.invariant (others_none c.args.bits c.args.names.now c.in_err-line-2.field-0.0 (columns_of c.loop-index.read) (63 - c.loop-index.index) c.loop-index.cursor c.in_err-line-2.ensures))

pub returns : goal.returns
returns c =
    let bits = c.args.bits in
    let names = c.args.names.now in
    let cols : Columns = columns_of c.loop-index.read in
    let m : 63 - c.loop-index.index ≡ 0 = omega (arith, c.loop-index-test.false) in
    let there = others_last bits names cols c.loop-index.cursor c.line-2.new.self c.in_ok-line-2.line.now c.in_ok-line-2.ensures in
    let same = sym there ∙ ap (λ (n : ℕ). others_at bits names cols n c.loop-index.cursor) (sym m) ∙ c.loop-index.invariant in
    subst (λ (t : Result ((Columns × ℕ) × Position) ℕ). Gives (λ n. ((cols, n), c.line-2.new.self)) c.count_from-2.result t) same (count_gives bits names cols c.line-2.new.self c.in_ok-line-2.line.now c.count_from-2.result c.count_from-2.ensures)
