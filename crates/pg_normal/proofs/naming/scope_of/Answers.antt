use Rattle.std.proofs.Common.{ap, ◌∙◌, sym, subst}
use Rattle.std.specs.Prelude.{◌≤◌, length}
use Rattle.std.proofs.lemmas.List.{drop_all}
use Rattle.std.proofs.lemmas.Result.{err_from_is_err_and}
use Rattle.pg_normal.specs.Naming.{name_faults, nothing, scope_from}
use Rattle.pg_normal.proofs.NamingLemmas.{item_at, line_passes, line_faulty, line_defines}
use Rattle.pg_normal.proofs.StatedLemmas.{scenarios_in_scope}
use Rattle.pg_normal.proofs.naming.scope_of.Goals as goal

pub returns-in_err-enter-clause-err : goal.returns-in_err-enter-clause-err
returns-in_err-enter-clause-err c =
    let p = err_from_is_err_and c.from_residual.result c.from_residual.ensures.1 in
    let ss = c.args.file.now.statements in
    let here =
    item_at ss c.statements-numbered-items.result.now c.statements.numbered-index c.numbered-item.result
    c.numbered-item.result c.statements-numbered-items.ensures c.statements-test.true c.numbered-item.is in
    rw (p.1, p.2) (line_faulty ss c.statements.numbered-index c.numbered-item.result here c.statements.scope
    (name_faults c.args.file.now) c.statements.invariant.faults c.in_err-enter.field-0.0
    c.in_err-enter.ensures.err)

pub statements-preserved : goal.statements-preserved
statements-preserved c =
    let ss = c.args.file.now.statements in
    let i = c.statements.numbered-index in
    let n = c.numbered-item.result in
    let here = item_at ss c.statements-numbered-items.result.now i n n c.statements-numbered-items.ensures c.statements-test.true c.numbered-item.is in
    record {
      faults = line_passes ss i n here c.statements.scope (name_faults c.args.file.now) c.statements.invariant.faults c.enter.new.scope c.in_ok-enter.ensures.ok c.in_ok-enter.ensures.scope;
      whole = line_defines ss i n here c.statements.scope (scope_from nothing ss) c.statements.invariant.whole c.enter.new.scope c.in_ok-enter.ensures.scope;
    }

pub returns-clause-scenarios : goal.returns-clause-scenarios
returns-clause-scenarios c =
    let ss = c.args.file.now.statements in
    let le = subst (λ xs. length xs ≤ c.statements.numbered-index) c.statements-numbered-items.ensures c.statements-test.false in
    ap (λ s. s.scenarios) (sym (c.statements.invariant.whole ∙ ap (scope_from c.statements.scope) (drop_all c.statements.numbered-index ss le)))
    ∙ scenarios_in_scope c.args.file.now
