use Rattle.std.specs.Prelude.{◌+◌, ◌<◌, ◌≤◌, length}
use Rattle.std.proofs.Common.{sym, ap, ◌∙◌, subst, drop, arith, slice_index_or}
use Rattle.std.proofs.lemmas.Result.{err_from_is_err_and}
use Rattle.pg_normal.proofs.DenotingLemmas.{At, at_first, at_last, at_graph, at_scenario, at_fault, below_there, few_there, few_scenarios, fault_names_param}
use Rattle.pg_normal.proofs.denoting.scenarios_of.Goals as goal
use Rattle.pg_normal.proofs.denoting.scenarios_of.Goals.{in-Graph, in-Scenario+in_ok-scenario_of-in-Scenario+in_ok-push-in-Scenario}

pub overflow_cast-count : goal.overflow_cast-count
overflow_cast-count c = let few = c.len-statements.ensures.file.1.few_operations in omega (arith, few, c.len-count.ensures.len, ap length c.operations.ensures)

pub forms-init : goal.forms-init
forms-init c = subst (At c.args.file.now c.args.normals.now.normals) (sym c.new-scenarios.ensures.items) (at_first c.args.file.now c.args.normals.now.normals c.requires)

pub scenario_of-requires-clause-below : goal.scenario_of-requires-clause-below
scenario_of-requires-clause-below c =
    below_there c.args.file.now c.args.normals.now.normals c.forms.normal-index c.normal-item.result c.normal-item.result
    (subst (λ xs. c.forms.normal-index < length xs) c.as_slice-normal-items.ensures c.forms-test.true)
    (c.normal-item.is ∙ ap (λ xs. slice_index_or xs c.forms.normal-index c.normal-item.result) c.as_slice-normal-items.ensures)
    c.len-statements.ensures.file c.requires c.len-count.result (c.len-count.ensures.len ∙ ap length c.operations.ensures)

pub scenario_of-requires-clause-values : goal.scenario_of-requires-clause-values
scenario_of-requires-clause-values c =
    few_there c.args.file.now c.args.normals.now.normals c.forms.normal-index c.normal-item.result c.normal-item.result
    (subst (λ xs. c.forms.normal-index < length xs) c.as_slice-normal-items.ensures c.forms-test.true)
    (c.normal-item.is ∙ ap (λ xs. slice_index_or xs c.forms.normal-index c.normal-item.result) c.as_slice-normal-items.ensures)
    c.len-statements.ensures.file c.requires

pub forms-preserved : goal.forms-preserved
forms-preserved c =
    let file = c.args.file.now in
    let all = c.args.normals.now.normals in
    let k = c.forms.normal-index in
    let y = c.normal-item.result in
    let within = subst (λ xs. k < length xs) c.as_slice-normal-items.ensures c.forms-test.true in
    let is = c.normal-item.is ∙ ap (λ xs. slice_index_or xs k y) c.as_slice-normal-items.ensures in
    elim c.match-normal.branch [
      | in-Graph w ↦ subst (λ v. At file (drop (k + 1) all) v.items) (sym w.scenarios-is) (at_graph file all k y y within is c.forms.scenarios.items c.forms.invariant w.in-Graph.is)
      | in-Scenario+in_ok-scenario_of-in-Scenario+in_ok-push-in-Scenario w ↦ subst (At file (drop (k + 1) all)) (sym (ap (λ v. v.items) w.scenarios-is ∙ w.in_ok-push-in-Scenario.ensures.items))
          (at_scenario file all k y y within is c.forms.scenarios.items c.forms.invariant w.in-Scenario.is
          c.len-count.result (c.len-count.ensures.len
          ∙ ap length c.operations.ensures) w.in_ok-scenario_of-in-Scenario.field-0
          w.in_ok-scenario_of-in-Scenario.ensures.ok)
    ]

pub returns-clause-scenarios : goal.returns-clause-scenarios
returns-clause-scenarios c =
    at_last c.args.file.now c.args.normals.now.normals c.forms.normal-index c.forms.scenarios.items c.forms.invariant
    (subst (λ xs. length xs ≤ c.forms.normal-index) c.as_slice-normal-items.ensures c.forms-test.false)

pub returns-clause-few : goal.returns-clause-few
returns-clause-few c =
    few_scenarios c.args.file.now c.forms.scenarios.items c.len-statements.ensures.file
    (at_last c.args.file.now c.args.normals.now.normals c.forms.normal-index c.forms.scenarios.items c.forms.invariant
    (subst (λ xs. length xs ≤ c.forms.normal-index) c.as_slice-normal-items.ensures c.forms-test.false))

pub returns-in_err-scenario_of-in-Scenario-clause-err : goal.returns-in_err-scenario_of-in-Scenario-clause-err
returns-in_err-scenario_of-in-Scenario-clause-err c =
    let p = err_from_is_err_and c.from_residual.result c.from_residual.ensures.1 in
    rw (p.1, p.2) (at_fault c.args.file.now c.args.normals.now.normals c.forms.normal-index c.normal-item.result c.normal-item.result
    (subst (λ xs. c.forms.normal-index < length xs) c.as_slice-normal-items.ensures c.forms-test.true)
    (c.normal-item.is ∙ ap (λ xs. slice_index_or xs c.forms.normal-index c.normal-item.result) c.as_slice-normal-items.ensures)
    c.forms.scenarios.items c.forms.invariant c.in-Scenario.is c.in_err-scenario_of-in-Scenario.field-0.0 c.in_err-scenario_of-in-Scenario.ensures.err)

pub returns-in_err-scenario_of-in-Scenario-clause-known : goal.returns-in_err-scenario_of-in-Scenario-clause-known
returns-in_err-scenario_of-in-Scenario-clause-known c =
    let p = err_from_is_err_and c.from_residual.result c.from_residual.ensures.1 in
    rw (p.1, p.2) (fault_names_param c.args.file.now c.in_err-scenario_of-in-Scenario.field-0.0
    (at_fault c.args.file.now c.args.normals.now.normals c.forms.normal-index c.normal-item.result
    c.normal-item.result
    (subst (λ xs. c.forms.normal-index < length xs) c.as_slice-normal-items.ensures c.forms-test.true)
    (c.normal-item.is ∙ ap (λ xs. slice_index_or xs c.forms.normal-index c.normal-item.result) c.as_slice-normal-items.ensures)
    c.forms.scenarios.items c.forms.invariant c.in-Scenario.is c.in_err-scenario_of-in-Scenario.field-0.0 c.in_err-scenario_of-in-Scenario.ensures.err))
