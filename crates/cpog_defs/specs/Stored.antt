-- How the records that are the values of models are stored.
use Rattle.std.specs.Prelude.{ℕ, List, refl}
use Rattle.std.specs.Coded.{Coded, code_by, coded×, coded_ℕ, coded_list}
use Rattle.std.specs.FinSet as set
use Rattle.cpog_defs.specs.declared.types.OpId.{OpId}
use Rattle.cpog_defs.specs.Orders.{Set, Order}
use Rattle.cpog_defs.specs.Scenarios.{Scenario}

abbrev pub set_code : Coded Set
set_code = set.code coded_ℕ

abbrev pub op_code : Coded OpId
op_code = code_by ℕ coded_ℕ (λ v. v.0) (λ n. record { 0 = n }) (λ _. refl)

abbrev pub order_code : Coded Order
order_code = code_by (ℕ × (Set × List Set)) (coded× coded_ℕ (coded× set_code (coded_list set_code)))
    (λ o. (o.count, (o.ops, o.before))) (λ p. record { count = p.0; ops = p.1.0; before = p.1.1 }) (λ _. refl)

abbrev pub scenario_code : Coded Scenario
scenario_code = code_by (ℕ × (Set × List (OpId × OpId))) (coded× coded_ℕ (coded× set_code (coded_list (coded× op_code op_code))))
    (λ sc. (sc.count, (sc.ops, sc.arcs))) (λ p. record { count = p.0; ops = p.1.0; arcs = p.1.1 }) (λ _. refl)
