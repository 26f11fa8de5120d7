-- What is known of the scenarios of a report.
use Rattle.std.proofs.Common.{◌≡◌, ℕ, zero, suc, ◌<◌, ◌≤◌, List, [], ◌∷◌, length, get_or, refl, sym, ap, ◌∙◌, subst, arith}
use Rattle.std.specs.List.{All}
use Rattle.cpog_defs.specs.Orders.{Order, IsOrderOf}
use Rattle.cpog_defs.specs.Scenarios.{Scenario, IsOrderOfScenario, AreOrdersOf}
use Rattle.cpog_merge.specs.Columns.{count_of}
use Rattle.report_text.specs.Report.{ReportValue, IsReport}

-- one order a scenario
pub orders_length : (scenarios : List Scenario) (orders : List Order) → AreOrdersOf scenarios orders → length scenarios ≡ length orders
orders_length [] [] h = refl
orders_length [] (o ∷ orders) h = absurd h
orders_length (sc ∷ scenarios) [] h = absurd h
orders_length (sc ∷ scenarios) (o ∷ orders) h = ap suc (orders_length scenarios orders h.1)

-- the order of the scenario at a place
pub order_at : (scenarios : List Scenario) (orders : List Order) (s : ℕ) (sc : Scenario) (o : Order) → AreOrdersOf scenarios orders → s < length scenarios →
    IsOrderOfScenario (get_or scenarios s sc) (get_or orders s o)
order_at [] [] s x y h l = absurd (omega arith)
order_at [] (o ∷ orders) s x y h l = absurd h
order_at (sc ∷ scenarios) [] s x y h l = absurd h
order_at (sc ∷ scenarios) (o ∷ orders) zero x y h l = h.0
order_at (sc ∷ scenarios) (o ∷ orders) (suc s) x y h l = order_at scenarios orders s x y h.1 (omega arith)

module _ (r : ReportValue) (is : IsReport r) where
  -- each scenario counts the names
  pub count_at : (s : ℕ) (sc : Scenario) → s < length r.scenarios → sc ≡ get_or r.scenarios s sc → sc.count ≡ length r.encoding.graph.ops
  count_at s sc l at = ap (λ (x : Scenario). x.count) at ∙ (is.scenarios s sc l).count_is ∙ sym is.encoding.graph.ops

  module _ (orders : List Order) (are : AreOrdersOf r.scenarios orders) where
    pub orders_are_few : length orders ≡ length r.scenarios
    orders_are_few = sym (orders_length r.scenarios orders are)

    -- the orders are of one count
    pub alike : All (IsOrderOf (length r.names)) orders
    alike s o l =
        let none : Scenario = record { count = 0; ops = (get_or orders s o).ops; arcs = [] } in
        let below : s < length r.scenarios = omega (arith, l, orders_are_few) in
        let at = order_at r.scenarios orders s none o are below in
        record { count_is = at.count ∙ (is.scenarios s none below).count_is; order = at.order }

    pub count_is : count_of orders ≡ length r.names
    count_is = head orders (omega (arith, orders_are_few, is.some_scenario)) alike
      where
        head : (os : List Order) → 1 ≤ length os → All (IsOrderOf (length r.names)) os → count_of os ≡ length r.names
        head [] l h = absurd (omega arith)
        head (o ∷ os) l h = (h 0 o (omega arith)).count_is

    pub alike_by_count : All (IsOrderOf (count_of orders)) orders
    alike_by_count = subst (λ n. All (IsOrderOf n) orders) (sym count_is) alike
