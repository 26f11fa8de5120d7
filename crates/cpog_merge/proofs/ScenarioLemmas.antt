-- An encoding fits the orders of scenarios exactly where it fits the scenarios.
use Rattle.std.proofs.Common.{◌≡◌, ◌↔◌, ℕ, zero, suc, Bool, List, [], ◌∷◌, length, Some, slice_get, refl, sym, ◌∙◌, subst, arith, IsTrue}
use Rattle.std.proofs.lemmas.Option.{none-some}
use Rattle.cpog_defs.specs.Orders.{Order, is_before}
use Rattle.cpog_defs.specs.Scenarios.{Scenario, IsBefore, IsOrderOfScenario, AreOrdersOf}
use Rattle.cpog_defs.specs.Gates.{signal_values}
use Rattle.cpog_defs.specs.Graphs.{ConditionalGraph, ProjectsTo}
use Rattle.cpog_defs.specs.Encodings.{Encoding, Fits, FitsScenarios}

-- what is left as the order says is left as the scenario says
to_scenario : (graph : ConditionalGraph) (values : List Bool) (sc : Scenario) (o : Order) → IsOrderOfScenario sc o →
    ProjectsTo graph values o.ops (λ u v. IsTrue (is_before o u v)) → ProjectsTo graph values sc.ops (IsBefore sc)
to_scenario graph values sc o is p = record {
  operations = λ v. rw is.ops at (p.operations v);
  before = λ u v. (λ w. (is.before u v).0 ((p.before u v).0 w), λ w. (p.before u v).1 ((is.before u v).1 w));
}

-- and back
to_order : (graph : ConditionalGraph) (values : List Bool) (sc : Scenario) (o : Order) → IsOrderOfScenario sc o →
    ProjectsTo graph values sc.ops (IsBefore sc) → ProjectsTo graph values o.ops (λ u v. IsTrue (is_before o u v))
to_order graph values sc o is p = record {
  operations = λ v. rw is.ops (p.operations v);
  before = λ u v. (λ w. (is.before u v).1 ((p.before u v).0 w), λ w. (p.before u v).1 ((is.before u v).0 w));
}

-- one order a scenario
same_length : (scenarios : List Scenario) (orders : List Order) → AreOrdersOf scenarios orders → length scenarios ≡ length orders
same_length [] [] z = refl
same_length (sc ∷ scenarios) (o ∷ orders) z = let ih = same_length scenarios orders z.1 in omega (arith, ih)
same_length scenarios orders z = absurd z

-- the order of the scenario at a place
order_there : (scenarios : List Scenario) (orders : List Order) (s : ℕ) (sc : Scenario) → AreOrdersOf scenarios orders → slice_get scenarios s ≡ Some sc → (o : Order) × (slice_get orders s ≡ Some o) × IsOrderOfScenario sc o
order_there [] [] s sc z at = absurd (none-some sc at)
order_there (x ∷ scenarios) (o ∷ orders) zero sc z at = let same : x ≡ sc = cc in (o, refl, subst (λ y. IsOrderOfScenario y o) same z.0)
order_there (x ∷ scenarios) (o ∷ orders) (suc s) sc z at = order_there scenarios orders s sc z.1 at
order_there scenarios orders s sc z at = absurd z

-- the scenario of the order at a place
scenario_there : (scenarios : List Scenario) (orders : List Order) (s : ℕ) (o : Order) → AreOrdersOf scenarios orders → slice_get orders s ≡ Some o → (sc : Scenario) × (slice_get scenarios s ≡ Some sc) × IsOrderOfScenario sc o
scenario_there [] [] s o z at = absurd (none-some o at)
scenario_there (sc ∷ scenarios) (x ∷ orders) zero o z at = let same : x ≡ o = cc in (sc, refl, subst (λ y. IsOrderOfScenario sc y) same z.0)
scenario_there (sc ∷ scenarios) (x ∷ orders) (suc s) o z at = scenario_there scenarios orders s o z.1 at
scenario_there scenarios orders s o z at = absurd z

-- fitting the orders is fitting the scenarios
pub fits_is_fitting_scenarios_lem : (e : Encoding) (scenarios : List Scenario) (orders : List Order) → AreOrdersOf scenarios orders → Fits e orders ↔ FitsScenarios e scenarios
fits_is_fitting_scenarios_lem e scenarios orders z = (
  λ fits. record {
    one_code_each = fits.one_code_each ∙ sym (same_length scenarios orders z);
    projects = λ s word sc code at.
        let x = order_there scenarios orders s sc z at in
        to_scenario e.graph (signal_values e.gates word) sc x.0 x.2 (fits.projects s word x.0 code x.1);
  },
  λ fits. record {
    one_code_each = fits.one_code_each ∙ same_length scenarios orders z;
    projects = λ s word o code at.
        let x = scenario_there scenarios orders s o z at in
        to_order e.graph (signal_values e.gates word) x.0 o x.2 (fits.projects s word x.0 code x.1);
  },
)
