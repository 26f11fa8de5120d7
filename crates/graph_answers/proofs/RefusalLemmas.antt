-- The refusals of a file, out of what is known of it.
use Rattle.std.proofs.Common.{◌≡◌, ◌≢◌, ℕ, ◌<◌, ◌≤◌, List, [], ◌∷◌, map, length, slice_get, Some, refl, sym, ap, ◌∙◌, arith, inl, inr}
use Rattle.std.specs.Prelude.{IsSomeAnd, Result, Ok, Err, IfErr}
use Rattle.std.proofs.lemmas.List.{length-map}
use Rattle.std.proofs.lemmas.Option.{slice_get_within}
use Rattle.cpog_base.specs.declared.status.Status.{Status}
use Rattle.cpog_base.specs.declared.status.Status.TheVariants as status
use Rattle.cpog_defs.specs.Orders.{Order}
use Rattle.cpog_defs.specs.Scenarios.{Scenario}
use Rattle.pg_text.specs.Contents.{Contents}
use Rattle.pg_normal.specs.Naming.{name_faults}
use Rattle.pg_normal.specs.Normals.{params_in}
use Rattle.scenario_check.specs.Equals.{IsFirstPair}
use Rattle.refusal_lines.specs.declared.refusal.Refusal.TheVariants as refusal
use Rattle.refusal_lines.specs.declared.stop.Stop.{Stop}
use Rattle.refusal_lines.specs.declared.stop.Stop.TheVariants as stop
use Rattle.refusal_lines.specs.Refusal.{At, Tells}
use Rattle.pg_normal.specs.Denoting.{Stated, stated_in, scenario_names_of, AreScenariosOf, IsFirstUnbound}
use Rattle.graph_answers.specs.Ordered.{AreOrdersIn}
use Rattle.scenario_check.specs.Cycles.{IsFirstCyclic}
use Rattle.graph_answers.specs.declared.encodable.CodeLength.{CodeLength}
use Rattle.graph_answers.specs.Refusals.{IsUnboundAnswer, IsCyclicAnswer, IsEqualAnswer, IsOrdersRefusal, IsEncodingRefusal}
use Rattle.refusal_lines.specs.Stops.{IsStop}
use Rattle.graph_answers.proofs.ListLemmas.{some_at}
use Rattle.graph_answers.proofs.DenotingLemmas.{length-denoted}
use Rattle.graph_answers.proofs.ReportLemmas.{names_each, operation_below}

-- ---- answers that refuse

-- a file that has no orders of which no two are equal can't be encoded
pub orders_refused : (asked : CodeLength) (f : Contents) (s : Status) (x : List ℕ) → IsOrdersRefusal f s x → IsEncodingRefusal asked f s x
orders_refused asked f s x (inl h) = inr (inl h)
orders_refused asked f s x (inr (inl h)) = inr (inr (inl h))
orders_refused asked f s x (inr (inr (inl h))) = inr (inr (inr (inl h)))
orders_refused asked f s x (inr (inr (inr h))) = inr (inr (inr (inr (inl h))))

-- an element that is known of stands in the list
there : {X : Type 0} (P : X → Type 0) (xs : List X) (k : ℕ) → IsSomeAnd (slice_get xs k) P → k < length xs
there P xs k h = let x = some_at P (slice_get xs k) h in slice_get_within xs k x.0 x.1

-- ---- names

none_named : (xs : List Stated) → map (λ (x : Stated). x.name) xs ≡ [] → xs ≡ []
none_named [] e = refl
none_named (x ∷ xs) e = cc

-- a file without names of scenarios states none
pub none_stated : (f : Contents) → scenario_names_of f ≡ [] → stated_in f ≡ []
none_stated f e = none_named (stated_in f) e

some_there : (names : List (List ℕ)) → (names ≡ [] → ⊥) → 1 ≤ length names
some_there [] h = absurd (h refl)
some_there (x ∷ xs) h = omega arith

-- a file with names of scenarios has orders
pub some_orders : (f : Contents) (orders : List Order) → AreOrdersIn f orders → (scenario_names_of f ≡ [] → ⊥) → 1 ≤ length orders
some_orders f orders z some = omega (arith, some_there (scenario_names_of f) some, names_each f orders z)

-- orders are of scenarios that are stated
pub some_stated : (f : Contents) (orders : List Order) → AreOrdersIn f orders → 1 ≤ length orders → stated_in f ≢ []
some_stated f orders z some none =
    absurd (omega (arith, some, names_each f orders z, length-map (stated_in f) (λ (x : Stated). x.name), ap length none))

-- ---- a parameter that is left open

pub unbound_told : (f : Contents) (line k : ℕ) (name : List ℕ) → name_faults f ≡ [] → IsFirstUnbound f line k → slice_get (params_in f) k ≡ Some name
    → (s : Status) (x : List ℕ) → Tells status.Names (refusal.Unbound line name) s x → At status.Names (IsUnboundAnswer f) s x
unbound_told f line k name named first name_is s x h =
    (h.0, record { named = named; line = line; number = k; first = first; name = name; name_is = name_is; output_is = h.1 })

-- ---- an operation before itself

module _ (f : Contents) (names : List (List ℕ)) (names_are : names ≡ scenario_names_of f) (scenarios : List Scenario) (denoted : AreScenariosOf f scenarios) where
  one_name_each : length names ≡ length scenarios
  one_name_each = ap length names_are ∙ length-map (stated_in f) _ ∙ sym (length-denoted (length f.operations) (stated_in f) scenarios denoted)

  pub cyclic_scenario : (s v : ℕ) → IsFirstCyclic scenarios s v → s < length names
  cyclic_scenario s v first = let l = there _ scenarios s first.here in omega (arith, l, one_name_each)

  pub cyclic_operation : (s v : ℕ) → IsSomeAnd (slice_get scenarios s) (λ sc. v < sc.count) → v < length f.operations
  cyclic_operation s v below = operation_below (length f.operations) (stated_in f) scenarios s v denoted below

  pub cyclic_told : (number v : ℕ) (scenario operation : List ℕ) → name_faults f ≡ [] → IsFirstCyclic scenarios number v → slice_get names number ≡ Some scenario → slice_get f.operations v ≡ Some operation
      → (s : Status) (x : List ℕ) → Tells status.Cyclic (refusal.Cyclic scenario operation) s x → At status.Cyclic (IsCyclicAnswer f) s x
  cyclic_told number v scenario operation named first scenario_is operation_is s x h = (
    h.0,
    record {
      named = named;
      scenarios = scenarios;
      denoted = denoted;
      number = number;
      operation = v;
      first = first;
      scenario_name = scenario;
      scenario_is = ap (λ ns. slice_get ns number) (sym names_are) ∙ scenario_is;
      operation_name = operation;
      operation_is = operation_is;
      output_is = h.1;
    },
  )

-- ---- equal scenarios

module _ (f : Contents) (names : List (List ℕ)) (names_are : names ≡ scenario_names_of f) (orders : List Order) (z : AreOrdersIn f orders) where
  pub one_order_each : length names ≡ length orders
  one_order_each = ap length names_are ∙ names_each f orders z

  pub later_below : (l e : ℕ) → IsFirstPair orders l e → l < length names
  later_below l e first = let m = there _ orders l first.equal.equal in omega (arith, m, one_order_each)

  pub earlier_below : (l e : ℕ) → IsFirstPair orders l e → e < length names
  earlier_below l e first = omega (arith, later_below l e first, first.equal.earlier_first)

  pub equal_told : (l e : ℕ) (later earlier : List ℕ) → IsFirstPair orders l e → slice_get names l ≡ Some later → slice_get names e ≡ Some earlier
      → (s : Status) (x : List ℕ) → Tells status.Equal (refusal.Equal later earlier) s x → At status.Equal (IsEqualAnswer f) s x
  equal_told l e later earlier pair later_is earlier_is s x h = (
    h.0,
    record {
      orders = orders;
      of_file = z;
      later = l;
      earlier = e;
      first = pair;
      later_name = later;
      later_is = ap (λ ns. slice_get ns l) (sym names_are) ∙ later_is;
      earlier_name = earlier;
      earlier_is = ap (λ ns. slice_get ns e) (sym names_are) ∙ earlier_is;
      output_is = h.1;
    },
  )
