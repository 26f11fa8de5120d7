-- The first scenario that its code doesn't leave, and the first operation or pair of operations that tells it.
use Rattle.std.specs.Prelude.{◌≡◌, ◌↔◌, ◌⊎◌, ℕ, ◌<◌, Bool, List, [], length, slice_index, slice_index_or}
use Rattle.std.specs.FinSet as set
use Rattle.cpog_defs.specs.Gates.{signal_values}
use Rattle.cpog_defs.specs.Graphs.{ConditionalGraph, keeps, KeptWalk}
use Rattle.cpog_defs.specs.Scenarios.{Scenario, IsBefore}
use Rattle.cpog_defs.specs.Encodings.{Encoding}

-- the scenario at a place, and one of no operation past the last
abbrev pub scenario_at : List Scenario → ℕ → Scenario
scenario_at scenarios s = slice_index_or scenarios s (record { count = 0; ops = set.empty; arcs = [] })

-- the values of the signals on the code at a place
abbrev pub values_at : Encoding → ℕ → List Bool
values_at e s = signal_values e.gates (slice_index e.codes s)

-- an operation is left exactly where the scenario has it
abbrev pub OperationFits : ConditionalGraph → List Bool → Scenario → ℕ → Type 0
OperationFits graph values sc v = keeps graph values v ≡ set.contains sc.ops v

-- a walk of the pairs that are left leads from one operation to another exactly where the one is before the other
abbrev pub PairFits : ConditionalGraph → List Bool → Scenario → ℕ → ℕ → Type 0
PairFits graph values sc u v = KeptWalk graph values u v ↔ IsBefore sc u v

-- under these values exactly the scenario is left
pub record IsLeft (graph : ConditionalGraph) (values : List Bool) (sc : Scenario) : Type 0 where
  pub operations : (v : ℕ) → OperationFits graph values sc v
  pub pairs : (u v : ℕ) → PairFits graph values sc u v

-- the first operation that is left without being the scenario's, or is the scenario's without being left
pub record IsFirstOther (graph : ConditionalGraph) (values : List Bool) (sc : Scenario) (v : ℕ) : Type 0 where
  pub other : OperationFits graph values sc v → ⊥
  pub earlier : (w : ℕ) → w < v → OperationFits graph values sc w

-- a pair comes before another: by their first, and then by their second
abbrev pub IsPairBefore : ℕ → ℕ → ℕ → ℕ → Type 0
IsPairBefore a b u v = (a < u) ⊎ ((a ≡ u) × (b < v))

-- where the operations are as they should be, the first pair that isn't
pub record IsFirstDisordered (graph : ConditionalGraph) (values : List Bool) (sc : Scenario) (u v : ℕ) : Type 0 where
  pub operations : (w : ℕ) → OperationFits graph values sc w
  pub disordered : PairFits graph values sc u v → ⊥
  pub earlier : (a b : ℕ) → IsPairBefore a b u v → PairFits graph values sc a b

-- under its code exactly the scenario at a place is left
abbrev pub FitsAt : Encoding → List Scenario → ℕ → Type 0
FitsAt e scenarios s = IsLeft e.graph (values_at e s) (scenario_at scenarios s)

-- the first scenario that isn't, and its first operation that tells it
pub record IsFirstWrongOperation (e : Encoding) (scenarios : List Scenario) (s v : ℕ) : Type 0 where
  pub within : s < length scenarios
  pub earlier : (t : ℕ) → t < s → FitsAt e scenarios t
  pub operation : IsFirstOther e.graph (values_at e s) (scenario_at scenarios s) v

-- the first scenario that isn't, though its operations are, and its first pair that tells it
pub record IsFirstWrongPair (e : Encoding) (scenarios : List Scenario) (s u v : ℕ) : Type 0 where
  pub within : s < length scenarios
  pub earlier : (t : ℕ) → t < s → FitsAt e scenarios t
  pub pair : IsFirstDisordered e.graph (values_at e s) (scenario_at scenarios s) u v
