-- The scenarios that a file denotes: each is the graph of its statement under every valuation that agrees with its
-- bindings.
use Rattle.std.specs.Prelude.{◌≡◌, ◌≢◌, ℕ, ◌<◌, Bool, true, List, [], ◌∷◌, ◌++◌, map, length, slice_get, Some}
use Rattle.cpog_base.specs.declared.limits.TheConstants.{PARAM_LIMIT}
use Rattle.cpog_defs.specs.Codes.{bit}
use Rattle.cpog_defs.specs.Scenarios.{Scenario}
use Rattle.pg_algebra.specs.Conditions.{valuation}
use Rattle.pg_algebra.specs.Graphs.{Graph}
use Rattle.pg_algebra.specs.Meaning.{graph_of}
use Rattle.pg_algebra.specs.Tables.{flip}
use Rattle.pg_text.specs.declared.statement.Statement.{Statement}
use Rattle.pg_text.specs.declared.statement.Statement.TheVariants as statement
use Rattle.pg_text.specs.declared.statement.Numbered.{Numbered}
use Rattle.pg_text.specs.Contents.{Contents}
use Rattle.pg_normal.specs.declared.denoting.DenotingFault.{DenotingFault}
use Rattle.pg_normal.specs.declared.denoting.DenotingFault.TheVariants as fault
use Rattle.pg_normal.specs.declared.normal.Normal.{Normal}
use Rattle.pg_normal.specs.Instances.{IsScenarioOf, IsUnbound}
use Rattle.pg_normal.specs.Normals.{Before, none_before, with_statement, params_in, binds, binds_one}

-- ---- what statements say of scenarios

-- a scenario's line and name, its graph under each valuation by number, and which parameters it fixes to which bits
pub record Stated : Type 0 where
  pub line : ℕ
  pub name : List ℕ
  pub graph : ℕ → Graph
  pub fixed : ℕ → Bool
  pub values : ℕ → Bool

-- what a statement says of a scenario, where the lines before make this of graph names
abbrev pub stated : List (List ℕ) → Before → ℕ → Statement → List Stated
stated params before line (statement.Params names) = []
stated params before line (statement.Graph name e) = []
stated params before line (statement.Scenario name e bindings) = record {
  line = line;
  name = name;
  graph = λ n. graph_of (before.graphs n) (valuation params n) e;
  fixed = binds params bindings;
  values = binds_one params bindings;
} ∷ []

-- what lines say of scenarios, in their order
abbrev pub stated_from : List (List ℕ) → Before → List Numbered → List Stated
stated_from params before [] = []
stated_from params before (s ∷ ss) =
    stated params before s.line s.statement ++ stated_from params (with_statement params before s.statement) ss

-- what a file says of its scenarios
abbrev pub stated_in : Contents → List Stated
stated_in f = stated_from (params_in f) none_before f.statements

-- the names of a file's scenarios
abbrev pub scenario_names_of : Contents → List (List ℕ)
scenario_names_of f = map (λ x. x.name) (stated_in f)

-- ---- scenarios

-- under valuation n each parameter that is fixed has its bit
abbrev pub AgreesWith : Stated → ℕ → Type 0
AgreesWith x n = (k : ℕ) → k < PARAM_LIMIT → x.fixed k ≡ true → bit n k ≡ x.values k

-- the scenario is the stated graph under every valuation that agrees with the bindings
abbrev pub IsDenoted : ℕ → Stated → Scenario → Type 0
IsDenoted count x sc = (n : ℕ) → n < 64 → AgreesWith x n → IsScenarioOf count (x.graph n) sc

-- one scenario for each
abbrev pub AreDenoted : ℕ → List Stated → List Scenario → Type 0
AreDenoted count [] [] = Unit {0}
AreDenoted count (x ∷ xs) (sc ∷ scenarios) = IsDenoted count x sc × AreDenoted count xs scenarios
AreDenoted count xs scenarios = ⊥

-- the scenarios that a file denotes
abbrev pub AreScenariosOf : Contents → List Scenario → Type 0
AreScenariosOf f scenarios = AreDenoted (length f.operations) (stated_in f) scenarios

-- ---- scenarios that are left open

-- two valuations that agree with the bindings and differ in parameter k alone give different graphs
pub record LeavesOpen (x : Stated) (k : ℕ) : Type 0 where
  pub below : k < PARAM_LIMIT
  pub valuation : ℕ
  pub numbered : valuation < 64
  pub agrees : AgreesWith x valuation
  pub turned_agrees : AgreesWith x (flip valuation k)
  pub differs : x.graph valuation ≢ x.graph (flip valuation k)

-- the scenario at a place, which is on this line, is the first that leaves a parameter open, and k is the least such
pub record IsFirstUnbound (f : Contents) (line k : ℕ) : Type 0 where
  pub place : ℕ
  pub scenario : Stated
  pub stands : slice_get (stated_in f) place ≡ Some scenario
  pub line_is : scenario.line ≡ line
  pub unbound : LeavesOpen scenario k
  pub least : (j : ℕ) → j < k → LeavesOpen scenario j → ⊥
  pub earlier : (t j : ℕ) (x : Stated) → t < place → slice_get (stated_in f) t ≡ Some x → LeavesOpen x j → ⊥

-- ---- faults

-- when each fault is answered: the first scenario that leaves a parameter open, by its line, with its least such one;
-- want of memory
abbrev pub IsDenotingFault : Contents → DenotingFault → Type 0
IsDenotingFault f (fault.Unbound line k) = IsFirstUnbound f line k
IsDenotingFault f fault.Memory = Unit {0}

-- the parameter that is answered is one of the file's
abbrev pub NamesParam : Contents → DenotingFault → Type 0
NamesParam f (fault.Unbound line k) = k < length (params_in f)
NamesParam f fault.Memory = Unit {0}

-- this form leaves a parameter open, the least such is answered, and the line is the form's
abbrev pub IsUnboundForm : Normal → DenotingFault → Type 0
IsUnboundForm x (fault.Unbound line k) = (line ≡ x.origin.line) × IsUnbound x.form x.binding.fixed x.binding.values k
IsUnboundForm x fault.Memory = Unit {0}
