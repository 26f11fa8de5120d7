-- The scenario of a form under bindings.
use Rattle.std.specs.Prelude.{◌≡◌, ◌≢◌, ℕ, ◌<◌, true}
use Rattle.std.specs.FinSet as set
use Rattle.cpog_base.specs.Arcs.{has_arc}
use Rattle.cpog_base.specs.declared.limits.TheConstants.{PARAM_LIMIT}
use Rattle.cpog_defs.specs.Codes.{bit}
use Rattle.cpog_defs.specs.Scenarios.{Scenario}
use Rattle.pg_algebra.specs.Graphs.{Graph}
use Rattle.pg_algebra.specs.Tables.{flip}
use Rattle.pg_normal.specs.Forms.{Form, graph_at}
use Rattle.pg_normal.specs.declared.instances.InstanceFault.{InstanceFault}
use Rattle.pg_normal.specs.declared.instances.InstanceFault.TheVariants as fault

-- under valuation n each fixed parameter has its bit
abbrev pub Agrees : ℕ → ℕ → ℕ → Type 0
Agrees fixed values n = (k : ℕ) → k < PARAM_LIMIT → bit fixed k ≡ true → bit n k ≡ bit values k

-- of so many operations as there may be, those of the graph, with its arcs
pub record IsScenarioOf (count : ℕ) (g : Graph) (sc : Scenario) : Type 0 where
  pub size : sc.count ≡ count
  pub ops : (v : ℕ) → set.contains sc.ops v ≡ g.vertex v
  pub arcs : (u v : ℕ) → has_arc sc.arcs u v ≡ g.arc u v

-- it is the graph under every valuation that agrees with the bindings
abbrev pub IsInstance : Form → ℕ → ℕ → ℕ → Scenario → Type 0
IsInstance f fixed values count sc = (n : ℕ) → n < 64 → Agrees fixed values n → IsScenarioOf count (graph_at f n) sc

-- two valuations that agree with the bindings and differ in parameter k alone give different graphs
pub record ChangesGraph (f : Form) (fixed values k : ℕ) : Type 0 where
  pub valuation : ℕ
  pub below : valuation < 64
  pub agrees : Agrees fixed values valuation
  pub turned_agrees : Agrees fixed values (flip valuation k)
  pub differs : graph_at f valuation ≢ graph_at f (flip valuation k)

-- k is the least such parameter
pub record IsUnbound (f : Form) (fixed values k : ℕ) : Type 0 where
  pub below : k < PARAM_LIMIT
  pub changes : ChangesGraph f fixed values k
  pub least : (j : ℕ) → j < k → ChangesGraph f fixed values j → ⊥

-- when each fault is answered: the least parameter that is left open and matters; want of memory
abbrev pub IsInstanceFault : Form → ℕ → ℕ → InstanceFault → Type 0
IsInstanceFault f fixed values (fault.Unbound k) = IsUnbound f fixed values k
IsInstanceFault f fixed values fault.Memory = Unit {0}
