-- What a module is made of.
use Rattle.std.specs.Prelude.{◌≡◌, ℕ, ◌<◌, ◌≤◌, IsTrue, List, length}
use Rattle.std.specs.List.{All}
use Rattle.cpog_base.specs.Names.{AreDistinct}
use Rattle.cpog_base.specs.declared.limits.TheConstants.{BIT_LIMIT}
use Rattle.cpog_defs.specs.Gates.{IsGateList, signal_count}
use Rattle.handshake_eqs.specs.Netlists.{Netlist, IsNetlist}
use Rattle.line_text.specs.Words.{is_free_name}
use Rattle.netlist_verilog.specs.Wires.{Wire, Signal, Go, Acknowledge, Request, Done, Idle, Condition, ArcCondition, wire_text}

-- the names of the operations, and their netlist
pub record ModuleValue : Type 0 where
  pub names : List (List ℕ)
  pub netlist : Netlist

-- each word is a name and no keyword
abbrev pub AreNames : List (List ℕ) → Type 0
AreNames names = All (λ name. IsTrue (is_free_name name)) names

-- a module has fewer gates than this: 2 to the power 18, which is more than any netlist of a report has
abbrev pub module_gate_limit : ℕ
module_gate_limit = 262144

-- a name for each operation, no name twice, 1 to 8 inputs, few gates, and a netlist over these
pub record IsModule (m : ModuleValue) : Type 0 where
  pub names : AreNames m.names
  pub distinct : AreDistinct m.names
  pub one_name_each : length m.names ≡ length m.netlist.conditions
  pub some_input : 1 ≤ m.netlist.gates.inputs
  pub few_inputs : m.netlist.gates.inputs ≤ BIT_LIMIT
  pub few_gates : length m.netlist.gates.gates < module_gate_limit
  pub gates : IsGateList m.netlist.gates
  pub netlist : IsNetlist m.netlist

-- the wires of a module: its signals, those of the handshake, and those of its operations and of two of these
abbrev pub IsWireOf : ModuleValue → Wire → Type 0
IsWireOf m (Signal n) = n < signal_count m.netlist.gates
IsWireOf m Go = Unit {0}
IsWireOf m (Acknowledge v) = v < length m.netlist.conditions
IsWireOf m (Request v) = v < length m.netlist.conditions
IsWireOf m Done = Unit {0}
IsWireOf m Idle = Unit {0}
IsWireOf m (Condition v) = v < length m.netlist.conditions
IsWireOf m (ArcCondition u v) = (u < length m.netlist.conditions) × (v < length m.netlist.conditions)

-- how a wire of the module is called
abbrev pub called : ModuleValue → Wire → List ℕ
called m w = wire_text m.netlist.gates.inputs m.names w
