-- What the module shows that stands in a printed report.
use Rattle.std.specs.Prelude.{◌≡◌, ◌↔◌, ℕ, ◌<◌, Bool, IsTrue, List, length}
use Rattle.cpog_defs.specs.Orders.{Order}
use Rattle.handshake_eqs.specs.declared.machine.Machine.{Machine}
use Rattle.handshake_eqs.specs.declared.machine.Machine.TheVariants.{Idle}
use Rattle.handshake_eqs.specs.declared.machine.Event.{Event}
use Rattle.handshake_eqs.specs.declared.wires.Inputs.{Inputs}
use Rattle.handshake_eqs.specs.Machines.{Run, IsRequested, IsDone}
use Rattle.handshake_eqs.specs.Agreement.{AreInputsOf}
use Rattle.netlist_verilog.specs.Module.{ModuleValue, IsModule}
use Rattle.netlist_verilog.specs.Wires as wire
use Rattle.netlist_verilog.specs.Wires.{Wire}
use Rattle.netlist_verilog.specs.Laws.{IsSettled}
use Rattle.report_text.specs.Laws.{EndsWithModule}

-- the values of the output wires tell the state: each operation is requested where it is ready, and then done and idle
pub record ShowState (orders : List Order) (count : ℕ) (m : Machine) (at : Wire → Bool) : Type 0 where
  pub requests : (v : ℕ) → v < count → IsTrue (at (wire.Request v)) ↔ IsRequested orders m v
  pub done : IsTrue (at wire.Done) ↔ IsDone orders m
  pub idle : IsTrue (at wire.Idle) ↔ (m ≡ Idle)

-- after every list of lawful events: wherever the module's equations hold on the inputs of the state, its outputs tell the state
abbrev pub ShowsEachRun : List Order → List ℕ → ModuleValue → Type 0
ShowsEachRun orders codes d =
    (events : List Event) (m : Machine) (i : Inputs) (at : Wire → Bool) → Run orders codes Idle events m → AreInputsOf codes m i → IsSettled d.netlist i at →
    ShowState orders (length d.names) m at

-- behind the first line `netlist` of the text stands a module of these operations, and it shows each run
pub record PrintsController (names : List (List ℕ)) (orders : List Order) (codes : List ℕ) (text : List ℕ) : Type 0 where
  pub design : ModuleValue
  pub is_module : IsModule design
  pub stands : EndsWithModule text design
  pub names_are : design.names ≡ names
  pub shows : ShowsEachRun orders codes design
