-- What is proved of modules.
use Rattle.std.specs.Prelude.{◌≡◌, ◌≢◌, ℕ, ◌<◌, Bool, List, ◌++◌, length, map, take, slice_index_or}
use Rattle.std.specs.List.{AllByRecursion, AllPairs, Contains}
use Rattle.std.specs.FinSet as set
use Rattle.cpog_defs.specs.Codes.{bit}
use Rattle.cpog_defs.specs.Gates.{gate_value}
use Rattle.handshake_eqs.specs.declared.wires.Inputs.{Inputs}
use Rattle.handshake_eqs.specs.Netlists.{Netlist}
use Rattle.handshake_eqs.specs.Agreement.{request, done, idle}
use Rattle.line_text.specs.Lines.{text_of}
use Rattle.netlist_verilog.specs.Module.{ModuleValue, IsModule, IsWireOf, called}
use Rattle.netlist_verilog.specs.Wires.{Wire, Signal, Go, Acknowledge, Request, Done, Idle}
use Rattle.netlist_verilog.specs.Formulas.{Formula, value, ReadsOnly, NamesOnly, formula_text, Equation, equation_row}
use Rattle.netlist_verilog.specs.Grammar.{IsReadAs, IsAssignment}
use Rattle.netlist_verilog.specs.Equations.{table_formula, equations}
use Rattle.netlist_verilog.specs.Rows.{input_wires, output_wires, inner_wires, module_lines}

-- the value of a gate's formula is the gate's value by its table
abbrev pub FormulasAreTables : Type 0
FormulasAreTables =
    (at : Wire → Bool) (table : ℕ) (p q : Wire) → value at (table_formula table p q) ≡ gate_value table (at p) (at q)

-- values of the wires on these inputs, under which each equation holds
pub record IsSettled (n : Netlist) (i : Inputs) (at : Wire → Bool) : Type 0 where
  pub x : (k : ℕ) → k < n.gates.inputs → at (Signal k) ≡ bit i.x k
  pub go : at Go ≡ i.go
  pub acknowledges : (v : ℕ) → v < length n.conditions → at (Acknowledge v) ≡ set.contains i.acks v
  pub equations_hold : AllByRecursion (λ e. at e.wire ≡ value at e.formula) (equations n)

-- the outputs that the netlist has on these inputs
pub record HasOutputs (n : Netlist) (i : Inputs) (at : Wire → Bool) : Type 0 where
  pub requests : (v : ℕ) → v < length n.conditions → at (Request v) ≡ request n i v
  pub done : at Done ≡ done n i
  pub idle : at Idle ≡ idle n i

-- wherever a module's equations hold, its outputs are those of its netlist
abbrev pub EquationsGiveOutputs : Type 0
EquationsGiveOutputs =
    (m : ModuleValue) (i : Inputs) (at : Wire → Bool) → IsModule m → IsSettled m.netlist i at →
    HasOutputs m.netlist i at

-- on all inputs there are values of the wires under which the equations hold
abbrev pub EquationsSettle : Type 0
EquationsSettle = (m : ModuleValue) (i : Inputs) → IsModule m → (at : Wire → Bool) × IsSettled m.netlist i at

-- no line of a module holds a line feed
abbrev pub LinesHoldNoFeed : Type 0
LinesHoldNoFeed =
    (m : ModuleValue) → IsModule m → AllByRecursion (λ line. AllByRecursion (λ b. b ≢ 10) line) (module_lines m)

-- two modules with the same text are one
abbrev pub TextTellsModule : Type 0
TextTellsModule =
    (a b : ModuleValue) → IsModule a → IsModule b → text_of (module_lines a) ≡ text_of (module_lines b) → a ≡ b

-- two wires of a module that are called alike are one
abbrev pub WiresAreTold : Type 0
WiresAreTold =
    (m : ModuleValue) (w z : Wire) → IsModule m → IsWireOf m w → IsWireOf m z → called m w ≡ called m z → w ≡ z

-- an equation over the wires of a module
pub record IsEquationOf (m : ModuleValue) (e : Equation) : Type 0 where
  pub assigned : IsWireOf m e.wire
  pub read : ReadsOnly (IsWireOf m) e.formula
  pub named : NamesOnly (IsWireOf m) e.comment

-- what a module declares, assigns, reads and names in comments are wires of it
pub record HasItsWires (m : ModuleValue) : Type 0 where
  pub declared : AllByRecursion (IsWireOf m)
      (input_wires m.netlist ++ (output_wires m.netlist ++ inner_wires m.netlist))
  pub equations_over : AllByRecursion (IsEquationOf m) (equations m.netlist)

-- every module has its wires
abbrev pub ModulesHaveTheirWires : Type 0
ModulesHaveTheirWires = (m : ModuleValue) → IsModule m → HasItsWires m

-- what the equation at a place may read: the inputs, and the inner wires that the equations before it assign
abbrev pub known_at : Netlist → ℕ → List Wire
known_at n i = input_wires n ++ take i (inner_wires n)

-- the equation reads, and its comment names, these wires alone
pub record SpeaksOf (wires : List Wire) (e : Equation) : Type 0 where
  pub read : ReadsOnly (Contains wires) e.formula
  pub named : NamesOnly (Contains wires) e.comment

-- each wire is declared once; the inner ones and the outputs are assigned, once each and in this order, and no input
-- is; each equation speaks of inputs and earlier inner wires alone
pub record HasOneDriverEach (m : ModuleValue) : Type 0 where
  pub declared_once : AllPairs (λ w z. w ≢ z)
      (input_wires m.netlist ++ (output_wires m.netlist ++ inner_wires m.netlist))
  pub assigned : map (λ e. e.wire) (equations m.netlist) ≡ inner_wires m.netlist ++ output_wires m.netlist
  pub reads_known : (i : ℕ) (d : Equation) → i < length (equations m.netlist) →
      SpeaksOf (known_at m.netlist i) (slice_index_or (equations m.netlist) i d)

-- each wire of a module has one driver
abbrev pub WiresHaveOneDriver : Type 0
WiresHaveOneDriver = (m : ModuleValue) → IsModule m → HasOneDriverEach m

-- the text of a formula over the wires of a module is read as this formula
abbrev pub FormulasAreRead : Type 0
FormulasAreRead =
    (m : ModuleValue) (f : Formula) → IsModule m → ReadsOnly (IsWireOf m) f →
    IsReadAs m (formula_text m.netlist.gates.inputs m.names f) f

-- no text is read as two formulas
abbrev pub ReadingIsOne : Type 0
ReadingIsOne =
    (m : ModuleValue) (text : List ℕ) (f g : Formula) → IsModule m → IsReadAs m text f → IsReadAs m text g → f ≡ g

-- the line of an equation over the wires of a module is read as this equation
abbrev pub EquationsAreRead : Type 0
EquationsAreRead =
    (m : ModuleValue) (e : Equation) → IsModule m → IsEquationOf m e →
    IsAssignment m (equation_row m.netlist.gates.inputs m.names e) e.wire e.formula

-- no line is read as two equations
abbrev pub AssignmentIsOne : Type 0
AssignmentIsOne =
    (m : ModuleValue) (text : List ℕ) (w z : Wire) (f g : Formula) → IsModule m → IsAssignment m text w f →
    IsAssignment m text z g → (w ≡ z) × (f ≡ g)
