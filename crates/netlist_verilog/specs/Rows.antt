-- The lines of a module.
use Rattle.std.specs.Prelude.{ℕ, ◌+◌, Bool, true, false, if◌then◌else◌, List, [], ◌∷◌, ◌++◌, length, map, Option, None, Some, codes}
use Rattle.cpog_defs.specs.declared.types.Gate.{Gate}
use Rattle.cpog_defs.specs.declared.types.Ref.{Ref}
use Rattle.cpog_defs.specs.Orders.{each_below}
use Rattle.handshake_eqs.specs.Netlists.{Netlist, wire_of}
use Rattle.netlist_verilog.specs.Module.{ModuleValue}
use Rattle.netlist_verilog.specs.Wires.{Wire, Signal, Go, Acknowledge, Request, Done, Idle, Condition, ArcCondition, wire_text}
use Rattle.netlist_verilog.specs.Formulas.{Formula, Equation, tightness, grouped, formula_text, comment_text, equation_row}
use Rattle.netlist_verilog.specs.Equations.{table_formula, comment_of, equations}

-- a comma and a blank, but nothing before the first of a list
abbrev pub separator : Bool → List ℕ
separator first = if first then [] else codes ", "

-- texts with a comma and a blank between them, and before them where they aren't the first
abbrev pub joined : Bool → List (List ℕ) → List ℕ
joined first [] = []
joined first (t ∷ ts) = separator first ++ (t ++ joined false ts)

-- how these wires are called in a module
abbrev pub wire_texts : ModuleValue → List Wire → List (List ℕ)
wire_texts m wires = map (wire_text m.netlist.gates.inputs m.names) wires

-- so many signals from this one on
abbrev pub signals_from : ℕ → ℕ → List Wire
signals_from start count = each_below (λ k. Signal (start + k) ∷ []) count

-- a wire for each operation
abbrev pub for_each : (ℕ → Wire) → ℕ → List Wire
for_each wire count = each_below (λ v. wire v ∷ []) count

-- the inputs of a module: the bits of a code, go and the acknowledges
abbrev pub input_wires : Netlist → List Wire
input_wires n = signals_from 0 n.gates.inputs ++ (Go ∷ for_each Acknowledge (length n.conditions))

-- the outputs of a module: the requests, done and idle
abbrev pub output_wires : Netlist → List Wire
output_wires n = for_each Request (length n.conditions) ++ (Done ∷ Idle ∷ [])

-- the wire of an arc, where it is declared
abbrev pub arc_wire : ℕ → ℕ → Option Ref → List Wire
arc_wire u v None = []
arc_wire u v (Some ref) = ArcCondition u v ∷ []

-- the wires of the arcs from u to the numbers below a count
abbrev pub arc_wires_from : Netlist → ℕ → ℕ → List Wire
arc_wires_from n u count = each_below (λ v. arc_wire u v (wire_of n u v)) count

-- the wires of all arcs, by their first end and then their second
abbrev pub arc_wires : Netlist → List Wire
arc_wires n = each_below (λ u. arc_wires_from n u (length n.conditions)) (length n.conditions)

-- the gates, the conditions of operations and those of arcs
abbrev pub inner_wires : Netlist → List Wire
inner_wires n =
    signals_from n.gates.inputs (length n.gates.gates) ++ (for_each Condition (length n.conditions) ++ arc_wires n)

-- the line that names the module and its ports
abbrev pub header_row : ModuleValue → List ℕ
header_row m =
    codes "module cpog(" ++ (joined true (wire_texts m (input_wires m.netlist)) ++
    (codes ", " ++ (joined true (wire_texts m (output_wires m.netlist)) ++ codes ");")))

-- the line that declares its inputs
abbrev pub inputs_row : ModuleValue → List ℕ
inputs_row m = codes "  input " ++ (joined true (wire_texts m (input_wires m.netlist)) ++ codes ";")

-- the line that declares its outputs
abbrev pub outputs_row : ModuleValue → List ℕ
outputs_row m = codes "  output " ++ (joined true (wire_texts m (output_wires m.netlist)) ++ codes ";")

-- the line that declares these, where there is one
abbrev pub wire_lines : List (List ℕ) → List (List ℕ)
wire_lines [] = []
wire_lines (t ∷ ts) = (codes "  wire " ++ (joined true (t ∷ ts) ++ codes ";")) ∷ []

-- the three lines of the ports
abbrev pub port_lines : ModuleValue → List (List ℕ)
port_lines m = header_row m ∷ inputs_row m ∷ outputs_row m ∷ []

-- the function of a gate as its line shows it
abbrev pub function_text : ModuleValue → Gate → List ℕ
function_text m gate =
    let f = table_formula gate.table (Signal gate.j) (Signal gate.k) in
    formula_text m.netlist.gates.inputs m.names f
    ++ comment_text m.netlist.gates.inputs m.names (comment_of f (Signal gate.j) (Signal gate.k))

-- what one more formula adds to a row of formulas that are joined by &
abbrev pub and_text : ModuleValue → Bool → Formula → List ℕ
and_text m false f = []
and_text m true f = codes " & " ++ grouped 3 (tightness f) (formula_text m.netlist.gates.inputs m.names f)

-- the lines of these equations
abbrev pub equation_rows : ModuleValue → List Equation → List (List ℕ)
equation_rows m es = map (equation_row m.netlist.gates.inputs m.names) es

-- the lines of all equations
abbrev pub equation_lines : ModuleValue → List (List ℕ)
equation_lines m = equation_rows m (equations m.netlist)

-- the lines of a module
abbrev pub module_lines : ModuleValue → List (List ℕ)
module_lines m =
    port_lines m ++ (wire_lines (wire_texts m (inner_wires m.netlist)) ++
    (equation_lines m ++ codes "endmodule" ∷ []))
