-- How a module is read from its lines.
use Rattle.std.specs.Prelude.{◌≡◌, ℕ, ◌≤◌, ◌+◌, ◌==◌, ◌&&◌, ◌||◌, nat_le, nat_lt, Bool, true, false, List, [], ◌∷◌, ◌++◌, length, map, slice_index_or, is_some, Option, None, Some, Result, Ok, codes, if◌then◌else◌}
use Rattle.std.specs.Fmt.{decimal}
use Rattle.std.specs.List.{AllByRecursion}
use Rattle.std.specs.Str.{bytes_eq}
use Rattle.cpog_base.specs.Names.{AreDistinct}
use Rattle.line_text.specs.Words.{is_free_name}
use Rattle.std.specs.FinSet as set
use Rattle.cpog_defs.specs.declared.types.Gate.{Gate}
use Rattle.cpog_defs.specs.declared.types.Ref.{Ref}
use Rattle.cpog_defs.specs.Orders.{Set, each_below}
use Rattle.handshake_eqs.specs.Netlists.{Netlist}
use Rattle.netlist_verilog.specs.Wires.{Go, Acknowledge, Request, Done, Idle, name_of, wire_text}
use Rattle.netlist_verilog.specs.Formulas.{equation_row}
use Rattle.netlist_verilog.specs.Equations.{done_equation, idle_equation}
use Rattle.netlist_verilog.specs.Module.{ModuleValue}
use Rattle.netlist_verilog.specs.Rows.{separator, joined, signals_from, for_each}
use Rattle.line_rows.specs.Position.{Position}
use Rattle.line_rows.specs.Reading.{◌>>=◌, row, line_at, read_or_fault, exactly, then_of, view_of, many_of}
use Rattle.line_rows.specs.Words.{◌>>=?◌, behind}
use Rattle.module_reader.specs.Lists.{run, names_run, steps, arc_marks, wait_mark, with_wait}
use Rattle.module_reader.specs.Rows.{gates_at, conditions_at, arcs_at}

-- ---- ports

-- the names of the inputs and of the outputs, with commas between them
abbrev pub inputs_text : ℕ → List (List ℕ) → List ℕ
inputs_text inputs names = joined true (map (wire_text inputs names) (signals_from 0 inputs ++ (Go ∷ for_each Acknowledge (length names))))

-- the names of the outputs, with commas between them
abbrev pub outputs_text : ℕ → List (List ℕ) → List ℕ
outputs_text inputs names = joined true (map (wire_text inputs names) (for_each Request (length names) ++ (Done ∷ Idle ∷ [])))

-- the lines of the ports
abbrev pub header_line : ℕ → List (List ℕ) → List ℕ
header_line inputs names = codes "module cpog(" ++ (inputs_text inputs names ++ (codes ", " ++ (outputs_text inputs names ++ codes ");")))

-- the line that declares the inputs
abbrev pub inputs_line : ℕ → List (List ℕ) → List ℕ
inputs_line inputs names = codes "  input " ++ (inputs_text inputs names ++ codes ";")

-- the line that declares the outputs
abbrev pub outputs_line : ℕ → List (List ℕ) → List ℕ
outputs_line inputs names = codes "  output " ++ (outputs_text inputs names ++ codes ";")

-- an input or a gate of a list, behind a comma where it isn't the first
abbrev pub input_item : ℕ → List ℕ
input_item i = separator (i == 0) ++ (codes "x" ++ decimal i)

-- a gate of a list, behind a comma where it isn't the first
abbrev pub gate_item : ℕ → List ℕ
gate_item i = separator (i == 0) ++ (codes "g" ++ decimal i)

-- what the header has behind its inputs
abbrev pub header_end : List (List ℕ) → List ℕ
header_end names = codes ", " ++ (outputs_text 0 names ++ codes ");")

-- the ports, where the header goes on as their outputs say
abbrev pub header_from : ℕ → List (List ℕ) × List ℕ → Option (ℕ × List (List ℕ))
header_from inputs x = if nat_le 1 inputs && bytes_eq x.1 (header_end x.0) then Some (inputs, x.0) else None

-- the ports, where so many inputs were read
abbrev pub header_names : ℕ × List ℕ → Option (ℕ × List (List ℕ))
header_names x = behind (codes ", go") x.1 >>=? λ rest. header_from x.0 (names_run 128 [] rest)

-- how many inputs the header has, and the names of its operations
unfoldable pub header_in : List ℕ → Option (ℕ × List (List ℕ))
header_in line = behind (codes "module cpog(") line >>=? λ rest. header_names (run input_item 8 0 rest)

-- with 1 to 8 inputs, and at most 128 names that are distinct and no keywords
pub record IsPorts (h : ℕ × List (List ℕ)) : Type 0 where
  pub some : 1 ≤ h.0
  pub few : h.0 ≤ 8
  pub free : AllByRecursion (λ w. is_free_name w ≡ true) h.1
  pub distinct : AreDistinct h.1
  pub few_names : length h.1 ≤ 128

-- the first of a pair
abbrev pub first_of : {A B : Type 0} → A × B → A
first_of x = x.0

-- the three lines of the ports
unfoldable pub ports_at : Position → Result ((ℕ × List (List ℕ)) × Position) ℕ
ports_at = view_of first_of (then_of (row header_in) (λ h. then_of (row (exactly (inputs_line h.0 h.1))) (λ _. row (exactly (outputs_line h.0 h.1)))))

-- ---- inner wires

-- with one input there is no gate
abbrev pub gate_room : ℕ → ℕ
gate_room inputs = if inputs == 1 then 0 else 262143

-- the wires of the conditions, with commas between them
abbrev pub condition_names : Bool → List (List ℕ) → List ℕ
condition_names first names = joined first (each_below (λ v. (codes "c_" ++ name_of names v) ∷ []) (length names))

-- what was declared, where the line ends here and declares a wire
abbrev pub wires_from : ℕ → ℕ → List (List Bool) × List ℕ → Option (ℕ × List (List Bool))
wires_from gates count x = if (nat_lt 0 gates || nat_lt 0 count) && bytes_eq x.1 (codes ";") then Some (gates, x.0) else None

-- what is declared, where so many gates were read
abbrev pub wires_behind : List (List ℕ) → ℕ × List ℕ → Option (ℕ × List (List Bool))
wires_behind names g = behind (condition_names (g.0 == 0) names) g.1 >>=? λ rest. wires_from g.0 (length names) (arc_marks (length names) rest)

-- how many gates the line declares, and which arc wires
unfoldable pub wires_in : ℕ → List (List ℕ) → List ℕ → Option (ℕ × List (List Bool))
wires_in inputs names line = behind (codes "  wire ") line >>=? λ rest. wires_behind names (run gate_item (gate_room inputs) 0 rest)

-- whether the arc wire from u to v is
abbrev pub is_declared : List (List Bool) → ℕ → ℕ → Bool
is_declared arcs u v = slice_index_or (slice_index_or arcs u []) v false

-- ---- requests

-- what the line has for an operation that is waited for
abbrev pub wait_words : List ℕ → ℕ → ℕ → List ℕ
wait_words name u v = codes " & (a_" ++ (name ++ (codes " | ~c_" ++ (name ++ (codes " | ~e" ++ (decimal u ++ (codes "_" ++ (decimal v ++ codes ")")))))))

-- the same by the numbers of both operations
abbrev pub wait_item : List (List ℕ) → ℕ → ℕ → List ℕ
wait_item names v u = wait_words (name_of names u) u v

-- the operations that v waits for, and what is left of the line
abbrev pub waits_after : List (List ℕ) → List (List Bool) → ℕ → List ℕ → Set × List ℕ
waits_after names arcs v bytes = steps (λ u s. with_wait u s.0 (wait_mark (is_declared arcs u v) (wait_item names v u) s.1)) (length names) 0 (set.empty, bytes)

-- these, where the line ends here
abbrev pub waits_from : Set × List ℕ → Option Set
waits_from x = if bytes_eq x.1 (codes ";") then Some x.0 else None

-- what stands before them
abbrev pub front_words : List ℕ → List ℕ
front_words name = codes "  assign r_" ++ (name ++ (codes " = go & c_" ++ name))

-- the same by the number of the operation
abbrev pub request_front : List (List ℕ) → ℕ → List ℕ
request_front names v = front_words (name_of names v)

-- the operations that v waits for
unfoldable pub request_in : List (List ℕ) → List (List Bool) → ℕ → List ℕ → Option Set
request_in names arcs v line = behind (request_front names v) line >>=? λ rest. waits_from (waits_after names arcs v rest)

-- the operations that each waits for, a line for each
abbrev pub requests_at : List (List ℕ) → List (List Bool) → Position → Result (List Set × Position) ℕ
requests_at names arcs = many_of (λ v. row (request_in names arcs v)) (λ v _. v + 1) (length names) 0

-- ---- the whole

-- the line of the wire that says that all are done
abbrev pub done_line : ℕ → List (List ℕ) → List ℕ
done_line inputs names = equation_row inputs names (done_equation (length names))

-- the line of the wire that says that nothing goes on
abbrev pub idle_line : ℕ → List (List ℕ) → List ℕ
idle_line inputs names = equation_row inputs names (idle_equation (length names))

-- no value
abbrev pub nothing : {A : Type 0} → A → Unit {0}
nothing x = tt

-- the line of idle, and the last
unfoldable pub last_at : ℕ → List (List ℕ) → Position → Result (Unit {0} × Position) ℕ
last_at inputs names = view_of nothing (then_of (row (exactly (idle_line inputs names))) (λ _. row (exactly (codes "endmodule"))))

-- the line of done, and those behind it
unfoldable pub ends_at : ℕ → List (List ℕ) → Position → Result (Unit {0} × Position) ℕ
ends_at inputs names = view_of nothing (then_of (row (exactly (done_line inputs names))) (λ _. last_at inputs names))

-- the netlist of these parts
abbrev pub netlist_of : ℕ → List Gate → List Ref → List (List (Option Ref)) → List Set → Netlist
netlist_of inputs gates conditions wires waits = record { gates = record { inputs = inputs; gates = gates }; conditions = conditions; wires = wires; waits = waits }

-- the parts of a netlist that the rows behind the wires say
abbrev pub Parts : Type 0
Parts = List Gate × (List Ref × (List (List (Option Ref)) × (List Set × Unit {0})))

-- the netlist of what they say
abbrev pub netlist_from : ℕ → Parts → Netlist
netlist_from inputs x = netlist_of inputs x.0 x.1.0 x.1.1.0 x.1.1.1.0

-- the netlist, where the inner wires were declared so
unfoldable pub netlist_at : ℕ → List (List ℕ) → ℕ × List (List Bool) → Position → Result (Netlist × Position) ℕ
netlist_at inputs names d =
    view_of (netlist_from inputs) (then_of (gates_at inputs d.0) (λ _. then_of (conditions_at inputs d.0 names) (λ _.
    then_of (arcs_at inputs d.0 (is_declared d.1) (length names)) (λ _. then_of (requests_at names d.1) (λ _. ends_at inputs names)))))

-- a netlist with nothing in it
abbrev pub no_netlist : ℕ → Netlist
no_netlist inputs = netlist_of inputs [] [] [] []

-- a module with these inputs and names, for texts that depend on no more
abbrev pub plain_module : ℕ → List (List ℕ) → ModuleValue
plain_module inputs names = record { names = names; netlist = no_netlist inputs }

-- the netlist from the line of its inner wires on
abbrev pub declared_at : ℕ → List (List ℕ) → List ℕ → Position → Result (Netlist × Position) ℕ
declared_at inputs names line p = read_or_fault (wires_in inputs names line) p >>= λ d. netlist_at inputs names d.0 d.1

-- with no inner wire that line is missing, and the next is that of done
abbrev pub undeclared_at : ℕ → List (List ℕ) → List ℕ → Position → Result (Netlist × Position) ℕ
undeclared_at inputs names line p = read_or_fault (exactly (done_line inputs names) line) p >>= λ d. last_at inputs names d.1 >>= λ e. Ok (no_netlist inputs, e.1)

-- with an operation there is an inner wire
abbrev pub declares : List (List ℕ) → List ℕ → Bool
declares names line = nat_lt 0 (length names) || is_some (behind (codes "  wire ") line)

-- the netlist from this line on
abbrev pub body_from : ℕ → List (List ℕ) → List ℕ × Position → Result (Netlist × Position) ℕ
body_from inputs names x = if declares names x.0 then declared_at inputs names x.0 x.1 else undeclared_at inputs names x.0 x.1

-- the netlist from the next line on
unfoldable pub body_at : ℕ → List (List ℕ) → Position → Result (Netlist × Position) ℕ
body_at inputs names p = line_at p >>= body_from inputs names

-- the module of its ports and its netlist
abbrev pub module_from : (ℕ × List (List ℕ)) × Netlist → ModuleValue
module_from x = record { names = x.0.1; netlist = x.1 }

-- the module that the rows from here on are the text of
unfoldable pub module_at : Position → Result (ModuleValue × Position) ℕ
module_at = view_of module_from (then_of ports_at (λ h. body_at h.0 h.1))
