-- The lines of a report, a definition for each kind.
use Rattle.std.specs.Prelude.{ℕ, Bool, true, false, if◌then◌else◌, List, [], ◌∷◌, ◌++◌, length, map, slice_index, slice_index_or, codes}
use Rattle.std.specs.List.{flat_map, list_any}
use Rattle.std.specs.Fmt.{decimal}
use Rattle.std.specs.FinSet as set
use Rattle.cpog_base.specs.Pattern.{is_given}
use Rattle.cpog_defs.specs.declared.types.Bit3.{Bit3}
use Rattle.cpog_defs.specs.declared.types.Bit3.TheVariants as bits
use Rattle.cpog_defs.specs.declared.types.OpId.{OpId}
use Rattle.cpog_defs.specs.declared.types.Gate.{Gate}
use Rattle.cpog_defs.specs.declared.types.Place.{Place}
use Rattle.cpog_defs.specs.declared.types.Place.TheVariants.{Op, Arc}
use Rattle.cpog_defs.specs.declared.types.Ref.{Ref}
use Rattle.cpog_defs.specs.declared.types.Ref.TheVariants.{Const, Signal}
use Rattle.cpog_defs.specs.Codes.{word_bits}
use Rattle.cpog_defs.specs.Graphs.{ConditionalGraph, op_ref, arc_ref}
use Rattle.cpog_defs.specs.Orders.{Set, each_below}
use Rattle.cpog_defs.specs.Scenarios.{Scenario}
use Rattle.gate_template.specs.declared.types.Template.{Template}
use Rattle.gate_template.specs.declared.types.Template.TheVariants.{First, Second, Third}
use Rattle.cnf_build.specs.Evidence.{EvidenceValue, OpenValue}
use Rattle.proof_check.specs.Lines.{Line}
use Rattle.dimacs_text.specs.Writing.{log_lines}
use Rattle.netlist_verilog.specs.Wires.{signal_text, name_of}
use Rattle.netlist_verilog.specs.Module.{ModuleValue}
use Rattle.netlist_verilog.specs.Rows.{module_lines}
use Rattle.report_text.specs.declared.bound.Bound.{Bound}
use Rattle.report_text.specs.declared.bound.Bound.TheVariants.{Minimum, Between}
use Rattle.report_text.specs.declared.version.Version.{Version}
use Rattle.report_text.specs.Versions.{version_number}
use Rattle.report_text.specs.Report.{ReportValue}

-- a bit as its digit
abbrev pub digit : Bool → ℕ
digit b = if b then 49 else 48

-- the first bits of a word, that of weight 1 first
abbrev pub digits_of : ℕ → ℕ → List ℕ
digits_of bits word = map digit (word_bits word bits)

-- what is asked of a bit: its digit, or a dash where it is open
abbrev pub entry_digit : Bit3 → ℕ
entry_digit bits.Zero = 48
entry_digit bits.One = 49
entry_digit bits.Free = 45

-- the entries of a pattern behind a blank; nothing where no bit is given
abbrev pub given_text : List Bit3 → List ℕ
given_text pattern = if list_any is_given pattern then 32 ∷ map entry_digit pattern else []

-- a constant, a signal, or its complement
abbrev pub ref_text : ℕ → Ref → List ℕ
ref_text inputs (Const false) = codes "0"
ref_text inputs (Const true) = codes "1"
ref_text inputs (Signal n false) = signal_text inputs n
ref_text inputs (Signal n true) = codes "!" ++ signal_text inputs n

-- each name behind a blank
abbrev pub blank_names : List (List ℕ) → List ℕ
blank_names names = flat_map (λ name. 32 ∷ name) names

-- the version of the format
abbrev pub version_row : Version → List ℕ
version_row version = codes "cpog report " ++ decimal (version_number version)

-- how many bits a code has
abbrev pub bits_row : ℕ → List ℕ
bits_row bits = codes "bits " ++ decimal bits

-- how many numbers a search may write
abbrev pub budget_row : ℕ → List ℕ
budget_row budget = codes "budget " ++ decimal budget

-- the names of the operations
abbrev pub operations_row : List (List ℕ) → List ℕ
operations_row names = codes "operations" ++ blank_names names

-- a scenario's name, the digits of its code, that of x0 first, and what is given of them
abbrev pub scenario_row : ℕ → List ℕ → ℕ → List Bit3 → List ℕ
scenario_row bits name code pattern =
    codes "scenario " ++ (name ++ (codes " " ++ (digits_of bits code ++ given_text pattern)))

-- the members below a number, in their order
abbrev pub members_below : Set → ℕ → List ℕ
members_below ops count = each_below (λ v. if set.contains ops v then v ∷ [] else []) count

-- the operations that a scenario has
abbrev pub has_row : List (List ℕ) → Scenario → List ℕ
has_row names sc = codes "has" ++ blank_names (map (name_of names) (members_below sc.ops sc.count))

-- an arc by the names of its ends
abbrev pub arc_text : List (List ℕ) → (OpId × OpId) → List ℕ
arc_text names arc = name_of names arc.0.0 ++ (codes ">" ++ name_of names arc.1.0)

-- the arcs of a scenario, in their order
abbrev pub arcs_row : List (List ℕ) → Scenario → List ℕ
arcs_row names sc = codes "arcs" ++ blank_names (map (arc_text names) sc.arcs)

-- the three lines of scenario s
abbrev pub scenario_lines : ReportValue → ℕ → List (List ℕ)
scenario_lines r s =
    let sc = slice_index_or r.scenarios s (record { count = 0; ops = set.empty; arcs = [] }) in
    scenario_row r.bits (name_of r.scenario_names s) (slice_index r.encoding.codes s) (slice_index_or r.patterns s [])
    ∷ has_row r.names sc ∷ arcs_row r.names sc ∷ []

-- how many gates there are
abbrev pub gates_row : ℕ → List ℕ
gates_row count = codes "gates " ++ decimal count

-- gate g: its two signals, and its values where they are 00, 01, 10 and 11
abbrev pub gate_row : ℕ → ℕ → Gate → List ℕ
gate_row inputs g gate =
    codes "g" ++ (decimal g ++ (codes " " ++
    (signal_text inputs gate.j ++ (codes " " ++
    (signal_text inputs gate.k ++ (codes " " ++ digits_of 4 gate.table))))))

-- the lines of the gates, in their order
abbrev pub gate_lines : ℕ → List Gate → List (List ℕ)
gate_lines inputs gates =
    each_below (λ g. gate_row inputs g (slice_index_or gates g (record { j = 0; k = 0; table = 0 })) ∷ [])
    (length gates)

-- the condition of an operation
abbrev pub op_row : ℕ → List ℕ → Ref → List ℕ
op_row inputs name ref = codes "op " ++ (name ++ (codes " " ++ ref_text inputs ref))

-- the conditions of the operations, in their order
abbrev pub op_lines : ℕ → List (List ℕ) → ConditionalGraph → List (List ℕ)
op_lines inputs names graph = each_below (λ v. op_row inputs (name_of names v) (op_ref graph v) ∷ []) (length names)

-- the condition of a pair
abbrev pub arc_row : ℕ → List ℕ → List ℕ → Ref → List ℕ
arc_row inputs first second ref =
    codes "arc " ++ (first ++ (codes " " ++ (second ++ (codes " " ++ ref_text inputs ref))))

-- a line, but none for the constant 0
abbrev pub line_unless_zero : List ℕ → Ref → List (List ℕ)
line_unless_zero line (Const false) = []
line_unless_zero line (Const true) = line ∷ []
line_unless_zero line (Signal n negated) = line ∷ []

-- the conditions of the pairs (u, v) for the numbers v below a number; from an operation to itself the condition is 0
abbrev pub arc_lines_from : ℕ → List (List ℕ) → ConditionalGraph → ℕ → ℕ → List (List ℕ)
arc_lines_from inputs names graph u count =
    each_below (λ v. line_unless_zero (arc_row inputs (name_of names u) (name_of names v) (arc_ref graph u v))
    (arc_ref graph u v)) count

-- the conditions of the pairs that aren't 0, by their first end and then their second
abbrev pub arc_lines : ℕ → List (List ℕ) → ConditionalGraph → List (List ℕ)
arc_lines inputs names graph = each_below (λ u. arc_lines_from inputs names graph u (length names)) (length names)

-- the least number of gates, or the numbers between which it is
abbrev pub bound_row : Bound → List ℕ
bound_row (Minimum h) = codes "minimum " ++ decimal h
bound_row (Between lo hi) = codes "between " ++ (decimal lo ++ (codes " " ++ decimal hi))

-- the number of a template
abbrev pub template_number : Template → ℕ
template_number First = 1
template_number Second = 2
template_number Third = 3

-- a template and its number of gates
abbrev pub template_text : Template → ℕ → List ℕ
template_text kind gates = decimal (template_number kind) ++ (codes " " ++ decimal gates)

-- a place by the names of its operations
abbrev pub place_row : List (List ℕ) → Place → List ℕ
place_row names (Op v) = codes "op " ++ name_of names v.0
place_row names (Arc u v) = codes "arc " ++ (name_of names u.0 ++ (codes " " ++ name_of names v.0))

-- a log below its first line, up to its end
abbrev pub closed_log : List Line → List (List ℕ)
closed_log log = log_lines log ++ codes "end" ∷ []

-- what shows that there are no fewer gates
abbrev pub evidence_lines : List (List ℕ) → EvidenceValue → List (List ℕ)
evidence_lines names EvidenceValue.Zero = codes "evidence zero" ∷ []
evidence_lines names (EvidenceValue.Count places) = codes "evidence count" ∷ map (place_row names) places
evidence_lines names (EvidenceValue.Refutation kind gates log) =
    (codes "evidence refutation " ++ template_text kind gates) ∷ closed_log log

-- what is left open
abbrev pub open_lines : OpenValue → List (List ℕ)
open_lines OpenValue.Closed = codes "open none" ∷ []
open_lines (OpenValue.Log kind gates log) = (codes "open log " ++ template_text kind gates) ∷ closed_log log
open_lines (OpenValue.Size kind gates) = (codes "open size " ++ template_text kind gates) ∷ []

-- the lines before the scenarios: the version, the bits, the budget and the operations
abbrev pub head_lines : ReportValue → List (List ℕ)
head_lines r = version_row r.version ∷ bits_row r.bits ∷ budget_row r.budget ∷ operations_row r.names ∷ []

-- the module, to the end
abbrev pub netlist_lines : ModuleValue → List (List ℕ)
netlist_lines m = codes "netlist" ∷ module_lines m

-- the lines of a report
abbrev pub report_lines : ReportValue → List (List ℕ)
report_lines r =
    head_lines r
    ++ (each_below (scenario_lines r) (length r.scenarios)
    ++ (gates_row (length r.encoding.gates.gates) ∷ gate_lines r.bits r.encoding.gates.gates
    ++ (op_lines r.bits r.names r.encoding.graph
    ++ (arc_lines r.bits r.names r.encoding.graph
    ++ (bound_row r.bound ∷ evidence_lines r.names r.evidence
    ++ (open_lines r.open_part
    ++ netlist_lines r.design))))))
