-- A report, as its rows are read.
use Rattle.std.specs.Prelude.{ℕ, List, [], ◌∷◌, ◌++◌, length, Result, Ok, codes}
use Rattle.cpog_defs.specs.declared.types.Gate.{Gate}
use Rattle.cpog_defs.specs.declared.types.Ref.{Ref}
use Rattle.cnf_build.specs.Evidence.{EvidenceValue, OpenValue}
use Rattle.netlist_verilog.specs.Module.{ModuleValue}
use Rattle.report_text.specs.declared.bound.Bound.{Bound}
use Rattle.report_text.specs.declared.version.Version.TheVariants as versions
use Rattle.report_text.specs.Report.{ReportValue}
use Rattle.report_text.specs.Spelling.{SpellsReport}
use Rattle.line_rows.specs.Position.{Position}
use Rattle.line_rows.specs.Reading.{◌>>=◌, row, exactly, then_of, view_of}
use Rattle.evidence_reader.specs.Shown.{shown_at}
use Rattle.module_reader.specs.Modules.{module_at}
use Rattle.report_reader.specs.Heads.{HeadValue, head_at}
use Rattle.report_reader.specs.Scenarios.{Block, Columns, columns_at, columns_from, scenarios_at}
use Rattle.cpog_defs.specs.Gates.{GateList}
use Rattle.report_reader.specs.Gates.{gates_at, gate_list_at, ops_at, arcs_at}
use Rattle.report_reader.specs.Entries.{graph_from}
use Rattle.report_reader.specs.declared.gates.ArcLine.{ArcLine}

-- the lines spell some report
abbrev pub IsReportText : List (List ℕ) → Type 0
IsReportText lines = (r : ReportValue) × SpellsReport r lines

abbrev pub Scenes : Type 0
Scenes = Block × (List Block × ℕ)

-- what the rows say, one behind another
abbrev pub Parts : Type 0
Parts = HeadValue × (Scenes × (List Gate × (List Ref × ((List ArcLine × Bound) × ((EvidenceValue × OpenValue) × (Unit {0} × ModuleValue))))))

-- the evidence and the open part, and the module behind its line
abbrev pub end_at : List (List ℕ) → Position → Result (((EvidenceValue × OpenValue) × (Unit {0} × ModuleValue)) × Position) ℕ
end_at names = then_of (shown_at names 65536) (λ _. then_of (row (exactly (codes "netlist"))) (λ _. module_at))

-- the gates and the conditions, the bound, and what stands behind it
abbrev pub body_at : ℕ → List (List ℕ) → ℕ → Position → Result ((List Gate × (List Ref × ((List ArcLine × Bound) × ((EvidenceValue × OpenValue) × (Unit {0} × ModuleValue))))) × Position) ℕ
body_at bits names count = then_of (gates_at bits count) (λ _. then_of (ops_at bits count names) (λ _. then_of (arcs_at bits count names) (λ _. end_at names)))

abbrev pub parts_at : Position → Result (Parts × Position) ℕ
parts_at = then_of head_at (λ h. then_of (scenarios_at h.bits h.names) (λ s. body_at h.bits h.names s.1.1))

abbrev pub columns_of_scenes : Scenes → Columns
columns_of_scenes s = (columns_from s).0

-- the report that the rows say
abbrev pub report_from : Parts → ReportValue
report_from x = record {
  version = versions.One;
  bits = x.0.bits;
  budget = x.0.budget;
  names = x.0.names;
  scenario_names = (columns_of_scenes x.1.0).names;
  patterns = (columns_of_scenes x.1.0).patterns;
  scenarios = (columns_of_scenes x.1.0).scenarios;
  encoding = record {
    codes = (columns_of_scenes x.1.0).codes;
    gates = record { inputs = x.0.bits; gates = x.1.1.0 };
    graph = graph_from (length x.0.names) x.1.1.1.0 x.1.1.1.1.0.0;
  };
  bound = x.1.1.1.1.0.1;
  evidence = x.1.1.1.1.1.0.0;
  open_part = x.1.1.1.1.1.0.1;
  design = x.1.1.1.1.1.1.1;
}

-- a report
abbrev pub report_at : Position → Result (ReportValue × Position) ℕ
report_at = view_of report_from parts_at

-- ---- as it is read

-- a report of these parts
abbrev pub report_of : HeadValue → Columns → GateList → List Ref → List ArcLine × Bound → EvidenceValue × OpenValue → ModuleValue → ReportValue
report_of h c gates ops arcs shown design = record {
  version = versions.One;
  bits = h.bits;
  budget = h.budget;
  names = h.names;
  scenario_names = c.names;
  patterns = c.patterns;
  scenarios = c.scenarios;
  encoding = record { codes = c.codes; gates = gates; graph = graph_from (length h.names) ops arcs.0 };
  bound = arcs.1;
  evidence = shown.0;
  open_part = shown.1;
  design = design;
}

-- from the module on
abbrev pub design_read : HeadValue → Columns → GateList → List Ref → List ArcLine × Bound → EvidenceValue × OpenValue → Position → Result (ReportValue × Position) ℕ
design_read h c gates ops arcs shown p = module_at p >>= λ m. Ok (report_of h c gates ops arcs shown m.0, m.1)

-- from the line before it on
abbrev pub netlist_read : HeadValue → Columns → GateList → List Ref → List ArcLine × Bound → EvidenceValue × OpenValue → Position → Result (ReportValue × Position) ℕ
netlist_read h c gates ops arcs shown p = row (exactly (codes "netlist")) p >>= λ n. design_read h c gates ops arcs shown n.1

-- from the evidence on
abbrev pub shown_read : HeadValue → Columns → GateList → List Ref → List ArcLine × Bound → Position → Result (ReportValue × Position) ℕ
shown_read h c gates ops arcs p = shown_at h.names 65536 p >>= λ e. netlist_read h c gates ops arcs e.0 e.1

-- from the conditions of arcs on
abbrev pub arcs_read : HeadValue → Columns → ℕ → GateList → List Ref → Position → Result (ReportValue × Position) ℕ
arcs_read h c count gates ops p = arcs_at h.bits count h.names p >>= λ a. shown_read h c gates ops a.0 a.1

-- from the conditions of operations on
abbrev pub ops_read : HeadValue → Columns → ℕ → GateList → Position → Result (ReportValue × Position) ℕ
ops_read h c count gates p = ops_at h.bits count h.names p >>= λ o. arcs_read h c count gates o.0 o.1

-- from the gates on
abbrev pub gates_read : HeadValue → Columns → ℕ → Position → Result (ReportValue × Position) ℕ
gates_read h c count p = gate_list_at h.bits count p >>= λ g. ops_read h c count g.0 g.1

-- from the scenarios on
abbrev pub scenarios_read : HeadValue → Position → Result (ReportValue × Position) ℕ
scenarios_read h p = columns_at h.bits h.names p >>= λ s. gates_read h s.0.0 s.0.1 s.1

-- a report
unfoldable pub report_read : Position → Result (ReportValue × Position) ℕ
report_read p = head_at p >>= λ h. scenarios_read h.0 h.1
