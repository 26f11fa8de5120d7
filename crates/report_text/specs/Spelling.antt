-- How lines spell a report. A deletion line of a log may have any id, so that a report may be spelled in more ways than
-- the one in which it is written.
use Rattle.std.specs.Prelude.{◌≡◌, ℕ, List, [], ◌∷◌, ◌++◌, length, map, codes}
use Rattle.cpog_base.specs.declared.limits.TheConstants.{VARIABLE_LIMIT}
use Rattle.cpog_defs.specs.Orders.{each_below}
use Rattle.text_rows.specs.Words.{tokens, spaced}
use Rattle.proof_check.specs.Lines.{Line}
use Rattle.dimacs_text.specs.Logs.{SpellsLine, id_after}
use Rattle.cnf_build.specs.Evidence.{EvidenceValue, OpenValue}
use Rattle.report_text.specs.Report.{ReportValue, IsReport}
use Rattle.report_text.specs.Rows.{head_lines, scenario_lines, gates_row, gate_lines, op_lines, arc_lines, bound_row, template_text, place_row, netlist_lines}

-- one blank stands between each two words of the line, and none at its ends
abbrev pub IsSingleSpaced : List ℕ → Type 0
IsSingleSpaced line = line ≡ spaced (tokens line)

-- the lines spell a log up to the line that ends it, behind additions of which the last has this id
abbrev pub SpellsToEnd : ℕ → List Line → List (List ℕ) → Type 0
SpellsToEnd last [] lines = lines ≡ codes "end" ∷ []
SpellsToEnd last (e ∷ log) [] = ⊥
SpellsToEnd last (e ∷ log) (line ∷ lines) =
    IsSingleSpaced line × SpellsLine VARIABLE_LIMIT last e (tokens line) × SpellsToEnd (id_after last e) log lines

-- the lines spell a log behind its first line
abbrev pub SpellsHeaded : List ℕ → List Line → List (List ℕ) → Type 0
SpellsHeaded head log lines = (rest : List (List ℕ)) × (lines ≡ head ∷ rest) × SpellsToEnd 0 log rest

-- the lines spell what shows that there are no fewer gates
abbrev pub SpellsEvidence : List (List ℕ) → EvidenceValue → List (List ℕ) → Type 0
SpellsEvidence names EvidenceValue.Zero lines = lines ≡ codes "evidence zero" ∷ []
SpellsEvidence names (EvidenceValue.Count places) lines = lines ≡ codes "evidence count" ∷ map (place_row names) places
SpellsEvidence names (EvidenceValue.Refutation kind gates log) lines =
    SpellsHeaded (codes "evidence refutation " ++ template_text kind gates) log lines

-- the lines spell what is left open
abbrev pub SpellsOpen : OpenValue → List (List ℕ) → Type 0
SpellsOpen OpenValue.Closed lines = lines ≡ codes "open none" ∷ []
SpellsOpen (OpenValue.Log kind gates log) lines = SpellsHeaded (codes "open log " ++ template_text kind gates) log lines
SpellsOpen (OpenValue.Size kind gates) lines = lines ≡ (codes "open size " ++ template_text kind gates) ∷ []

-- the lines before the evidence
abbrev pub lines_to_bound : ReportValue → List (List ℕ)
lines_to_bound r =
    head_lines r
    ++ (each_below (scenario_lines r) (length r.scenarios)
    ++ (gates_row (length r.encoding.gates.gates) ∷ gate_lines r.bits r.encoding.gates.gates
    ++ (op_lines r.bits r.names r.encoding.graph
    ++ (arc_lines r.bits r.names r.encoding.graph
    ++ bound_row r.bound ∷ []))))

-- the lines spell a report
pub record SpellsReport (r : ReportValue) (lines : List (List ℕ)) : Type 0 where
  pub report : IsReport r
  pub evidence_lines : List (List ℕ)
  pub evidence : SpellsEvidence r.names r.evidence evidence_lines
  pub open_lines : List (List ℕ)
  pub open_part : SpellsOpen r.open_part open_lines
  pub whole : lines ≡ lines_to_bound r ++ (evidence_lines ++ (open_lines ++ netlist_lines r.design))
