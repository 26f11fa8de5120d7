-- A report is read row by row, as it is put together.
use Rattle.std.proofs.Common.{◌≡◌, ℕ, List, [], ◌∷◌, length, Result, Ok, Err, refl, sym, ap, subst, ◌∙◌}
use Rattle.std.specs.Prelude.{codes, IfOk}
use Rattle.cpog_defs.specs.declared.types.Gate.{Gate}
use Rattle.cpog_defs.specs.declared.types.Ref.{Ref}
use Rattle.cpog_defs.specs.Gates.{GateList}
use Rattle.cnf_build.specs.Evidence.{EvidenceValue, OpenValue}
use Rattle.netlist_verilog.specs.Module.{ModuleValue}
use Rattle.report_text.specs.declared.bound.Bound.{Bound}
use Rattle.report_text.specs.Report.{ReportValue, IsReport}
use Rattle.report_text.specs.Spelling.{SpellsReport}
use Rattle.text_rows.specs.FirstBad.{IsFirstBad}
use Rattle.line_rows.specs.Position.{Position}
use Rattle.line_rows.specs.Reading.{◌>>=◌, row, exactly, then_of, view_of, whole}
use Rattle.line_rows.proofs.SpelledLaws.{IsSpelled, spelled_found, spelled_first_bad}
use Rattle.evidence_reader.specs.Shown.{shown_at}
use Rattle.module_reader.specs.Modules.{module_at}
use Rattle.report_reader.specs.Heads.{HeadValue, head_at}
use Rattle.report_reader.specs.Scenarios.{Block, Columns, columns_at, columns_from, scenarios_at}
use Rattle.report_reader.specs.Gates.{gates_at, gate_list, gate_list_at, ops_at, arcs_at}
use Rattle.report_reader.specs.Reports.{IsReportText, Scenes, Parts, end_at, body_at, parts_at, report_from, report_at, columns_of_scenes, report_of, design_read, netlist_read, shown_read, arcs_read, ops_read, gates_read, scenarios_read, report_read}
use Rattle.report_reader.specs.declared.gates.ArcLine.{ArcLine}
use Rattle.report_reader.proofs.OthersLaws.{columns_are}
use Rattle.report_reader.proofs.WholeLaws.{report_spelled}

-- ---- rows one behind another, and what is made of all

abbrev then_with : {A B : Type 0} → Result (A × Position) ℕ → (A → Position → Result (B × Position) ℕ) → Result ((A × B) × Position) ℕ
then_with r more = r >>= λ x. more x.0 x.1 >>= λ y. Ok ((x.0, y.0), y.1)

abbrev view_with : {A B : Type 0} → (A → B) → Result (A × Position) ℕ → Result (B × Position) ℕ
view_with make r = r >>= λ x. Ok (make x.0, x.1)

module _ {A B D : Type 0} (make : A × B → D) (s : A → Position → Result (B × Position) ℕ) where
  abbrev second_made : A → B → D
  second_made a b = make (a, b)

  second_step : (a : A) (o : Result (B × Position) ℕ) → view_with make (view_with (λ y. (a, y)) o) ≡ view_with (second_made a) o
  second_step a (Err k) = refl
  second_step a (Ok y) = refl

  abbrev after_first : A × Position → Result (D × Position) ℕ
  after_first a = view_of (second_made a.0) (s a.0) a.1

  first_step : (o : Result (A × Position) ℕ) → view_with make (then_with o s) ≡ (o >>= after_first)
  first_step (Err k) = refl
  first_step (Ok a) = second_step a.0 (s a.0 a.1)

-- what follows may be read in another way
bind_same : {A B : Type 0} (o : Result A ℕ) (f g : A → Result B ℕ) → ((x : A) → f x ≡ g x) → (o >>= f) ≡ (o >>= g)
bind_same (Err k) f g same = refl
bind_same (Ok x) f g same = same x

bind_view : {A B D : Type 0} (make : A → B) (o : Result (A × Position) ℕ) (f : B × Position → Result D ℕ) → (view_with make o >>= f) ≡ (o >>= λ x. f (make x.0, x.1))
bind_view make (Err k) f = refl
bind_view make (Ok x) f = refl

read_on : {A B D : Type 0} (make : A × B → D) (r : Position → Result (A × Position) ℕ) (s : A → Position → Result (B × Position) ℕ) (next : A × Position → Result (D × Position) ℕ) (p : Position)
    → ((a : A × Position) → view_of (λ b. make (a.0, b)) (s a.0) a.1 ≡ next a) → view_of make (then_of r s) p ≡ (r p >>= next)
read_on make r s next p same = first_step make s (r p) ∙ bind_same (r p) (after_first make s) next same

-- ---- a report

module _ (h : HeadValue) (s : Scenes) (g : List Gate) where
  abbrev list : GateList
  list = gate_list h.bits g

  abbrev cols : Columns
  cols = columns_of_scenes s

  abbrev count : ℕ
  count = s.1.1

  abbrev Shown : Type 0
  Shown = EvidenceValue × OpenValue

  netlist_same : (o : List Ref) (a : List ArcLine × Bound) (e : Shown) (p : Position) → view_of (λ b. report_from (h, (s, (g, (o, (a, (e, b))))))) (then_of (row (exactly (codes "netlist"))) (λ _. module_at)) p ≡ netlist_read h cols list o a e p
  netlist_same o a e p = read_on (λ b. report_from (h, (s, (g, (o, (a, (e, b))))))) (row (exactly (codes "netlist"))) (λ _. module_at) (λ n. design_read h cols list o a e n.1) p (λ n. refl)

  shown_same : (o : List Ref) (a : List ArcLine × Bound) (p : Position) → view_of (λ b. report_from (h, (s, (g, (o, (a, b)))))) (end_at h.names) p ≡ shown_read h cols list o a p
  shown_same o a p = read_on (λ b. report_from (h, (s, (g, (o, (a, b)))))) (shown_at h.names 65536) (λ _. then_of (row (exactly (codes "netlist"))) (λ _. module_at)) (λ e. netlist_read h cols list o a e.0 e.1) p (λ e. netlist_same o a e.0 e.1)

  arcs_same : (o : List Ref) (p : Position) → view_of (λ b. report_from (h, (s, (g, (o, b))))) (then_of (arcs_at h.bits count h.names) (λ _. end_at h.names)) p ≡ arcs_read h cols count list o p
  arcs_same o p = read_on (λ b. report_from (h, (s, (g, (o, b))))) (arcs_at h.bits count h.names) (λ _. end_at h.names) (λ a. shown_read h cols list o a.0 a.1) p (λ a. shown_same o a.0 a.1)

  ops_same : (p : Position) → view_of (λ b. report_from (h, (s, (g, b)))) (then_of (ops_at h.bits count h.names) (λ _. then_of (arcs_at h.bits count h.names) (λ _. end_at h.names))) p ≡ ops_read h cols count list p
  ops_same p = read_on (λ b. report_from (h, (s, (g, b)))) (ops_at h.bits count h.names) (λ _. then_of (arcs_at h.bits count h.names) (λ _. end_at h.names)) (λ o. arcs_read h cols count list o.0 o.1) p (λ o. arcs_same o.0 o.1)

abbrev gates_on : HeadValue → Scenes → List Gate × Position → Result (ReportValue × Position) ℕ
gates_on h s g = ops_read h (columns_of_scenes s) s.1.1 (gate_list h.bits g.0) g.1

gates_same : (h : HeadValue) (s : Scenes) (p : Position) → view_of (λ b. report_from (h, (s, b))) (body_at h.bits h.names s.1.1) p ≡ gates_read h (columns_of_scenes s) s.1.1 p
gates_same h s p =
    read_on (λ b. report_from (h, (s, b))) (gates_at h.bits s.1.1) (λ _. then_of (ops_at h.bits s.1.1 h.names) (λ _. then_of (arcs_at h.bits s.1.1 h.names) (λ _. end_at h.names))) (gates_on h s) p (λ g. ops_same h s g.0 g.1)
    ∙ sym (bind_view (gate_list h.bits) (gates_at h.bits s.1.1 p) (λ g. ops_read h (columns_of_scenes s) s.1.1 g.0 g.1))

abbrev scenes_on : HeadValue → (Columns × ℕ) × Position → Result (ReportValue × Position) ℕ
scenes_on h s = gates_read h s.0.0 s.0.1 s.1

scenarios_same : (h : HeadValue) (p : Position) → view_of (λ b. report_from (h, b)) (then_of (scenarios_at h.bits h.names) (λ s. body_at h.bits h.names s.1.1)) p ≡ scenarios_read h p
scenarios_same h p =
    read_on (λ b. report_from (h, b)) (scenarios_at h.bits h.names) (λ s. body_at h.bits h.names s.1.1) (λ s. gates_read h (columns_of_scenes s.0) s.0.1.1 s.1) p (λ s. gates_same h s.0 s.1)
    ∙ sym (bind_view columns_from (scenarios_at h.bits h.names p) (scenes_on h))
    ∙ ap (λ (r : Result ((Columns × ℕ) × Position) ℕ). r >>= scenes_on h) (columns_are h.bits h.names p)

report_same : (p : Position) → report_at p ≡ report_read p
unfolding report_read
report_same p = read_on report_from head_at (λ h. then_of (scenarios_at h.bits h.names) (λ s. body_at h.bits h.names s.1.1)) (λ h. scenarios_read h.0 h.1) p (λ h. scenarios_same h.0 h.1)

pub report_law : IsSpelled SpellsReport report_read
report_law = subst (IsSpelled SpellsReport) (λ i p. report_same p i) report_spelled

pub report_found : (lines : List (List ℕ)) (r : ReportValue) → whole report_read lines ≡ Ok r → SpellsReport r lines
report_found lines r e = spelled_found report_law lines r e

pub report_bad : (lines : List (List ℕ)) (k : ℕ) → whole report_read lines ≡ Err k → IsFirstBad IsReportText lines k
report_bad lines k e = spelled_first_bad report_law lines k e
