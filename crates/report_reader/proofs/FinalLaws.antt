-- The steps of the functions that read a whole report.
use Rattle.std.proofs.Common.{◌≡◌, ◌≢◌, ℕ, ◌<◌, ◌≤◌, ◌+◌, ◌^◌, false, List, [], ◌∷◌, length, Result, Ok, Err, refl, sym, ap, subst, ◌∙◌, arith}
use Rattle.std.specs.Prelude.{codes, IfOk, replicate}
use Rattle.std.specs.List.{AllByRecursion}
use Rattle.cpog_base.specs.declared.limits.TheConstants.{BIT_LIMIT}
use Rattle.cpog_defs.specs.declared.types.Ref.{Ref}
use Rattle.cpog_defs.specs.declared.types.Ref.TheVariants.{Const}
use Rattle.cpog_defs.specs.Gates.{GateList}
use Rattle.cpog_defs.specs.Graphs.{ConditionalGraph}
use Rattle.cpog_defs.specs.Encodings.{IsEncoding}
use Rattle.cnf_build.specs.Evidence.{EvidenceValue, OpenValue}
use Rattle.report_text.specs.declared.bound.Bound.{Bound}
use Rattle.report_text.specs.declared.version.Version.{Version}
use Rattle.report_text.specs.declared.version.Version.TheVariants as versions
use Rattle.report_text.specs.Report.{ReportValue, IsReport}
use Rattle.report_text.specs.Versions.{operation_limit}
use Rattle.line_rows.specs.declared.fault.ReadError.{ReadError}
use Rattle.line_rows.specs.declared.fault.ReadError.TheVariants as errors
use Rattle.line_rows.specs.Position.{Position}
use Rattle.line_rows.specs.Reading.{◌>>=◌, Gives, Fails, row, exactly, none_left, ended, whole}
use Rattle.line_rows.proofs.RowLaws.{at, err_is}
use Rattle.evidence_reader.specs.Shown.{shown_at}
use Rattle.module_reader.specs.Modules.{module_at}
use Rattle.report_reader.specs.Heads.{HeadValue, head_at}
use Rattle.report_reader.specs.Scenarios.{Columns, columns_at}
use Rattle.report_reader.specs.Gates.{gate_list_at, ops_at, arcs_at}
use Rattle.report_reader.specs.Entries.{EndsFit, arcs_set, graph_from}
use Rattle.text_rows.specs.FirstBad.{IsFirstBad}
use Rattle.report_reader.specs.Reports.{IsReportText, report_read}
use Rattle.report_reader.proofs.ReadLaws.{report_bad}
use Rattle.report_reader.specs.declared.gates.ArcLine.{ArcLine}
use Rattle.report_reader.proofs.GraphLaws.{arcs_are_table}

-- what holds of a value that was read
pub told : {X Y : Type 0} (view : X → Y) (r : Result X ReadError) (read : Result Y ℕ) → Gives view r read → (P : X → Type 0) → ((x : X) → read ≡ Ok (view x) → P x) → IfOk r P
told view (Ok x) read given P holds = holds x given
told view (Err e) read given P holds = tt

pub netlist_fails : (e : ReadError) (p q1 q2 q3 q4 q5 q : Position) (h : HeadValue) (c : Columns) (n : ℕ) (g : GateList) (o : List Ref) (a : List ArcLine × Bound) (s : EvidenceValue × OpenValue)
    → head_at p ≡ Ok (h, q1) → columns_at h.bits h.names q1 ≡ Ok ((c, n), q2) → gate_list_at h.bits n q2 ≡ Ok (g, q3) → ops_at h.bits n h.names q3 ≡ Ok (o, q4) → arcs_at h.bits n h.names q4 ≡ Ok (a, q5)
    → shown_at h.names 65536 q5 ≡ Ok (s, q) → Fails e (row (exactly (codes "netlist")) q) → Fails e (report_read p)
unfolding report_read
netlist_fails errors.Memory p q1 q2 q3 q4 q5 q h c n g o a s e1 e2 e3 e4 e5 e6 f = tt
netlist_fails (errors.BadLine k) p q1 q2 q3 q4 q5 q h c n g o a s e1 e2 e3 e4 e5 e6 f = rw (e1, e2, e3, e4, e5, e6, f) refl

pub design_fails : (e : ReadError) (p q1 q2 q3 q4 q5 q6 q : Position) (h : HeadValue) (c : Columns) (n : ℕ) (g : GateList) (o : List Ref) (a : List ArcLine × Bound) (s : EvidenceValue × OpenValue) (u : Unit {0})
    → head_at p ≡ Ok (h, q1) → columns_at h.bits h.names q1 ≡ Ok ((c, n), q2) → gate_list_at h.bits n q2 ≡ Ok (g, q3) → ops_at h.bits n h.names q3 ≡ Ok (o, q4) → arcs_at h.bits n h.names q4 ≡ Ok (a, q5)
    → shown_at h.names 65536 q5 ≡ Ok (s, q6) → row (exactly (codes "netlist")) q6 ≡ Ok (u, q) → Fails e (module_at q) → Fails e (report_read p)
unfolding report_read
design_fails errors.Memory p q1 q2 q3 q4 q5 q6 q h c n g o a s u e1 e2 e3 e4 e5 e6 e7 f = tt
design_fails (errors.BadLine k) p q1 q2 q3 q4 q5 q6 q h c n g o a s u e1 e2 e3 e4 e5 e6 e7 f = rw (e1, e2, e3, e4, e5, e6, e7, f) refl

abbrev nothing_left : List (List ℕ) → ℕ → Result (Unit {0}) ℕ
nothing_left = none_left tt

pub whole_fails : (e : ReadError) (lines : List (List ℕ)) (q : Position) (r : ReportValue) → report_read (at lines 0) ≡ Ok (r, q) → Fails e (nothing_left q.lines q.number) → Fails e (whole report_read lines)
whole_fails errors.Memory lines q r read f = tt
whole_fails (errors.BadLine k) lines q r read f = rw read (left q.lines q.number f)
  where
    left : (ls : List (List ℕ)) (n : ℕ) → nothing_left ls n ≡ Err k → none_left r ls n ≡ Err k
    left [] n h = absurd cc
    left (l ∷ ls) n h = ap (λ (j : ℕ). Err j) (err_is (n + 1) k h)

-- ---- the graph

abbrev zeros : ℕ → ConditionalGraph
zeros n = record { ops = replicate n (Const false); arcs = replicate n (replicate n (Const false)) }

pub graph_is : (n : ℕ) (ops : List Ref) (es : List ArcLine) (g0 g1 g2 : ConditionalGraph) → AllByRecursion (EndsFit n) es → g0 ≡ zeros n → g1 ≡ record { ops = g0.ops; arcs = arcs_set g0.arcs es } → g2 ≡ record { ops = ops; arcs = g1.arcs } → g2 ≡ graph_from n ops es
unfolding graph_from
graph_is n ops es g0 g1 g2 fits e0 e1 e2 =
    let rows : g1.arcs ≡ arcs_set (replicate n (replicate n (Const false))) es = ap (λ (g : ConditionalGraph). g.arcs) e1 ∙ ap (λ (g : ConditionalGraph). arcs_set g.arcs es) e0 in
    e2 ∙ ap (λ (t : List (List Ref)). record { ops = ops; arcs = t }) (rows ∙ arcs_are_table n es fits)

-- ---- the encoding of a report

one_version : (v : Version) → v ≡ versions.One
one_version versions.One = refl

pub few_codes : (r : ReportValue) → IsReport r → length r.encoding.codes ≤ 2 ^ BIT_LIMIT
few_codes r is = omega (arith, is.one_code_each, is.few_scenarios)

pub few_graph_ops : (r : ReportValue) → IsReport r → length r.encoding.graph.ops ≤ 128
few_graph_ops r is =
    let few : length r.names ≤ 64 = subst (λ (v : Version). length r.names ≤ operation_limit v) (one_version r.version) is.few_names in
    let count : length r.encoding.graph.ops ≡ length r.names = is.encoding.graph.ops in
    omega (arith, few, count)

pub own_encoding : (r : ReportValue) → IsReport r → IsEncoding (length r.encoding.graph.ops) r.encoding
own_encoding r is =
    let count : length r.encoding.graph.ops ≡ length r.names = is.encoding.graph.ops in
    subst (λ (n : ℕ). IsEncoding n r.encoding) (sym count) is.encoding

pub fault_first : (lines : List (List ℕ)) (fault : ReadError) (n : ℕ) → fault ≡ errors.BadLine n → Fails fault (whole report_read lines) → IsFirstBad IsReportText lines n
fault_first lines fault n is f = report_bad lines n (subst (λ (e : ReadError). Fails e (whole report_read lines)) is f)
