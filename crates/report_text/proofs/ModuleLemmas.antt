-- The module at the end of a report's text.
use Rattle.std.proofs.Common.{◌≡◌, ◌≢◌, ℕ, List, [], ◌∷◌, ◌++◌, length, refl, sym, ap, ◌∙◌, append_assoc}
use Rattle.std.specs.Prelude.{codes}
use Rattle.std.specs.List.{AllByRecursion}
use Rattle.cpog_defs.specs.Orders.{each_below}
use Rattle.line_text.specs.Lines.{lines_of, text_of}
use Rattle.line_text.proofs.SplittingLemmas.{lines_again}
use Rattle.line_text.proofs.FeedLemmas.{NoFeed, clean_free}
use Rattle.netlist_verilog.proofs.FeedLemmas.{lines_free}
use Rattle.report_text.specs.Report.{ReportValue, IsReport, LogsFit}
use Rattle.report_text.specs.Rows.{scenario_lines, gates_row, gate_lines, op_lines, arc_lines, bound_row, evidence_lines, open_lines, head_lines, netlist_lines, report_lines}
use Rattle.report_text.specs.Laws.{ModuleEndsReport}
use Rattle.report_text.proofs.RowLemmas.{AllBy-append, AllBy-below}
use Rattle.report_text.proofs.FrontLemmas.{IsFrontLine, head_front, scenario_front, gates_line_front, gates_front, ops_front, arcs_front, bound_front, evidence_front, open_front}

-- the lines before the line `netlist`
abbrev front_lines : ReportValue → List (List ℕ)
front_lines r =
    head_lines r
    ++ (each_below (scenario_lines r) (length r.scenarios)
    ++ (gates_row (length r.encoding.gates.gates) ∷ gate_lines r.bits r.encoding.gates.gates
    ++ (op_lines r.bits r.names r.encoding.graph
    ++ (arc_lines r.bits r.names r.encoding.graph
    ++ (bound_row r.bound ∷ evidence_lines r.names r.evidence
    ++ open_lines r.open_part)))))

behind : {X : Type 0} (h s g o a e p n : List X) → h ++ (s ++ (g ++ (o ++ (a ++ (e ++ (p ++ n)))))) ≡ (h ++ (s ++ (g ++ (o ++ (a ++ (e ++ p)))))) ++ n
behind h s g o a e p n =
    ap (λ x. h ++ (s ++ (g ++ (o ++ (a ++ x))))) (sym (append_assoc e p n))
    ∙ ap (λ x. h ++ (s ++ (g ++ (o ++ x)))) (sym (append_assoc a (e ++ p) n))
    ∙ ap (λ x. h ++ (s ++ (g ++ x))) (sym (append_assoc o (a ++ (e ++ p)) n))
    ∙ ap (λ x. h ++ (s ++ x)) (sym (append_assoc g (o ++ (a ++ (e ++ p))) n))
    ∙ ap (λ x. h ++ x) (sym (append_assoc s (g ++ (o ++ (a ++ (e ++ p)))) n))
    ∙ sym (append_assoc h (s ++ (g ++ (o ++ (a ++ (e ++ p))))) n)

front_each : (r : ReportValue) → IsReport r → LogsFit r → AllByRecursion IsFrontLine (front_lines r)
front_each r is fits =
    AllBy-append IsFrontLine (head_lines r) _ (head_front r is)
    (AllBy-append IsFrontLine (each_below (scenario_lines r) (length r.scenarios)) _ (AllBy-below IsFrontLine (scenario_lines r) (length r.scenarios) (λ s _. scenario_front r is s))
    (AllBy-append IsFrontLine (gates_row (length r.encoding.gates.gates) ∷ gate_lines r.bits r.encoding.gates.gates) _ (gates_line_front r is, gates_front r is)
    (AllBy-append IsFrontLine (op_lines r.bits r.names r.encoding.graph) _ (ops_front r is)
    (AllBy-append IsFrontLine (arc_lines r.bits r.names r.encoding.graph) _ (arcs_front r is)
    (AllBy-append IsFrontLine (bound_row r.bound ∷ evidence_lines r.names r.evidence) _ (bound_front r is, evidence_front r is fits.0) (open_front r is fits.1))))))

firsts : (P Q : List ℕ → Type 0) (ls : List (List ℕ)) → AllByRecursion (λ l. P l × Q l) ls → AllByRecursion P ls
firsts P Q [] h = tt
firsts P Q (l ∷ ls) h = (h.0.0, firsts P Q ls h.1)

seconds : (P Q : List ℕ → Type 0) (ls : List (List ℕ)) → AllByRecursion (λ l. P l × Q l) ls → AllByRecursion Q ls
seconds P Q [] h = tt
seconds P Q (l ∷ ls) h = (h.0.1, seconds P Q ls h.1)

-- a report's text ends with its module
pub module_ends : ModuleEndsReport
module_ends r is fits =
    let front = front_lines r in
    let module' = netlist_lines r.design in
    let split : report_lines r ≡ front ++ module' =
    behind (head_lines r) (each_below (scenario_lines r) (length r.scenarios))
    (gates_row (length r.encoding.gates.gates) ∷ gate_lines r.bits r.encoding.gates.gates)
    (op_lines r.bits r.names r.encoding.graph) (arc_lines r.bits r.names r.encoding.graph)
    (bound_row r.bound ∷ evidence_lines r.names r.evidence) (open_lines r.open_part) module' in
    let each = front_each r is fits in
    let free = AllBy-append NoFeed front module' (firsts NoFeed (λ line. line ≢ codes "netlist") front each) (clean_free (codes "netlist") refl, lines_free r.design is.design) in
    record {
      front = front;
      before = seconds NoFeed (λ line. line ≢ codes "netlist") front each;
      whole = ap (λ lines. lines_of (text_of lines)) split ∙ lines_again (front ++ module') free;
    }
