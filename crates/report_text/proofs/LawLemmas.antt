-- Two reports with the same text are one: its parts are told from the front on.
use Rattle.std.proofs.Common.{◌≡◌, ℕ, zero, suc, ◌+◌, ◌^◌, ◌<◌, ◌≤◌, List, [], ◌∷◌, ◌++◌, length, get_or, refl, sym, ap, ap₂, ◌∙◌, arith, subst}
use Rattle.std.specs.Prelude.{codes, slice_index, slice_index_or}
use Rattle.std.specs.FinSet as set
use Rattle.std.specs.Fmt.{decimal}
use Rattle.std.proofs.lemmas.List.{append-nil, append_cancel_left, ext_get_or}
use Rattle.cpog_base.specs.Names.{AreDistinct}
use Rattle.cpog_defs.specs.declared.types.Bit3.{Bit3}
use Rattle.cpog_defs.specs.declared.types.Gate.{Gate}
use Rattle.cpog_defs.specs.declared.types.Place.TheVariants.{Op}
use Rattle.cpog_defs.specs.Orders.{each_below}
use Rattle.cpog_defs.specs.Gates.{GateList, AreGatesFrom, signal_count}
use Rattle.cpog_defs.specs.Graphs.{ConditionalGraph, IsGraph, op_ref}
use Rattle.cpog_defs.specs.Encodings.{Encoding}
use Rattle.cpog_defs.specs.Scenarios.{Scenario}
use Rattle.gate_core.proofs.GateLemmas.{gate_list_by_parts}
use Rattle.line_text.specs.Lines.{text_of}
use Rattle.line_text.specs.Words.{continues_name}
use Rattle.line_text.proofs.TellingLemmas.{tails, number_told, list_told, free_name_passes}
use Rattle.report_text.specs.declared.version.Version.{Version}
use Rattle.report_text.specs.declared.version.Version.TheVariants.{One}
use Rattle.report_text.specs.Versions.{version_number, gate_limit}
use Rattle.netlist_verilog.specs.Module.{AreNames}
use Rattle.report_text.specs.Report.{ReportValue, IsBound, IsReportEvidence, IsReportOpen, IsReport, LogsFit}
use Rattle.netlist_verilog.specs.Wires.{name_of}
use Rattle.netlist_verilog.specs.Rows.{module_lines}
use Rattle.netlist_verilog.proofs.FeedLemmas.{names_pass}
use Rattle.netlist_verilog.proofs.LawLemmas.{module_told}
use Rattle.report_text.specs.Rows.{version_row, bits_row, budget_row, operations_row, scenario_lines, gates_row, gate_row, gate_lines, op_row, op_lines, arc_lines, bound_row, head_lines, netlist_lines, report_lines}
use Rattle.report_text.specs.Spelling.{SpellsEvidence, SpellsOpen, SpellsReport}
use Rattle.report_text.specs.Laws.{SpellingTellsReport}
use Rattle.report_text.proofs.SpellingLemmas.{behind, written_spelled}
use Rattle.report_text.proofs.BelowLemmas.{text_below, below_told, count_told}
use Rattle.report_text.proofs.RowLemmas.{line_first, lists_split, lists_differ, lines_differ, IsAfterArcs, gate_told, op_told, entries_told, same_graph}
use Rattle.report_text.proofs.KnownLemmas.{bound_told, bound_after, IsAfterEvidence, evidence_told, open_told, open_after}
use Rattle.report_text.proofs.ScenarioLemmas.{block, block_told}

-- the same of groups of lines by number
groups_differ : (f g : ℕ → List (List ℕ)) (m n : ℕ) (ms ms' : List (List ℕ)) (x y : List ℕ) → text_of (each_below f m ++ ms) ++ x ≡ text_of (each_below g n ++ ms') ++ y
    → each_below (λ k. text_of (f k)) m ++ (text_of ms ++ x) ≡ each_below (λ k. text_of (g k)) n ++ (text_of ms' ++ y)
groups_differ f g m n ms ms' x y e =
    ap (λ t. t ++ (text_of ms ++ x)) (sym (text_below f m)) ∙ lists_differ (each_below f m) (each_below g n) ms ms' x y e ∙ ap (λ t. t ++ (text_of ms' ++ y)) (text_below g n)

-- ---- scenarios

abbrev scenario_at : ReportValue → ℕ → Scenario
scenario_at r k = get_or r.scenarios k (record { count = 0; ops = set.empty; arcs = [] })

abbrev pattern_at : ReportValue → ℕ → List Bit3
pattern_at r k = slice_index_or r.patterns k []

record SameScenario (a b : ReportValue) (k : ℕ) : Type 0 where
  name : name_of a.scenario_names k ≡ name_of b.scenario_names k
  code : slice_index a.encoding.codes k ≡ slice_index b.encoding.codes k
  pattern : pattern_at a k ≡ pattern_at b k
  scenario : scenario_at a k ≡ scenario_at b k

code_below : (r : ReportValue) (bits k : ℕ) → IsReport r → r.bits ≡ bits → k < length r.scenarios → slice_index r.encoding.codes k < 2 ^ bits
code_below r bits k is e lt = subst (λ n. slice_index r.encoding.codes k < 2 ^ n) (is.inputs ∙ e) (is.encoding.codes k 0 (omega (arith, is.one_code_each)))

scenario_told : (a b : ReportValue) → IsReport a → IsReport b → a.bits ≡ b.bits → a.names ≡ b.names → (k : ℕ) → k < length a.scenarios → k < length b.scenarios → (x y : List ℕ)
    → text_of (scenario_lines a k) ++ x ≡ text_of (scenario_lines b k) ++ y → SameScenario a b k × (x ≡ y)
scenario_told a b ia ib eb en k ha hb x y e =
    let sa = ia.scenarios k (record { count = 0; ops = set.empty; arcs = [] }) ha in
    let sb = ib.scenarios k (record { count = 0; ops = set.empty; arcs = [] }) hb in
    let even : length (pattern_at a k) ≡ length (pattern_at b k) =
    ia.patterns.lengths k [] (omega (arith, ia.patterns.one_each, ha)) ∙ (eb ∙ sym (ib.patterns.lengths k [] (omega (arith, ib.patterns.one_each, hb)))) in
    let e' = e ∙ ap₂ (λ bits names. text_of (block bits names (name_of b.scenario_names k) (slice_index b.encoding.codes k) (pattern_at b k) (scenario_at b k)) ++ y) (sym eb) (sym en) in
    let r =
    block_told a.bits a.names (name_of a.scenario_names k) (name_of b.scenario_names k)
    (slice_index a.encoding.codes k) (slice_index b.encoding.codes k) (pattern_at a k) (pattern_at b k) (scenario_at a k)
    (scenario_at b k) x y ia.distinct (names_pass a.names ia.names)
    (free_name_passes _ (ia.scenario_names k [] (omega (arith, ia.one_name_each)))) (free_name_passes _ (ib.scenario_names k [] (omega (arith, ib.one_name_each))))
    (code_below a a.bits k ia refl ha) (code_below b a.bits k ib (sym eb) hb) even sa.scenario sb.scenario sa.count_is (sb.count_is ∙ ap length (sym en)) e' in
    (record { name = r.0.0; code = r.0.1.0; pattern = r.0.1.1.0; scenario = r.0.1.1.1 }, r.1)

-- ---- gates

gate_small : (gates : List Gate) (signals m k : ℕ) (d : Gate) → AreGatesFrom signals gates →
    signals + length gates ≤ m → k < length gates →
    ((get_or gates k d).j < m) × ((get_or gates k d).k < m) × ((get_or gates k d).table < 16)
gate_small [] signals m k d h le lt = absurd (omega arith)
gate_small (g ∷ gates) signals m zero d h le lt = (omega (arith, h.0, h.1), omega (arith, h.1), h.2)
gate_small (g ∷ gates) signals m (suc k) d h le lt = gate_small gates (signals + 1) m k d h.3 (omega (arith, le)) (omega arith)

abbrev no_gate : Gate
no_gate = record { j = 0; k = 0; table = 0 }

gates_told : (bits bits' : ℕ) (g h : GateList) (ms ms' : List (List ℕ)) → bits ≡ bits' →
    length g.gates ≡ length h.gates → AreGatesFrom g.inputs g.gates → AreGatesFrom h.inputs h.gates →
    g.inputs + length g.gates ≤ 2 ^ 32 → h.inputs + length h.gates ≤ 2 ^ 32
    → text_of (gate_lines bits g.gates ++ ms) ++ [] ≡ text_of (gate_lines bits' h.gates ++ ms') ++ [] → (g.gates ≡ h.gates) × (text_of ms ++ [] ≡ text_of ms' ++ [])
gates_told bits bits' g h ms ms' eb same ga ha gf hf e =
    let n = length g.gates in
    let row : ℕ → GateList → ℕ → List ℕ = λ (b : ℕ) (l : GateList) (k : ℕ). text_of (gate_row b k (get_or l.gates k no_gate) ∷ []) in
    let e1 = groups_differ (λ k. gate_row bits k (get_or g.gates k no_gate) ∷ []) (λ k. gate_row bits' k (get_or h.gates k no_gate) ∷ []) n (length h.gates) ms ms' [] [] e in
    let e2 = e1 ∙ ap₂ (λ (b m : ℕ). each_below (row b h) m ++ (text_of ms' ++ [])) (sym eb) (sym same) in
    let r = below_told (row bits g) (row bits h) (λ k. get_or g.gates k no_gate ≡ get_or h.gates k no_gate) n (λ k lt x y t.
    let sg = gate_small g.gates g.inputs (2 ^ 32) k no_gate ga gf lt in
    let sh = gate_small h.gates h.inputs (2 ^ 32) k no_gate ha hf (omega (arith, same)) in
    gate_told bits k (get_or g.gates k no_gate) (get_or h.gates k no_gate) x y (omega (arith, gf))
    (omega (arith, sg.0)) (omega (arith, sg.1)) sg.2 (omega (arith, sh.0)) (omega (arith, sh.1)) sh.2 t)
    (text_of ms ++ []) (text_of ms' ++ []) e2 in
    (ext_get_or no_gate g.gates h.gates same r.0, r.1)

-- ---- conditions

graphs_told : (bits signals : ℕ) (names : List (List ℕ)) (g h : ConditionalGraph)
    (ms ms' : List (List ℕ)) → signals ≤ 2 ^ 64 → AreNames names → AreDistinct names →
    IsGraph (length names) signals g → IsGraph (length names) signals h → IsAfterArcs (text_of ms ++ []) → IsAfterArcs (text_of ms' ++ [])
    → text_of (op_lines bits names g ++ (arc_lines bits names g ++ ms)) ++ [] ≡ text_of
    (op_lines bits names h ++ (arc_lines bits names h ++ ms')) ++ [] →
    (g ≡ h) × (text_of ms ++ [] ≡ text_of ms' ++ [])
graphs_told bits signals names g h ms ms' fit are distinct gs hs after after' e =
    let n = length names in
    let row : ConditionalGraph → ℕ → List (List ℕ) = λ (z : ConditionalGraph) (v : ℕ). op_row bits (name_of names v) (op_ref z v) ∷ [] in
    let e1 = groups_differ (row g) (row h) n n (arc_lines bits names g ++ ms) (arc_lines bits names h ++ ms') [] [] e in
    let ops = below_told (λ v. text_of (row g v)) (λ v. text_of (row h v)) (λ v. op_ref g v ≡ op_ref h v) n
    (λ v lt x y t. op_told bits signals (name_of names v) (op_ref g v) (op_ref h v) x y fit (gs.over (Op (record { 0 = v })) lt) (hs.over (Op (record { 0 = v })) lt) t)
    (text_of (arc_lines bits names g ++ ms) ++ []) (text_of (arc_lines bits names h ++ ms') ++ []) e1 in
    let e2 = lists_differ (arc_lines bits names g) (arc_lines bits names h) ms ms' [] [] ops.1 in
    let arcs =
    entries_told bits signals names g h (text_of ms ++ []) (text_of ms' ++ []) fit distinct (names_pass names are) gs hs after after' e2 in
    (same_graph n signals g h gs hs ops.0 arcs.0, arcs.1)

-- ---- the whole report

-- the lines behind the conditions, before these
abbrev known_lines : ReportValue → List (List ℕ) → List (List ℕ)
known_lines r more = bound_row r.bound ∷ more

abbrev after_scenarios : ReportValue → List (List ℕ) → List (List ℕ)
after_scenarios r more =
    gates_row (length r.encoding.gates.gates)
    ∷ (gate_lines r.bits r.encoding.gates.gates ++ (op_lines r.bits r.names r.encoding.graph ++ (arc_lines r.bits r.names r.encoding.graph ++ known_lines r more)))

same_encodings : (e f : Encoding) → e.codes ≡ f.codes → e.gates ≡ f.gates → e.graph ≡ f.graph → e ≡ f
same_encodings e f p q r = λ i. record { codes = p i; gates = q i; graph = r i }

record SameHead (a b : ReportValue) (la lb : List (List ℕ)) : Type 0 where
  version : a.version ≡ b.version
  bits : a.bits ≡ b.bits
  budget : a.budget ≡ b.budget
  names : a.names ≡ b.names
  rest : text_of (each_below (scenario_lines a) (length a.scenarios) ++ after_scenarios a la) ++ [] ≡ text_of (each_below (scenario_lines b) (length b.scenarios) ++ after_scenarios b lb) ++ []

abbrev scenarios_on : ReportValue → List (List ℕ) → List (List ℕ)
scenarios_on r more = each_below (scenario_lines r) (length r.scenarios) ++ after_scenarios r more

version_told : (v w : Version) (x y : List ℕ) → decimal (version_number v) ++ 10 ∷ x ≡ decimal (version_number w) ++ 10 ∷ y → (v ≡ w) × (x ≡ y)
version_told One One x y e = (refl, tails 10 10 x y (append_cancel_left (decimal 1) _ _ e))

head_told : (a b : ReportValue) (la lb : List (List ℕ)) → IsReport a → IsReport b → text_of (head_lines a ++ scenarios_on a la) ≡ text_of (head_lines b ++ scenarios_on b lb) → SameHead a b la lb
head_told a b la lb ia ib e =
    let e0 : text_of (head_lines a ++ scenarios_on a la) ++ [] ≡ text_of (head_lines b ++ scenarios_on b lb) ++ [] = ap (λ (t : List ℕ). t ++ []) e in
    let l1 = version_told a.version b.version _ _ (append_cancel_left (codes "cpog report ") _ _ (lines_differ (version_row a.version) (version_row b.version)
    (bits_row a.bits ∷ budget_row a.budget ∷ operations_row a.names ∷ scenarios_on a la) (bits_row b.bits ∷ budget_row b.budget ∷ operations_row b.names ∷ scenarios_on b lb) [] [] e0)) in
    let l2 =
    number_told a.bits b.bits 10 (text_of (budget_row a.budget ∷ operations_row a.names ∷ scenarios_on a la) ++ [])
    (text_of (budget_row b.budget ∷ operations_row b.names ∷ scenarios_on b lb) ++ []) (omega (arith, ia.few_bits))
    (omega (arith, ib.few_bits)) refl
    (append_cancel_left (codes "bits ") _ _ (lines_differ (bits_row a.bits) (bits_row b.bits)
    (budget_row a.budget ∷ operations_row a.names ∷ scenarios_on a la)
    (budget_row b.budget ∷ operations_row b.names ∷ scenarios_on b lb) [] [] l1.1)) in
    let l3 =
    number_told a.budget b.budget 10 (text_of (operations_row a.names ∷ scenarios_on a la) ++ [])
    (text_of (operations_row b.names ∷ scenarios_on b lb) ++ []) (omega (arith, ia.few_budget))
    (omega (arith, ib.few_budget)) refl
    (append_cancel_left (codes "budget ") _ _
    (lines_differ (budget_row a.budget) (budget_row b.budget) (operations_row a.names ∷ scenarios_on a la)
    (operations_row b.names ∷ scenarios_on b lb) [] [] l2.1)) in
    let l4 = list_told continues_name a.names b.names (text_of (scenarios_on a la) ++ []) (text_of (scenarios_on b lb) ++ []) refl refl (names_pass a.names ia.names) (names_pass b.names ib.names)
    (append_cancel_left (codes "operations") _ _ (lines_differ (operations_row a.names) (operations_row b.names) (scenarios_on a la) (scenarios_on b lb) [] [] l3.1)) in
    record { version = l1.0; bits = l2.0; budget = l3.0; names = l4.0; rest = l4.1 }

record SameScenarios (a b : ReportValue) (la lb : List (List ℕ)) : Type 0 where
  count : length a.scenarios ≡ length b.scenarios
  each : (k : ℕ) → k < length a.scenarios → SameScenario a b k
  rest : text_of (after_scenarios a la) ++ [] ≡ text_of (after_scenarios b lb) ++ []

scenarios_told : (a b : ReportValue) (la lb : List (List ℕ)) → IsReport a → IsReport b → SameHead a b la lb → SameScenarios a b la lb
scenarios_told a b la lb ia ib head =
    let f : ℕ → List ℕ = λ (k : ℕ). text_of (scenario_lines a k) in
    let g : ℕ → List ℕ = λ (k : ℕ). text_of (scenario_lines b k) in
    let e = groups_differ (scenario_lines a) (scenario_lines b) (length a.scenarios) (length b.scenarios) (after_scenarios a la) (after_scenarios b lb) [] [] head.rest in
    let count =
    count_told f g (SameScenario a b) 115 103 (length a.scenarios) (length b.scenarios) (λ h. omega (arith, h))
    (λ k x. (_, refl)) (λ k x. (_, refl)) (λ k lt lt' x y t.
    scenario_told a b ia ib head.bits head.names k lt lt' x y t) _ _ e in
    let r =
    below_told f g (SameScenario a b) (length a.scenarios)
    (λ k lt x y t. scenario_told a b ia ib head.bits head.names k lt (omega (arith, count)) x y t)
    (text_of (after_scenarios a la) ++ []) (text_of (after_scenarios b lb) ++ []) (e
    ∙ ap (λ (n : ℕ). each_below g n ++ (text_of (after_scenarios b lb) ++ [])) (sym count)) in
    record { count = count; each = r.0; rest = r.1 }

record SameEnd (a b : ReportValue) (la lb : List (List ℕ)) : Type 0 where
  gates : a.encoding.gates ≡ b.encoding.gates
  graph : a.encoding.graph ≡ b.encoding.graph
  rest : text_of (known_lines a la) ++ [] ≡ text_of (known_lines b lb) ++ []

limit_fits : (v : Version) → gate_limit v ≤ 65536
limit_fits One = omega arith

known_after : (r : ReportValue) (more : List (List ℕ)) → IsAfterArcs (text_of (known_lines r more) ++ [])
known_after r more = subst IsAfterArcs (sym (line_first (bound_row r.bound) more [])) (bound_after r.bound (text_of more ++ []))

end_told : (a b : ReportValue) (la lb : List (List ℕ)) → IsReport a → IsReport b → SameHead a b la lb → text_of (after_scenarios a la) ++ [] ≡ text_of (after_scenarios b lb) ++ [] → SameEnd a b la lb
end_told a b la lb ia ib head e =
    let ga = a.encoding.gates in
    let gb = b.encoding.gates in
    let fa = limit_fits a.version in
    let fb = limit_fits b.version in
    let after : ReportValue → List (List ℕ) → List (List ℕ) =
    λ (r : ReportValue) (more : List (List ℕ)). op_lines r.bits r.names r.encoding.graph ++ (arc_lines r.bits r.names r.encoding.graph ++ known_lines r more) in
    let count =
    number_told (length ga.gates) (length gb.gates) 10 (text_of (gate_lines a.bits ga.gates ++ after a la) ++ [])
    (text_of (gate_lines b.bits gb.gates ++ after b lb) ++ []) (omega (arith, ia.few_gates, fa))
    (omega (arith, ib.few_gates, fb)) refl
    (append_cancel_left (codes "gates ") _ _
    (lines_differ (gates_row (length ga.gates)) (gates_row (length gb.gates))
    (gate_lines a.bits ga.gates ++ after a la) (gate_lines b.bits gb.gates ++ after b lb) [] [] e)) in
    let inputs : ga.inputs ≡ gb.inputs = ia.inputs ∙ head.bits ∙ sym ib.inputs in
    let gates =
    gates_told a.bits b.bits ga gb (after a la) (after b lb) head.bits count.0 ia.encoding.gates ib.encoding.gates
    (omega (arith, ia.inputs, ia.few_bits, ia.few_gates, fa))
    (omega (arith, ib.inputs, ib.few_bits, ib.few_gates, fb)) count.1 in
    let same : ga ≡ gb = gate_list_by_parts ga gb inputs gates.0 in
    let signals : signal_count gb ≡ signal_count ga = ap signal_count (sym same) in
    let hb : IsGraph (length a.names) (signal_count ga) b.encoding.graph =
    subst (λ (n : ℕ). IsGraph n (signal_count ga) b.encoding.graph) (ap length (sym head.names)) (subst (λ (n : ℕ). IsGraph (length b.names) n b.encoding.graph) signals ib.encoding.graph) in
    let e' =
    gates.1 ∙ ap₂ (λ (bits : ℕ) (names : List (List ℕ)). text_of
    (op_lines bits names b.encoding.graph ++ (arc_lines bits names b.encoding.graph ++ known_lines b lb)) ++ [])
    (sym head.bits) (sym head.names) in
    let graph =
    graphs_told a.bits (signal_count ga) a.names a.encoding.graph b.encoding.graph (known_lines a la) (known_lines b lb)
    (omega (arith, ia.inputs, ia.few_bits, ia.few_gates, fa)) ia.names ia.distinct ia.encoding.graph hb (known_after a la) (known_after b lb) e' in
    record { gates = same; graph = graph.0; rest = graph.1 }

record SameKnown (a b : ReportValue) : Type 0 where
  bound : a.bound ≡ b.bound
  evidence : a.evidence ≡ b.evidence
  open_part : a.open_part ≡ b.open_part
  design : a.design ≡ b.design

-- over the same names, of the same version
known_told : (a b : ReportValue) (ea eb oa ob : List (List ℕ)) → IsReport a → IsReport b → SpellsEvidence a.names a.evidence ea → SpellsEvidence b.names b.evidence eb → SpellsOpen a.open_part oa → SpellsOpen b.open_part ob
    → a.version ≡ b.version → a.names ≡ b.names
    → text_of (known_lines a (ea ++ (oa ++ netlist_lines a.design))) ++ [] ≡ text_of (known_lines b (eb ++ (ob ++ netlist_lines b.design))) ++ [] → SameKnown a b
known_told a b ea eb oa ob ia ib sea seb soa sob versions names e =
    let limit = gate_limit a.version in
    let fit : limit ≤ 2 ^ 64 = (let h = limit_fits a.version in omega (arith, h)) in
    let open_a = oa ++ netlist_lines a.design in
    let open_b = ob ++ netlist_lines b.design in
    let same_limit : gate_limit b.version ≡ limit = ap gate_limit (sym versions) in
    let bound_b : IsBound limit b.bound = subst (λ (n : ℕ). IsBound n b.bound) same_limit ib.bound in
    let evidence_b : IsReportEvidence (length a.names) limit b.evidence =
    subst (λ (n : ℕ). IsReportEvidence n limit b.evidence) (ap length (sym names)) (subst (λ (n : ℕ). IsReportEvidence (length b.names) n b.evidence) same_limit ib.evidence) in
    let open_is : IsReportOpen limit b.open_part = subst (λ (n : ℕ). IsReportOpen n b.open_part) same_limit ib.open_part in
    let spelled_b : SpellsEvidence a.names b.evidence eb = subst (λ (ns : List (List ℕ)). SpellsEvidence ns b.evidence eb) (sym names) seb in
    let l1 = bound_told limit a.bound b.bound _ _ fit ia.bound bound_b (lines_differ (bound_row a.bound) (bound_row b.bound) (ea ++ open_a) (eb ++ open_b) [] [] e) in
    let after_a = subst IsAfterEvidence (sym (lists_split oa (netlist_lines a.design) [])) (open_after a.open_part oa (text_of (netlist_lines a.design) ++ []) soa) in
    let after_b = subst IsAfterEvidence (sym (lists_split ob (netlist_lines b.design) [])) (open_after b.open_part ob (text_of (netlist_lines b.design) ++ []) sob) in
    let l2 =
    evidence_told limit a.names a.evidence b.evidence ea eb (text_of open_a ++ []) (text_of open_b ++ []) fit ia.distinct (names_pass a.names ia.names) ia.evidence evidence_b sea spelled_b after_a after_b
    (lists_differ ea eb open_a open_b [] [] l1.1) in
    let l3 = open_told limit a.open_part b.open_part oa ob _ _ fit ia.open_part open_is soa sob (lists_differ oa ob (netlist_lines a.design) (netlist_lines b.design) [] [] l2.1) in
    let text = append_cancel_left (codes "netlist\n") _ _ l3.1 in
    record {
      bound = l1.0;
      evidence = l2.0;
      open_part = l3.0;
      design = module_told a.design b.design ia.design ib.design (sym (append-nil (text_of (module_lines a.design))) ∙ text ∙ append-nil (text_of (module_lines b.design)));
    }

-- the lines of a spelled report from the front on
front_of : (r : ReportValue) (lines : List (List ℕ)) (h : SpellsReport r lines) → lines ≡ head_lines r ++ scenarios_on r (h.evidence_lines ++ (h.open_lines ++ netlist_lines r.design))
front_of r lines h = h.whole ∙ sym (behind (head_lines r) (each_below (scenario_lines r) (length r.scenarios))
    (gates_row (length r.encoding.gates.gates) ∷ gate_lines r.bits r.encoding.gates.gates)
    (op_lines r.bits r.names r.encoding.graph) (arc_lines r.bits r.names r.encoding.graph) (bound_row r.bound ∷ [])
    (h.evidence_lines ++ (h.open_lines ++ netlist_lines r.design)))

-- two reports that are spelled by lines with one text are one
pub spelling_told : (a b : ReportValue) (la lb : List (List ℕ)) → SpellsReport a la → SpellsReport b lb → text_of la ≡ text_of lb → a ≡ b
spelling_told a b la lb ha hb e =
    let ia = ha.report in
    let ib = hb.report in
    let ma = ha.evidence_lines ++ (ha.open_lines ++ netlist_lines a.design) in
    let mb = hb.evidence_lines ++ (hb.open_lines ++ netlist_lines b.design) in
    let head = head_told a b ma mb ia ib (ap text_of (sym (front_of a la ha)) ∙ e ∙ ap text_of (front_of b lb hb)) in
    let all = scenarios_told a b ma mb ia ib head in
    let end = end_told a b ma mb ia ib head all.rest in
    let known = known_told a b ha.evidence_lines hb.evidence_lines ha.open_lines hb.open_lines ia ib ha.evidence hb.evidence ha.open_part hb.open_part head.version head.names end.rest in
    let names' = ext_get_or [] a.scenario_names b.scenario_names (ia.one_name_each ∙ all.count ∙ sym ib.one_name_each) (λ k lt. (all.each k (omega (arith, ia.one_name_each))).name) in
    let codes' = ext_get_or 0 a.encoding.codes b.encoding.codes (ia.one_code_each ∙ all.count ∙ sym ib.one_code_each) (λ k lt. (all.each k (omega (arith, ia.one_code_each))).code) in
    let patterns' = ext_get_or [] a.patterns b.patterns (ia.patterns.one_each ∙ all.count ∙ sym ib.patterns.one_each) (λ k lt. (all.each k (omega (arith, ia.patterns.one_each))).pattern) in
    let scenarios' = ext_get_or (record { count = 0; ops = set.empty; arcs = [] }) a.scenarios b.scenarios all.count (λ k lt. (all.each k lt).scenario) in
    let encoding' = same_encodings a.encoding b.encoding codes' end.gates end.graph in
    λ i. record {
      version = head.version i;
      bits = head.bits i;
      budget = head.budget i;
      names = head.names i;
      scenario_names = names' i;
      patterns = patterns' i;
      scenarios = scenarios' i;
      encoding = encoding' i;
      bound = known.bound i;
      evidence = known.evidence i;
      open_part = known.open_part i;
      design = known.design i;
    }

-- two reports with the same text are one
pub report_told : (a b : ReportValue) → IsReport a → IsReport b → LogsFit a → LogsFit b → text_of (report_lines a) ≡ text_of (report_lines b) → a ≡ b
report_told a b ia ib fa fb e = spelling_told a b (report_lines a) (report_lines b) (written_spelled a ia fa) (written_spelled b ib fb) e

-- lines spell one report
pub one_report : SpellingTellsReport
one_report lines a b ha hb = spelling_told a b lines lines ha hb refl
