-- Texts that grow piece by piece.
use Rattle.std.proofs.Common.{◌≡◌, ℕ, ◌+◌, List, [], ◌∷◌, ◌++◌, map, length, take, get_or, sym, ap, ap₂, ◌∙◌, append_assoc, add-one, arith, subst, ◌<◌, Some}
use Rattle.std.specs.List.{All, Contains, slice_get}
use Rattle.std.specs.FinSet as set
use Rattle.std.proofs.lemmas.Option.{slice_get_within, get_or_from_slice_get}
use Rattle.std.specs.Prelude.{if◌then◌else◌, codes, Result, Ok, Err, OnOk, IfOk}
use Rattle.std.specs.Fmt.{decimal}
use Rattle.std.proofs.lemmas.List.{append-nil, map-append, take_more, get_or_default}
use Rattle.std.proofs.lemmas.List.Concat.{flat_map-append}
use Rattle.cpog_defs.specs.Orders.{Set, each_below}
use Rattle.cpog_defs.specs.Scenarios.{Scenario, IsScenario}
use Rattle.cpog_defs.specs.Graphs.{ConditionalGraph, op_ref, arc_ref, IsPlace}
use Rattle.cpog_defs.specs.declared.types.OpId.{OpId}
use Rattle.cpog_defs.specs.declared.types.Place.{Place}
use Rattle.cpog_defs.specs.declared.types.Ref.{Ref}
use Rattle.cpog_defs.specs.declared.types.Gate.{Gate}
use Rattle.report_text.specs.declared.bound.Bound.{Bound}
use Rattle.gate_template.specs.declared.types.Template.{Template}
use Rattle.proof_check.specs.Lines.{Line}
use Rattle.cnf_build.specs.Evidence.{EvidenceValue, OpenValue}
use Rattle.netlist_verilog.specs.Module.{ModuleValue}
use Rattle.report_text.specs.Versions.{version_number}
use Rattle.report_text.specs.Report.{ReportValue, IsReportEvidence}
use Rattle.line_text.specs.Lines.{text_of}
use Rattle.netlist_verilog.specs.Wires.{name_of}
use Rattle.report_text.specs.Rows.{blank_names, members_below, op_row, arc_row, arc_text, arc_lines_from, line_unless_zero, head_lines, scenario_lines, gates_row, gate_lines, op_lines, arc_lines, bound_row, template_number, template_text, place_row, closed_log, evidence_lines, open_lines, netlist_lines, report_lines}

-- a line that was written up to its line feed
pub line_ends : (a row : List ℕ) → (a ++ row) ++ 10 ∷ [] ≡ a ++ text_of (row ∷ [])
line_ends a row = append_assoc a row (10 ∷ []) ∙ ap (λ x. a ++ x) (sym (append-nil (row ++ 10 ∷ [])))

-- the text of more lines
pub text_more : (a : List ℕ) (ls ms : List (List ℕ)) → (a ++ text_of ls) ++ text_of ms ≡ a ++ text_of (ls ++ ms)
text_more a ls ms = append_assoc a (text_of ls) (text_of ms) ∙ ap (λ x. a ++ x) (sym (flat_map-append (λ l. l ++ 10 ∷ []) ls ms))

-- one more group of lines
pub below_more_lines : (f : ℕ → List (List ℕ)) (n : ℕ) (a b : List ℕ) → b ≡ a ++ text_of (each_below f n) → b ++ text_of (f n) ≡ a ++ text_of (each_below f (n + 1))
below_more_lines f n a b h = ap (λ x. x ++ text_of (f n)) h ∙ text_more a (each_below f n) (f n) ∙ ap (λ m. a ++ text_of (each_below f m)) (sym (add-one n))

-- one more name behind a blank
pub blank_more : (names more : List (List ℕ)) (a : List ℕ) → (a ++ blank_names names) ++ blank_names more ≡ a ++ blank_names (names ++ more)
blank_more names more a = append_assoc a (blank_names names) (blank_names more) ∙ ap (λ x. a ++ x) (sym (flat_map-append (λ name. 32 ∷ name) names more))

-- one more name of a list
pub names_more : (names : List (List ℕ)) (v : ℕ) (name a b : List ℕ) → b ≡ a ++ blank_names (take v names) → slice_get names v ≡ Some name → b ++ (32 ∷ name) ≡ a ++ blank_names (take (v + 1) names)
names_more names v name a b h is =
    let lt = slice_get_within names v name is in
    ap (λ x. x ++ (32 ∷ name)) h
    ∙ ap (λ x. (a ++ blank_names (take v names)) ++ x) (sym (append-nil (32 ∷ name)))
    ∙ blank_more (take v names) (name ∷ []) a
    ∙ ap (λ ns. a ++ blank_names ns) (ap (λ n. take v names ++ n ∷ []) (sym (get_or_from_slice_get names v name [] is)) ∙ sym (take_more names v [] lt))

-- one more number that may be a member
pub members_more : (names : List (List ℕ)) (ops set' : Set) (v : ℕ) (a b : List ℕ) → set' ≡ ops → b ≡ a ++ blank_names (map (name_of names) (members_below ops v))
    → b ++ blank_names (map (name_of names) (if set.contains set' v then v ∷ [] else [])) ≡ a ++ blank_names (map (name_of names) (members_below ops (v + 1)))
members_more names ops set' v a b same h =
    let one : Set → List ℕ = λ t. if set.contains t v then v ∷ [] else [] in
    ap₂ (λ x t. x ++ blank_names (map (name_of names) (one t))) h same
    ∙ blank_more (map (name_of names) (members_below ops v)) (map (name_of names) (one ops)) a
    ∙ ap (λ ns. a ++ blank_names ns) (sym (map-append (name_of names) (members_below ops v) (one ops)) ∙ ap (λ n. map (name_of names) (members_below ops n)) (sym (add-one v)))

-- one more operation's condition
pub op_more : (bits : ℕ) (names : List (List ℕ)) (graph : ConditionalGraph) (v : ℕ) (name : List ℕ) (ref : Ref) (a b : List ℕ) → slice_get names v ≡ Some name → ref ≡ op_ref graph v
    → b ≡ a ++ text_of (each_below (λ w. op_row bits (name_of names w) (op_ref graph w) ∷ []) v) →
    b ++ text_of (op_row bits name ref ∷ []) ≡ a ++ text_of
    (each_below (λ w. op_row bits (name_of names w) (op_ref graph w) ∷ []) (v + 1))
op_more bits names graph v name ref a b is same h =
    ap₂ (λ n r. b ++ text_of (op_row bits n r ∷ [])) (sym (get_or_from_slice_get names v name [] is)) same
    ∙ below_more_lines (λ w. op_row bits (name_of names w) (op_ref graph w) ∷ []) v a b h

-- one more pair's condition
pub arc_more : (bits : ℕ) (names : List (List ℕ)) (graph : ConditionalGraph) (u v : ℕ) (first second : List ℕ)
    (ref : Ref) (a b : List ℕ) → slice_get names u ≡ Some first → slice_get names v ≡ Some second →
    ref ≡ arc_ref graph u v
    → b ≡ a ++ text_of (arc_lines_from bits names graph u v) → b ++ text_of (line_unless_zero (arc_row bits first second ref) ref) ≡ a ++ text_of (arc_lines_from bits names graph u (v + 1))
arc_more bits names graph u v first second ref a b is1 is2 same h =
    ap₂ (λ n r. b ++ text_of (line_unless_zero (arc_row bits n second r) r)) (sym (get_or_from_slice_get names u first [] is1)) same
    ∙ ap (λ n. b ++ text_of (line_unless_zero (arc_row bits (name_of names u) n (arc_ref graph u v)) (arc_ref graph u v))) (sym (get_or_from_slice_get names v second [] is2))
    ∙ below_more_lines (λ w. line_unless_zero (arc_row bits (name_of names u) (name_of names w) (arc_ref graph u w)) (arc_ref graph u w)) v a b h

-- one more arc
pub covers_more : (names : List (List ℕ)) (arcs : List (OpId × OpId)) (k : ℕ) (d : OpId × OpId)
    (first second a b : List ℕ) → k < length arcs → slice_get names ((get_or arcs k d).0.0) ≡ Some first →
    slice_get names ((get_or arcs k d).1.0) ≡ Some second
    → b ≡ a ++ blank_names (map (arc_text names) (take k arcs)) → b ++ (32 ∷ (first ++ (62 ∷ second))) ≡ a ++ blank_names (map (arc_text names) (take (k + 1) arcs))
covers_more names arcs k d first second a b lt is1 is2 h =
    ap₂ (λ m n. b ++ (32 ∷ (m ++ (62 ∷ n)))) (sym (get_or_from_slice_get names _ first [] is1)) (sym (get_or_from_slice_get names _ second [] is2))
    ∙ ap (λ x. x ++ (32 ∷ arc_text names (get_or arcs k d))) h
    ∙ ap (λ x. (a ++ blank_names (map (arc_text names) (take k arcs))) ++ x) (sym (append-nil (32 ∷ arc_text names (get_or arcs k d))))
    ∙ blank_more (map (arc_text names) (take k arcs)) (arc_text names (get_or arcs k d) ∷ []) a
    ∙ ap (λ ns. a ++ blank_names ns) (sym (map-append (arc_text names) (take k arcs) (get_or arcs k d ∷ [])) ∙ ap (map (arc_text names)) (sym (take_more arcs k d lt)))

-- the ends of an arc are below the count
pub ends_below : (sc : Scenario) (k : ℕ) (d : OpId × OpId) → IsScenario sc → k < length sc.arcs → ((get_or sc.arcs k d).0.0 < sc.count) × ((get_or sc.arcs k d).1.0 < sc.count)
ends_below sc k d is lt =
    let a = get_or sc.arcs k d in
    let here : Contains sc.arcs a = (k, lt, get_or_default sc.arcs k a d lt) in
    (is.below a.0.0 (is.first_kept a.0.0 a.1.0 here), is.below a.1.0 (is.second_kept a.0.0 a.1.0 here))

-- a number read at a place that is given by an equation
pub at_place : (names : List (List ℕ)) (i v : ℕ) (name : List ℕ) → i ≡ v → slice_get names i ≡ Some name → slice_get names v ≡ Some name
at_place names i v name e h = ap (slice_get names) (sym e) ∙ h

-- the parts of a report, written one after another
pub parts_written : (h s g p a b e o n : List (List ℕ)) (o1 o2 o3 o4 o5 o6 o7 o8 o9 : List ℕ) → o1 ≡ text_of h →
    o2 ≡ o1 ++ text_of s → o3 ≡ o2 ++ text_of g → o4 ≡ o3 ++ text_of p → o5 ≡ o4 ++ text_of a → o6 ≡ o5 ++ text_of b →
    o7 ≡ o6 ++ text_of e → o8 ≡ o7 ++ text_of o → o9 ≡ o8 ++ text_of n
    → o9 ≡ text_of (h ++ (s ++ (g ++ (p ++ (a ++ (b ++ (e ++ (o ++ n))))))))
parts_written h s g p a b e o n o1 o2 o3 o4 o5 o6 o7 o8 o9 e1 e2 e3 e4 e5 e6 e7 e8 e9 =
    e9 ∙ ap (λ x. x ++ text_of n) e8 ∙ text_more o7 o n
    ∙ ap (λ x. x ++ text_of (o ++ n)) e7 ∙ text_more o6 e (o ++ n)
    ∙ ap (λ x. x ++ text_of (e ++ (o ++ n))) e6 ∙ text_more o5 b (e ++ (o ++ n))
    ∙ ap (λ x. x ++ text_of (b ++ (e ++ (o ++ n)))) e5 ∙ text_more o4 a (b ++ (e ++ (o ++ n)))
    ∙ ap (λ x. x ++ text_of (a ++ (b ++ (e ++ (o ++ n))))) e4 ∙ text_more o3 p (a ++ (b ++ (e ++ (o ++ n))))
    ∙ ap (λ x. x ++ text_of (p ++ (a ++ (b ++ (e ++ (o ++ n)))))) e3 ∙ text_more o2 g (p ++ (a ++ (b ++ (e ++ (o ++ n)))))
    ∙ ap (λ x. x ++ text_of (g ++ (p ++ (a ++ (b ++ (e ++ (o ++ n))))))) e2 ∙ text_more o1 s (g ++ (p ++ (a ++ (b ++ (e ++ (o ++ n))))))
    ∙ ap (λ x. x ++ text_of (s ++ (g ++ (p ++ (a ++ (b ++ (e ++ (o ++ n)))))))) e1 ∙ text_more [] h (s ++ (g ++ (p ++ (a ++ (b ++ (e ++ (o ++ n)))))))

pub report_written : (r : ReportValue) (bits : ℕ) (gates : List Gate) (names names' : List (List ℕ))
    (graph graph' : ConditionalGraph) (bound : Bound) (open_part : OpenValue) (design : ModuleValue) (o0 o1 o2 o3 o4 o5 o6 o7 o8 o9 : List ℕ)
    → bits ≡ r.bits → gates ≡ r.encoding.gates.gates → names ≡ r.names → graph ≡ r.encoding.graph → names' ≡ r.names → graph' ≡ r.encoding.graph → bound ≡ r.bound → open_part ≡ r.open_part → design ≡ r.design → o0 ≡ []
    → o1 ≡ o0 ++ text_of (head_lines r) → o2 ≡ o1 ++ text_of (each_below (scenario_lines r) (length r.scenarios)) → o3 ≡ o2 ++ text_of (gates_row (length gates) ∷ gate_lines bits gates)
    → o4 ≡ o3 ++ text_of (op_lines bits names graph) → o5 ≡ o4 ++ text_of (arc_lines bits names' graph') →
    o6 ≡ o5 ++ text_of (bound_row bound ∷ []) → o7 ≡ o6 ++ text_of (evidence_lines r.names r.evidence) → o8 ≡ o7 ++ text_of (open_lines open_part) →
    o9 ≡ o8 ++ text_of (netlist_lines design) → o9 ≡ text_of (report_lines r)
report_written r bits gates names names' graph graph' bound open_part design o0 o1 o2 o3 o4 o5 o6 o7 o8 o9 eb eg en er en' er' ed eo em none e1 e2 e3 e4 e5 e6 e7 e8 e9 =
    parts_written (head_lines r) (each_below (scenario_lines r) (length r.scenarios))
    (gates_row (length r.encoding.gates.gates) ∷ gate_lines r.bits r.encoding.gates.gates)
    (op_lines r.bits r.names r.encoding.graph) (arc_lines r.bits r.names r.encoding.graph) (bound_row r.bound ∷ [])
    (evidence_lines r.names r.evidence) (open_lines r.open_part)
    (netlist_lines r.design) o1 o2 o3 o4 o5 o6 o7 o8 o9
    (e1 ∙ ap (λ x. x ++ text_of (head_lines r)) none)
    e2
    (e3 ∙ ap₂ (λ b g. o2 ++ text_of (gates_row (length g) ∷ gate_lines b g)) eb eg)
    (e4 ∙ ap₂ (λ b n. o3 ++ text_of (op_lines b n graph)) eb en ∙ ap (λ g. o3 ++ text_of (op_lines r.bits r.names g)) er)
    (e5 ∙ ap₂ (λ b n. o4 ++ text_of (arc_lines b n graph')) eb en' ∙ ap (λ g. o4 ++ text_of (arc_lines r.bits r.names g)) er')
    (e6 ∙ ap (λ b. o5 ++ text_of (bound_row b ∷ [])) ed)
    e7
    (e8 ∙ ap (λ p. o7 ++ text_of (open_lines p)) eo)
    (e9 ∙ ap (λ (m : ModuleValue). o8 ++ text_of (netlist_lines m)) em)

-- the first and the second end of an arc have a name
pub first_below : (sc : Scenario) (arcs : List (OpId × OpId)) (k i n : ℕ) (d : OpId × OpId) → IsScenario sc → arcs ≡ sc.arcs → k < length arcs → i ≡ (get_or arcs k d).0.0 → sc.count ≡ n → i < n
first_below sc arcs k i n d is same lt at count =
    let lt' : k < length sc.arcs = subst (λ (xs : List (OpId × OpId)). k < length xs) same lt in
    let h = ends_below sc k d is lt' in
    let e : i ≡ (get_or sc.arcs k d).0.0 = at ∙ ap (λ (xs : List (OpId × OpId)). (get_or xs k d).0.0) same in
    omega (arith, h.0, e, count)

pub second_below : (sc : Scenario) (arcs : List (OpId × OpId)) (k i n : ℕ) (d : OpId × OpId) → IsScenario sc → arcs ≡ sc.arcs → k < length arcs → i ≡ (get_or arcs k d).1.0 → sc.count ≡ n → i < n
second_below sc arcs k i n d is same lt at count =
    let lt' : k < length sc.arcs = subst (λ (xs : List (OpId × OpId)). k < length xs) same lt in
    let h = ends_below sc k d is lt' in
    let e : i ≡ (get_or sc.arcs k d).1.0 = at ∙ ap (λ (xs : List (OpId × OpId)). (get_or xs k d).1.0) same in
    omega (arith, h.1, e, count)

-- the pieces of a gate's line
pub gate_written : (a g sj sk digits o1 o2 o3 : List ℕ) → o1 ≡ a ++ (103 ∷ (g ++ (32 ∷ (sj ++ (32 ∷ (sk ++ 32 ∷ [])))))) → o2 ≡ o1 ++ digits → o3 ≡ o2 ++ 10 ∷ []
    → o3 ≡ a ++ text_of ((103 ∷ (g ++ (32 ∷ (sj ++ (32 ∷ (sk ++ (32 ∷ digits))))))) ∷ [])
gate_written a g sj sk digits o1 o2 o3 e1 e2 e3 = e3 ∙ ap (λ x. x ++ 10 ∷ []) (e2 ∙ ap (λ x. x ++ digits) e1) ∙ simp (append_assoc, append-nil)

-- the pieces of the first lines
head_joined : (a version bits budget names : List ℕ) → ((a ++ (codes "cpog report " ++ (version ++ (codes "\nbits " ++ (bits ++ (codes "\nbudget " ++ (budget ++ codes "\noperations"))))))) ++ names) ++ 10 ∷ []
    ≡ a ++ text_of ((codes "cpog report " ++ version) ∷ (codes "bits " ++ bits) ∷ (codes "budget " ++ budget) ∷ (codes "operations" ++ names) ∷ [])
head_joined a version bits budget names =
    let zeroth = codes "cpog report " in
    let first = codes "\nbits " in
    let second = codes "\nbudget " in
    let third = codes "\noperations" in
    let rest = names ++ 10 ∷ [] in
    append_assoc (a ++ (zeroth ++ (version ++ (first ++ (bits ++ (second ++ (budget ++ third))))))) names (10 ∷ [])
    ∙ append_assoc a (zeroth ++ (version ++ (first ++ (bits ++ (second ++ (budget ++ third)))))) rest
    ∙ ap (λ x. a ++ (zeroth ++ x)) (append_assoc version (first ++ (bits ++ (second ++ (budget ++ third)))) rest
    ∙ ap (λ x. version ++ (first ++ x)) (append_assoc bits (second ++ (budget ++ third)) rest ∙ ap (λ x. bits ++ (second ++ x)) (append_assoc budget third rest)))
    ∙ ap (λ x. a ++ (zeroth ++ x)) (sym (
    append_assoc version (10 ∷ []) (text_of ((codes "bits " ++ bits) ∷ (codes "budget " ++ budget) ∷ (codes "operations" ++ names) ∷ []))
    ∙ ap (λ x. version ++ (first ++ x)) (append_assoc bits (10 ∷ []) (text_of ((codes "budget " ++ budget) ∷ (codes "operations" ++ names) ∷ []))
    ∙ ap (λ x. bits ++ (second ++ x)) (append_assoc budget (10 ∷ []) (text_of ((codes "operations" ++ names) ∷ [])) ∙ ap (λ x. budget ++ (third ++ x)) (append-nil rest)))))

pub head_written : (r : ReportValue) (number bits budget : ℕ) (names : List (List ℕ)) (a o1 o2 o3 : List ℕ) → number ≡ version_number r.version → bits ≡ r.bits → budget ≡ r.budget → names ≡ r.names
    → o1 ≡ a ++ (codes "cpog report " ++ (decimal number ++ (codes "\nbits " ++
    (decimal bits ++ (codes "\nbudget " ++ (decimal budget ++ codes "\noperations")))))) →
    o2 ≡ o1 ++ blank_names names → o3 ≡ o2 ++ 10 ∷ [] → o3 ≡ a ++ text_of (head_lines r)
head_written r number bits budget names a o1 o2 o3 ev eb ed en e1 e2 e3 =
    e3
    ∙ ap (λ x. x ++ 10 ∷ []) (e2 ∙ ap₂ (λ x ns. x ++ blank_names ns) (e1
    ∙ ap₂ (λ m n. a ++ (codes "cpog report " ++ (decimal number ++ (codes "\nbits " ++
    (decimal m ++ (codes "\nbudget " ++ (decimal n ++ codes "\noperations"))))))) eb ed
    ∙ ap (λ v. a ++ (codes "cpog report " ++ (decimal v ++ (codes "\nbits " ++
    (decimal r.bits ++ (codes "\nbudget " ++ (decimal r.budget ++ codes "\noperations"))))))) ev) en)
    ∙ head_joined a (decimal (version_number r.version)) (decimal r.bits) (decimal r.budget) (blank_names r.names)

-- one more place
pub places_more : (names : List (List ℕ)) (places : List Place) (i : ℕ) (d p : Place) (a b : List ℕ) → i < length places → p ≡ get_or places i d
    → b ≡ a ++ text_of (map (place_row names) (take i places)) → b ++ text_of (place_row names p ∷ []) ≡ a ++ text_of (map (place_row names) (take (i + 1) places))
places_more names places i d p a b lt at h =
    ap (λ x. x ++ text_of (place_row names p ∷ [])) h
    ∙ text_more a (map (place_row names) (take i places)) (place_row names p ∷ [])
    ∙ ap (λ ls. a ++ text_of ls) (sym (map-append (place_row names) (take i places) (p ∷ []))
    ∙ ap (map (place_row names)) (ap (λ q. take i places ++ q ∷ []) at ∙ sym (take_more places i d lt)))

-- the pieces of a pair's line
pub pair_written : (a first second o : List ℕ) → o ≡ a ++ (codes "arc " ++ (first ++ (32 ∷ (second ++ 10 ∷ [])))) → o ≡ a ++ text_of ((codes "arc " ++ (first ++ (32 ∷ second))) ∷ [])
pair_written a first second o e = e ∙ ap (λ x. a ++ (codes "arc " ++ x)) (sym (append-nil ((first ++ (32 ∷ second)) ++ 10 ∷ []) ∙ append_assoc first (32 ∷ second) (10 ∷ [])))

-- the places of a report's count
pub places_of : (names names' : List (List ℕ)) (limit : ℕ) (e : EvidenceValue) (places : List Place) → IsReportEvidence (length names) limit e → names' ≡ names → e ≡ EvidenceValue.Count places → All (IsPlace (length names')) places
places_of names names' limit e places h same count = subst (λ (ns : List (List ℕ)). IsReportEvidence (length ns) limit (EvidenceValue.Count places)) (sym same) (subst (IsReportEvidence (length names) limit) count h)

-- the pieces of a count
pub count_written : (names : List (List ℕ)) (places places' : List Place) (a o1 o2 : List ℕ) → places' ≡ places → o1 ≡ a ++ codes "evidence count\n" → o2 ≡ o1 ++ text_of (map (place_row names) places')
    → o2 ≡ a ++ text_of (codes "evidence count" ∷ map (place_row names) places)
count_written names places places' a o1 o2 same e1 e2 =
    e2 ∙ ap₂ (λ x ps. x ++ text_of (map (place_row names) ps)) e1 same ∙ append_assoc a (codes "evidence count\n") (text_of (map (place_row names) places))

-- the pieces of a log behind its first line
pub log_written : (head : List ℕ) (kind : Template) (gates number : ℕ) (log : List Line) (a o1 o2 : List ℕ) → number ≡ template_number kind
    → o1 ≡ a ++ (head ++ (decimal number ++ (32 ∷ (decimal gates ++ 10 ∷ [])))) → o2 ≡ o1 ++ text_of (closed_log log) → o2 ≡ a ++ text_of ((head ++ template_text kind gates) ∷ closed_log log)
log_written head kind gates number log a o1 o2 same e1 e2 =
    let n = decimal (template_number kind) in
    let g = decimal gates in
    let rest = text_of (closed_log log) in
    e2 ∙ ap (λ x. x ++ rest) (e1 ∙ ap (λ m. a ++ (head ++ (decimal m ++ (32 ∷ (g ++ 10 ∷ []))))) same)
    ∙ append_assoc a (head ++ (n ++ (32 ∷ (g ++ 10 ∷ [])))) rest
    ∙ ap (λ x. a ++ (x ++ rest)) (sym (append_assoc head (n ++ (32 ∷ g)) (10 ∷ []) ∙ ap (λ x. head ++ x) (append_assoc n (32 ∷ g) (10 ∷ []))))

-- evidence that is a report's
pub evidence_written : (names names' : List (List ℕ)) (e e' : EvidenceValue) (a b : List ℕ) → names' ≡ names → e' ≡ e → b ≡ a ++ text_of (evidence_lines names' e') → b ≡ a ++ text_of (evidence_lines names e)
evidence_written names names' e e' a b same same_evidence h = h ∙ ap₂ (λ ns z. a ++ text_of (evidence_lines ns z)) same same_evidence

-- what holds of what a call gives, gives what is asked of it
pub if_ok : {T E : Type 0} (r : Result T E) (P Q : T → Type 0) → ((x : T) → P x → Q x) → IfOk r P → IfOk r Q
if_ok (Ok x) P Q f h = f x h
if_ok (Err e) P Q f h = tt

-- what holds where a call succeeds gives what is asked there
pub on_ok : {T E : Type 0} (r : Result T E) (P Q : Type 0) → (P → Q) → OnOk r P → OnOk r Q
on_ok (Ok x) P Q f h = f h
on_ok (Err e) P Q f h = tt
