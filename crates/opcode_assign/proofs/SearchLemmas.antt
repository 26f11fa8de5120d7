-- What a search has at its beginning and at its end.
use Rattle.std.specs.Prelude.{Result, Ok, Err, IfOk}
use Rattle.std.proofs.Common.{◌≡◌, ◌↔◌, ℕ, ◌+◌, ◌^◌, ◌<◌, ◌≤◌, List, [], ◌∷◌, length, refl, sym, subst, ap, ◌∙◌, arith, inl, inr, All}
use Rattle.std.proofs.lemmas.Bool.{both_ways, cases_lt}
use Rattle.std.proofs.lemmas.List.{length-map}
use Rattle.std.proofs.lemmas.List.Elements.{All-head}
use Rattle.cpog_defs.specs.declared.types.Bit3.{Bit3}
use Rattle.cpog_defs.specs.declared.types.Bit3.TheVariants.{Zero, One, Free}
use Rattle.cpog_defs.specs.declared.types.Gate.{Gate}
use Rattle.cpog_defs.specs.declared.types.Ref.{Ref}
use Rattle.cpog_defs.specs.Codes.{AreCodes}
use Rattle.cpog_defs.specs.Gates.{GateList, IsGateList, AreGatesFrom, signal_count}
use Rattle.cpog_defs.specs.Graphs.{ConditionalGraph, IsGraph, IsPlace}
use Rattle.cpog_defs.specs.Orders.{Order}
use Rattle.cpog_defs.specs.Encodings.{Encoding, IsEncoding, Fits, Encodes}
use Rattle.cpog_base.specs.declared.limits.TheConstants.{OPERATION_LIMIT}
use Rattle.gate_core.specs.Bounds.{IsLowerBound}
use Rattle.gate_core.specs.Columns.{IsOpenColumn}
use Rattle.gate_core.specs.First.{IsFirstEncoding, HasFewGates}
use Rattle.gate_core.specs.Least.{AreLeast}
use Rattle.gate_core.proofs.BoundLemmas.{few_by_smaller}
use Rattle.cpog_merge.specs.Columns.{Columns, AreColumnsOf, AgreesWith, column_at, count_of}
use Rattle.cpog_merge.specs.Classes.{Classes, AreClassesOf, BelongsTo}
use Rattle.cpog_merge.specs.ByClass.{IsGraphByClass, HaveReferences, graph_by_class}
use Rattle.cpog_merge.proofs.GraphLemmas.{by_class_is_graph}
use Rattle.cpog_merge.specs.Incompatible.{place_at}
use Rattle.cpog_merge.proofs.SmallerLemmas.{joining_lem}
use Rattle.cpog_merge.proofs.TakenLemmas.{set_is_evidence}
use Rattle.gate_template.specs.declared.types.Template.TheVariants.{Third}
use Rattle.gate_template.specs.Templates.{ArePatterns}
use Rattle.gate_template.specs.Values.{Parts, IsSolution}
use Rattle.cnf_build.specs.Sizes.{IsAsked}
use Rattle.cnf_build.specs.Evidence.{EvidenceValue, OpenValue, evidence_of, open_of, IsEvidence, IsOpenPart, HasWrittenEvidence, HasWrittenOpenPart}
use Rattle.cnf_build.proofs.EvidenceLemmas.{evidence_bounds_lem}
use Rattle.opcode_assign.specs.Assignments.{CanBeAssigned, IsFirstAssignment, IsFirstOrFewer, most_gates}
use Rattle.cpog_base.specs.declared.memory.Memory.{Memory}
use Rattle.opcode_assign.specs.declared.minimum.Answer.{Answer}
use Rattle.opcode_assign.specs.Answers.{IsSearched, IsAnswer}
use Rattle.opcode_assign.specs.Searches.{IsCounted, IsShownBy, CanBeEncoded, IsEncodedBy}
use Rattle.opcode_assign.proofs.EncodesLemmas.{by_class_encodes, assignment_on, first_from}

-- ---- where there is nothing to search

-- no column of one entry is open
none_open : (column : List Bit3) → IsOpenColumn 1 column → ⊥
none_open [] h = absurd (omega (arith, h.entries))
none_open (Zero ∷ []) h = both_ways _ refl h.some_one
none_open (One ∷ []) h = both_ways _ refl h.some_zero
none_open (Free ∷ []) h = both_ways _ refl h.some_one
none_open (x ∷ y ∷ column) h = absurd (omega (arith, h.entries))

one_scenario : (codes : List ℕ) (bits : ℕ) (columns : List (List Bit3)) (made : List ℕ) (gates : GateList) (refs : List Ref) → All (IsOpenColumn 1) columns →
    IsFirstEncoding codes bits columns (record { codes = made; gates = gates; refs = refs }) → length gates.gates ≡ 0
one_scenario codes bits [] made gates refs opens first = ap (λ (l : GateList). length l.gates) first.refs.0
one_scenario codes bits (column ∷ columns) made gates refs opens first = absurd (none_open column (All-head (IsOpenColumn 1) column columns opens))

-- a gate reads two earlier signals
one_bit : (gates : List Gate) → AreGatesFrom 1 gates → length gates ≡ 0
one_bit [] h = refl
one_bit (g ∷ gates) h = absurd (omega (arith, h.0, h.1))

-- where the first encoding has a gate, there are two scenarios and two bits
pub two_scenarios : (n bits hi : ℕ) (codes : List ℕ) (columns : List (List Bit3)) (made : List ℕ) (gates : GateList) (refs : List Ref) → 1 ≤ n → All (IsOpenColumn n) columns →
    IsFirstEncoding codes bits columns (record { codes = made; gates = gates; refs = refs }) → hi ≡ length gates.gates → 0 < hi → 2 ≤ n
two_scenarios n bits hi codes columns made gates refs some opens first is l = elim (cases_lt n 2) [
  | inl few ↦ (let one : n ≡ 1 = omega (arith, few, some) in absurd (omega (arith, l, is, one_scenario codes bits columns made gates refs (subst (λ m. All (IsOpenColumn m) columns) one opens) first)))
  | inr two ↦ two
]

pub two_bits : (bits hi : ℕ) (gates : GateList) → 1 ≤ bits → gates.inputs ≡ bits → IsGateList gates → hi ≡ length gates.gates → 0 < hi → 2 ≤ bits
two_bits bits hi gates some inputs list is l = elim (cases_lt bits 2) [
  | inl few ↦ (let one : gates.inputs ≡ 1 = omega (arith, few, some, inputs) in absurd (omega (arith, l, is, one_bit gates.gates (subst (λ m. AreGatesFrom m gates.gates) one list))))
  | inr two ↦ two
]

-- ---- counting

-- the count is evidence
pub counted_evidence : (orders : List Order) (patterns : List (List Bit3)) (bits : ℕ) (t : Columns) (list : Classes) (lo : ℕ) (evidence : EvidenceValue) → AreColumnsOf orders t → AreClassesOf t list →
    IsCounted list bits lo evidence → IsEvidence (count_of orders) orders patterns bits list.columns lo evidence
counted_evidence orders patterns bits t list lo EvidenceValue.Zero are classes h = h.count.0
counted_evidence orders patterns bits t list lo (EvidenceValue.Count places) are classes h =
    subst (λ ps. IsEvidence (count_of orders) orders patterns bits list.columns lo (EvidenceValue.Count ps)) (sym h.count.1)
    (length-map h.taken (place_at list) ∙ h.count.0, set_is_evidence orders t list h.taken are classes h.set)
counted_evidence orders patterns bits t list lo (EvidenceValue.Refutation kind gates log) are classes h = absurd h.count

pub counted_written : (list : Classes) (bits lo : ℕ) (evidence : EvidenceValue) → IsCounted list bits lo evidence → HasWrittenEvidence evidence
counted_written list bits lo EvidenceValue.Zero h = tt
counted_written list bits lo (EvidenceValue.Count places) h = tt
counted_written list bits lo (EvidenceValue.Refutation kind gates log) h = absurd h.count

-- the count shows its number as a search shows it
pub counted_shown : (list : Classes) (patterns : List (List Bit3)) (bits budget lo : ℕ) (evidence : EvidenceValue) (h : IsCounted list bits lo evidence) → IsShownBy list patterns bits budget h.taken lo evidence
counted_shown list patterns bits budget lo EvidenceValue.Zero h = h.count
counted_shown list patterns bits budget lo (EvidenceValue.Count places) h = h.count
counted_shown list patterns bits budget lo (EvidenceValue.Refutation kind gates log) h = absurd h.count

-- a number that is shown is at least the count less the bits
pub shown_few : (list : Classes) (patterns : List (List Bit3)) (bits budget : ℕ) (taken : List ℕ) (lo : ℕ) (evidence : EvidenceValue) → IsShownBy list patterns bits budget taken lo evidence → length taken ≤ lo + bits
shown_few list patterns bits budget taken lo EvidenceValue.Zero h = omega (arith, h.1)
shown_few list patterns bits budget taken lo (EvidenceValue.Count places) h = omega (arith, h.0)
shown_few list patterns bits budget taken lo (EvidenceValue.Refutation kind gates log) h = omega (arith, h.0)

-- ---- encodings of classes

module _ (orders : List Order) (patterns : List (List Bit3)) (bits : ℕ) (t : Columns) (list : Classes) (are : AreColumnsOf orders t) (classes : AreClassesOf t list)
    (fits : (f : Encoding) → IsEncoding (count_of orders) f → Fits f orders ↔ AgreesWith f t) (one_each : length patterns ≡ length orders)
    (parts : Parts) (graph : ConditionalGraph) (solution : IsSolution Third patterns bits list.columns parts)
    (is_graph : IsGraph list.count (signal_count parts.gates) graph) (conditions : IsGraphByClass list.count list parts.refs graph) where
  abbrev e : Encoding
  e = record { codes = parts.codes; gates = parts.gates; graph = graph }

  whole : list.count ≡ count_of orders
  whole = classes.count ∙ are.count

  is_encoding : IsEncoding (count_of orders) e
  is_encoding = record {
    codes = subst (λ b. All (λ word. word < 2 ^ b) parts.codes) (sym solution.inputs) solution.codes.within;
    gates = solution.gates;
    graph = subst (λ k. IsGraph k (signal_count parts.gates) graph) whole is_graph;
  }

  pub solution_encodes : Encodes (count_of orders) orders patterns bits e
  solution_encodes =
      by_class_encodes (count_of orders) bits orders patterns t list parts.refs e fits are.scenarios are.count classes solution.inputs
      (subst (λ n. AreCodes bits n parts.codes) one_each solution.codes) solution.given is_encoding solution.references
      (subst (λ k. IsGraphByClass k list parts.refs graph) whole conditions)

-- no number above the gates of an encoding is a lower bound
pub bound_below : (count bits lo : ℕ) (orders : List Order) (patterns : List (List Bit3)) (e : Encoding) → IsLowerBound count orders patterns bits lo → Encodes count orders patterns bits e → lo ≤ length e.gates.gates
bound_below count bits lo orders patterns e low encodes = elim (cases_lt (length e.gates.gates) lo) [
  | inl l ↦ absurd (low (length e.gates.gates) l (record { encoding = e; encodes = encodes; cost_is = refl }))
  | inr g ↦ g
]

-- ---- the answer

module _ (orders : List Order) (patterns : List (List Bit3)) (bits : ℕ) (t : Columns) (list : Classes) (are : AreColumnsOf orders t) (classes : AreClassesOf t list)
    (fits : (f : Encoding) → IsEncoding (count_of orders) f → Fits f orders ↔ AgreesWith f t) (fit : ArePatterns bits (length orders) patterns)
    (can : CanBeAssigned orders bits) where
  -- a bound is not above the gates of a solution
  pub below_solution : (lo : ℕ) (evidence : EvidenceValue) (parts : Parts) → IsEvidence (count_of orders) orders patterns bits list.columns lo evidence → IsSolution Third patterns bits list.columns parts → lo ≤ length parts.gates.gates
  below_solution lo evidence parts shown solution =
      let g = by_class_is_graph (signal_count parts.gates) list parts.refs solution.references.over in
      bound_below (count_of orders) bits lo orders patterns _
      (evidence_bounds_lem orders patterns t list bits lo evidence can.alike are classes can.some fit shown)
      (solution_encodes orders patterns bits t list are classes fits fit.one_each parts (graph_by_class list parts.refs) solution g.0 g.1)

  -- a bound with its evidence, a solution with its graph, and what is left open between them
  pub searched : (budget lo start : ℕ) (counted shown : EvidenceValue) (left : OpenValue) (parts : Parts) (graph : ConditionalGraph) (count : IsCounted list bits start counted) →
      IsShownBy list patterns bits budget count.taken lo shown → IsEvidence (count_of orders) orders patterns bits list.columns lo shown → HasWrittenEvidence shown → IsSolution Third patterns bits list.columns parts →
      IsGraph list.count (signal_count parts.gates) graph → IsGraphByClass list.count list parts.refs graph → length parts.gates.gates ≤ most_gates →
      IsOpenPart patterns bits list.columns lo (length parts.gates.gates) budget left → HasWrittenOpenPart left →
      (lo < length parts.gates.gates → IsFirstAssignment (count_of orders) orders patterns bits (record { codes = parts.codes; gates = parts.gates; graph = graph })) →
      IsFirstOrFewer (count_of orders) orders patterns bits (record { codes = parts.codes; gates = parts.gates; graph = graph }) →
      IsSearched orders patterns bits budget (record { codes = parts.codes; gates = parts.gates; graph = graph }) lo shown left
  searched budget lo start counted shown left parts graph count shown_by evidence written solution is_graph conditions few open_part open_written first kept = record {
    encodes = solution_encodes orders patterns bits t list are classes fits fit.one_each parts graph solution is_graph conditions;
    few_gates = few;
    columns = t;
    are_columns = are;
    classes = list;
    are_classes = classes;
    refs = parts.refs;
    serve = solution.references;
    conditions = subst (λ k. IsGraphByClass k list parts.refs graph) (classes.count ∙ are.count) conditions;
    taken = count.taken;
    set = count.set;
    counted = shown_few list patterns bits budget count.taken lo shown shown_by;
    shown_by = shown_by;
    is_evidence = evidence;
    lower = evidence_bounds_lem orders patterns t list bits lo shown can.alike are classes can.some fit evidence;
    is_open_part = open_part;
    first = first;
    kept_or_fewer = kept;
    written = record { of_evidence = written; of_open_part = open_written };
  }

  -- the first encoding with its graph is the first assignment
  pub first_assigned : (codes made : List ℕ) (refs : List Ref) (gates : GateList) (graph : ConditionalGraph) → AreLeast patterns (2 ^ bits) codes → AreCodes bits (length patterns) codes → made ≡ codes →
      IsFirstEncoding codes bits list.columns (record { codes = made; gates = gates; refs = refs }) → IsSolution Third patterns bits list.columns (record { codes = made; gates = gates; refs = refs }) →
      IsGraph list.count (signal_count gates) graph → IsGraphByClass list.count list refs graph →
      IsFirstAssignment (count_of orders) orders patterns bits (record { codes = made; gates = gates; graph = graph })
  first_assigned codes made refs gates graph least coded same first solution is_graph conditions =
      first_from codes (count_of orders) bits orders patterns (record { codes = made; gates = gates; graph = graph }) least
      (assignment_on codes (count_of orders) bits (length patterns) orders t list refs (record { codes = made; gates = gates; graph = graph }) coded same solution.inputs solution.gates are.count are classes first is_graph conditions)

  -- the first encoding with the graph by its classes is the first assignment, and an encoding with fewer gates may take its place
  pub fewer_than_first : (codes made : List ℕ) (refs : List Ref) (gates : GateList) (e : Encoding) → AreLeast patterns (2 ^ bits) codes → AreCodes bits (length patterns) codes → made ≡ codes →
      IsFirstEncoding codes bits list.columns (record { codes = made; gates = gates; refs = refs }) → IsSolution Third patterns bits list.columns (record { codes = made; gates = gates; refs = refs }) →
      length e.gates.gates < length gates.gates → IsFirstOrFewer (count_of orders) orders patterns bits e
  fewer_than_first codes made refs gates e least coded same first solution fewer =
      let g = by_class_is_graph (signal_count gates) list refs solution.references.over in record {
        first = record { codes = made; gates = gates; graph = graph_by_class list refs };
        is_first = first_assigned codes made refs gates (graph_by_class list refs) least coded same first solution g.0 g.1;
        kept = inr fewer;
      }

  -- its gates are few
  pub first_few : (codes made : List ℕ) (refs : List Ref) (gates : GateList) → count_of orders ≤ OPERATION_LIMIT →
      IsFirstEncoding codes bits list.columns (record { codes = made; gates = gates; refs = refs }) → HasFewGates codes bits list.columns (record { codes = made; gates = gates; refs = refs }) → length gates.gates ≤ most_gates
  first_few codes made refs gates few_ops first few =
      let joins = joining_lem orders t list can.alike few_ops are classes can.few in
      omega (arith, joins, few_by_smaller codes bits list.columns _ first few)

  -- what is encoded is an answer
  pub answered : (budget lo : ℕ) (shown : EvidenceValue) (left : OpenValue) (parts : Parts) (r : Result Answer Memory) → IfOk r (λ a. IsEncodedBy list parts a.encoding) → IfOk r (λ a. a.lo ≡ lo) →
      IfOk r (λ a. evidence_of a.evidence ≡ shown) → IfOk r (λ a. open_of a.open_part ≡ left) →
      ((graph : ConditionalGraph) → IsGraph list.count (signal_count parts.gates) graph → IsGraphByClass list.count list parts.refs graph → IsSearched orders patterns bits budget (record { codes = parts.codes; gates = parts.gates; graph = graph }) lo shown left) →
      IfOk r (IsAnswer orders patterns bits budget)
  answered budget lo shown left parts (Ok a) e l s o make =
      subst (λ x. IsSearched orders patterns bits budget x a.lo (evidence_of a.evidence) (open_of a.open_part)) (sym e.same)
      (subst (λ n. IsSearched orders patterns bits budget (record { codes = parts.codes; gates = parts.gates; graph = a.encoding.graph }) n (evidence_of a.evidence) (open_of a.open_part)) (sym l)
      (subst (λ v. IsSearched orders patterns bits budget (record { codes = parts.codes; gates = parts.gates; graph = a.encoding.graph }) lo v (open_of a.open_part)) (sym s)
      (subst (λ v. IsSearched orders patterns bits budget (record { codes = parts.codes; gates = parts.gates; graph = a.encoding.graph }) lo shown v) (sym o) (make a.encoding.graph e.is_graph e.conditions))))
  answered budget lo shown left parts (Err m) e l s o make = tt

  -- what a template with fewer gates than the first encoding is asked with
  pub asked_first : (hi : ℕ) (parts : Parts) → All (IsOpenColumn (length orders)) list.columns → IsSolution Third patterns bits list.columns parts → length parts.gates.gates ≤ most_gates →
      hi ≡ length parts.gates.gates → 0 < hi → IsAsked patterns bits hi list.columns
  asked_first hi parts opens solution few is l = record {
    some = omega (arith, can.some, fit.one_each);
    few = omega (arith, can.few, fit.one_each);
    some_bits = two_bits bits hi parts.gates can.some_bit solution.inputs solution.gates is l;
    few_bits = can.few_bits;
    few_gates = omega (arith, few, is);
    patterns_fit = fit.lengths;
    columns_fit = λ k d m. (opens k d m).entries ∙ sym fit.one_each;
  }

-- each class to which a column belongs has a reference
have_references : (t : Columns) (list : Classes) (refs : List Ref) → AreClassesOf t list → length refs ≡ length list.columns → HaveReferences list refs
have_references t list refs classes size p number negated place is =
    let belongs = subst (BelongsTo list (column_at t p)) is (classes.belongs p (subst (λ n. IsPlace n p) classes.count place)) in
    omega (arith, belongs.2.in_range, size)

-- a solution can be encoded
pub solution_can_be : (n bits : ℕ) (patterns : List (List Bit3)) (t : Columns) (list : Classes) (parts : Parts) → AreClassesOf t list → length patterns ≡ n → n ≤ 64 → IsSolution Third patterns bits list.columns parts → CanBeEncoded list parts
solution_can_be n bits patterns t list parts classes one_each few solution = record {
  references = have_references t list parts.refs classes solution.references.one_each;
  over = solution.references.over;
  codes = subst (λ b. All (λ word. word < 2 ^ b) parts.codes) (sym solution.inputs) solution.codes.within;
  few = omega (arith, solution.codes.one_each, one_each, few);
  gates = solution.gates;
}
