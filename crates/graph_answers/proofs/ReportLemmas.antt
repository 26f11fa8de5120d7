-- The report of a file is lawful, and is its synthesis.
use Rattle.std.proofs.Common.{◌≡◌, ◌≢◌, ℕ, zero, suc, ◌+◌, ◌-◌, ◌<◌, ◌≤◌, Bool, true, false, IsTrue, List, [], ◌∷◌, ◌++◌, length, map, replicate, IsSomeAnd, slice_index_or, slice_get, if◌then◌else◌, refl, sym, ap, ◌∙◌, subst, arith, inl, inr, length-append}
use Rattle.std.specs.List.{All, AllPairs}
use Rattle.std.proofs.lemmas.Bool.{cases_lt, both_ways, or_cases, and_parts}
use Rattle.std.proofs.lemmas.List.{get_or_append_left, get_or-append_right, get_or-replicate, length-map, length-replicate}
use Rattle.cnf_build.specs.Evidence.{EvidenceValue, OpenValue, IsEvidence, IsOpenPart, HasWrittenEvidence, HasWrittenOpenPart}
use Rattle.cpog_defs.specs.declared.types.Bit3.{Bit3}
use Rattle.cpog_defs.specs.declared.types.Bit3.TheVariants.{Free}
use Rattle.cpog_defs.specs.declared.types.OpId.{OpId}
use Rattle.cpog_defs.specs.Graphs.{IsPlace}
use Rattle.cpog_defs.specs.Orders.{Order, is_before, is_covered, IsOrderOf, each_below, arc_of}
use Rattle.cpog_defs.specs.Scenarios.{Scenario, HasArc, AreOrdersOf}
use Rattle.cpog_base.specs.Names.{AreDistinct}
use Rattle.cpog_base.specs.Rows.{has_arc}
use Rattle.cpog_base.specs.RowLaws.{has_from_contains}
use Rattle.cpog_merge.specs.ByClass.{IsGraphByClass}
use Rattle.cpog_merge.specs.Columns.{count_of}
use Rattle.cpog_merge.proofs.ScenarioLemmas.{fits_is_fitting_scenarios_lem}
use Rattle.cpog_defs.specs.Encodings.{Encoding, IsEncoding, Encodes}
use Rattle.gate_core.specs.Bounds.{IsLowerBound}
use Rattle.gate_template.specs.Templates.{ArePatterns}
use Rattle.handshake_eqs.specs.Netlists.{Netlist, IsNetlistOf}
use Rattle.netlist_verilog.specs.Module.{IsModule}
use Rattle.pg_text.specs.Text.{IsFile}
use Rattle.report_text.specs.declared.bound.Bound.{Bound}
use Rattle.report_text.specs.declared.bound.Bound.TheVariants.{Minimum, Between}
use Rattle.report_text.specs.declared.version.Version.TheVariants.{One}
use Rattle.report_judge.specs.Laws.{IsReportOfSearch}
use Rattle.report_judge.proofs.SearchedLemmas.{report_of_search_is_good}
use Rattle.report_text.specs.Report.{ReportValue, IsArcBefore, IsBound, IsReportEvidence, IsReportOpen, IsReport, IsReported}
use Rattle.opcode_assign.specs.Answers.{IsSearched}
use Rattle.opcode_assign.specs.Assignments.{IsFirstAssignment, IsFirstOrFewer}
use Rattle.opcode_assign.specs.Searches.{IsShownBy}
use Rattle.pg_text.specs.Contents.{Contents}
use Rattle.pg_normal.specs.Denoting.{Stated, stated_in, scenario_names_of, IsDenoted, AreDenoted}
use Rattle.graph_answers.specs.declared.encodable.Encodable.{Encodable}
use Rattle.command_words.specs.declared.words.SynthOptions.{SynthOptions}
use Rattle.graph_answers.specs.Ordered.{AreOrdersIn}
use Rattle.graph_answers.specs.Bits.{synth_length}
use Rattle.command_words.specs.Ranges.{MayBeAsked}
use Rattle.graph_answers.specs.Encodable.{IsEncodable}
use Rattle.graph_answers.specs.Synthesis.{free_patterns, IsSound, IsSynthesis}
use Rattle.report_judge.specs.Known.{printed_lower, Attains}
use Rattle.order_reduce.specs.Scenarios.{covering_scenario}
use Rattle.graph_answers.proofs.ArcLemmas.{arcs_from, arcs_where, from_u, begin_below, has_one, has_append}
use Rattle.graph_answers.proofs.DenotingLemmas.{length-denoted}
use Rattle.graph_answers.proofs.FileNames.{operations_are_names, scenarios_have_names, operations_are_distinct}
use Rattle.pg_normal.proofs.OpenLemmas.{agreeing}

-- ---- arcs that are gathered by their ends ascend

from_passes : (p : ℕ → ℕ → Bool) (n u a b : ℕ) → IsTrue (has_arc (arcs_from p n u) a b) → IsTrue (p a b)
from_passes p zero u a b h = absurd (both_ways _ refl h)
from_passes p (suc n) u a b h = elim (or_cases _ _ (rw (has_append (arcs_from p n u) (if p u n then arc_of u n ∷ [] else []) a b) at h)) [
  | inl old ↦ from_passes p n u a b old
  | inr new ↦ one (p u n) refl new
]
  where
    one : (t : Bool) → p u n ≡ t → IsTrue (has_arc (if t then arc_of u n ∷ [] else []) a b) → IsTrue (p a b)
    one false e k = absurd (both_ways _ refl k)
    one true e k = let ends = has_one true u n a b k in rw (ends.0, ends.1) e

-- what is gathered passes
pub where_passes : (p : ℕ → ℕ → Bool) (n m a b : ℕ) → IsTrue (has_arc (each_below (arcs_from p n) m) a b) → IsTrue (p a b)
where_passes p n zero a b h = absurd (both_ways _ refl h)
where_passes p n (suc m) a b h = elim (or_cases _ _ (rw (has_append (each_below (arcs_from p n) m) (arcs_from p n m) a b) at h)) [
  | inl old ↦ where_passes p n m a b old
  | inr new ↦ from_passes p n m a b new
]

-- each element of one list is related to each element of another
abbrev AllAcross : (OpId × OpId → OpId × OpId → Type 0) → List (OpId × OpId) → List (OpId × OpId) → Type 0
AllAcross R xs ys = (i j : ℕ) (d : OpId × OpId) → i < length xs → j < length ys → R (slice_index_or xs i d) (slice_index_or ys j d)

pairs_append : (R : OpId × OpId → OpId × OpId → Type 0) (xs ys : List (OpId × OpId)) → AllPairs R xs → AllPairs R ys → AllAcross R xs ys → AllPairs R (xs ++ ys)
pairs_append R xs ys first second across i j d l m =
    let size : length (xs ++ ys) ≡ length xs + length ys = length-append xs ys in
    elim (cases_lt j (length xs)) [
      | inl j_first ↦ rw (get_or_append_left xs ys d i (omega arith), get_or_append_left xs ys d j j_first) (first i j d l j_first)
      | inr j_second ↦ elim (cases_lt i (length xs)) [
        | inl i_first ↦ rw (get_or_append_left xs ys d i i_first, get_or-append_right xs ys (length xs) j d refl j_second) (across i (j - length xs) d i_first (omega (arith, size)))
        | inr i_second ↦ rw (get_or-append_right xs ys (length xs) i d refl i_second, get_or-append_right xs ys (length xs) j d refl j_second) (second (i - length xs) (j - length xs) d (omega arith) (omega (arith, size)))
      ]
    ]

-- an element is one that is found
found_at : (xs : List (OpId × OpId)) (k : ℕ) (d : OpId × OpId) → k < length xs → IsTrue (has_arc xs (slice_index_or xs k d).0.0 (slice_index_or xs k d).1.0)
found_at xs k d l = has_from_contains xs _ _ (k, l, same_default xs k l)
  where
    same_default : (xs : List (OpId × OpId)) (k : ℕ) → k < length xs → slice_index_or xs k (slice_index_or xs k d) ≡ slice_index_or xs k d
    same_default [] k l = absurd (omega arith)
    same_default (x ∷ xs) zero l = refl
    same_default (x ∷ xs) (suc k) l = same_default xs k (omega arith)

one_or_none : (t : Bool) (u v : ℕ) → AllPairs IsArcBefore (if t then arc_of u v ∷ [] else [])
one_or_none true u v i j d l m = absurd (omega arith)
one_or_none false u v i j d l m = absurd (omega arith)

from_ascend : (p : ℕ → ℕ → Bool) (n u : ℕ) → AllPairs IsArcBefore (arcs_from p n u)
from_ascend p zero u = λ i j d l m. absurd (omega arith)
from_ascend p (suc n) u = pairs_append IsArcBefore (arcs_from p n u) (if p u n then arc_of u n ∷ [] else []) (from_ascend p n u) (one_or_none (p u n) u n)
    (λ i j d l m.
    let a = from_u p n u _ _ (found_at (arcs_from p n u) i d l) in
    let b = has_one (p u n) u n _ _ (found_at (if p u n then arc_of u n ∷ [] else []) j d m) in
    inr (a.0 ∙ sym b.0, omega (arith, a.1, b.1)))

pub where_ascend : (p : ℕ → ℕ → Bool) (n m : ℕ) → AllPairs IsArcBefore (each_below (arcs_from p n) m)
where_ascend p n zero = λ i j d l m. absurd (omega arith)
where_ascend p n (suc k) = pairs_append IsArcBefore (each_below (arcs_from p n) k) (arcs_from p n k) (where_ascend p n k) (from_ascend p n k)
    (λ i j d l m.
    let a = begin_below p n k _ _ (found_at (each_below (arcs_from p n) k) i d l) in
    let b = from_u p n k _ _ (found_at (arcs_from p n k) j d m) in
    inl (omega (arith, a, b.0)))

-- an arc isn't before itself
differ : (a b : OpId × OpId) → IsArcBefore a b → a ≢ b
differ a b (inl l) e = let same : a.0.0 ≡ b.0.0 = ap (λ (x : OpId × OpId). x.0.0) e in absurd (omega arith)
differ a b (inr l) e = let same : a.1.0 ≡ b.1.0 = ap (λ (x : OpId × OpId). x.1.0) e in absurd (omega (arith, l.1))

-- ---- printed scenarios

-- a scenario with its covering pairs may be printed
pub reported : (n : ℕ) (o : Order) → IsOrderOf n o → IsReported n (covering_scenario o)
reported n o is =
    let before : (u v : ℕ) → HasArc (covering_scenario o) u v → IsTrue (is_before o u v) =
    λ u v h. (and_parts _ _ (where_passes (is_covered o) o.count o.count u v (has_from_contains (arcs_where (is_covered o) o.count) u v h))).0 in
    record {
      count_is = is.count_is;
      scenario = record {
        below = is.order.below;
        first_kept = λ u v h. is.order.first_kept u v (before u v h);
        second_kept = λ u v h. is.order.second_kept u v (before u v h);
        distinct = λ i j d l m. differ _ _ (where_ascend (is_covered o) o.count o.count i j d l m);
      };
      ascending = where_ascend (is_covered o) o.count o.count;
    }

-- ---- orders of scenarios

pub length-orders : (xs : List Scenario) (os : List Order) → AreOrdersOf xs os → length os ≡ length xs
length-orders [] [] z = refl
length-orders [] (o ∷ os) z = absurd z
length-orders (x ∷ xs) [] z = absurd z
length-orders (x ∷ xs) (o ∷ os) z = ap suc (length-orders xs os z.1)

-- a scenario of so many operations
sized : (count : ℕ) (x : Stated) (sc : Scenario) → IsDenoted count x sc → sc.count ≡ count
sized count x sc d = let n = agreeing x in (d n.0 n.1 n.2).size

-- the orders of a file's scenarios are of one count
alike : (count : ℕ) (xs : List Stated) (scs : List Scenario) (os : List Order) → AreDenoted count xs scs → AreOrdersOf scs os → All (IsOrderOf count) os
alike count [] [] [] h z k d l = absurd (omega arith)
alike count [] [] (o ∷ os) h z k d l = absurd z
alike count [] (s ∷ scs) os h z k d l = absurd h
alike count (x ∷ xs) [] os h z k d l = absurd h
alike count (x ∷ xs) (s ∷ scs) [] h z k d l = absurd z
alike count (x ∷ xs) (s ∷ scs) (o ∷ os) h z zero d l = record { count_is = z.0.count ∙ sized count x s h.0; order = z.0.order }
alike count (x ∷ xs) (s ∷ scs) (o ∷ os) h z (suc k) d l = alike count xs scs os h.1 z.1 k d (omega arith)

pub count_is : (n : ℕ) (os : List Order) → 0 < length os → All (IsOrderOf n) os → count_of os ≡ n
count_is n [] l all = absurd (omega arith)
count_is n (o ∷ os) l all = (all 0 o (omega arith)).count_is

-- ---- all elements of a list

pub all_map : {X Y : Type 0} (P : X → Type 0) (Q : Y → Type 0) (f : X → Y) → ((x : X) → P x → Q (f x)) → (xs : List X) → All P xs → All Q (map f xs)
all_map P Q f step [] h k d l = absurd (omega arith)
all_map P Q f step (x ∷ xs) h zero d l = step x (h 0 x (omega arith))
all_map P Q f step (x ∷ xs) h (suc k) d l = all_map P Q f step xs (λ i e m. h (suc i) e (omega arith)) k d (omega arith)

-- ---- the report of a file

module _ (f : Contents) (orders : List Order) (z : AreOrdersIn f orders) where
  pub orders_are : All (IsOrderOf (length f.operations)) orders
  orders_are = alike (length f.operations) (stated_in f) z.scenarios orders z.denoted z.of_scenarios

  -- a scenario has its order, and its name
  pub names_each : length (scenario_names_of f) ≡ length orders
  names_each = length-map (stated_in f) _ ∙ sym (length-denoted (length f.operations) (stated_in f) z.scenarios z.denoted) ∙ sym (length-orders z.scenarios orders z.of_scenarios)

-- a file with a scenario
module _ (f : Contents) (orders : List Order) (z : AreOrdersIn f orders) (some : 0 < length orders) where
  pub same_count : count_of orders ≡ length f.operations
  same_count = count_is (length f.operations) orders some (orders_are f orders z)

  pub orders_alike : All (IsOrderOf (count_of orders)) orders
  orders_alike = subst (λ n. All (IsOrderOf n) orders) (sym same_count) (orders_are f orders z)

-- ---- what a search finds may be reported

-- patterns of open bits are patterns
pub free_are_patterns : (n bits : ℕ) → ArePatterns bits n (free_patterns n bits)
free_are_patterns n bits = record {
  one_each = length-replicate n (replicate bits Free);
  lengths = λ k d l. ap length (get_or-replicate n k (replicate bits Free) d (omega (arith, l, length-replicate {A = List Bit3} n (replicate bits Free)))) ∙ length-replicate bits Free;
}

-- what is left open says that the lower bound is no greater than the number of gates
pub open_within : (patterns columns : List (List Bit3)) (bits lo hi budget : ℕ) (open_part : OpenValue) → IsOpenPart patterns bits columns lo hi budget open_part → lo ≤ hi
open_within patterns columns bits lo hi budget OpenValue.Closed h = omega (arith, h)
open_within patterns columns bits lo hi budget (OpenValue.Log kind gates log) h = omega (arith, h.0)
open_within patterns columns bits lo hi budget (OpenValue.Size kind gates) h = omega (arith, h.0)

-- a lower bound that is printed is no greater than the number of gates
pub lower_is_within : (b : Bound) (gates lo : ℕ) → printed_lower b ≡ lo → Attains gates b → lo ≤ gates
lower_is_within (Minimum h) gates lo e attained = omega (arith, e, attained)
lower_is_within (Between l h) gates lo e attained = omega (arith, e, attained.0, attained.1)

-- so its numbers are few where gates are few
few_bound : (b : Bound) (gates : ℕ) → Attains gates b → gates < 65536 → IsBound 65536 b
few_bound (Minimum h) gates attained few = omega (arith, attained, few)
few_bound (Between l h) gates attained few = (omega (arith, attained.0, attained.1, few), omega (arith, attained.0, few))

module _ (n m : ℕ) (same : n ≡ m) (orders : List Order) (patterns : List (List Bit3)) (bits : ℕ) (columns : List (List Bit3)) (lo : ℕ) (few : lo < 65536) where
  reported_evidence : (evidence : EvidenceValue) → IsEvidence n orders patterns bits columns lo evidence → HasWrittenEvidence evidence → IsReportEvidence m 65536 evidence
  reported_evidence EvidenceValue.Zero h w = tt
  reported_evidence (EvidenceValue.Count places) h w = subst (λ k. All (IsPlace k) places) same h.1.places_are
  reported_evidence (EvidenceValue.Refutation kind gates log) h w = (omega (arith, h.one_fewer, few), w)

  reported_open : (hi budget : ℕ) (open_part : OpenValue) → IsOpenPart patterns bits columns lo hi budget open_part → HasWrittenOpenPart open_part → IsReportOpen 65536 open_part
  reported_open hi budget OpenValue.Closed h w = tt
  reported_open hi budget (OpenValue.Log kind gates log) h w = (omega (arith, h.1.gates_are, few), w)
  reported_open hi budget (OpenValue.Size kind gates) h w = omega (arith, h.1.gates_are, few)

-- what a search says of lists it says of equal ones
pub search_of_equal : (orders os : List Order) (given ps : List (List Bit3)) → orders ≡ os → given ≡ ps → (bits budget : ℕ) (e : Encoding) (lo : ℕ) (evidence : EvidenceValue) (open_part : OpenValue) →
    IsSearched orders given bits budget e lo evidence open_part → IsSearched os ps bits budget e lo evidence open_part
search_of_equal orders os given ps same_orders same_given bits budget e lo evidence open_part h =
    subst (λ ys. IsSearched os ys bits budget e lo evidence open_part) same_given (subst (λ ys. IsSearched ys given bits budget e lo evidence open_part) same_orders h)

-- ---- the report of what can be encoded

module _ (options : SynthOptions) (may : MayBeAsked options) (x : Encodable) (is : IsEncodable (synth_length options) x.file x)
    (file : IsFile x.file) (distinct : AreDistinct (scenario_names_of x.file)) (e : Encoding) (lo : ℕ) (evidence : EvidenceValue) (open_part : OpenValue)
    (found : IsSearched x.orders.items (free_patterns (length x.orders.items) x.bits) x.bits options.budget e lo evidence open_part)
    (b : Bound) (lower : printed_lower b ≡ lo) (attained : Attains (length e.gates.gates) b)
    (n : Netlist) (netlist : IsNetlistOf e n) where
  abbrev orders : List Order
  orders = x.orders.items

  abbrev given : List (List Bit3)
  given = free_patterns (length orders) x.bits

  abbrev count : ℕ
  count = length x.file.operations

  abbrev report : ReportValue
  report = record {
    version = One;
    bits = x.bits;
    budget = options.budget;
    names = x.file.operations;
    scenario_names = scenario_names_of x.file;
    patterns = given;
    scenarios = map covering_scenario orders;
    encoding = e;
    bound = b;
    evidence = evidence;
    open_part = open_part;
    design = record { names = x.file.operations; netlist = n };
  }

  same : count_of orders ≡ count
  same = same_count x.file orders is.orders is.some

  few_gates : length e.gates.gates < 65536
  few_gates = omega (arith, found.few_gates)

  few_lower : lo < 65536
  few_lower = omega (arith, lower_is_within b (length e.gates.gates) lo lower attained, few_gates)

  covering : length (map covering_scenario orders) ≡ length orders
  covering = length-map orders covering_scenario

  encoding : IsEncoding count e
  encoding = subst (λ m. IsEncoding m e) same found.encodes.encoding

  -- the netlist of the encoding with the file's names is a module
  design_is : IsModule (record { names = x.file.operations; netlist = n })
  design_is =
      let operations : length n.conditions ≡ count = ap length netlist.conditions ∙ encoding.graph.ops in
      let inputs : n.gates.inputs ≡ x.bits = ap (λ g. g.inputs) netlist.gates ∙ found.encodes.bits_are in
      let gates : length n.gates.gates ≡ length e.gates.gates = ap (λ g. length g.gates) netlist.gates in
      record {
        names = operations_are_names x.file file;
        distinct = operations_are_distinct x.file file;
        one_name_each = sym operations;
        some_input = omega (arith, inputs, is.some_bit);
        few_inputs = omega (arith, inputs, is.few_bits);
        few_gates = omega (arith, gates, few_gates);
        gates = rw netlist.gates encoding.gates;
        netlist = netlist.netlist;
      }

  pub report_is_lawful : IsReport report
  report_is_lawful = record {
    some_bit = is.some_bit;
    few_bits = is.few_bits;
    some_budget = may.some_budget;
    few_budget = may.few_budget;
    few_names = file.1.few_operations;
    names = operations_are_names x.file file;
    distinct = operations_are_distinct x.file file;
    some_scenario = omega (arith, covering, is.some);
    few_scenarios = omega (arith, covering, is.few);
    one_name_each = names_each x.file orders is.orders ∙ sym covering;
    scenario_names = scenarios_have_names x.file file;
    distinct_scenarios = distinct;
    patterns = subst (λ k. ArePatterns x.bits k given) (sym covering) (free_are_patterns (length orders) x.bits);
    scenarios = all_map (IsOrderOf count) (IsReported count) covering_scenario (reported count) orders (orders_are x.file orders is.orders);
    inputs = found.encodes.bits_are;
    one_code_each = found.encodes.codes.one_each ∙ sym covering;
    few_gates = few_gates;
    encoding = encoding;
    bound = few_bound b (length e.gates.gates) attained few_gates;
    evidence = reported_evidence (count_of orders) count same orders given x.bits found.classes.columns lo few_lower evidence found.is_evidence found.written.of_evidence;
    open_part = reported_open (count_of orders) count same orders given x.bits found.classes.columns lo few_lower (length e.gates.gates) options.budget open_part found.is_open_part found.written.of_open_part;
    design = design_is;
  }

  -- and sound
  -- it is what a search says
  of_search : IsReportOfSearch report
  of_search = record {
    orders = orders;
    one_count = orders_are x.file orders is.orders;
    scenarios = refl;
    different = is.different;
    encodes = subst (λ m. Encodes m orders given x.bits e) same found.encodes;
    module_names = refl;
    module_netlist = netlist;
    attained = attained;
    columns = found.columns;
    are_columns = found.are_columns;
    classes = found.classes;
    are_classes = found.are_classes;
    evidence = subst (λ m. IsEvidence m orders given x.bits found.classes.columns (printed_lower b) evidence) same
        (subst (λ k. IsEvidence (count_of orders) orders given x.bits found.classes.columns k evidence) (sym lower) found.is_evidence);
    open_part = subst (λ k. IsOpenPart given x.bits found.classes.columns k (length e.gates.gates) options.budget open_part) (sym lower) found.is_open_part;
  }

  pub report_is_sound : IsSound x.file report
  report_is_sound = record {
    report = report_is_lawful;
    good = report_of_search_is_good report of_search;
    names = refl;
    scenario_names = refl;
    orders = orders;
    of_file = is.orders;
    different = is.different;
    scenarios = refl;
    codes = found.encodes.codes;
    given = refl;
    given_kept = found.encodes.given;
    fits = (fits_is_fitting_scenarios_lem e is.orders.scenarios orders is.orders.of_scenarios).0 found.encodes.fits;
    module_names = refl;
    module_netlist = netlist;
    lower_bound = subst (λ m. IsLowerBound m orders given x.bits (printed_lower b)) same (subst (λ k. IsLowerBound (count_of orders) orders given x.bits k) (sym lower) found.lower);
    one_count = orders_are x.file orders is.orders;
    enough_bits = is.enough;
    compared = subst (λ m. Encodes m orders given x.bits e) same found.encodes;
    attained = attained;
    few_gates = found.few_gates;
    columns = found.columns;
    are_columns = found.are_columns;
    classes = found.classes;
    are_classes = found.are_classes;
    evidence = subst (λ m. IsEvidence m orders given x.bits found.classes.columns (printed_lower b) evidence) same
        (subst (λ k. IsEvidence (count_of orders) orders given x.bits found.classes.columns k evidence) (sym lower) found.is_evidence);
    taken = found.taken;
    counting_set = found.set;
    counting_bound = subst (λ k. length found.taken ≤ k + x.bits) (sym lower) found.counted;
    shown_by = subst (λ k. IsShownBy found.classes given x.bits options.budget found.taken k evidence) (sym lower) found.shown_by;
    open_part = subst (λ k. IsOpenPart given x.bits found.classes.columns k (length e.gates.gates) options.budget open_part) (sym lower) found.is_open_part;
    refs = found.refs;
    serve = found.serve;
    conditions = subst (λ m. IsGraphByClass m found.classes found.refs e.graph) same found.conditions;
    first = λ l. subst (λ m. IsFirstAssignment m orders given x.bits e) same (found.first (subst (λ k. k < length e.gates.gates) lower l));
    first_or_fewer = subst (λ m. IsFirstOrFewer m orders given x.bits e) same found.kept_or_fewer;
  }

  -- and the file's synthesis, over bits and with a budget as they are said
  pub report_is_synthesis : IsSynthesis options x.file report
  unfolding report_is_sound
  report_is_synthesis = record { sound = report_is_sound; bits = is.bits; budget = refl }

-- an operation of a denoted scenario is below the number of operations
pub operation_below : (count : ℕ) (xs : List Stated) (scs : List Scenario) (s v : ℕ) → AreDenoted count xs scs → IsSomeAnd (slice_get scs s) (λ sc. v < sc.count) → v < count
operation_below count [] [] s v h l = absurd l
operation_below count [] (c ∷ scs) s v h l = absurd h
operation_below count (x ∷ xs) [] s v h l = absurd h
operation_below count (x ∷ xs) (c ∷ scs) zero v h l = omega (arith, l, sized count x c h.0)
operation_below count (x ∷ xs) (c ∷ scs) (suc s) v h l = operation_below count xs scs s v h.1 l
