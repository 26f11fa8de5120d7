-- The equations of a module assign each inner wire and each output once, and read what is known before them.
use Rattle.std.proofs.Common.{◌≡◌, ℕ, zero, suc, ◌+◌, ◌-◌, ◌<◌, ◌≤◌, true, false, List, [], ◌∷◌, ◌++◌, length, map, take, get_or, slice_index_or, refl, sym, ap, ap₂, ◌∙◌, append_assoc, length-append, take_all, take-add, subst, inl, inr, arith, Option, None, Some, IsSome}
use Rattle.std.specs.List.{AllByRecursion, Contains}
use Rattle.std.specs.FinSet as set
use Rattle.std.proofs.lemmas.Bool.{cases_lt, cases_eq}
use Rattle.std.proofs.lemmas.List.{map-append, length-map, get_or_append_left, get_or-append_right, get_or_push}
use Rattle.std.proofs.lemmas.List.Elements.{All-from_recursion, Contains-append_left, Contains-append_right, Contains-append_cases}
use Rattle.cpog_defs.specs.declared.types.Ref.{Ref}
use Rattle.cpog_defs.specs.Codes.{bit}
use Rattle.cpog_defs.specs.Orders.{each_below}
use Rattle.cpog_defs.specs.Gates.{IsRefOver, signal_count}
use Rattle.gate_core.proofs.GateLemmas.{gate_reads}
use Rattle.handshake_eqs.specs.Netlists.{Netlist, condition_of, wire_of, waits_of, IsWireOver}
use Rattle.netlist_verilog.specs.Module.{ModuleValue, IsModule}
use Rattle.netlist_verilog.specs.Wires.{Wire, Signal, Go, Acknowledge, Request, Done, Idle, Condition, ArcCondition}
use Rattle.netlist_verilog.specs.Formulas.{Read, Not, ReadsOnly, Equation}
use Rattle.netlist_verilog.specs.Equations.{table_formula, reads_both, gate_at, gate_equation, gate_equations, ref_formula, condition_equation, arc_equation, arc_equations_from, through_formula, arc_formula, request_equation, equations}
use Rattle.netlist_verilog.specs.Rows.{signals_from, for_each, input_wires, output_wires, arc_wire, arc_wires_from, arc_wires, inner_wires}
use Rattle.netlist_verilog.specs.Laws.{known_at, SpeaksOf, HasOneDriverEach}
use Rattle.netlist_verilog.proofs.ValueLemmas.{parts_joined, parts_below, condition_part, arc_part, request_part, end_part}
use Rattle.netlist_verilog.proofs.FormulaLemmas.{function_reads, ref_reads, each_reads, reads_more, comment_names, names_more}
use Rattle.netlist_verilog.proofs.OnceLemmas.{declared_once}

-- ---- what is assigned

abbrev assigned_by : List Equation → List Wire
assigned_by es = map (λ (e : Equation). e.wire) es

below_assigned : (f : ℕ → List Equation) (g : ℕ → List Wire) (n : ℕ) → ((k : ℕ) → assigned_by (f k) ≡ g k) → assigned_by (each_below f n) ≡ each_below g n
below_assigned f g zero h = refl
below_assigned f g (suc n) h = map-append (λ (e : Equation). e.wire) (each_below f n) (f n) ∙ ap₂ (λ (a b : List Wire). a ++ b) (below_assigned f g n h) (h n)

arc_assigned : (u v : ℕ) (w : Option Ref) → assigned_by (arc_equation u v w) ≡ arc_wire u v w
arc_assigned u v None = refl
arc_assigned u v (Some r) = refl

-- the equations of the inner wires
abbrev inner_part : Netlist → List Equation
inner_part n = gate_equations n.gates ++ (condition_part n ++ arc_part n)

inner_assigned : (n : Netlist) → assigned_by (inner_part n) ≡ inner_wires n
inner_assigned n =
    let wire : Equation → Wire = λ e. e.wire in
    let count : ℕ = length n.conditions in
    map-append wire (gate_equations n.gates) (condition_part n ++ arc_part n)
    ∙ ap₂ (λ (a b : List Wire). a ++ b) (below_assigned _ (λ g. Signal (n.gates.inputs + g) ∷ []) (length n.gates.gates) (λ g. refl))
    (map-append wire (condition_part n) (arc_part n)
    ∙ ap₂ (λ (a b : List Wire). a ++ b) (below_assigned _ (λ v. Condition v ∷ []) count (λ v. refl))
    (below_assigned _ (λ u. arc_wires_from n u count) count (λ u. below_assigned _ (λ v. arc_wire u v (wire_of n u v)) count (λ v. arc_assigned u v (wire_of n u v)))))

outputs_assigned : (n : Netlist) → assigned_by (request_part n ++ end_part n) ≡ output_wires n
outputs_assigned n =
    map-append (λ (e : Equation). e.wire) (request_part n) (end_part n)
    ∙ ap (λ (ws : List Wire). ws ++ (Done ∷ Idle ∷ [])) (below_assigned _ (λ v. Request v ∷ []) (length n.conditions) (λ v. refl))

parts_regrouped : (n : Netlist) → inner_part n ++ (request_part n ++ end_part n) ≡ equations n
parts_regrouped n =
    append_assoc (gate_equations n.gates) (condition_part n ++ arc_part n) (request_part n ++ end_part n)
    ∙ ap (λ (es : List Equation). gate_equations n.gates ++ es) (append_assoc (condition_part n) (arc_part n) (request_part n ++ end_part n))

all_assigned : (n : Netlist) → assigned_by (equations n) ≡ inner_wires n ++ output_wires n
all_assigned n =
    ap assigned_by (sym (parts_regrouped n))
    ∙ map-append (λ (e : Equation). e.wire) (inner_part n) (request_part n ++ end_part n)
    ∙ ap₂ (λ (a b : List Wire). a ++ b) (inner_assigned n) (outputs_assigned n)

-- ---- elements of lists that are put together

in_each_below : {X : Type 0} (f : ℕ → List X) (n k : ℕ) (x : X) → k < n → Contains (f k) x → Contains (each_below f n) x
in_each_below f zero k x lt h = absurd (omega arith)
in_each_below f (suc n) k x lt h = elim (cases_eq k n) [
  | inl same ↦ Contains-append_right (each_below f n) (f n) x (subst (λ i. Contains (f i) x) same h)
  | inr other ↦ Contains-append_left (each_below f n) (f n) x (in_each_below f n k x (omega arith) h)
]

in_for_each : (wire : ℕ → Wire) (n k : ℕ) → k < n → Contains (for_each wire n) (wire k)
in_for_each wire n k lt = in_each_below (λ v. wire v ∷ []) n k (wire k) lt (zero, omega arith, refl)

length_ones : {X : Type 0} (d : ℕ → X) (n : ℕ) → length (each_below (λ k. d k ∷ []) n) ≡ n
length_ones d zero = refl
length_ones d (suc n) = omega (arith, length-append (each_below (λ k. d k ∷ []) n) (d n ∷ []), length_ones d n)

-- the element of each number stands at its place
at_ones : {X : Type 0} (d : ℕ → X) (n k : ℕ) (x : X) → k < n → get_or (each_below (λ i. d i ∷ []) n) k x ≡ d k
at_ones d zero k x lt = absurd (omega arith)
at_ones d (suc n) k x lt = elim (cases_eq k n) [
  | inl same ↦ get_or_push (each_below (λ i. d i ∷ []) n) (d n) x k (length_ones d n ∙ sym same) ∙ ap d (sym same)
  | inr other ↦ (let l : k < n = omega arith in get_or_append_left (each_below (λ i. d i ∷ []) n) (d n ∷ []) x k (omega (arith, l, length_ones d n)) ∙ at_ones d n k x l)
]

-- an element at a place before the i-th
in_take : {X : Type 0} (xs : List X) (i k : ℕ) (x : X) → k < i → k < length xs → get_or xs k x ≡ x → Contains (take i xs) x
in_take xs zero k x lt l e = absurd (omega arith)
in_take [] (suc i) k x lt l e = absurd (omega arith)
in_take (y ∷ xs) (suc i) zero x lt l e = (zero, omega arith, e)
in_take (y ∷ xs) (suc i) (suc k) x lt l e = let r = in_take xs i k x (omega arith) (omega arith) e in (suc r.0, omega (arith, r.1), r.2)

-- ---- what is known

input_known : (n : Netlist) (i : ℕ) (w : Wire) → Contains (input_wires n) w → Contains (known_at n i) w
input_known n i w h = Contains-append_left (input_wires n) (take i (inner_wires n)) w h

go_known : (n : Netlist) (i : ℕ) → Contains (known_at n i) Go
go_known n i = input_known n i Go (Contains-append_right (signals_from 0 n.gates.inputs) (Go ∷ for_each Acknowledge (length n.conditions)) Go (zero, omega arith, refl))

acknowledge_known : (n : Netlist) (i v : ℕ) → v < length n.conditions → Contains (known_at n i) (Acknowledge v)
acknowledge_known n i v lt =
    let acknowledges : List Wire = for_each Acknowledge (length n.conditions) in
    input_known n i (Acknowledge v) (Contains-append_right (signals_from 0 n.gates.inputs) (Go ∷ acknowledges) (Acknowledge v)
    (Contains-append_right (Go ∷ []) acknowledges (Acknowledge v) (in_for_each Acknowledge (length n.conditions) v lt)))

-- behind g gates the inputs and these gates are known
signal_known : (n : Netlist) (g k : ℕ) → g ≤ length n.gates.gates → k < n.gates.inputs + g → Contains (known_at n g) (Signal k)
signal_known n g k le lt = elim (cases_lt k n.gates.inputs) [
  | inl l ↦ input_known n g (Signal k) (Contains-append_left (signals_from 0 n.gates.inputs) (Go ∷ for_each Acknowledge (length n.conditions)) (Signal k)
      (let e : 0 + k ≡ k = omega arith in subst (λ j. Contains (signals_from 0 n.gates.inputs) (Signal j)) e (in_for_each (λ j. Signal (0 + j)) n.gates.inputs k l)))
  | inr from ↦ (
      let inputs : ℕ = n.gates.inputs in
      let gates : ℕ = length n.gates.gates in
      let place : ℕ = k - inputs in
      let below : place < gates = omega arith in
      let long : place < length (signals_from inputs gates) = omega (arith, below, length_ones (λ j. Signal (inputs + j)) gates) in
      let is : inputs + place ≡ k = omega arith in
      let rest : List Wire = for_each Condition (length n.conditions) ++ arc_wires n in
      Contains-append_right (input_wires n) (take g (inner_wires n)) (Signal k)
      (in_take (inner_wires n) g place (Signal k) (omega arith) (omega (arith, long, length-append (signals_from inputs gates) rest))
      (get_or_append_left (signals_from inputs gates) rest (Signal k) place long ∙ at_ones (λ j. Signal (inputs + j)) gates place (Signal k) below ∙ ap Signal is)))
]

-- what is known stays known
known_longer : (n : Netlist) (i j : ℕ) (w : Wire) → i ≤ j → Contains (known_at n i) w → Contains (known_at n j) w
known_longer n i j w le h = elim (Contains-append_cases (input_wires n) (take i (inner_wires n)) w h) [
  | inl a ↦ input_known n j w a
  | inr b ↦ (
      let e : i + (j - i) ≡ j = omega arith in
      subst (λ k. Contains (known_at n k) w) e (Contains-append_right (input_wires n) (take (i + (j - i)) (inner_wires n)) w
      (rw (take-add i (j - i) (inner_wires n)) (Contains-append_left (take i (inner_wires n)) _ w b))))
]

-- behind the equations of all inner wires these are known
inner_known : (n : Netlist) (w : Wire) → Contains (inner_wires n) w → Contains (known_at n (length (inner_wires n))) w
inner_known n w h =
    Contains-append_right (input_wires n) (take (length (inner_wires n)) (inner_wires n)) w
    (subst (λ ws. Contains ws w) (sym (take_all (length (inner_wires n)) (inner_wires n) (omega arith))) h)

condition_known : (n : Netlist) (v : ℕ) → v < length n.conditions → Contains (known_at n (length (inner_wires n))) (Condition v)
condition_known n v lt =
    inner_known n (Condition v) (Contains-append_right (signals_from n.gates.inputs (length n.gates.gates)) (for_each Condition (length n.conditions) ++ arc_wires n) (Condition v)
    (Contains-append_left (for_each Condition (length n.conditions)) (arc_wires n) (Condition v) (in_for_each Condition (length n.conditions) v lt)))

in_arc_wire : (u v : ℕ) (w : Option Ref) → IsSome w → Contains (arc_wire u v w) (ArcCondition u v)
in_arc_wire u v None some = let t : false ≡ true = some in absurd cc
in_arc_wire u v (Some r) some = (zero, omega arith, refl)

arc_known : (n : Netlist) (u v : ℕ) → u < length n.conditions → v < length n.conditions → IsSome (wire_of n u v) → Contains (known_at n (length (inner_wires n))) (ArcCondition u v)
arc_known n u v lu lv some =
    let count : ℕ = length n.conditions in
    inner_known n (ArcCondition u v) (Contains-append_right (signals_from n.gates.inputs (length n.gates.gates)) (for_each Condition count ++ arc_wires n) (ArcCondition u v)
    (Contains-append_right (for_each Condition count) (arc_wires n) (ArcCondition u v)
    (in_each_below (λ a. arc_wires_from n a count) count u (ArcCondition u v) lu
    (in_each_below (λ b. arc_wire u b (wire_of n u b)) count v (ArcCondition u v) lv
    (in_arc_wire u v (wire_of n u v) some)))))

-- ---- what equations speak of

speaks_later : (n : Netlist) (i j : ℕ) (e : Equation) → i ≤ j → SpeaksOf (known_at n i) e → SpeaksOf (known_at n j) e
speaks_later n i j e le h = record {
  read = reads_more (Contains (known_at n i)) (Contains (known_at n j)) (λ w. known_longer n i j w le) e.formula h.read;
  named = names_more (Contains (known_at n i)) (Contains (known_at n j)) (λ w. known_longer n i j w le) e.comment h.named;
}

-- each equation of the list, behind so many others, speaks of what is known there
abbrev SpeakBehind : Netlist → ℕ → List Equation → Type 0
SpeakBehind n before es = (i : ℕ) (d : Equation) → i < length es → SpeaksOf (known_at n (before + i)) (slice_index_or es i d)

speak_joined : (n : Netlist) (before : ℕ) (xs ys : List Equation) → SpeakBehind n before xs → SpeakBehind n (before + length xs) ys → SpeakBehind n before (xs ++ ys)
speak_joined n before xs ys hx hy i d lt = elim (cases_lt i (length xs)) [
  | inl l ↦ rw (get_or_append_left xs ys d i l) (hx i d l)
  | inr from ↦ (
      let e : (before + length xs) + (i - length xs) ≡ before + i = omega arith in
      rw (get_or-append_right xs ys (length xs) i d refl from)
      (subst (λ k. SpeaksOf (known_at n k) (get_or ys (i - length xs) d)) e
      (hy (i - length xs) d (omega (arith, lt, from, length-append xs ys)))))
]

-- equations that speak of what is known earlier
speak_all : (n : Netlist) (known before : ℕ) (es : List Equation) → known ≤ before → AllByRecursion (SpeaksOf (known_at n known)) es → SpeakBehind n before es
speak_all n known before es le h i d lt = speaks_later n known (before + i) (get_or es i d) (omega arith) (All-from_recursion (SpeaksOf (known_at n known)) es h i d lt)

-- ---- the equations of each kind

gates_speak : (m : ModuleValue) → IsModule m → SpeakBehind m.netlist 0 (gate_equations m.netlist.gates)
gates_speak m is i d lt =
    let n : Netlist = m.netlist in
    let inputs : ℕ = n.gates.inputs in
    let gates : ℕ = length n.gates.gates in
    let equation : ℕ → Equation = λ g. gate_equation inputs g (gate_at n.gates g) in
    let below : i < gates = omega (arith, lt, length_ones equation gates) in
    let gate = gate_at n.gates i in
    let reads = gate_reads inputs n.gates.gates i (record { j = 0; k = 0; table = 0 }) is.gates below in
    let p : Contains (known_at n i) (Signal gate.j) = signal_known n i gate.j (omega arith) (omega (arith, reads.0, reads.1)) in
    let q : Contains (known_at n i) (Signal gate.k) = signal_known n i gate.k (omega arith) (omega (arith, reads.1)) in
    let speaks : SpeaksOf (known_at n i) (equation i) = record {
      read = function_reads (Contains (known_at n i)) (bit gate.table 0) (bit gate.table 1) (bit gate.table 2) (bit gate.table 3) (Signal gate.j) (Signal gate.k) p q;
      named = comment_names (Contains (known_at n i)) (reads_both (table_formula gate.table (Signal gate.j) (Signal gate.k))) (Signal gate.j) (Signal gate.k) p q;
    } in
    let e : i ≡ 0 + i = omega arith in
    subst (λ k. SpeaksOf (known_at n k) (slice_index_or (gate_equations n.gates) i d)) e (rw (at_ones equation gates i d below) speaks)

-- behind all gates
abbrev SpeakOfSignals : Netlist → List Equation → Type 0
SpeakOfSignals n es = AllByRecursion (SpeaksOf (known_at n (length n.gates.gates))) es

reads_signals : (n : Netlist) (r : Ref) → IsRefOver (signal_count n.gates) r → ReadsOnly (Contains (known_at n (length n.gates.gates))) (ref_formula r)
reads_signals n r over = ref_reads (Contains (known_at n (length n.gates.gates))) (signal_count n.gates) (λ k lt. signal_known n (length n.gates.gates) k (omega arith) lt) r over

conditions_speak : (m : ModuleValue) → IsModule m → SpeakOfSignals m.netlist (condition_part m.netlist)
conditions_speak m is =
    let n : Netlist = m.netlist in
    parts_below (SpeaksOf (known_at n (length n.gates.gates))) (λ v. condition_equation v (condition_of n v) ∷ [])
    (length n.conditions) (λ v lt. (
      record {
        read = reads_signals n (condition_of n v)
            (is.netlist.conditions_over v);
        named = tt;
      },
      tt,
    ))

arc_speaks : (n : Netlist) (u v : ℕ) (w : Option Ref) → IsWireOver (signal_count n.gates) w → SpeakOfSignals n (arc_equation u v w)
arc_speaks n u v None over = tt
arc_speaks n u v (Some r) over = (record { read = reads_signals n r over; named = tt }, tt)

arcs_speak : (m : ModuleValue) → IsModule m → SpeakOfSignals m.netlist (arc_part m.netlist)
arcs_speak m is =
    let n : Netlist = m.netlist in
    let count : ℕ = length n.conditions in
    let P : Equation → Type 0 = SpeaksOf (known_at n (length n.gates.gates)) in
    parts_below P (λ u. arc_equations_from n u count) count (λ u lu. parts_below P (λ v. arc_equation u v (wire_of n u v)) count (λ v lv. arc_speaks n u v (wire_of n u v) (is.netlist.wires_over u v)))

-- behind all inner wires
outputs_speak : (m : ModuleValue) → IsModule m → AllByRecursion (SpeaksOf (known_at m.netlist (length (inner_wires m.netlist)))) (request_part m.netlist ++ end_part m.netlist)
outputs_speak m is =
    let n : Netlist = m.netlist in
    let count : ℕ = length n.conditions in
    let all : ℕ = length (inner_wires n) in
    let P : Wire → Type 0 = Contains (known_at n all) in
    let through : (v : ℕ) → v < count → ReadsOnly P (through_formula v) = λ v lt. (acknowledge_known n all v lt, condition_known n v lt) in
    parts_joined (SpeaksOf (known_at n all)) (request_part n) (end_part n)
    (parts_below (SpeaksOf (known_at n all)) (λ v. request_equation n v ∷ []) count (λ v lv. (
      record {
        read =
            each_reads P _ (set.contains (waits_of n v)) (arc_formula v) count
            (go_known n all, condition_known n v lv)
            (λ u lu waits. (through u lu, arc_known n u v lu lv (is.netlist.declared u v waits)));
        named = tt;
      },
      tt,
    ))) (
      record { read = each_reads P _ (λ _. true) through_formula count (go_known n all) (λ v lt passes. through v lt); named = tt },
      (record { read = each_reads P _ (λ _. true) (λ v. Not (Read (Acknowledge v))) count (go_known n all) (λ v lt passes. acknowledge_known n all v lt); named = tt }, tt),
    )

equations_speak : (m : ModuleValue) → IsModule m → SpeakBehind m.netlist 0 (equations m.netlist)
equations_speak m is =
    let n : Netlist = m.netlist in
    let gates : ℕ = length n.gates.gates in
    let so_many : length (gate_equations n.gates) ≡ gates = length_ones (λ g. gate_equation n.gates.inputs g (gate_at n.gates g)) gates in
    let inner : length (inner_part n) ≡ length (inner_wires n) = sym (length-map (inner_part n) (λ (e : Equation). e.wire)) ∙ ap length (inner_assigned n) in
    let later : SpeakBehind n (0 + length (gate_equations n.gates)) (condition_part n ++ arc_part n) =
    speak_all n gates _ (condition_part n ++ arc_part n) (omega (arith, so_many))
    (parts_joined (SpeaksOf (known_at n gates)) (condition_part n) (arc_part n) (conditions_speak m is)
    (arcs_speak m is)) in
    subst (SpeakBehind n 0) (parts_regrouped n)
    (speak_joined n 0 (inner_part n) (request_part n ++ end_part n) (speak_joined n 0 (gate_equations n.gates) (condition_part n ++ arc_part n) (gates_speak m is) later)
    (speak_all n (length (inner_wires n)) _ (request_part n ++ end_part n) (omega (arith, inner)) (outputs_speak m is)))

pub one_driver : (m : ModuleValue) → IsModule m → HasOneDriverEach m
one_driver m is = record {
  declared_once = declared_once m.netlist;
  assigned = all_assigned m.netlist;
  reads_known = λ i d lt. let e : 0 + i ≡ i = omega arith in subst (λ k. SpeaksOf (known_at m.netlist k) (slice_index_or (equations m.netlist) i d)) e (equations_speak m is i d lt);
}
