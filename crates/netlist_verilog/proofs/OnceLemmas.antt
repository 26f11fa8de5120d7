-- No wire of a module is declared twice.
use Rattle.std.proofs.Common.{◌≡◌, ◌≢◌, ℕ, zero, suc, ◌+◌, ◌-◌, ◌<◌, ◌≤◌, List, [], ◌∷◌, ◌++◌, length, refl, ap, arith, lt-ltb, le-ltb, Option, None, Some}
use Rattle.std.specs.Prelude.{nat_lt, if◌then◌else◌}
use Rattle.std.specs.List.{AllByRecursion, AllPairs}
use Rattle.std.proofs.lemmas.List.Elements.{All-from_recursion, All-append}
use Rattle.std.proofs.lemmas.List.Kept.{AllPairs-cons}
use Rattle.cpog_defs.specs.declared.types.Ref.{Ref}
use Rattle.cpog_defs.specs.Orders.{each_below}
use Rattle.handshake_eqs.specs.Netlists.{Netlist, wire_of}
use Rattle.netlist_verilog.specs.Wires.{Wire, Signal, Go, Acknowledge, Request, Done, Idle, Condition, ArcCondition}
use Rattle.netlist_verilog.specs.Rows.{signals_from, for_each, input_wires, output_wires, arc_wire, arc_wires_from, arc_wires, inner_wires}
use Rattle.netlist_verilog.proofs.ValueLemmas.{parts_joined, parts_below}

-- ---- lists in which no two elements are equal

pairs_joined : {X : Type 0} (R : X → X → Type 0) (xs ys : List X) → AllPairs R xs → AllPairs R ys → AllByRecursion (λ x. AllByRecursion (R x) ys) xs → AllPairs R (xs ++ ys)
pairs_joined R [] ys hx hy across = hy
pairs_joined R (x ∷ xs) ys hx hy across =
    AllPairs-cons R x (xs ++ ys) (All-append (R x) xs ys (λ k d lt. hx zero (suc k) d (omega arith) (omega arith)) (All-from_recursion (R x) ys across.0))
    (pairs_joined R xs ys (λ i j d l m. hx (suc i) (suc j) d (omega arith) (omega arith)) hy across.1)

weaker : {X : Type 0} (P Q : X → Type 0) → ((x : X) → P x → Q x) → (xs : List X) → AllByRecursion P xs → AllByRecursion Q xs
weaker P Q h [] a = tt
weaker P Q h (x ∷ xs) a = (h x a.0, weaker P Q h xs a.1)

-- ---- wires that are told apart by a number

abbrev Differ : List Wire → Type 0
Differ ws = AllPairs (λ w z. w ≢ z) ws

abbrev IsWithin : (Wire → ℕ) → ℕ → ℕ → Wire → Type 0
IsWithin number low high w = (low ≤ number w) × (number w < high)

-- the wires differ, and their numbers lie between these two
record Spans (number : Wire → ℕ) (low high : ℕ) (ws : List Wire) : Type 0 where
  once : Differ ws
  within : AllByRecursion (IsWithin number low high) ws

none_differ : Differ []
none_differ i j d l m = absurd (omega arith)

one_differs : (w : Wire) → Differ (w ∷ [])
one_differs w i j d l m = absurd (omega arith)

spans_joined : (number : Wire → ℕ) (low middle high : ℕ) (xs ys : List Wire) → low ≤ middle → middle ≤ high →
    Spans number low middle xs → Spans number middle high ys → Spans number low high (xs ++ ys)
spans_joined number low middle high xs ys lm mh hx hy = record {
  once = pairs_joined (λ w z. w ≢ z) xs ys hx.once hy.once
      (weaker (IsWithin number low middle) (λ x. AllByRecursion (λ y. x ≢ y) ys)
      (λ x bx. weaker (IsWithin number middle high) (λ y. x ≢ y) (λ y by e. let same : number x ≡ number y = ap number e in absurd (omega (arith, same, bx.1, by.0))) ys hy.within) xs hx.within);
  within = parts_joined (IsWithin number low high) xs ys
      (weaker (IsWithin number low middle) (IsWithin number low high) (λ x b. (b.0, omega (arith, b.1))) xs hx.within)
      (weaker (IsWithin number middle high) (IsWithin number low high) (λ y b. (omega (arith, b.0), b.1)) ys hy.within);
}

-- where the number is that of the part
parts_differ : (number : Wire → ℕ) (f : ℕ → List Wire) (n : ℕ) → ((k : ℕ) → Spans number k (suc k) (f k)) → Spans number zero n (each_below f n)
parts_differ number f zero h = record { once = none_differ; within = tt }
parts_differ number f (suc n) h = spans_joined number zero n (suc n) (each_below f n) (f n) (omega arith) (omega arith) (parts_differ number f n h) (h n)

ones_differ : (number : Wire → ℕ) (wire : ℕ → Wire) (n : ℕ) → ((k : ℕ) → number (wire k) ≡ k) → Differ (for_each wire n)
ones_differ number wire n h = (parts_differ number (λ k. wire k ∷ []) n (λ k. record { once = one_differs (wire k); within = ((omega (arith, h k), omega (arith, h k)), tt) })).once

-- ---- the numbers: of a signal, of an operation, of the second operation of an arc

abbrev number_of : Wire → ℕ
number_of (Signal n) = n
number_of Go = 0
number_of (Acknowledge v) = v
number_of (Request v) = v
number_of Done = 0
number_of Idle = 0
number_of (Condition v) = v
number_of (ArcCondition u v) = u

abbrev second_of : Wire → ℕ
second_of (Signal n) = 0
second_of Go = 0
second_of (Acknowledge v) = 0
second_of (Request v) = 0
second_of Done = 0
second_of Idle = 0
second_of (Condition v) = 0
second_of (ArcCondition u v) = v

-- the kind of a wire, in the order in which they are declared: inputs, outputs, inner wires
abbrev kind_of : ℕ → Wire → ℕ
kind_of inputs (Signal n) = if nat_lt n inputs then 0 else 6
kind_of inputs Go = 1
kind_of inputs (Acknowledge v) = 2
kind_of inputs (Request v) = 3
kind_of inputs Done = 4
kind_of inputs Idle = 5
kind_of inputs (Condition v) = 7
kind_of inputs (ArcCondition u v) = 8

signals_differ : (start count : ℕ) → Differ (signals_from start count)
signals_differ start count = ones_differ (λ w. number_of w - start) (λ k. Signal (start + k)) count (λ k. omega arith)

arc_spans : (u v : ℕ) (w : Option Ref) → Spans second_of v (suc v) (arc_wire u v w)
arc_spans u v None = record { once = none_differ; within = tt }
arc_spans u v (Some r) = record { once = one_differs (ArcCondition u v); within = ((omega arith, omega arith), tt) }

arc_within : (number : Wire → ℕ) (low high u v : ℕ) (w : Option Ref) → IsWithin number low high (ArcCondition u v) → AllByRecursion (IsWithin number low high) (arc_wire u v w)
arc_within number low high u v None h = tt
arc_within number low high u v (Some r) h = (h, tt)

arcs_within : (n : Netlist) (number : Wire → ℕ) (low high u count : ℕ) → ((v : ℕ) → IsWithin number low high (ArcCondition u v)) → AllByRecursion (IsWithin number low high) (arc_wires_from n u count)
arcs_within n number low high u count h = parts_below (IsWithin number low high) (λ v. arc_wire u v (wire_of n u v)) count (λ v lv. arc_within number low high u v (wire_of n u v) (h v))

arcs_differ : (n : Netlist) → Differ (arc_wires n)
arcs_differ n =
    let count : ℕ = length n.conditions in
    (parts_differ number_of (λ u. arc_wires_from n u count) count (λ u. record {
      once = (parts_differ second_of (λ v. arc_wire u v (wire_of n u v)) count (λ v. arc_spans u v (wire_of n u v))).once;
      within = arcs_within n number_of u (suc u) u count (λ v. (omega arith, omega arith));
    })).once

-- ---- all wires

input_kind : (inputs n : ℕ) → n < inputs → kind_of inputs (Signal n) ≡ 0
input_kind inputs n lt = rw (lt-ltb n inputs lt) refl

gate_kind : (inputs n : ℕ) → inputs ≤ n → kind_of inputs (Signal n) ≡ 6
gate_kind inputs n le = rw (le-ltb n inputs le) refl

-- wires of one kind
of_kind : (inputs kind : ℕ) (wire : ℕ → Wire) (count : ℕ) → Differ (for_each wire count) →
    ((k : ℕ) → k < count → kind_of inputs (wire k) ≡ kind) →
    Spans (kind_of inputs) kind (suc kind) (for_each wire count)
of_kind inputs kind wire count once h = record {
  once = once;
  within = parts_below (IsWithin (kind_of inputs) kind (suc kind)) (λ k. wire k ∷ []) count (λ k lt. ((omega (arith, h k lt), omega (arith, h k lt)), tt));
}

alone : (inputs : ℕ) (w : Wire) → Spans (kind_of inputs) (kind_of inputs w) (suc (kind_of inputs w)) (w ∷ [])
alone inputs w = record { once = one_differs w; within = ((omega arith, omega arith), tt) }

inputs_span : (n : Netlist) → Spans (kind_of n.gates.inputs) 0 3 (input_wires n)
inputs_span n =
    let inputs : ℕ = n.gates.inputs in
    let count : ℕ = length n.conditions in
    spans_joined (kind_of inputs) 0 1 3 (signals_from 0 inputs) (Go ∷ for_each Acknowledge count) (omega arith) (omega arith)
    (of_kind inputs 0 (λ k. Signal (0 + k)) inputs (signals_differ 0 inputs) (λ k lt. input_kind inputs (0 + k) (omega arith)))
    (spans_joined (kind_of inputs) 1 2 3 (Go ∷ []) (for_each Acknowledge count) (omega arith) (omega arith) (alone inputs Go)
    (of_kind inputs 2 Acknowledge count (ones_differ number_of Acknowledge count (λ k. refl)) (λ k lt. refl)))

outputs_span : (n : Netlist) → Spans (kind_of n.gates.inputs) 3 6 (output_wires n)
outputs_span n =
    let inputs : ℕ = n.gates.inputs in
    let count : ℕ = length n.conditions in
    spans_joined (kind_of inputs) 3 4 6 (for_each Request count) (Done ∷ Idle ∷ []) (omega arith) (omega arith)
    (of_kind inputs 3 Request count (ones_differ number_of Request count (λ k. refl)) (λ k lt. refl))
    (spans_joined (kind_of inputs) 4 5 6 (Done ∷ []) (Idle ∷ []) (omega arith) (omega arith) (alone inputs Done) (alone inputs Idle))

inner_span : (n : Netlist) → Spans (kind_of n.gates.inputs) 6 9 (inner_wires n)
inner_span n =
    let inputs : ℕ = n.gates.inputs in
    let gates : ℕ = length n.gates.gates in
    let count : ℕ = length n.conditions in
    spans_joined (kind_of inputs) 6 7 9 (signals_from inputs gates) (for_each Condition count ++ arc_wires n) (omega arith) (omega arith)
    (of_kind inputs 6 (λ k. Signal (inputs + k)) gates (signals_differ inputs gates) (λ k lt. gate_kind inputs (inputs + k) (omega arith)))
    (spans_joined (kind_of inputs) 7 8 9 (for_each Condition count) (arc_wires n) (omega arith) (omega arith)
    (of_kind inputs 7 Condition count (ones_differ number_of Condition count (λ k. refl)) (λ k lt. refl))
    (record {
      once = arcs_differ n;
      within = parts_below (IsWithin (kind_of inputs) 8 9) (λ u. arc_wires_from n u count) count (λ u lu. arcs_within n (kind_of inputs) 8 9 u count (λ v. (omega arith, omega arith)));
    }))

-- no wire is declared twice
pub declared_once : (n : Netlist) → AllPairs (λ w z. w ≢ z) (input_wires n ++ (output_wires n ++ inner_wires n))
declared_once n =
    let kind : Wire → ℕ = kind_of n.gates.inputs in
    (spans_joined kind 0 3 9 (input_wires n) (output_wires n ++ inner_wires n) (omega arith) (omega arith) (inputs_span n)
    (spans_joined kind 3 6 9 (output_wires n) (inner_wires n) (omega arith) (omega arith) (outputs_span n) (inner_span n))).once
