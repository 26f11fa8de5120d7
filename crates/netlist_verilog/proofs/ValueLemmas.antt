-- The values of a module's equations are those of its netlist.
use Rattle.std.proofs.Common.{◌≡◌, ℕ, zero, suc, ◌+◌, ◌-◌, ◌<◌, ◌≤◌, Bool, true, false, cond, ◌&&◌, ◌||◌, not, List, [], ◌∷◌, ◌++◌, length, slice_index_or, refl, sym, ap, ap₂, ◌∙◌, arith, subst, inl, inr, Option, None, Some, IsSome}
use Rattle.std.specs.List.{AllByRecursion}
use Rattle.std.specs.FinSet as set
use Rattle.std.proofs.lemmas.Bool.{cases_lt}
use Rattle.cpog_defs.specs.declared.types.Ref.{Ref}
use Rattle.cpog_defs.specs.declared.types.Ref.TheVariants as references
use Rattle.cpog_defs.specs.Codes.{bit, word_bits}
use Rattle.cpog_defs.specs.Orders.{each_below, any_below, all_below}
use Rattle.cpog_defs.specs.Gates.{IsGateList, IsRefOver, signal_count, signal_values, gate_value, ref_value}
use Rattle.gate_core.proofs.GateLemmas.{gate_at, gate_reads, input-signal, length-word_bits}
use Rattle.handshake_eqs.specs.declared.wires.Inputs.{Inputs}
use Rattle.handshake_eqs.specs.Netlists.{Netlist, condition_of, wire_of, waits_of, IsNetlist, IsWireOver}
use Rattle.handshake_eqs.specs.Agreement.{condition_value, wire_value, arc_satisfied, request, done, idle}
use Rattle.netlist_verilog.specs.Module.{ModuleValue, IsModule}
use Rattle.netlist_verilog.specs.Wires.{Wire, Signal, Go, Acknowledge, Request, Done, Idle, Condition, ArcCondition}
use Rattle.netlist_verilog.specs.Formulas.{Formula, Read, Not, And, value, Equation}
use Rattle.netlist_verilog.specs.Equations as equation
use Rattle.netlist_verilog.specs.Equations.{gate_formula, table_formula, gate_equation, gate_equations, ref_formula, condition_equation, arc_equation, arc_equations_from, and_each, through_formula, arc_formula, request_formula, done_formula, idle_formula, request_equation, done_equation, idle_equation, equations}
use Rattle.netlist_verilog.specs.Laws.{IsSettled, HasOutputs}

-- ---- each of a list's parts

pub first_part : {X : Type 0} (P : X → Type 0) (xs ys : List X) → AllByRecursion P (xs ++ ys) → AllByRecursion P xs
first_part P [] ys h = tt
first_part P (x ∷ xs) ys h = (h.0, first_part P xs ys h.1)

pub second_part : {X : Type 0} (P : X → Type 0) (xs ys : List X) → AllByRecursion P (xs ++ ys) → AllByRecursion P ys
second_part P [] ys h = h
second_part P (x ∷ xs) ys h = second_part P xs ys h.1

pub part_below : {X : Type 0} (P : X → Type 0) (f : ℕ → List X) (n k : ℕ) → k < n → AllByRecursion P (each_below f n) → AllByRecursion P (f k)
part_below P f zero k lt h = absurd (omega arith)
part_below {X} P f (suc n) k lt h = elim (cases_lt k n) [
  | inl l ↦ part_below P f n k l (first_part P (each_below f n) (f n) h)
  | inr g ↦ (let e : n ≡ k = omega arith in subst (λ i. AllByRecursion P (f i)) e (second_part P (each_below f n) (f n) h))
]

pub parts_joined : {X : Type 0} (P : X → Type 0) (xs ys : List X) → AllByRecursion P xs → AllByRecursion P ys → AllByRecursion P (xs ++ ys)
parts_joined P [] ys hx hy = hy
parts_joined P (x ∷ xs) ys hx hy = (hx.0, parts_joined P xs ys hx.1 hy)

pub parts_below : {X : Type 0} (P : X → Type 0) (f : ℕ → List X) (n : ℕ) → ((k : ℕ) → k < n → AllByRecursion P (f k)) → AllByRecursion P (each_below f n)
parts_below P f zero h = tt
parts_below P f (suc n) h = parts_joined P (each_below f n) (f n) (parts_below P f n (λ k lt. h k (omega arith))) (h n (omega arith))

-- ---- gates

both : (f g : Bool → Bool → Bool) → f true true ≡ g true true → f true false ≡ g true false → f false true ≡ g false true → f false false ≡ g false false → (x y : Bool) → f x y ≡ g x y
both f g tt' tf ft ff true true = tt'
both f g tt' tf ft ff true false = tf
both f g tt' tf ft ff false true = ft
both f g tt' tf ft ff false false = ff

-- the value of a gate's formula, by its four values
function_value : (b0 b1 b2 b3 : Bool) (at : Wire → Bool) (p q : Wire) → value at (gate_formula b0 b1 b2 b3 p q) ≡ cond (at p) (cond (at q) b3 b2) (cond (at q) b1 b0)
function_value false false false false at p q = both (λ x y. false) (λ x y. cond x (cond y false false) (cond y false false)) refl refl refl refl (at p) (at q)
function_value false false false true at p q = both (λ x y. x && y) (λ x y. cond x (cond y true false) (cond y false false)) refl refl refl refl (at p) (at q)
function_value false false true false at p q = both (λ x y. x && not y) (λ x y. cond x (cond y false true) (cond y false false)) refl refl refl refl (at p) (at q)
function_value false false true true at p q = both (λ x y. x) (λ x y. cond x (cond y true true) (cond y false false)) refl refl refl refl (at p) (at q)
function_value false true false false at p q = both (λ x y. not x && y) (λ x y. cond x (cond y false false) (cond y true false)) refl refl refl refl (at p) (at q)
function_value false true false true at p q = both (λ x y. y) (λ x y. cond x (cond y true false) (cond y true false)) refl refl refl refl (at p) (at q)
function_value false true true false at p q = both (λ x y. cond x (not y) y) (λ x y. cond x (cond y false true) (cond y true false)) refl refl refl refl (at p) (at q)
function_value false true true true at p q = both (λ x y. x || y) (λ x y. cond x (cond y true true) (cond y true false)) refl refl refl refl (at p) (at q)
function_value true false false false at p q = both (λ x y. not x && not y) (λ x y. cond x (cond y false false) (cond y false true)) refl refl refl refl (at p) (at q)
function_value true false false true at p q = both (λ x y. cond x (not (not y)) (not y)) (λ x y. cond x (cond y true false) (cond y false true)) refl refl refl refl (at p) (at q)
function_value true false true false at p q = both (λ x y. not y) (λ x y. cond x (cond y false true) (cond y false true)) refl refl refl refl (at p) (at q)
function_value true false true true at p q = both (λ x y. x || not y) (λ x y. cond x (cond y true true) (cond y false true)) refl refl refl refl (at p) (at q)
function_value true true false false at p q = both (λ x y. not x) (λ x y. cond x (cond y false false) (cond y true true)) refl refl refl refl (at p) (at q)
function_value true true false true at p q = both (λ x y. not x || y) (λ x y. cond x (cond y true false) (cond y true true)) refl refl refl refl (at p) (at q)
function_value true true true false at p q = both (λ x y. not x || not y) (λ x y. cond x (cond y false true) (cond y true true)) refl refl refl refl (at p) (at q)
function_value true true true true at p q = both (λ x y. true) (λ x y. cond x (cond y true true) (cond y true true)) refl refl refl refl (at p) (at q)

table_value : (table : ℕ) (x y : Bool) → cond x (cond y (bit table 3) (bit table 2)) (cond y (bit table 1) (bit table 0)) ≡ gate_value table x y
table_value table true true = refl
table_value table true false = refl
table_value table false true = refl
table_value table false false = refl

pub formula_is_table : (at : Wire → Bool) (table : ℕ) (p q : Wire) → value at (table_formula table p q) ≡ gate_value table (at p) (at q)
formula_is_table at table p q = function_value (bit table 0) (bit table 1) (bit table 2) (bit table 3) at p q ∙ table_value table (at p) (at q)

-- an equation that holds
abbrev pub Holds : (Wire → Bool) → Equation → Type 0
Holds at e = at e.wire ≡ value at e.formula

abbrev signal : Netlist → Inputs → ℕ → Bool
signal n i k = slice_index_or (signal_values n.gates i.x) k false

-- a gate's signal is its table at its two signals
signal_of_gate : (n : Netlist) (i : Inputs) (g : ℕ) → IsGateList n.gates → g < length n.gates.gates
    → signal n i (n.gates.inputs + g) ≡ gate_value (equation.gate_at n.gates g).table (signal n i (equation.gate_at n.gates g).j) (signal n i (equation.gate_at n.gates g).k)
signal_of_gate n i g ok lt =
    let values = word_bits i.x n.gates.inputs in
    let same : length values ≡ n.gates.inputs = length-word_bits i.x n.gates.inputs in
    ap (λ k. signal n i (k + g)) (sym same) ∙ gate_at n.gates.gates values g (record { j = 0; k = 0; table = 0 }) (rw same ok) lt

-- where the equations hold, each signal's wire has the signal's value
signals_settled : (n : Netlist) (i : Inputs) (at : Wire → Bool) → IsGateList n.gates → IsSettled n i at → (b k : ℕ) → k < b → k < signal_count n.gates → at (Signal k) ≡ signal n i k
signals_settled n i at ok s zero k lt fits = absurd (omega arith)
signals_settled n i at ok s (suc b) k lt fits = elim (cases_lt k b) [
  | inl l ↦ signals_settled n i at ok s b k l fits
  | inr g ↦ elim (cases_lt k n.gates.inputs) [
    | inl l ↦ s.x k l ∙ sym (input-signal n.gates i.x k l)
    | inr h ↦ (
        let e : n.gates.inputs + (k - n.gates.inputs) ≡ k = omega arith in
        subst (λ m. at (Signal m) ≡ signal n i m) e (at_gate (λ m lm. signals_settled n i at ok s b m lm) (k - n.gates.inputs) (omega arith) (omega arith)))
  ]
]
  where
    at_gate : ((m : ℕ) → m < b → m < signal_count n.gates → at (Signal m) ≡ signal n i m) → (g : ℕ) →
        g < length n.gates.gates → n.gates.inputs + g ≤ b →
        at (Signal (n.gates.inputs + g)) ≡ signal n i (n.gates.inputs + g)
    at_gate before g lt' le =
        let gate = equation.gate_at n.gates g in
        let reads = gate_reads n.gates.inputs n.gates.gates g (record { j = 0; k = 0; table = 0 }) ok lt' in
        let holds =
        (part_below (Holds at) (λ m. gate_equation n.gates.inputs m (equation.gate_at n.gates m) ∷ [])
        (length n.gates.gates) g lt' (first_part (Holds at) (gate_equations n.gates) _ s.equations_hold)).0 in
        let p : at (Signal gate.j) ≡ signal n i gate.j = before gate.j (omega (arith, reads.0, reads.1, le)) (omega (arith, reads.0, reads.1, lt')) in
        let q : at (Signal gate.k) ≡ signal n i gate.k = before gate.k (omega (arith, reads.1, le)) (omega (arith, reads.1, lt')) in
        holds ∙ formula_is_table at gate.table (Signal gate.j) (Signal gate.k) ∙ ap₂ (gate_value gate.table) p q ∙ sym (signal_of_gate n i g ok lt')

-- ---- conditions

-- a reference has the value of its signal
ref_settled : (n : Netlist) (i : Inputs) (at : Wire → Bool) →
    ((k : ℕ) → k < signal_count n.gates → at (Signal k) ≡ signal n i k) → (r : Ref) →
    IsRefOver (signal_count n.gates) r → value at (ref_formula r) ≡ ref_value (signal_values n.gates i.x) r
ref_settled n i at h (references.Const b) over = refl
ref_settled n i at h (references.Signal k false) over = h k over
ref_settled n i at h (references.Signal k true) over = ap not (h k over)

-- the wires that the outputs are made of have their values
pub record AreKnown (n : Netlist) (i : Inputs) (at : Wire → Bool) : Type 0 where
  pub go : at Go ≡ i.go
  pub acknowledges : (v : ℕ) → v < length n.conditions → at (Acknowledge v) ≡ set.contains i.acks v
  pub conditions : (v : ℕ) → v < length n.conditions → at (Condition v) ≡ condition_value n (signal_values n.gates i.x) v
  pub arcs : (u v : ℕ) → u < length n.conditions → v < length n.conditions → IsSome (wire_of n u v) → at (ArcCondition u v) ≡ wire_value (signal_values n.gates i.x) (wire_of n u v)

arc_settled : (n : Netlist) (i : Inputs) (at : Wire → Bool) →
    ((k : ℕ) → k < signal_count n.gates → at (Signal k) ≡ signal n i k) → (u v : ℕ) (w : Option Ref) →
    IsWireOver (signal_count n.gates) w → IsSome w → AllByRecursion (Holds at) (arc_equation u v w)
    → at (ArcCondition u v) ≡ wire_value (signal_values n.gates i.x) w
arc_settled n i at h u v None over some holds = let t : false ≡ true = some in absurd cc
arc_settled n i at h u v (Some r) over some holds = holds.0 ∙ ref_settled n i at h r over

-- ---- joined formulas

joined_true : (f a e : Bool) → ((f && a) && e) ≡ (f && (e && a))
joined_true true true true = refl
joined_true true true false = refl
joined_true true false true = refl
joined_true true false false = refl
joined_true false a e = refl

alone : (f : Bool) → f ≡ (f && true)
alone true = refl
alone false = refl

each_value : (at : Wire → Bool) (first : Formula) (passes : ℕ → Bool) (each : ℕ → Formula) (n : ℕ) →
    value at (and_each first passes each n) ≡
    (value at first && all_below (λ k. not (passes k) || value at (each k)) n)
each_value at first passes each zero = alone (value at first)
each_value at first passes each (suc n) = one (passes n) (each_value at first passes each n)
  where
    one : (b : Bool) → value at (and_each first passes each n) ≡ (value at first && all_below (λ k. not (passes k) || value at (each k)) n)
        → value at (cond b (And (and_each first passes each n) (each n)) (and_each first passes each n)) ≡
        (value at first && ((not b || value at (each n)) && all_below
        (λ k. not (passes k) || value at (each k)) n))
    one true h = ap (λ x. x && value at (each n)) h ∙ joined_true (value at first) (all_below (λ k. not (passes k) || value at (each k)) n) (value at (each n))
    one false h = h

same_all : (p q : ℕ → Bool) (n : ℕ) → ((k : ℕ) → k < n → p k ≡ q k) → all_below p n ≡ all_below q n
same_all p q zero h = refl
same_all p q (suc n) h = ap₂ (λ x y. x && y) (h n (omega arith)) (same_all p q n (λ k lt. h k (omega arith)))

none_below : (p : ℕ → Bool) (n : ℕ) → all_below (λ k. not (p k)) n ≡ not (any_below p n)
none_below p zero = refl
none_below p (suc n) = ap (λ x. not (p n) && x) (none_below p n) ∙ neither (p n) (any_below p n)
  where
    neither : (x y : Bool) → (not x && not y) ≡ not (x || y)
    neither true y = refl
    neither false y = refl

or_assoc : (x y z : Bool) → ((x || y) || z) ≡ (x || (y || z))
or_assoc true y z = refl
or_assoc false y z = refl

and_assoc : (x y z : Bool) → ((x && y) && z) ≡ (x && (y && z))
and_assoc true y z = refl
and_assoc false y z = refl

-- ---- outputs

through_value : (n : Netlist) (i : Inputs) (at : Wire → Bool) → AreKnown n i at → (v : ℕ) → v < length n.conditions →
    value at (through_formula v) ≡ (set.contains i.acks v || not (condition_value n (signal_values n.gates i.x) v))
through_value n i at h v lt = ap₂ (λ x y. x || not y) (h.acknowledges v lt) (h.conditions v lt)

wait_value : (n : Netlist) (i : Inputs) (at : Wire → Bool) → IsNetlist n → AreKnown n i at → (v u : ℕ) → v < length n.conditions → u < length n.conditions
    → (not (set.contains (waits_of n v) u) || value at (arc_formula v u)) ≡ (not (set.contains (waits_of n v) u) || arc_satisfied n (signal_values n.gates i.x) i.acks v u)
wait_value n i at is h v u lv lu = chosen (set.contains (waits_of n v) u) refl
  where
    chosen : (b : Bool) → set.contains (waits_of n v) u ≡ b → (not b || value at (arc_formula v u)) ≡ (not b || arc_satisfied n (signal_values n.gates i.x) i.acks v u)
    chosen true e =
        ap₂ (λ x y. x || not y) (through_value n i at h u lu) (h.arcs u v lu lv (is.declared u v e))
        ∙ or_assoc (set.contains i.acks u) (not (condition_value n (signal_values n.gates i.x) u)) (not (wire_value (signal_values n.gates i.x) (wire_of n u v)))
    chosen false e = refl

request_value : (n : Netlist) (i : Inputs) (at : Wire → Bool) → IsNetlist n → AreKnown n i at → (v : ℕ) → v < length n.conditions → value at (request_formula n v) ≡ request n i v
request_value n i at is h v lt =
    each_value at _ (set.contains (waits_of n v)) (arc_formula v) (length n.conditions)
    ∙ ap₂ (λ x y. x && y) (ap₂ (λ x y. x && y) h.go (h.conditions v lt))
    (same_all _ (λ u. not (set.contains (waits_of n v) u) || arc_satisfied n
    (signal_values n.gates i.x) i.acks v u) (length n.conditions) (λ u lu. wait_value n i at is h v u lt lu))
    ∙ and_assoc i.go (condition_value n (signal_values n.gates i.x) v) _

done_value : (n : Netlist) (i : Inputs) (at : Wire → Bool) → AreKnown n i at → value at (done_formula (length n.conditions)) ≡ done n i
done_value n i at h =
    each_value at _ (λ _. true) through_formula (length n.conditions)
    ∙ ap₂ (λ x y. x && y) h.go (same_all _ (λ v. set.contains i.acks v || not (condition_value n (signal_values n.gates i.x) v)) (length n.conditions) (λ v lt. through_value n i at h v lt))

idle_value : (n : Netlist) (i : Inputs) (at : Wire → Bool) → AreKnown n i at → value at (idle_formula (length n.conditions)) ≡ idle n i
idle_value n i at h =
    each_value at _ (λ _. true) (λ v. Not (Read (Acknowledge v))) (length n.conditions)
    ∙ ap₂ (λ x y. not x && y) h.go (same_all _ (λ v. not (set.contains i.acks v)) (length n.conditions) (λ v lt. ap not (h.acknowledges v lt)) ∙ none_below (set.contains i.acks) (length n.conditions))

-- ---- both laws

abbrev pub condition_part : Netlist → List Equation
condition_part n = each_below (λ v. condition_equation v (condition_of n v) ∷ []) (length n.conditions)

abbrev pub arc_part : Netlist → List Equation
arc_part n = each_below (λ u. arc_equations_from n u (length n.conditions)) (length n.conditions)

abbrev pub request_part : Netlist → List Equation
request_part n = each_below (λ v. request_equation n v ∷ []) (length n.conditions)

abbrev pub end_part : Netlist → List Equation
end_part n = done_equation (length n.conditions) ∷ idle_equation (length n.conditions) ∷ []

pub outputs_settled : (m : ModuleValue) (i : Inputs) (at : Wire → Bool) → IsModule m → IsSettled m.netlist i at → HasOutputs m.netlist i at
outputs_settled m i at is s =
    let n : Netlist = m.netlist in
    let count : ℕ = length n.conditions in
    let h : (k : ℕ) → k < signal_count n.gates → at (Signal k) ≡ signal n i k = λ k lt. signals_settled n i at is.gates s (suc k) k (omega arith) lt in
    let from2 : AllByRecursion (Holds at) (condition_part n ++ (arc_part n ++ (request_part n ++ end_part n))) = second_part (Holds at) (gate_equations n.gates) _ s.equations_hold in
    let from3 : AllByRecursion (Holds at) (arc_part n ++ (request_part n ++ end_part n)) = second_part (Holds at) (condition_part n) _ from2 in
    let from4 : AllByRecursion (Holds at) (request_part n ++ end_part n) = second_part (Holds at) (arc_part n) _ from3 in
    let from5 : AllByRecursion (Holds at) (end_part n) = second_part (Holds at) (request_part n) _ from4 in
    let known : AreKnown n i at = record {
      go = s.go;
      acknowledges = s.acknowledges;
      conditions =
          λ v lt. (part_below (Holds at) (λ w. condition_equation w (condition_of n w) ∷ []) count v lt
          (first_part (Holds at) (condition_part n) _ from2)).0
          ∙ ref_settled n i at h (condition_of n v) (is.netlist.conditions_over v);
      arcs = λ u v lu lv some. arc_settled n i at h u v (wire_of n u v) (is.netlist.wires_over u v) some
          (part_below (Holds at) (λ w. arc_equation u w (wire_of n u w)) count v lv
          (part_below (Holds at) (λ w. arc_equations_from n w count) count u lu
          (first_part (Holds at) (arc_part n) _ from3)));
    } in
    record {
      requests = λ v lt. (part_below (Holds at) (λ w. request_equation n w ∷ []) count v lt (first_part (Holds at) (request_part n) _ from4)).0 ∙ request_value n i at is.netlist known v lt;
      done = from5.0 ∙ done_value n i at known;
      idle = from5.1.0 ∙ idle_value n i at known;
    }

-- the values to which the wires settle
abbrev pub settled_at : Netlist → Inputs → Wire → Bool
settled_at n i (Signal k) = signal n i k
settled_at n i Go = i.go
settled_at n i (Acknowledge v) = set.contains i.acks v
settled_at n i (Request v) = request n i v
settled_at n i Done = done n i
settled_at n i Idle = idle n i
settled_at n i (Condition v) = condition_value n (signal_values n.gates i.x) v
settled_at n i (ArcCondition u v) = wire_value (signal_values n.gates i.x) (wire_of n u v)

settled_ref : (n : Netlist) (i : Inputs) (r : Ref) → ref_value (signal_values n.gates i.x) r ≡ value (settled_at n i) (ref_formula r)
settled_ref n i (references.Const b) = refl
settled_ref n i (references.Signal k false) = refl
settled_ref n i (references.Signal k true) = refl

settled_arc : (n : Netlist) (i : Inputs) (u v : ℕ) (w : Option Ref) → wire_of n u v ≡ w → AllByRecursion (Holds (settled_at n i)) (arc_equation u v w)
settled_arc n i u v None e = tt
settled_arc n i u v (Some r) e = (ap (wire_value (signal_values n.gates i.x)) e ∙ settled_ref n i r, tt)

pub values_settle : (m : ModuleValue) (i : Inputs) → IsModule m → IsSettled m.netlist i (settled_at m.netlist i)
values_settle m i is =
    let n : Netlist = m.netlist in
    let count : ℕ = length n.conditions in
    let at : Wire → Bool = settled_at n i in
    let known : AreKnown n i at = record { go = refl; acknowledges = λ v lt. refl; conditions = λ v lt. refl; arcs = λ u v lu lv some. refl } in
    record {
      x = λ k lt. input-signal n.gates i.x k lt;
      go = refl;
      acknowledges = λ v lt. refl;
      equations_hold =
          parts_joined (Holds at) (gate_equations n.gates) _
          (parts_below (Holds at) (λ g. gate_equation n.gates.inputs g (equation.gate_at n.gates g) ∷ [])
          (length n.gates.gates) (λ g lt. (
            signal_of_gate n i g is.gates lt
                ∙ sym (formula_is_table at (equation.gate_at n.gates g).table (Signal (equation.gate_at n.gates g).j)
                (Signal (equation.gate_at n.gates g).k)),
            tt,
          )))
          (parts_joined (Holds at) (condition_part n) _ (parts_below (Holds at) (λ v. condition_equation v (condition_of n v) ∷ []) count (λ v lt. (settled_ref n i (condition_of n v), tt)))
          (parts_joined (Holds at) (arc_part n) _ (parts_below (Holds at) (λ u. arc_equations_from n u count) count
          (λ u lu. parts_below (Holds at) (λ v. arc_equation u v (wire_of n u v)) count
          (λ v lv. settled_arc n i u v (wire_of n u v) refl)))
          (parts_joined (Holds at) (request_part n) (end_part n) (parts_below (Holds at) (λ v. request_equation n v ∷ []) count (λ v lt. (sym (request_value n i at is.netlist known v lt), tt)))
          (sym (done_value n i at known), (sym (idle_value n i at known), tt)))));
    }
