-- The netlist of an encoding, part by part.
use Rattle.std.proofs.Common.{◌≡◌, ℕ, zero, suc, ◌+◌, ◌<◌, ◌≤◌, Bool, true, false, ◌&&◌, ◌||◌, ◌==◌, nat_lt, List, [], ◌∷◌, map, length, Option, None, is_some, slice_index_or, refl, sym, ap, subst, ◌∙◌, inl, inr, arith}
use Rattle.std.proofs.lemmas.Bool.{cases_eq, cases_lt, lt-ltb, le-ltb}
use Rattle.std.proofs.lemmas.Bool.Decides.{nat_tests}
use Rattle.std.proofs.lemmas.List.{length-map, get_or_past}
use Rattle.std.specs.Ordering.{nat_cmp}
use Rattle.std.specs.Cmp.{nat_cmp_total, unsigned_tied}
use Rattle.std.specs.FinSet as set
use Rattle.cpog_defs.specs.declared.types.Ref.{Ref}
use Rattle.cpog_defs.specs.declared.types.Ref.TheVariants.{Const, Signal}
use Rattle.cpog_defs.specs.declared.types.Place.TheVariants.{Op, Arc}
use Rattle.cpog_defs.specs.Orders.{Set}
use Rattle.cpog_defs.specs.Gates.{GateList, IsRefOver, signal_count}
use Rattle.cpog_defs.specs.Graphs.{ConditionalGraph, op_ref, arc_ref}
use Rattle.cpog_defs.specs.Encodings.{Encoding, IsEncoding}
use Rattle.handshake_eqs.specs.Netlists.{Netlist, wire_of, IsWireOver, unless_zero, IsNetlistOf}

-- ---- rows of arc wires

pub wires_at : (row : List Ref) (v : ℕ) → slice_index_or (map unless_zero row) v None ≡ unless_zero (slice_index_or row v (Const false))
wires_at [] v = refl
wires_at (r ∷ row) zero = refl
wires_at (r ∷ row) (suc v) = wires_at row v

pub wires_of_rows : (rows : List (List Ref)) (u v : ℕ) →
    slice_index_or (slice_index_or (map (map unless_zero) rows) u []) v None ≡ unless_zero
    (slice_index_or (slice_index_or rows u []) v (Const false))
wires_of_rows [] u v = refl
wires_of_rows (row ∷ rows) zero v = wires_at row v
wires_of_rows (row ∷ rows) (suc u) v = wires_of_rows rows u v

pub length_of_rows : (rows : List (List Ref)) (u : ℕ) → length (slice_index_or (map (map unless_zero) rows) u []) ≡ length (slice_index_or rows u [])
length_of_rows [] u = refl
length_of_rows (row ∷ rows) zero = length-map row unless_zero
length_of_rows (row ∷ rows) (suc u) = length_of_rows rows u

wire_over : (signals : ℕ) (r : Ref) → IsRefOver signals r → IsWireOver signals (unless_zero r)
wire_over signals (Const false) over = tt
wire_over signals (Const true) over = tt
wire_over signals (Signal number negated) over = over

-- ---- past the end there is no arc

-- whether an arc wire leads from u to v
abbrev pub is_wired : ConditionalGraph → ℕ → ℕ → Bool
is_wired graph u v = is_some (unless_zero (arc_ref graph u v))

pub first_past : (graph : ConditionalGraph) (u v : ℕ) → length graph.arcs ≤ u → arc_ref graph u v ≡ Const false
first_past graph u v past = ap (λ row. slice_index_or row v (Const false)) (get_or_past graph.arcs u [] past)

pub second_past : (graph : ConditionalGraph) (count u v : ℕ) → length graph.arcs ≡ count →
    ((a : ℕ) → a < count → length (slice_index_or graph.arcs a []) ≡ count) → count ≤ v →
    arc_ref graph u v ≡ Const false
second_past graph count u v arcs rows past = elim (cases_lt u count) [
  | inl l ↦ get_or_past (slice_index_or graph.arcs u []) v (Const false) (omega (arith, rows u l, past))
  | inr g ↦ first_past graph u v (omega (arith, arcs, g))
]

-- ---- sets that grow by one number

with_next : (v n : ℕ) (p : Bool) → (v ≡ n → p ≡ true) → ((v == n) || (nat_lt v n && p)) ≡ (nat_lt v (n + 1) && p)
with_next v n p h = grind (arith, nat_tests)

without_next : (v n : ℕ) (p : Bool) → (v ≡ n → p ≡ false) → (nat_lt v n && p) ≡ (nat_lt v (n + 1) && p)
without_next v n p h = grind (arith, nat_tests)

-- the numbers below n that pass, and n, which passes
pub insert_next : (s : Set) (f : ℕ → Bool) (n : ℕ) → ((a : ℕ) → set.contains s a ≡ (nat_lt a n && f a)) → f n ≡ true → (a : ℕ) → set.contains (set.insert s n) a ≡ (nat_lt a (n + 1) && f a)
insert_next s f n is one a = set.contains-insert nat_cmp_total s n a ∙ rw (unsigned_tied a n, is a) (with_next a n (f a) (λ e. rw e one))

-- the numbers below n that pass, where n doesn't
pub leave_next : (s : Set) (f : ℕ → Bool) (n : ℕ) → ((a : ℕ) → set.contains s a ≡ (nat_lt a n && f a)) → f n ≡ false → (a : ℕ) → set.contains s a ≡ (nat_lt a (n + 1) && f a)
leave_next s f n is none a = is a ∙ without_next a n (f a) (λ e. rw e none)

pub none_below_zero : (f : ℕ → Bool) (a : ℕ) → set.contains {R = nat_cmp} set.empty a ≡ (nat_lt a 0 && f a)
none_below_zero f a = set.contains-empty nat_cmp a ∙ rw (le-ltb a 0 (omega arith)) refl

-- all numbers that pass, where none from n on does
pub all_of_below : (s : Set) (f : ℕ → Bool) (n : ℕ) → ((a : ℕ) → set.contains s a ≡ (nat_lt a n && f a)) → ((a : ℕ) → n ≤ a → f a ≡ false) → (a : ℕ) → set.contains s a ≡ f a
all_of_below s f n is past a = elim (cases_lt a n) [
  | inl l ↦ is a ∙ rw (lt-ltb a n l) refl
  | inr g ↦ is a ∙ rw (past a g, le-ltb a n g) refl
]

-- ---- the whole

-- an encoding's gates and conditions, arc wires for its arcs, and these waits
abbrev pub encoded : Encoding → List Set → Netlist
encoded e waits = record { gates = e.gates; conditions = e.graph.ops; wires = map (map unless_zero) e.graph.arcs; waits = waits }

module _ (e : Encoding) (is : IsEncoding (length e.graph.ops) e) where
  op_over : (v : ℕ) → IsRefOver (signal_count e.gates) (op_ref e.graph v)
  op_over v = elim (cases_lt v (length e.graph.ops)) [
    | inl l ↦ is.graph.over (Op (record { 0 = v })) l
    | inr g ↦ subst (IsRefOver (signal_count e.gates)) (sym (get_or_past e.graph.ops v (Const false) g)) tt
  ]

  arc_over : (u v : ℕ) → IsRefOver (signal_count e.gates) (arc_ref e.graph u v)
  arc_over u v = elim (cases_eq u v) [
    | inl same ↦ let none : arc_ref e.graph u v ≡ Const false = rw same (is.graph.diagonal v) in subst (IsRefOver (signal_count e.gates)) (sym none) tt
    | inr differ ↦ elim (cases_lt u (length e.graph.ops)) [
      | inr g ↦ subst (IsRefOver (signal_count e.gates)) (sym (first_past e.graph u v (omega (arith, is.graph.arcs, g)))) tt
      | inl lu ↦ elim (cases_lt v (length e.graph.ops)) [
        | inr g ↦ subst (IsRefOver (signal_count e.gates)) (sym (second_past e.graph (length e.graph.ops) u v is.graph.arcs is.graph.rows g)) tt
        | inl lv ↦ is.graph.over (Arc (record { 0 = u }) (record { 0 = v })) (lu, lv, differ)
      ]
    ]
  ]

  pub netlist_of : (waits : List Set) → length e.graph.ops ≤ 128 → length waits ≡ length e.graph.ops →
      ((u v : ℕ) → set.contains (slice_index_or waits v set.empty) u ≡ is_some (unless_zero (arc_ref e.graph u v))) → IsNetlistOf e (encoded e waits)
  netlist_of waits few long each =
      let n = encoded e waits in
      let wires : (u v : ℕ) → wire_of n u v ≡ unless_zero (arc_ref e.graph u v) = λ u v. wires_of_rows e.graph.arcs u v in
      let signals = signal_count e.gates in
      record {
        netlist = record {
          few = few;
          wires = length-map e.graph.arcs (map unless_zero) ∙ is.graph.arcs;
          rows = λ u l. length_of_rows e.graph.arcs u ∙ is.graph.rows u l;
          waits = long;
          diagonal = λ u. wires u u ∙ ap unless_zero (is.graph.diagonal u);
          conditions_over = op_over;
          wires_over = λ u v. subst (IsWireOver signals) (sym (wires u v)) (wire_over signals (arc_ref e.graph u v) (arc_over u v));
          declared = λ u v t. ap is_some (wires u v) ∙ sym (each u v) ∙ t;
        };
        gates = refl;
        conditions = refl;
        wires = wires;
        waits = λ u v. (λ t. ap is_some (wires u v) ∙ sym (each u v) ∙ t, λ t. each u v ∙ sym (ap is_some (wires u v)) ∙ t);
      }

same_parts : {gates gates' : GateList} {conditions conditions' : List Ref} {wires wires' : List (List (Option Ref))} (waits : List Set) → gates ≡ gates' → conditions ≡ conditions' → wires ≡ wires' →
    let whole : GateList → List Ref → List (List (Option Ref)) → Netlist =
    λ a b c. record { gates = a; conditions = b; wires = c; waits = waits } in
    whole gates conditions wires ≡ whole gates' conditions' wires'
same_parts waits p q r = rw (p, q, r) refl

-- the same of parts that equal an encoding's
pub netlist_of_parts : (e : Encoding) {graph : ConditionalGraph} {gates : GateList} {conditions : List Ref} {wires : List (List (Option Ref))} (waits : List Set) →
    IsEncoding (length e.graph.ops) e → length e.graph.ops ≤ 128 → graph ≡ e.graph → gates ≡ e.gates → conditions ≡ graph.ops → wires ≡ map (map unless_zero) graph.arcs →
    length waits ≡ length graph.ops → ((u v : ℕ) → set.contains (slice_index_or waits v set.empty) u ≡ is_some (unless_zero (arc_ref graph u v))) →
    IsNetlistOf e (record { gates = gates; conditions = conditions; wires = wires; waits = waits })
netlist_of_parts e waits is few g p q r long each =
    subst (IsNetlistOf e) (sym (same_parts waits p (q ∙ ap (λ x. x.ops) g) (r ∙ ap (λ x. map (map unless_zero) x.arcs) g)))
    (netlist_of e is waits few (long ∙ ap (λ x. length x.ops) g) (λ u v. each u v ∙ ap (λ x. is_some (unless_zero (arc_ref x u v))) g))
