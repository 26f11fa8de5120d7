-- What minterms are, and what the gates that join them are.
use Rattle.std.proofs.Common.{◌≡◌, ◌≢◌, ◌↔◌, ◌⊎◌, ℕ, zero, suc, ◌+◌, ◌-◌, ◌*◌, ◌<◌, ◌≤◌, min, max, Bool, true, false, not, ◌&&◌, ◌||◌, IsTrue, List, [], ◌∷◌, ◌++◌, length, refl, sym, ap, ap₂, ◌∙◌, subst, inl, inr, arith, add-one, append_assoc, append-nil, take, drop, drop-cons, slice_index, get_or}
use Rattle.std.specs.List.{AllByRecursion}
use Rattle.std.proofs.lemmas.Bool.{cases_lt, cases_eq, both_ways, or_cases, or_left, or_right, or_from, and_parts, and_from, false_from_ne_true}
use Rattle.std.proofs.Math.ListN.{drop_of_length-le}
use Rattle.std.proofs.lemmas.List.{take_all, length-drop}
use Rattle.gate_core.proofs.SignalLemmas.{read_item}
use Rattle.std.proofs.Math.Nat.{mul-le-mul_right}
use Rattle.cpog_defs.specs.declared.types.Gate.{Gate}
use Rattle.cpog_defs.specs.Codes.{bit}
use Rattle.cpog_defs.specs.Gates.{GateList, IsGateList, signal_count, gate_value}
use Rattle.gate_core.specs.First.{Reached, AllReached, with_gate, only_at, minterm, minterms, joined, sum_of_minterms}
use Rattle.gate_core.specs.Words.{value_at}
use Rattle.gate_core.specs.Minterms.{SameBits, IsMintermSignal, AreMinterms, AllDiffer, CanJoin, CanJoinAll}
use Rattle.gate_core.proofs.GateLemmas.{input-signal}
use Rattle.gate_core.proofs.ExtendLemmas.{Extends, extends_self, extends_trans, extends-count, extends-value, Appends, with_gate_appends}

-- ---- tables

is : Bool → Bool → Bool
is true x = x
is false x = not x

is_tells : (p x : Bool) → IsTrue (is p x) ↔ (x ≡ p)
unfolding is
is_tells true x = (λ t. t, λ t. t)
is_tells false true = (λ t. absurd (both_ways _ refl t), λ e. absurd (both_ways _ e refl))
is_tells false false = (λ t. refl, λ e. refl)

only_value : (p q x y : Bool) → gate_value (only_at p q) x y ≡ (is p x && is q y)
unfolding is
only_value true true true true = refl
only_value true true true false = refl
only_value true true false true = refl
only_value true true false false = refl
only_value true false true true = refl
only_value true false true false = refl
only_value true false false true = refl
only_value true false false false = refl
only_value false true true true = refl
only_value false true true false = refl
only_value false true false true = refl
only_value false true false false = refl
only_value false false true true = refl
only_value false false true false = refl
only_value false false false true = refl
only_value false false false false = refl

pub only_tells : (p q x y : Bool) → IsTrue (gate_value (only_at p q) x y) ↔ ((x ≡ p) × (y ≡ q))
only_tells p q x y = (
  λ t. let h = and_parts _ _ (sym (only_value p q x y) ∙ t) in ((is_tells p x).0 h.0, (is_tells q y).0 h.1),
  λ h. only_value p q x y ∙ and_from _ _ ((is_tells p x).1 h.0) ((is_tells q y).1 h.1),
)

pub only-lt : (p q : Bool) → only_at p q < 16
only-lt true true = omega arith
only-lt true false = omega arith
only-lt false true = omega arith
only-lt false false = omega arith

either_value : (x y : Bool) → gate_value 14 x y ≡ (x || y)
either_value true true = refl
either_value true false = refl
either_value false true = refl
either_value false false = refl

or_swap : (x y : Bool) → (x || y) ≡ (y || x)
or_swap true true = refl
or_swap true false = refl
or_swap false true = refl
or_swap false false = refl

-- the value of the gate that joins two signals, whichever is lower
pub either_of : (value : ℕ → Bool) (m n : ℕ) → gate_value 14 (value (min m n)) (value (max m n)) ≡ (value m || value n)
either_of value m n = either_value (value (min m n)) (value (max m n)) ∙ elim (cases_lt m n) [
  | inl l ↦ let a : min m n ≡ m = omega arith in let b : max m n ≡ n = omega arith in ap₂ (λ x y. value x || value y) a b
  | inr l ↦ let a : min m n ≡ n = omega arith in let b : max m n ≡ m = omega arith in ap₂ (λ x y. value x || value y) a b ∙ or_swap (value n) (value m)
]

-- ---- one minterm

same_bits_more : (n s t : ℕ) → SameBits n s t → bit t n ≡ bit s n → SameBits (n + 1) s t
same_bits_more n s t h e b l = elim (cases_eq b n) [ inl same ↦ rw same e | inr other ↦ h b (omega arith) ]

-- the list with the minterm of s over the inputs 0 to i + 1
pub record IsMinterm (list : GateList) (s i : ℕ) (r : Reached) : Type 0 where
  pub extends : Extends list r.gates
  pub gates : IsGateList r.gates
  pub in_range : r.signal < signal_count r.gates
  pub above : list.inputs ≤ r.signal
  pub value : (t : ℕ) → IsTrue (value_at r.gates r.signal t) ↔ SameBits (i + 2) s t
  pub few : length r.gates.gates ≤ length list.gates + (i + 1)

pub minterm_is : (list : GateList) → IsGateList list → (s i : ℕ) → i + 2 ≤ list.inputs → IsMinterm list s i (minterm list s i)
unfolding minterm
minterm_is list ok s zero l =
    let gate : Gate = record { j = 0; k = 1; table = only_at (bit s 0) (bit s 1) } in
    let a = with_gate_appends list gate ok (omega arith) (omega arith) (only-lt (bit s 0) (bit s 1)) in
    let at : (t : ℕ) → value_at (with_gate list gate).gates (with_gate list gate).signal t ≡ gate_value gate.table (bit t 0) (bit t 1) =
    λ t. a.value t ∙ ap₂ (gate_value gate.table) (input-signal list t 0 (omega arith)) (input-signal list t 1 (omega arith)) in
    record {
      extends = a.extends;
      gates = a.gates;
      in_range = a.in_range;
      above = a.above;
      value = λ t. (
        λ h. let e = (only_tells (bit s 0) (bit s 1) (bit t 0) (bit t 1)).0 (sym (at t) ∙ h) in
            same_bits_more 1 s t (same_bits_more 0 s t (λ b m. absurd (omega arith)) e.0) e.1,
        λ same. at t ∙ (only_tells (bit s 0) (bit s 1) (bit t 0) (bit t 1)).1 (same 0 (omega arith), same 1 (omega arith)),
      );
      few = omega (arith, a.few);
    }
minterm_is list ok s (suc i) l =
    let before = minterm list s i in
    let m = minterm_is list ok s i (omega (arith, l)) in
    let gate : Gate = record { j = i + 2; k = before.signal; table = only_at (bit s (i + 2)) true } in
    let a = with_gate_appends before.gates gate m.gates (omega (arith, l, m.above)) m.in_range (only-lt (bit s (i + 2)) true) in
    let inputs = m.extends.inputs in
    let at : (t : ℕ) → value_at (with_gate before.gates gate).gates (with_gate before.gates gate).signal t ≡ gate_value gate.table (bit t (i + 2)) (value_at before.gates before.signal t) =
    λ t. a.value t ∙ ap (λ x. gate_value gate.table x (value_at before.gates before.signal t)) (input-signal before.gates t (i + 2) (omega (arith, l, inputs))) in
    record {
      extends = extends_trans list before.gates _ m.extends a.extends;
      gates = a.gates;
      in_range = a.in_range;
      above = omega (arith, a.above, inputs);
      value = λ t. (
        λ h. let e = (only_tells (bit s (i + 2)) true (bit t (i + 2)) (value_at before.gates before.signal t)).0 (sym (at t) ∙ h) in
            let c : suc i + 2 ≡ i + 2 + 1 = omega arith in
            subst (λ n. SameBits n s t) (sym c) (same_bits_more (i + 2) s t ((m.value t).0 e.1) e.0),
        λ same. at t ∙ (only_tells (bit s (i + 2)) true (bit t (i + 2)) (value_at before.gates before.signal t)).1 (same (i + 2) (omega arith), (m.value t).1 (λ b b_lt. same b (omega (arith, b_lt)))),
      );
      few = omega (arith, a.few, m.few);
    }

pub minterm_state : (list : GateList) → IsGateList list → (s i : ℕ) → i + 2 ≤ list.inputs → (r : Reached) → minterm list s i ≡ r → IsMinterm list s i r
minterm_state list ok s i l r e = subst (IsMinterm list s i) e (minterm_is list ok s i l)

-- ---- minterms of some codes

pub minterm_stays : (a b : GateList) → Extends a b → (s m : ℕ) → IsMintermSignal a s m → IsMintermSignal b s m
minterm_stays a b x s m h = record {
  in_range = omega (arith, h.in_range, extends-count a b x);
  value = λ t. (
    λ one k l. (h.value t).0 (sym (extends-value a b x m t h.in_range) ∙ one) k (omega (arith, x.inputs)),
    λ same. extends-value a b x m t h.in_range ∙ (h.value t).1 (λ k l. same k (omega (arith, x.inputs))),
  );
}

pub full_minterm : (list : GateList) → IsGateList list → 2 ≤ list.inputs → (s : ℕ) → (let r = minterm list s (list.inputs - 2) in IsMintermSignal r.gates s r.signal)
full_minterm list ok two s =
    let m = minterm_is list ok s (list.inputs - 2) (omega arith) in
    let all : list.inputs - 2 + 2 ≡ list.inputs = omega arith in
    let inputs = m.extends.inputs in
    record {
      in_range = m.in_range;
      value = λ t. (
        λ one k l. (m.value t).0 one k (omega (arith, all, inputs)),
        λ same. (m.value t).1 (λ k l. same k (omega (arith, all, inputs))),
      );
    }

pub minterms_stay : (a b : GateList) → Extends a b → (ss ms : List ℕ) → AreMinterms a ss ms → AreMinterms b ss ms
minterms_stay a b x [] [] h = tt
minterms_stay a b x [] (m ∷ ms) h = h
minterms_stay a b x (s ∷ ss) [] h = h
minterms_stay a b x (s ∷ ss) (m ∷ ms) h = (minterm_stays a b x s m h.0, minterms_stay a b x ss ms h.1)

pub record MintermsOf (list : GateList) (ss : List ℕ) (r : AllReached) : Type 0 where
  pub extends : Extends list r.gates
  pub gates : IsGateList r.gates
  pub each : AreMinterms r.gates ss r.signals
  pub few : length r.gates.gates ≤ length list.gates + (list.inputs - 1) * length ss

more_few : (k n : ℕ) → k * suc n ≡ k + k * n
more_few k n = omega arith

pub minterms_are : (list : GateList) → IsGateList list → 2 ≤ list.inputs → (ss : List ℕ) → MintermsOf list ss (minterms list ss)
unfolding minterms
minterms_are list ok two [] = record { extends = extends_self list; gates = ok; each = tt; few = omega arith }
minterms_are list ok two (s ∷ ss) =
    let one = minterm list s (list.inputs - 2) in
    let m = minterm_is list ok s (list.inputs - 2) (omega arith) in
    let inputs = m.extends.inputs in
    let rest = minterms_are one.gates m.gates (omega (arith, inputs)) ss in
    let same : (one.gates.inputs - 1) * length ss ≡ (list.inputs - 1) * length ss = ap (λ n. (n - 1) * length ss) inputs in
    record {
      extends = extends_trans list one.gates _ m.extends rest.extends;
      gates = rest.gates;
      each = (minterm_stays one.gates _ rest.extends s one.signal (full_minterm list ok two s), rest.each);
      few = omega (arith, m.few, rest.few, same, more_few (list.inputs - 1) (length ss));
    }

-- ---- minterms joined

-- some code has the word's bits
abbrev pub SomeSame : ℕ → List ℕ → ℕ → Type 0
SomeSame n [] t = ⊥
SomeSame n (s ∷ ss) t = SameBits n s t ⊎ SomeSame n ss t

pub differ_at_head : (list : GateList) (signal s m : ℕ) (ss ms : List ℕ) → CanJoin list signal (s ∷ ss) (m ∷ ms) → signal ≢ m
differ_at_head list signal s m ss ms h e = both_ways _ (sym (ap (λ n. value_at list n s) e) ∙ h.fresh.0) ((h.each.0.value s).1 (λ b l. refl))

abbrev pub or_gate : ℕ → ℕ → Gate
or_gate a b = record { j = min a b; k = max a b; table = 14 }

pub joins : (list : GateList) (signal s m : ℕ) (ss ms : List ℕ) → CanJoin list signal (s ∷ ss) (m ∷ ms) → Appends list (or_gate signal m) (with_gate list (or_gate signal m))
joins list signal s m ss ms h =
    let other = differ_at_head list signal s m ss ms h in
    with_gate_appends list (or_gate signal m) h.gates (omega (arith, other)) (omega (arith, h.in_range, h.each.0.in_range)) (omega arith)

pub joined-value : (list : GateList) (signal s m : ℕ) (ss ms : List ℕ) → CanJoin list signal (s ∷ ss) (m ∷ ms) → (t : ℕ) →
    (let r = with_gate list (or_gate signal m) in value_at r.gates r.signal t ≡ (value_at list signal t || value_at list m t))
joined-value list signal s m ss ms h t = (joins list signal s m ss ms h).value t ∙ either_of (λ n. value_at list n t) signal m

differ_stay : (m n : ℕ) → m ≡ n → (ss : List ℕ) → AllDiffer m ss → AllDiffer n ss
differ_stay m n e ss h = subst (λ k. AllDiffer k ss) e h

pub can_join_rest : (list : GateList) (signal s m : ℕ) (ss ms : List ℕ) → CanJoin list signal (s ∷ ss) (m ∷ ms) →
    (let r = with_gate list (or_gate signal m) in CanJoin r.gates r.signal ss ms)
can_join_rest list signal s m ss ms h =
    let r = with_gate list (or_gate signal m) in
    let a = joins list signal s m ss ms h in
    record {
      gates = a.gates;
      in_range = a.in_range;
      each = minterms_stay list r.gates a.extends ss ms h.each.1;
      fresh = stay_fresh ss h.fresh.1 h.differ.0;
      differ = differ_stay list.inputs r.gates.inputs (sym a.extends.inputs) ss h.differ.1;
    }
  where
    stay_fresh : (xs : List ℕ) → AllByRecursion (λ x. value_at list signal x ≡ false) xs → AllByRecursion (λ x. SameBits list.inputs s x → ⊥) xs →
        AllByRecursion (λ x. value_at (with_gate list (or_gate signal m)).gates (with_gate list (or_gate signal m)).signal x ≡ false) xs
    stay_fresh [] f d = tt
    stay_fresh (x ∷ xs) f d = (
      joined-value list signal s m ss ms h x ∙ or_from _ _ f.0 (false_from_ne_true (value_at list m x) (λ t. d.0 ((h.each.0.value x).0 t))),
      stay_fresh xs f.1 d.1,
    )

pub record IsJoined (one : Reached) (ss : List ℕ) (ms : List ℕ) (r : Reached) : Type 0 where
  pub extends : Extends one.gates r.gates
  pub gates : IsGateList r.gates
  pub in_range : r.signal < signal_count r.gates
  pub value : (t : ℕ) → IsTrue (value_at r.gates r.signal t) ↔ (IsTrue (value_at one.gates one.signal t) ⊎ SomeSame one.gates.inputs ss t)

pub joined_is : (one : Reached) (ss ms : List ℕ) → CanJoin one.gates one.signal ss ms → IsJoined one ss ms (joined one ms)
unfolding joined
joined_is one [] [] h = record {
  extends = extends_self one.gates;
  gates = h.gates;
  in_range = h.in_range;
  value = λ t. (λ x. inl x, λ x. elim x [ inl y ↦ y | inr n ↦ absurd n ]);
}
joined_is one [] (m ∷ ms) h = absurd h.each
joined_is one (s ∷ ss) [] h = absurd h.each
joined_is one (s ∷ ss) (m ∷ ms) h =
    let next = with_gate one.gates (or_gate one.signal m) in
    let a = joins one.gates one.signal s m ss ms h in
    let rest = joined_is next ss ms (can_join_rest one.gates one.signal s m ss ms h) in
    let here = joined-value one.gates one.signal s m ss ms h in
    let inputs = a.extends.inputs in
    record {
      extends = extends_trans one.gates next.gates _ a.extends rest.extends;
      gates = rest.gates;
      in_range = rest.in_range;
      value = λ t. (
        λ x. elim ((rest.value t).0 x) [
          | inl y ↦ elim (or_cases _ _ (sym (here t) ∙ y)) [
            | inl first ↦ inl first
            | inr second ↦ inr (inl ((h.each.0.value t).0 second))
          ]
          | inr later ↦ inr (inr (subst (λ n. SomeSame n ss t) inputs later))
        ],
        λ x. elim x [
          | inl first ↦ (rest.value t).1 (inl (here t ∙ or_left _ _ first))
          | inr others ↦ elim others [
            | inl second ↦ (rest.value t).1 (inl (here t ∙ or_right _ _ ((h.each.0.value t).1 second)))
            | inr later ↦ (rest.value t).1 (inr (subst (λ n. SomeSame n ss t) (sym inputs) later))
          ]
        ],
      );
    }

-- ---- the sum of minterms

minterms_long : (list : GateList) (ss ms : List ℕ) → AreMinterms list ss ms → length ms ≡ length ss
minterms_long list [] [] h = refl
minterms_long list [] (m ∷ ms) h = absurd h
minterms_long list (s ∷ ss) [] h = absurd h
minterms_long list (s ∷ ss) (m ∷ ms) h = omega (arith, minterms_long list ss ms h.1)

-- minterms that were just put there can be joined from the first on
pub can_join : (list : GateList) → IsGateList list → 2 ≤ list.inputs → (s : ℕ) (ss : List ℕ) → AllDiffer list.inputs (s ∷ ss) →
    (let one = minterm list s (list.inputs - 2) in let others = minterms one.gates ss in CanJoin others.gates one.signal ss others.signals)
can_join list ok two s ss differ =
    let one = minterm list s (list.inputs - 2) in
    let m = minterm_is list ok s (list.inputs - 2) (omega arith) in
    let inputs = m.extends.inputs in
    let rest = minterms_are one.gates m.gates (omega (arith, inputs)) ss in
    let first = minterm_stays one.gates _ rest.extends s one.signal (full_minterm list ok two s) in
    let whole : (minterms one.gates ss).gates.inputs ≡ list.inputs = rest.extends.inputs ∙ inputs in
    record {
      gates = rest.gates;
      in_range = first.in_range;
      each = rest.each;
      fresh = all_fresh (minterms one.gates ss).gates one.signal first whole ss differ.0;
      differ = differ_stay list.inputs _ (sym whole) ss differ.1;
    }
  where
    all_fresh : (after : GateList) (signal : ℕ) → IsMintermSignal after s signal → after.inputs ≡ list.inputs →
        (xs : List ℕ) → AllByRecursion (λ x. SameBits list.inputs s x → ⊥) xs →
        AllByRecursion (λ x. value_at after signal x ≡ false) xs
    all_fresh after signal h whole [] d = tt
    all_fresh after signal h whole (x ∷ xs) d = (false_from_ne_true (value_at after signal x) (λ t. d.0 (λ b l. (h.value x).0 t b (omega (arith, whole)))), all_fresh after signal h whole xs d.1)

pub record IsSumOf (list : GateList) (ss : List ℕ) (r : Reached) : Type 0 where
  pub extends : Extends list r.gates
  pub gates : IsGateList r.gates
  pub in_range : r.signal < signal_count r.gates
  pub value : (t : ℕ) → IsTrue (value_at r.gates r.signal t) ↔ SomeSame list.inputs ss t

pub sum_is : (list : GateList) → IsGateList list → 2 ≤ list.inputs → (ss : List ℕ) → 1 ≤ length ss → AllDiffer list.inputs ss → IsSumOf list ss (sum_of_minterms list ss)
unfolding sum_of_minterms
sum_is list ok two [] some differ = absurd (omega arith)
sum_is list ok two (s ∷ ss) some differ =
    let one = minterm list s (list.inputs - 2) in
    let m = minterm_is list ok s (list.inputs - 2) (omega arith) in
    let rest = minterms_are one.gates m.gates (omega (arith, m.extends.inputs)) ss in
    let others = minterms one.gates ss in
    let first = minterm_stays one.gates others.gates rest.extends s one.signal (full_minterm list ok two s) in
    let whole : others.gates.inputs ≡ list.inputs = rest.extends.inputs ∙ m.extends.inputs in
    let start : Reached = record { gates = others.gates; signal = one.signal } in
    let j = joined_is start ss others.signals (can_join list ok two s ss differ) in
    record {
      extends = extends_trans list one.gates _ m.extends (extends_trans one.gates others.gates _ rest.extends j.extends);
      gates = j.gates;
      in_range = j.in_range;
      value = λ t. (
        λ x. elim ((j.value t).0 x) [
          | inl y ↦ inl (λ b l. (first.value t).0 y b (omega (arith, whole)))
          | inr y ↦ inr (subst (λ n. SomeSame n ss t) whole y)
        ],
        λ x. (j.value t).1 (elim x [
          | inl y ↦ inl ((first.value t).1 (λ b l. y b (omega (arith, whole))))
          | inr y ↦ inr (subst (λ n. SomeSame n ss t) (sym whole) y)
        ]),
      );
    }

-- ---- steps of code

pub first_step : (list : GateList) (s table : ℕ) → table ≡ only_at (bit s 0) (bit s 1) → (r : Reached) → with_gate list (record { j = 0; k = 1; table = table }) ≡ r → minterm list s 0 ≡ r
unfolding minterm
first_step list s table is r e = let gate : ℕ → Gate = λ t. record { j = 0; k = 1; table = t } in ap (λ t. with_gate list (gate t)) (sym is) ∙ e

pub next_step : (list : GateList) (s i : ℕ) (between : GateList) (number : ℕ) →
    (let make : GateList → ℕ → Reached = λ g n. record { gates = g; signal = n } in
    minterm list s i ≡ make between number) →
    (j table : ℕ) → j ≡ i + 2 → table ≡ only_at (bit s (i + 2)) true → (r : Reached) → with_gate between (record { j = j; k = number; table = table }) ≡ r → minterm list s (i + 1) ≡ r
unfolding minterm
next_step list s i between number before j table is_j is_table r e =
    let gate : ℕ → ℕ → ℕ → Gate = λ a b t. record { j = a; k = b; table = t } in
    rw add-one (ap (λ x. with_gate x.gates (gate (i + 2) x.signal (only_at (bit s (i + 2)) true))) before ∙ ap₂ (λ a t. with_gate between (gate a number t)) (sym is_j) (sym is_table) ∙ e)

-- the minterms of the codes below a place are there, and those of the others are still to be put
pub record MintermsTo (list : GateList) (ss : List ℕ) (i : ℕ) (between : GateList) (numbers : List ℕ) : Type 0 where
  pub ok : IsGateList between
  pub inputs : between.inputs ≡ list.inputs
  pub few : length between.gates ≤ length list.gates + 7 * i
  pub gates : (minterms list ss).gates ≡ (minterms between (drop i ss)).gates
  pub signals : (minterms list ss).signals ≡ numbers ++ (minterms between (drop i ss)).signals

pub minterms_begin : (list : GateList) → IsGateList list → (ss : List ℕ) → MintermsTo list ss 0 list []
minterms_begin list ok ss = record { ok = ok; inputs = refl; few = omega arith; gates = refl; signals = refl }

pub minterms_next : (list : GateList) (ss : List ℕ) (i : ℕ) (between : GateList) (numbers : List ℕ) → MintermsTo list ss i between numbers → i < length ss → 2 ≤ list.inputs → list.inputs ≤ 8 →
    (r : Reached) → minterm between (slice_index ss i) (between.inputs - 2) ≡ r → MintermsTo list ss (i + 1) r.gates (numbers ++ r.signal ∷ [])
unfolding minterms
minterms_next list ss i between numbers h l two eight r e =
    let s = slice_index ss i in
    let one = minterm between s (between.inputs - 2) in
    let cut : drop i ss ≡ s ∷ drop (i + 1) ss = rw add-one (drop-cons ss i 0 l) in
    let m = minterm_is between h.ok s (between.inputs - 2) (omega (arith, h.inputs)) in
    subst (λ x. MintermsTo list ss (i + 1) x.gates (numbers ++ x.signal ∷ [])) e (record {
      ok = m.gates;
      inputs = m.extends.inputs ∙ h.inputs;
      few = omega (arith, m.few, h.few, h.inputs);
      gates = h.gates ∙ ap (λ rest. (minterms between rest).gates) cut;
      signals = h.signals ∙ ap (λ rest. numbers ++ (minterms between rest).signals) cut ∙ sym (append_assoc numbers (one.signal ∷ []) (minterms one.gates (drop (i + 1) ss)).signals);
    })

pub minterms_end : (list : GateList) (ss : List ℕ) (i : ℕ) (between : GateList) (numbers : List ℕ) → MintermsTo list ss i between numbers → length ss ≤ i →
    (let make : GateList → List ℕ → AllReached = λ g n. record { gates = g; signals = n } in minterms list ss ≡ make between numbers)
unfolding minterms
minterms_end list ss i between numbers h l =
    let make : GateList → List ℕ → AllReached = λ g n. record { gates = g; signals = n } in
    let none = drop_of_length-le ss l in
    ap₂ make (h.gates ∙ ap (λ rest. (minterms between rest).gates) none) (h.signals ∙ ap (λ rest. numbers ++ (minterms between rest).signals) none ∙ append-nil numbers)

-- the signals before a place are joined, and the others can be
pub record JoinedTo (one : Reached) (ms : List ℕ) (i : ℕ) (between : Reached) : Type 0 where
  pub few : length between.gates.gates ≤ length one.gates.gates + i
  pub inputs : between.gates.inputs ≡ one.gates.inputs
  pub same : joined one ms ≡ joined between (drop i ms)
  pub rest : CanJoinAll between.gates between.signal (drop i ms)

pub joined_begin : (one : Reached) (ms : List ℕ) → CanJoinAll one.gates one.signal ms → JoinedTo one ms 0 one
joined_begin one ms h = record { few = omega arith; inputs = refl; same = refl; rest = h }

head_case : (list : GateList) (signal m : ℕ) (ms : List ℕ) → CanJoinAll list signal (m ∷ ms) → (s : ℕ) × (ss : List ℕ) × CanJoin list signal (s ∷ ss) (m ∷ ms)
head_case list signal m ms h = by h.codes h.can_join
  where
    by : (xs : List ℕ) → CanJoin list signal xs (m ∷ ms) → (s : ℕ) × (ss : List ℕ) × CanJoin list signal (s ∷ ss) (m ∷ ms)
    by [] c = absurd c.each
    by (x ∷ xs) c = (x, xs, c)

pub can_join_next : (one : Reached) (ms : List ℕ) (i : ℕ) (between : Reached) → JoinedTo one ms i between → i < length ms →
    (between.signal ≢ slice_index ms i) × (between.signal < signal_count between.gates) × (slice_index ms i < signal_count between.gates)
can_join_next one ms i between h l =
    let cut = drop-cons ms i 0 l in
    let x = head_case between.gates between.signal (slice_index ms i) (drop (suc i) ms) (subst (CanJoinAll between.gates between.signal) cut h.rest) in
    (differ_at_head between.gates between.signal x.0 _ x.1 _ x.2, x.2.in_range, x.2.each.0.in_range)

pub joined_next : (one : Reached) (ms : List ℕ) (i : ℕ) (between : Reached) → JoinedTo one ms i between → i < length ms →
    (r : Reached) → with_gate between.gates (or_gate between.signal (slice_index ms i)) ≡ r → JoinedTo one ms (i + 1) r
unfolding joined
joined_next one ms i between h l r e =
    let m = slice_index ms i in
    let cut : drop i ms ≡ m ∷ drop (i + 1) ms = rw add-one (drop-cons ms i 0 l) in
    let x = head_case between.gates between.signal m (drop (i + 1) ms) (subst (CanJoinAll between.gates between.signal) cut h.rest) in
    let a = joins between.gates between.signal x.0 m x.1 (drop (i + 1) ms) x.2 in
    subst (JoinedTo one ms (i + 1)) e (record {
      few = omega (arith, a.few, h.few);
      inputs = a.extends.inputs ∙ h.inputs;
      same = h.same ∙ ap (joined between) cut;
      rest = record { codes = x.1; can_join = can_join_rest between.gates between.signal x.0 m x.1 (drop (i + 1) ms) x.2 };
    })

pub joined_end : (one : Reached) (ms : List ℕ) (i : ℕ) (between : Reached) → JoinedTo one ms i between → length ms ≤ i → joined one ms ≡ between
unfolding joined
joined_end one ms i between h l = h.same ∙ ap (joined between) (drop_of_length-le ms l)

-- all minterms are there, and the first can be joined with the others
pub record SumTo (list : GateList) (ss : List ℕ) (between : GateList) (numbers : List ℕ) : Type 0 where
  pub long : length numbers ≡ length ss
  pub few : length between.gates ≤ length list.gates + 7 * length ss
  pub rest : CanJoinAll between (slice_index numbers 0) (drop 1 numbers)
  pub same : sum_of_minterms list ss ≡ joined (record { gates = between; signal = slice_index numbers 0 }) (drop 1 numbers)

seven : (k n : ℕ) → k ≤ 7 → k * n ≤ 7 * n
seven k n l = mul-le-mul_right n l

pub sum_to : (list : GateList) → IsGateList list → 2 ≤ list.inputs → list.inputs ≤ 8 → (ss : List ℕ) → 1 ≤ length ss → AllDiffer list.inputs ss → (between : GateList) (numbers : List ℕ) →
    (let make : GateList → List ℕ → AllReached = λ g n. record { gates = g; signals = n } in minterms list ss ≡ make between numbers) → SumTo list ss between numbers
unfolding minterms sum_of_minterms
sum_to list ok two eight [] some differ between numbers e = absurd (omega arith)
sum_to list ok two eight (s ∷ ss) some differ between numbers e =
    let all = minterms_are list ok two (s ∷ ss) in
    let one = minterm list s (list.inputs - 2) in
    let others = minterms one.gates ss in
    subst (λ r. SumTo list (s ∷ ss) r.gates r.signals) e (record {
      long = minterms_long (minterms list (s ∷ ss)).gates (s ∷ ss) (minterms list (s ∷ ss)).signals all.each;
      few = omega (arith, all.few, seven (list.inputs - 1) (length (s ∷ ss)) (omega arith));
      rest = record { codes = ss; can_join = can_join list ok two s ss differ };
      same = refl;
    })

-- the same, where the first signal and the others are read from the list
pub record SumRead (list : GateList) (ss : List ℕ) (between : GateList) (first : ℕ) (d : List ℕ) : Type 0 where
  pub long : length d ≡ length ss
  pub few : length between.gates ≤ length list.gates + 7 * length ss
  pub inputs : between.inputs ≡ list.inputs
  pub rest : CanJoinAll between first (take (length d - 1) (drop 1 d))
  pub same : sum_of_minterms list ss ≡ joined (record { gates = between; signal = first }) (take (length d - 1) (drop 1 d))

pub sum_read : (list : GateList) → IsGateList list → 2 ≤ list.inputs → list.inputs ≤ 8 → (ss : List ℕ) → 1 ≤ length ss → AllDiffer list.inputs ss → (between : GateList) (numbers : List ℕ) →
    (let make : GateList → List ℕ → AllReached = λ g n. record { gates = g; signals = n } in minterms list ss ≡ make between numbers) →
    (first : ℕ) (d : List ℕ) → first ≡ get_or numbers 0 first → d ≡ numbers → SumRead list ss between first d
sum_read list ok two eight ss some differ between numbers e first d is_first is_d =
    let h = sum_to list ok two eight ss some differ between numbers e in
    let at : first ≡ slice_index numbers 0 = read_item numbers 0 first (omega (arith, h.long)) is_first in
    let part : take (length d - 1) (drop 1 d) ≡ drop 1 numbers = take_all (length d - 1) (drop 1 d) (omega (arith, length-drop 1 d)) ∙ ap (drop 1) is_d in
    let make : ℕ → Reached = λ n. record { gates = between; signal = n } in
    record {
      long = ap length is_d ∙ h.long;
      few = h.few;
      inputs = sym (ap (λ r. r.gates.inputs) e) ∙ (minterms_are list ok two ss).extends.inputs;
      rest = subst (CanJoinAll between first) (sym part) (subst (λ n. CanJoinAll between n (drop 1 numbers)) (sym at) h.rest);
      same = h.same ∙ ap (λ n. joined (make n) (drop 1 numbers)) (sym at) ∙ ap (joined (make first)) (sym part);
    }
