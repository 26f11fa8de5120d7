-- How many gates the first encoding has. Gates over two inputs are few, since no gate is there twice; the further gates
-- of the minterm of a code are put there once; and each column joins as many minterms as its smaller set has, less one.
use Rattle.std.proofs.Common.{◌≡◌, ℕ, zero, suc, ◌+◌, ◌-◌, ◌*◌, ◌^◌, ◌<◌, ◌≤◌, ◌==◌, nat_lt, min, Bool, true, false, not, cond, ◌&&◌, ◌||◌, if◌then◌else◌, IsTrue, List, [], ◌∷◌, ◌++◌, length, slice_index_or, refl, sym, ap, ap₂, ◌∙◌, subst, inl, inr, arith, length-append, append-nil}
use Rattle.std.specs.List.{list_any, position_or_len, count_by, sum_by, All, AllByRecursion}
use Rattle.std.proofs.lemmas.Bool.{cases_lt, cases_eq, both_ways, cases_Bool, or_parts, or_left, or_right, or_from, and_right, and_from, eqb-true, eq-eqb, lt-ltb, ltb-true}
use Rattle.std.proofs.lemmas.Bool.Decides.{nat_tests}
use Rattle.std.proofs.lemmas.List.Folds.{list_any-append}
use Rattle.std.proofs.lemmas.List.Sums.{sum_by-cons, sum_by-le, count_by-le-length}
use Rattle.std.proofs.Math.Nat.{mul-le-mul_left}
use Rattle.cpog_defs.specs.declared.types.Bit3.{Bit3}
use Rattle.cpog_defs.specs.declared.types.Gate.{Gate}
use Rattle.cpog_defs.specs.declared.types.Ref.{Ref}
use Rattle.cpog_defs.specs.Gates.{GateList, AreGatesFrom, IsGateList}
use Rattle.cpog_defs.specs.Entries.{entry_at}
use Rattle.cpog_base.specs.Column.{is_one, is_zero}
use Rattle.gate_core.specs.Columns.{smaller_set}
use Rattle.cpog_defs.specs.Codes.{bit}
use Rattle.gate_core.specs.First.{only_at, same_gate, Reached, with_gate, minterm, minterms, joined, sum_of_minterms, code_at, codes_where, has_fewer_zeros, smaller_codes, Takes, TakesAll, shared_gates, joins_of, all_joins, FirstEncoding, IsFirstEncoding, HasFewGates}
use Rattle.gate_core.specs.Words.{IsColumnOnCodes}
use Rattle.gate_core.proofs.ExtendLemmas.{Extends, extends_self, extends_trans, extends_last, with_last, same_gates, with_gate-there, with_gate-new, with_gate-signal}
use Rattle.gate_core.proofs.MintermLemmas.{or_gate}
use Rattle.gate_core.proofs.TakeLemmas.{IsCodeBelow, passing_codes, length-codes, two_inputs, taken, all_taken}

-- ---- a gate that is there again

pub with_gate_extends : (list : GateList) (gate : Gate) → Extends list (with_gate list gate).gates
with_gate_extends list gate = elim (cases_Bool (list_any (same_gate gate) list.gates)) [
  | inl there ↦ subst (Extends list) (sym (with_gate-there list gate there)) (extends_self list)
  | inr new ↦ subst (Extends list) (sym (with_gate-new list gate new)) (extends_last list gate)
]

same_itself : (gate : Gate) → same_gate gate gate ≡ true
same_itself gate =
    and_from ((gate.j == gate.j) && (gate.k == gate.k)) (gate.table == gate.table)
    (and_from (gate.j == gate.j) (gate.k == gate.k) (eq-eqb gate.j gate.j refl) (eq-eqb gate.k gate.k refl))
    (eq-eqb gate.table gate.table refl)

module _ {X : Type 0} (p : X → Bool) where
  there_left : (xs ys : List X) → list_any p xs ≡ true → list_any p (xs ++ ys) ≡ true
  there_left xs ys h = list_any-append p xs ys ∙ or_left _ _ h

  place_left : (xs ys : List X) → list_any p xs ≡ true → position_or_len p (xs ++ ys) ≡ position_or_len p xs
  place_left [] ys h = absurd (both_ways _ refl h)
  place_left (x ∷ xs) ys h = elim (p x) as (λ b. (b || list_any p xs) ≡ true → cond (not b) (1 + position_or_len p (xs ++ ys)) 0 ≡ cond (not b) (1 + position_or_len p xs) 0) [
    | true ↦ λ _. refl
    | false ↦ λ rest. ap (λ n. 1 + n) (place_left xs ys rest)
  ] h

  place_pushed : (xs : List X) (y : X) → p y ≡ true → position_or_len p (xs ++ y ∷ []) ≡ position_or_len p xs
  place_pushed [] y h = ap (λ b. cond (not b) (1 + 0) 0) h
  place_pushed (x ∷ xs) y h = ap (λ n. cond (not (p x)) (1 + n) 0) (place_pushed xs y h)

abbrev reached : GateList → ℕ → Reached
reached gates signal = record { gates = gates; signal = signal }

-- once a gate is there, it changes nothing, however many gates stand behind it
again_there : (list after : GateList) (gate : Gate) → list_any (same_gate gate) list.gates ≡ true →
    Extends list after → with_gate after gate ≡ reached after
    (list.inputs + position_or_len (same_gate gate) list.gates)
again_there list after gate there x =
    let still : list_any (same_gate gate) after.gates ≡ true = ap (list_any (same_gate gate)) x.gates ∙ there_left (same_gate gate) list.gates x.more there in
    ap₂ reached (with_gate-there after gate still)
    (with_gate-signal after gate ∙ ap₂ (λ a b. a + b) x.inputs (ap (position_or_len (same_gate gate)) x.gates ∙ place_left (same_gate gate) list.gates x.more there))

pub with_gate_again : (list after : GateList) (gate : Gate) → Extends (with_gate list gate).gates after → with_gate after gate ≡ reached after (with_gate list gate).signal
with_gate_again list after gate x = elim (cases_Bool (list_any (same_gate gate) list.gates)) [
  | inl there ↦ again_there list after gate there (subst (λ g. Extends g after) (with_gate-there list gate there) x) ∙ ap (reached after) (sym (with_gate-signal list gate))
  | inr new ↦
      again_there (with_last list gate) after gate (list_any-append (same_gate gate) list.gates (gate ∷ [])
      ∙ or_right _ _ (or_left _ _ (same_itself gate)))
      (subst (λ g. Extends g after) (with_gate-new list gate new) x)
      ∙ ap (reached after) (ap (λ n. list.inputs + n) (place_pushed (same_gate gate) list.gates gate (same_itself gate)) ∙ sym (with_gate-signal list gate))
]

pub minterm_extends : (list : GateList) (s i : ℕ) → Extends list (minterm list s i).gates
unfolding minterm
minterm_extends list s zero = with_gate_extends list _
minterm_extends list s (suc i) = extends_trans list (minterm list s i).gates _ (minterm_extends list s i) (with_gate_extends (minterm list s i).gates _)

-- once a minterm is there, it changes nothing
pub minterm_again : (list after : GateList) (s i : ℕ) → Extends (minterm list s i).gates after → minterm after s i ≡ reached after (minterm list s i).signal
unfolding minterm
minterm_again list after s zero x = with_gate_again list after _ x
minterm_again list after s (suc i) x =
    let before = minterm list s i in
    let gate : ℕ → Gate = λ signal. record { j = i + 2; k = signal; table = only_at (bit s (i + 2)) true } in
    let same = minterm_again list after s i (extends_trans before.gates (with_gate before.gates (gate before.signal)).gates after (with_gate_extends before.gates (gate before.signal)) x) in
    ap (λ r. with_gate r.gates (gate r.signal)) same ∙ with_gate_again before.gates after (gate before.signal) x

-- ---- how many numbers below n pass

pub how_many : (ℕ → Bool) → ℕ → ℕ
how_many p zero = 0
how_many p (suc n) = (if p n then 1 else 0) + how_many p n

how_many-le : (p : ℕ → Bool) (n : ℕ) → how_many p n ≤ n
unfolding how_many
how_many-le p zero = omega arith
how_many-le p (suc n) = elim (p n) as (λ b. (if b then 1 else 0) + how_many p n ≤ suc n) [ true ↦ omega (arith, how_many-le p n) | false ↦ omega (arith, how_many-le p n) ]

one_at_most : (a b : Bool) → (IsTrue a → IsTrue b) → (if a then 1 else 0) ≤ (if b then 1 else 0)
one_at_most true true h = omega arith
one_at_most true false h = absurd (both_ways _ refl (h refl))
one_at_most false true h = omega arith
one_at_most false false h = omega arith

more_pass : (p q : ℕ → Bool) → ((x : ℕ) → IsTrue (p x) → IsTrue (q x)) → (n : ℕ) → how_many p n ≤ how_many q n
unfolding how_many
more_pass p q h zero = omega arith
more_pass p q h (suc n) = omega (arith, more_pass p q h n, one_at_most (p n) (q n) (h n))

one_more_passes : (p q : ℕ → Bool) → ((x : ℕ) → IsTrue (p x) → IsTrue (q x)) → (n s : ℕ) → s < n → p s ≡ false → q s ≡ true → how_many p n + 1 ≤ how_many q n
unfolding how_many
one_more_passes p q h zero s l fails passes = absurd (omega arith)
one_more_passes p q h (suc n) s l fails passes = elim (cases_eq s n) [
  | inl same ↦
      let bump : Bool → ℕ = λ b. if b then 1 else 0 in
      let a : bump (p n) ≡ 0 = ap bump (sym (ap p same) ∙ fails) in
      let b : bump (q n) ≡ 1 = ap bump (sym (ap q same) ∙ passes) in
      omega (arith, a, b, more_pass p q h n)
  | inr other ↦ omega (arith, one_more_passes p q h n s (omega arith) fails passes, one_at_most (p n) (q n) (h n))
]

-- ---- gates that read a signal beyond the inputs

pub other_gates : ℕ → List Gate → ℕ
other_gates m [] = 0
other_gates m (g ∷ gates) = (if nat_lt g.k m then 0 else 1) + other_gates m gates

pub pair_gates : ℕ → List Gate → ℕ
pair_gates m [] = 0
pair_gates m (g ∷ gates) = (if nat_lt g.k m then 1 else 0) + pair_gates m gates

pairs_and_others : (m : ℕ) (gates : List Gate) → length gates ≡ pair_gates m gates + other_gates m gates
unfolding other_gates pair_gates
pairs_and_others m [] = refl
pairs_and_others m (g ∷ gates) = elim (nat_lt g.k m) as (λ b. length (g ∷ gates) ≡ (if b then 1 else 0) + pair_gates m gates + ((if b then 0 else 1) + other_gates m gates)) [
  | true ↦ omega (arith, pairs_and_others m gates)
  | false ↦ omega (arith, pairs_and_others m gates)
]

other_push : (m : ℕ) (gates : List Gate) (g : Gate) → other_gates m (gates ++ g ∷ []) ≡ other_gates m gates + (if nat_lt g.k m then 0 else 1)
unfolding other_gates
other_push m [] g = omega arith
other_push m (x ∷ gates) g = omega (arith, other_push m gates g)

-- no gate stands twice
abbrev pub NoneTwice : List Gate → Type 0
NoneTwice [] = Unit {0}
NoneTwice (g ∷ gates) = AllByRecursion (λ x. same_gate g x ≡ false) gates × NoneTwice gates

turned : (a b : Gate) → same_gate a b ≡ false → same_gate b a ≡ false
turned a b h = elim (cases_Bool (same_gate b a)) [
  | inr f ↦ f
  | inl t ↦ absurd (both_ways _ h (subst (λ x. same_gate x b ≡ true) (sym (same_gates b a t)) (same_itself b)))
]

none_twice_push : (gates : List Gate) (g : Gate) → NoneTwice gates → list_any (same_gate g) gates ≡ false → NoneTwice (gates ++ g ∷ [])
none_twice_push [] g h new = (tt, tt)
none_twice_push (x ∷ gates) g h new =
    let s = or_parts (same_gate g x) (list_any (same_gate g) gates) new in
    (others gates h.0 (turned g x s.0), none_twice_push gates g h.1 s.1)
  where
    others : (ys : List Gate) → AllByRecursion (λ y. same_gate x y ≡ false) ys → same_gate x g ≡ false → AllByRecursion (λ y. same_gate x y ≡ false) (ys ++ g ∷ [])
    others [] a f = (f, tt)
    others (y ∷ ys) a f = (a.0, others ys a.1 f)

-- the list has no gate twice, and at most so many that read a signal beyond the inputs
pub record Holds (list : GateList) (others : ℕ) : Type 0 where
  pub none_twice : NoneTwice list.gates
  pub few : other_gates list.inputs list.gates ≤ others

holds_more : (list : GateList) (m n : ℕ) → m ≤ n → Holds list m → Holds list n
holds_more list m n l h = record { none_twice = h.none_twice; few = omega (arith, h.few) }

pub with_gate_holds : (list : GateList) (others : ℕ) (gate : Gate) → Holds list others → Holds (with_gate list gate).gates (others + (if nat_lt gate.k list.inputs then 0 else 1))
with_gate_holds list others gate h = elim (cases_Bool (list_any (same_gate gate) list.gates)) [
  | inl there ↦ subst (λ g. Holds g (others + (if nat_lt gate.k list.inputs then 0 else 1))) (sym (with_gate-there list gate there)) (holds_more list others _ (omega arith) h)
  | inr new ↦ subst (λ g. Holds g (others + (if nat_lt gate.k list.inputs then 0 else 1))) (sym (with_gate-new list gate new)) (record {
    none_twice = none_twice_push list.gates gate h.none_twice new;
    few = omega (arith, other_push list.inputs list.gates gate, h.few);
  })
]

pub with_gate_holds_one : (list : GateList) (others : ℕ) (gate : Gate) → Holds list others → Holds (with_gate list gate).gates (others + 1)
with_gate_holds_one list others gate h = holds_more (with_gate list gate).gates _ (others + 1) (one (nat_lt gate.k list.inputs)) (with_gate_holds list others gate h)
  where
    one : (b : Bool) → others + (if b then 0 else 1) ≤ others + 1
    one true = omega arith
    one false = omega arith

pub pair_holds : (list : GateList) (others : ℕ) (gate : Gate) → gate.k < list.inputs → Holds list others → Holds (with_gate list gate).gates others
pair_holds list others gate l h =
    holds_more (with_gate list gate).gates _ others (none (nat_lt gate.k list.inputs) (lt-ltb gate.k list.inputs l)) (with_gate_holds list others gate h)
  where
    none : (b : Bool) → b ≡ true → others + (if b then 0 else 1) ≤ others
    none true e = omega arith
    none false e = absurd (both_ways _ refl e)

pub minterm_holds : (list : GateList) (others s i : ℕ) → 2 ≤ list.inputs → Holds list others → Holds (minterm list s i).gates (others + i)
unfolding minterm
minterm_holds list others s zero two h = holds_more _ others (others + 0) (omega arith) (pair_holds list others _ (omega arith) h)
minterm_holds list others s (suc i) two h =
    holds_more _ (others + i + 1) (others + suc i) (omega arith) (with_gate_holds_one (minterm list s i).gates (others + i) _ (minterm_holds list others s i two h))

pub joined_holds : (one : Reached) (others : ℕ) (ms : List ℕ) → Holds one.gates others → Holds (joined one ms).gates (others + length ms)
unfolding joined
joined_holds one others [] h = holds_more one.gates others (others + 0) (omega arith) h
joined_holds one others (m ∷ ms) h =
    holds_more _ (others + 1 + length ms) (others + suc (length ms)) (omega arith)
    (joined_holds (with_gate one.gates (or_gate one.signal m)) (others + 1) ms
    (with_gate_holds_one one.gates others (or_gate one.signal m) h))

pub joined_extends : (one : Reached) (ms : List ℕ) → Extends one.gates (joined one ms).gates
unfolding joined
joined_extends one [] = extends_self one.gates
joined_extends one (m ∷ ms) =
    let next = with_gate one.gates (or_gate one.signal m) in
    extends_trans one.gates next.gates _ (with_gate_extends one.gates (or_gate one.signal m)) (joined_extends next ms)

-- ---- minterms that are there

extends_same : (a b : GateList) → Extends a b → length b.gates ≡ length a.gates → b ≡ a
extends_same a b x e =
    let make : ℕ → List Gate → GateList = λ inputs gates. record { inputs = inputs; gates = gates } in
    let none : x.more ≡ [] = empty x.more (omega (arith, e, ap length x.gates, length-append a.gates x.more)) in
    ap₂ make x.inputs (x.gates ∙ ap (λ more. a.gates ++ more) none ∙ append-nil a.gates)
  where
    empty : (xs : List Gate) → length xs ≡ 0 → xs ≡ []
    empty [] e = refl
    empty (g ∷ xs) e = absurd (omega arith)

-- whether to put the minterm of a code to the list appends no gate
pub is_done : GateList → ℕ → Bool
is_done list s = length (minterm list s (list.inputs - 2)).gates.gates == length list.gates

done_tells : (list : GateList) (s : ℕ) → IsTrue (is_done list s) → (minterm list s (list.inputs - 2)).gates ≡ list
unfolding is_done
done_tells list s t = extends_same list _ (minterm_extends list s (list.inputs - 2)) (eqb-true _ _ t)

tells_done : (list : GateList) (s : ℕ) → (minterm list s (list.inputs - 2)).gates ≡ list → IsTrue (is_done list s)
unfolding is_done
tells_done list s e = eq-eqb _ _ (ap (λ g. length g.gates) e)

done_behind : (list after : GateList) (s : ℕ) → Extends (minterm list s (list.inputs - 2)).gates after → after.inputs ≡ list.inputs → IsTrue (is_done after s)
done_behind list after s x inputs =
    tells_done after s (ap (λ n. (minterm after s (n - 2)).gates) inputs ∙ ap (λ r. r.gates) (minterm_again list after s (list.inputs - 2) x))

pub done_stays : (a b : GateList) → Extends a b → (s : ℕ) → IsTrue (is_done a s) → IsTrue (is_done b s)
done_stays a b x s t = done_behind a b s (subst (λ g. Extends g b) (sym (done_tells a s t)) x) x.inputs

-- the same of the code of a scenario, and of how many scenarios it holds
abbrev pub done_at : List ℕ → GateList → ℕ → Bool
done_at codes list s = is_done list (code_at codes s)

abbrev pub done_count : List ℕ → GateList → ℕ
done_count codes list = how_many (done_at codes list) (length codes)

-- gates over two inputs are counted by themselves, and the further ones by the minterms that are there and what joins them
pub record Bounded (codes : List ℕ) (list : GateList) (joins : ℕ) : Type 0 where
  pub holds : Holds list ((list.inputs - 2) * done_count codes list + joins)

-- further gates keep the minterms that are there
pub bounded_behind : (codes : List ℕ) (a b : GateList) (joins more : ℕ) → Extends a b → Holds b ((a.inputs - 2) * done_count codes a + joins + more) → Bounded codes b (joins + more)
bounded_behind codes a b joins more x h = record {
  holds =
      holds_more b _ _ (total (a.inputs - 2) (b.inputs - 2) (done_count codes a) (done_count codes b)
      (ap (λ k. k - 2) x.inputs) (more_pass (done_at codes a) (done_at codes b)
      (λ s. done_stays a b x (code_at codes s)) (length codes))) h;
}
  where
    total : (k l p q : ℕ) → l ≡ k → p ≤ q → k * p + joins + more ≤ l * q + (joins + more)
    total k l p q e m = rw e (omega (arith, mul-le-mul_left k m))

pub minterm_bounded : (codes : List ℕ) (list : GateList) (joins s : ℕ) → 2 ≤ list.inputs →
    IsCodeBelow codes (length codes) s → Bounded codes list joins →
    Bounded codes (minterm list s (list.inputs - 2)).gates joins
minterm_bounded codes list joins s two l h = elim (cases_Bool (is_done list s)) [
  | inl there ↦ subst (λ g. Bounded codes g joins) (sym (done_tells list s there)) h
  | inr new ↦
      let k = list.inputs - 2 in
      let after = (minterm list s k).gates in
      let x = minterm_extends list s k in
      let more = one_more_passes (done_at codes list) (done_at codes after) (λ i. done_stays list after x (code_at codes i)) (length codes) l.0 l.1 (ap (is_done list) l.2 ∙ new)
      (ap (is_done after) l.2 ∙ done_behind list after s (extends_self after) x.inputs) in
      record {
        holds =
            holds_more after _ _ (total k (after.inputs - 2) (done_count codes list) (done_count codes after)
            (ap (λ i. i - 2) x.inputs) more) (minterm_holds list (k * done_count codes list + joins) s k two h.holds);
      }
]
  where
    total : (k l p q : ℕ) → l ≡ k → p + 1 ≤ q → k * p + joins + k ≤ l * q + joins
    total k l p q e m = rw e (omega (arith, mul-le-mul_left k m))

pub minterms_bounded : (codes : List ℕ) (list : GateList) (joins : ℕ) (ss : List ℕ) → 2 ≤ list.inputs →
    AllByRecursion (IsCodeBelow codes (length codes)) ss → Bounded codes list joins →
    Bounded codes (minterms list ss).gates joins
unfolding minterms
minterms_bounded codes list joins [] two below h = h
minterms_bounded codes list joins (s ∷ ss) two below h =
    let one = minterm list s (list.inputs - 2) in
    minterms_bounded codes one.gates joins ss (omega (arith, (minterm_extends list s (list.inputs - 2)).inputs)) below.1 (minterm_bounded codes list joins s two below.0 h)

length-minterms : (list : GateList) (ss : List ℕ) → length (minterms list ss).signals ≡ length ss
unfolding minterms
length-minterms list [] = refl
length-minterms list (s ∷ ss) = omega (arith, length-minterms (minterm list s (list.inputs - 2)).gates ss)

pub sum_bounded : (codes : List ℕ) (list : GateList) (joins : ℕ) (ss : List ℕ) → 2 ≤ list.inputs →
    AllByRecursion (IsCodeBelow codes (length codes)) ss → Bounded codes list joins →
    Bounded codes (sum_of_minterms list ss).gates (joins + (length ss - 1))
unfolding sum_of_minterms
sum_bounded codes list joins [] two below h = record { holds = holds_more list _ _ (omega arith) h.holds }
sum_bounded codes list joins (s ∷ ss) two below h =
    let one = minterm list s (list.inputs - 2) in
    let others = minterms one.gates ss in
    let start = reached others.gates one.signal in
    let b = minterms_bounded codes one.gates joins ss (omega (arith, (minterm_extends list s (list.inputs - 2)).inputs)) below.1 (minterm_bounded codes list joins s two below.0 h) in
    let long : length others.signals ≡ length (s ∷ ss) - 1 = omega (arith, length-minterms one.gates ss) in
    subst (λ m. Bounded codes (joined start others.signals).gates (joins + m)) long
    (bounded_behind codes others.gates (joined start others.signals).gates joins (length others.signals) (joined_extends start others.signals) (joined_holds start _ others.signals b.holds))

pub pair_bounded : (codes : List ℕ) (list : GateList) (joins : ℕ) (gate : Gate) → gate.k < list.inputs → Bounded codes list joins → Bounded codes (with_gate list gate).gates (joins + 0)
pair_bounded codes list joins gate l h =
    let b = pair_holds list ((list.inputs - 2) * done_count codes list + joins) gate l h.holds in
    bounded_behind codes list (with_gate list gate).gates joins 0 (with_gate_extends list gate) (holds_more _ _ _ (omega arith) b)

-- ---- columns

bounded_more : (codes : List ℕ) (list : GateList) (a b : ℕ) → a ≤ b → Bounded codes list a → Bounded codes list b
bounded_more codes list a b l h = record { holds = holds_more list _ _ (omega (arith, l)) h.holds }

length-smaller : (codes : List ℕ) (column : List Bit3) → length (smaller_codes codes column) ≡ smaller_set column
length-smaller codes column = by (has_fewer_zeros column) refl
  where
    by : (b : Bool) → nat_lt (count_by is_zero column) (count_by is_one column) ≡ b →
        length (if b then codes_where is_zero codes column
        else codes_where is_one codes column) ≡ min (count_by is_one column) (count_by is_zero column)
    by true e = length-codes is_zero codes column ∙ least (count_by is_zero column) (count_by is_one column) e
      where
        least : (m n : ℕ) → nat_lt m n ≡ true → m ≡ min n m
        least m n e = grind (arith, nat_tests)
    by false e = length-codes is_one codes column ∙ least (count_by is_zero column) (count_by is_one column) e
      where
        least : (m n : ℕ) → nat_lt m n ≡ false → n ≡ min n m
        least m n e = grind (arith, nat_tests)

smaller_are_codes : (codes : List ℕ) (column : List Bit3) → length column ≡ length codes → AllByRecursion (IsCodeBelow codes (length codes)) (smaller_codes codes column)
smaller_are_codes codes column e = subst (λ n. AllByRecursion (IsCodeBelow codes n) (smaller_codes codes column)) e (by (has_fewer_zeros column))
  where
    by : (b : Bool) → AllByRecursion (IsCodeBelow codes (length column)) (if b then codes_where is_zero codes column else codes_where is_one codes column)
    by true = passing_codes (λ s. is_zero (entry_at column s)) codes (length column)
    by false = passing_codes (λ s. is_one (entry_at column s)) codes (length column)

pub takes_bounded : (codes : List ℕ) (before : GateList) (joins : ℕ) (column : List Bit3) → 1 ≤ before.inputs → IsColumnOnCodes codes before.inputs column → Bounded codes before joins →
    (after : GateList) (ref : Ref) (t : Takes codes before column after ref) → Bounded codes after (joins + joins_of codes before column after ref t)
takes_bounded codes before joins column some enc h after ref t = elim t as (λ u. Bounded codes after (joins + joins_of codes before column after ref u)) [
  | inl a ↦ subst (λ g. Bounded codes g (joins + 0)) (sym a.gates) (bounded_more codes before joins _ (omega arith) h)
  | inr u ↦ elim u as (λ w. Bounded codes after (joins + joins_of codes before column after ref (inr w))) [
    | inl b ↦ subst (λ g. Bounded codes g (joins + 0)) (sym b.gates) (pair_bounded codes before joins b.gate b.pair.in_range h)
    | inr c ↦
        let q = smaller_codes codes column in
        subst (λ g. Bounded codes g (joins + (smaller_set column - 1))) (sym c.gates) (subst (λ m. Bounded codes (sum_of_minterms before q).gates (joins + (m - 1))) (length-smaller codes column)
        (sum_bounded codes before joins q (two_inputs codes before.inputs column enc before refl some c.none) (smaller_are_codes codes column enc.is_open.entries) h))
  ]
]

pub takes_all_bounded : (codes : List ℕ) (before : GateList) (joins : ℕ) → IsGateList before → 1 ≤ before.inputs →
    Bounded codes before joins → (columns : List (List Bit3)) → All (IsColumnOnCodes codes before.inputs) columns →
    (after : GateList) (refs : List Ref) (t : TakesAll codes before columns after refs) → Bounded codes after (joins + all_joins codes before columns after refs t)
takes_all_bounded codes before joins ok some h [] enc after refs t = subst (λ g. Bounded codes g (joins + 0)) (sym t.0) (bounded_more codes before joins (joins + 0) (omega arith) h)
takes_all_bounded codes before joins ok some h (column ∷ columns) enc after refs t =
    let between = t.0 in
    let one = taken codes before column ok some (enc 0 column (omega arith)) between t.1 t.4 in
    let b = takes_bounded codes before joins column some (enc 0 column (omega arith)) h between t.1 t.4 in
    bounded_more codes after _ _ (omega arith)
    (takes_all_bounded codes between (joins + joins_of codes before column between t.1 t.4) one.gates
    (omega (arith, one.extends.inputs)) b columns
    (λ k d l. subst (λ i. IsColumnOnCodes codes i (slice_index_or columns k d)) (sym one.extends.inputs)
    (enc (suc k) d (omega arith))) after t.2 t.5)

-- ---- gates over two inputs

-- pairs of numbers by the greater, and then by the lower
stair : ℕ → ℕ
stair zero = 0
stair (suc k) = stair k + k

stair-le : (k m : ℕ) → k < m → stair k + k ≤ stair m
unfolding stair
stair-le k zero l = absurd (omega arith)
stair-le k (suc m) l = elim (cases_eq k m) [ inl same ↦ rw same (omega arith) | inr other ↦ omega (arith, stair-le k m (omega arith)) ]

stair-8 : stair 8 ≡ 28
unfolding stair
stair-8 = refl

-- the number of a gate over two of at most eight inputs
row_of : Gate → ℕ
row_of g = 16 * (stair g.k + g.j) + g.table

row-lt : (g : Gate) → g.j < g.k → g.k < 8 → g.table < 16 → row_of g < 448
unfolding row_of
row-lt g lower in_range table = omega (arith, stair-le g.k 8 in_range, stair-8)

same_row : (a b : Gate) → a.j < a.k → a.table < 16 → b.j < b.k → b.table < 16 → row_of a ≡ row_of b → b ≡ a
unfolding row_of
same_row a b la ta lb tb e =
    let step : stair a.k + a.j ≡ stair b.k + b.j = omega arith in
    let table : b.table ≡ a.table = omega arith in
    let k : b.k ≡ a.k = elim (cases_lt a.k b.k) [
      | inl less ↦ absurd (omega (arith, stair-le a.k b.k less))
      | inr not_less ↦ elim (cases_lt b.k a.k) [ inl less ↦ absurd (omega (arith, stair-le b.k a.k less)) | inr l ↦ omega arith ]
    ] in
    let j : b.j ≡ a.j = omega (arith, ap stair k) in
    let make : ℕ → ℕ → ℕ → Gate = λ x y z. record { j = x; k = y; table = z } in
    ap (λ x. make x b.k b.table) j ∙ ap (λ y. make a.j y b.table) k ∙ ap (make a.j a.k) table

-- whether the number is that of a gate over two inputs in the list
has_row : ℕ → List Gate → ℕ → Bool
has_row m [] i = false
has_row m (g ∷ gates) i = (nat_lt g.k m && (row_of g == i)) || has_row m gates i

row_not_there : (m n : ℕ) (g : Gate) (gates : List Gate) → g.j < g.k → g.table < 16 → AreGatesFrom n gates → AllByRecursion (λ x. same_gate g x ≡ false) gates → has_row m gates (row_of g) ≡ false
unfolding has_row
row_not_there m n g [] lower table ok differ = refl
row_not_there m n g (x ∷ gates) lower table ok differ =
    or_from _ _ (elim (cases_Bool (row_of x == row_of g)) [
      | inl t ↦ absurd (both_ways _ differ.0 (subst (λ y. same_gate g y ≡ true) (same_row x g ok.0 ok.2 lower table (eqb-true (row_of x) (row_of g) t)) (same_itself g)))
      | inr f ↦ and_right (nat_lt x.k m) (row_of x == row_of g) f
    ]) (row_not_there m (n + 1) g gates lower table ok.3 differ.1)

pairs_counted : (m n : ℕ) (gates : List Gate) → m ≤ 8 → AreGatesFrom n gates → NoneTwice gates → pair_gates m gates ≤ how_many (has_row m gates) 448
unfolding pair_gates has_row
pairs_counted m n [] l ok none = omega arith
pairs_counted m n (g ∷ gates) l ok none = by (nat_lt g.k m) refl (pairs_counted m (n + 1) gates l ok.3 none.1)
  where
    still : (i : ℕ) → IsTrue (has_row m gates i) → IsTrue (has_row m (g ∷ gates) i)
    still i t = or_right _ _ t

    by : (b : Bool) → nat_lt g.k m ≡ b → pair_gates m gates ≤ how_many (has_row m gates) 448 → (if b then 1 else 0) + pair_gates m gates ≤ how_many (has_row m (g ∷ gates)) 448
    by true e rest = omega (
      arith,
      rest,
      one_more_passes (has_row m gates) (has_row m (g ∷ gates)) still 448 (row_of g) (row-lt g ok.0 (omega (arith, ltb-true g.k m e)) ok.2)
          (row_not_there m (n + 1) g gates ok.0 ok.2 ok.3 none.0) (or_left _ _ (and_from (nat_lt g.k m) (row_of g == row_of g) e (eq-eqb (row_of g) (row_of g) refl))),
    )
    by false e rest = omega (arith, rest, more_pass (has_row m gates) (has_row m (g ∷ gates)) still 448)

-- ---- the whole

pub few_gates : (codes : List ℕ) (list : GateList) (joins : ℕ) → length codes ≤ 64 → IsGateList list → list.inputs ≤ 8 → Bounded codes list joins → length list.gates ≤ shared_gates + joins
few_gates codes list joins few ok eight h =
    let pairs : pair_gates list.inputs list.gates ≤ 448 =
    omega (
      arith,
      pairs_counted list.inputs list.inputs list.gates eight ok h.holds.none_twice,
      how_many-le (has_row list.inputs list.gates) 448,
    ) in
    omega (arith, pairs, pairs_and_others list.inputs list.gates, h.holds.few, product (list.inputs - 2) (done_count codes list) (omega arith) at_most)
  where
    at_most : done_count codes list ≤ 64
    at_most = omega (arith, few, how_many-le (done_at codes list) (length codes))

    product : (k m : ℕ) → k ≤ 6 → m ≤ 64 → k * m ≤ 384
    product k m a b = omega (arith, mul-le-mul_left k b)

pub nothing_bounded : (codes : List ℕ) (list : GateList) → list.gates ≡ [] → Bounded codes list 0
unfolding other_gates
nothing_bounded codes list none = record { holds = record { none_twice = subst NoneTwice (sym none) tt; few = omega (arith, ap (other_gates list.inputs) none) } }

-- the gates of columns that begin with none
pub whole_bounded : (codes : List ℕ) (before : GateList) → length codes ≤ 64 → before.gates ≡ [] → 1 ≤ before.inputs →
    before.inputs ≤ 8 → (columns : List (List Bit3)) → All (IsColumnOnCodes codes before.inputs) columns →
    (after : GateList) (refs : List Ref) (t : TakesAll codes before columns after refs) → length after.gates ≤ shared_gates + all_joins codes before columns after refs t
whole_bounded codes before few none some eight columns enc after refs t =
    let ok : IsGateList before = subst (AreGatesFrom before.inputs) (sym none) tt in
    let all = all_taken codes before ok some columns enc after refs t in
    let bound =
    few_gates codes after (0 + all_joins codes before columns after refs t) few all.gates
    (omega (arith, all.extends.inputs)) (takes_all_bounded codes before 0 ok some
    (nothing_bounded codes before none) columns enc after refs t) in
    omega (arith, bound)

-- where every column needed minterms, there would be as many
joins_are_few : (codes : List ℕ) (before : GateList) (columns : List (List Bit3)) (after : GateList) (refs : List Ref) (t : TakesAll codes before columns after refs) →
    all_joins codes before columns after refs t ≤ sum_by (λ column. smaller_set column - 1) columns
joins_are_few codes before [] after refs t = omega arith
joins_are_few codes before (column ∷ columns) after refs t = omega (
  arith,
  one (t.4),
  joins_are_few codes t.0 columns after t.2 t.5,
  sum_by-cons (λ c. smaller_set c - 1) column columns,
)
  where
    one : (u : Takes codes before column t.0 t.1) → joins_of codes before column t.0 t.1 u ≤ smaller_set column - 1
    one u = elim u as (λ w. joins_of codes before column t.0 t.1 w ≤ smaller_set column - 1) [
      | inl a ↦ omega arith
      | inr w ↦ elim w as (λ x. joins_of codes before column t.0 t.1 (inr x) ≤ smaller_set column - 1) [ inl b ↦ omega arith | inr c ↦ omega arith ]
    ]

-- so at most 2 ^ 24 columns leave room for one more among the signals of 32-bit numbers
pub few_in_all : (codes : List ℕ) (before : GateList) → length codes ≤ 64 → before.gates ≡ [] → 1 ≤ before.inputs →
    before.inputs ≤ 8 → (columns : List (List Bit3)) → All (IsColumnOnCodes codes before.inputs) columns →
    length columns ≤ 16777216 →
    (after : GateList) (refs : List Ref) → TakesAll codes before columns after refs → length after.gates < 2 ^ 30
few_in_all codes before few none some eight columns enc l after refs t = omega (
  arith,
  l,
  whole_bounded codes before few none some eight columns enc after refs t,
  joins_are_few codes before columns after refs t,
  sum_by-le (λ column. smaller_set column - 1) 63 columns (λ k d m. small (slice_index_or columns k d) (omega (arith, (enc k d m).few, (enc k d m).is_open.entries))),
)
  where
    small : (column : List Bit3) → length column ≤ 64 → smaller_set column - 1 ≤ 63
    small column m = omega (arith, m, count_by-le-length is_one column)

pub few_by_smaller : (codes : List ℕ) (bits : ℕ) (columns : List (List Bit3)) (e : FirstEncoding) → IsFirstEncoding codes bits columns e → HasFewGates codes bits columns e →
    length e.gates.gates ≤ shared_gates + sum_by (λ column. smaller_set column - 1) columns
few_by_smaller codes bits columns e first few =
    let start : GateList = record { inputs = bits; gates = [] } in
    let made : length e.gates.gates ≤ shared_gates + all_joins codes start columns e.gates e.refs first.refs = few first in
    omega (arith, made, joins_are_few codes start columns e.gates e.refs first.refs)
