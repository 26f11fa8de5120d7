-- Columns have one first encoding.
use Rattle.std.proofs.Common.{◌≡◌, ◌↔◌, ℕ, zero, suc, ◌/◌, ◌%◌, ◌^◌, ◌<◌, ◌==◌, Bool, true, false, IsTrue, List, [], ◌∷◌, refl, sym, ap, ap₂, ◌∙◌, subst, inl, inr, arith}
use Rattle.std.proofs.lemmas.Bool.{cases_lt, both_ways}
use Rattle.std.proofs.lemmas.Bool.Decides.{nat_tests}
use Rattle.std.proofs.lemmas.Nat.Bits.{same_from_bits_below, bit_at-lt}
use Rattle.cpog_defs.specs.declared.types.Bit3.{Bit3}
use Rattle.cpog_defs.specs.declared.types.Gate.{Gate}
use Rattle.cpog_defs.specs.declared.types.Ref.{Ref}
use Rattle.cpog_defs.specs.declared.types.Ref.TheVariants.{Signal}
use Rattle.cpog_defs.specs.Codes.{bit}
use Rattle.cpog_defs.specs.Gates.{GateList, gate_value}
use Rattle.gate_core.specs.First.{with_gate, IsFirstSignal, IsAskedAt, IsFirstPairOfInputs, IsBySignal, IsByPair, IsByMinterms, Takes, TakesAll, FirstEncoding, IsFirstEncoding}

-- ---- signals

first_number : (gates : GateList) (codes : List ℕ) (column : List Bit3) (m n : ℕ) (a b : Bool) → IsFirstSignal gates codes column m a → IsFirstSignal gates codes column n b → m ≡ n
first_number gates codes column m n a b x y = elim (cases_lt m n) [
  | inl l ↦ absurd (y.first m a l x.agrees)
  | inr l ↦ elim (cases_lt n m) [ inl k ↦ absurd (x.first n b k y.agrees) | inr k ↦ omega arith ]
]

first_sign : (gates : GateList) (codes : List ℕ) (column : List Bit3) (n : ℕ) (a b : Bool) → IsFirstSignal gates codes column n a → IsFirstSignal gates codes column n b → a ≡ b
first_sign gates codes column n true true x y = refl
first_sign gates codes column n true false x y = absurd (x.upright_first refl y.agrees)
first_sign gates codes column n false true x y = absurd (y.upright_first refl x.agrees)
first_sign gates codes column n false false x y = refl

-- ---- pairs

same_tests : (x y : Bool) (P : Type 0) → IsTrue x ↔ P → IsTrue y ↔ P → x ≡ y
same_tests true true P h k = refl
same_tests true false P h k = absurd (both_ways _ refl (k.1 (h.0 refl)))
same_tests false true P h k = absurd (both_ways _ refl (h.1 (k.0 refl)))
same_tests false false P h k = refl

-- a table of four rows is what it is at each of them
same_table : (a b : ℕ) → a < 16 → b < 16 → ((p q : Bool) → gate_value a p q ≡ gate_value b p q) → a ≡ b
same_table a b la lb h = same_from_bits_below 4 a b la lb (λ i l. same_bit (a / 2 ^ i % 2) (b / 2 ^ i % 2) (bit_at-lt a i) (bit_at-lt b i) (at i l))
  where
    same_bit : (x y : ℕ) → x < 2 → y < 2 → (x == 1) ≡ (y == 1) → x ≡ y
    same_bit x y l m e = grind (arith, nat_tests)

    at : (i : ℕ) → i < 4 → bit a i ≡ bit b i
    at zero l = h false false
    at (suc zero) l = h false true
    at (suc (suc zero)) l = h true false
    at (suc (suc (suc zero))) l = h true true
    at (suc (suc (suc (suc i)))) l = absurd (omega arith)

first_gate : (inputs : ℕ) (codes : List ℕ) (column : List Bit3) (a b : Gate) → IsFirstPairOfInputs inputs codes column a → IsFirstPairOfInputs inputs codes column b → a ≡ b
first_gate inputs codes column a b x y =
    let make : ℕ → ℕ → ℕ → Gate = λ j k table. record { j = j; k = k; table = table } in
    let at : (p q : Bool) → gate_value a.table p q ≡ gate_value b.table p q =
    λ p q. same_tests (gate_value a.table p q) (gate_value b.table p q) (IsAskedAt codes column a.j a.k p q)
    (x.table p q) (subst (λ j. IsTrue (gate_value b.table p q) ↔ IsAskedAt codes column j a.k p q) (sym same_j)
    (subst (λ k. IsTrue (gate_value b.table p q) ↔ IsAskedAt codes column b.j k p q) (sym same_k) (y.table p q))) in
    ap (λ j. make j a.k a.table) same_j ∙ ap (λ k. make b.j k a.table) same_k ∙ ap (make b.j b.k) (same_table a.table b.table x.few_rows y.few_rows at)
  where
    same_j : a.j ≡ b.j
    same_j = elim (cases_lt a.j b.j) [
      | inl l ↦ absurd (y.first a.j a.k x.lower x.in_range (inl l) x.tells)
      | inr l ↦ elim (cases_lt b.j a.j) [ inl m ↦ absurd (x.first b.j b.k y.lower y.in_range (inl m) y.tells) | inr m ↦ omega arith ]
    ]

    same_k : a.k ≡ b.k
    same_k = elim (cases_lt a.k b.k) [
      | inl l ↦ absurd (y.first a.j a.k x.lower x.in_range (inr (same_j, l)) x.tells)
      | inr l ↦ elim (cases_lt b.k a.k) [ inl m ↦ absurd (x.first b.j b.k y.lower y.in_range (inr (sym same_j, m)) y.tells) | inr m ↦ omega arith ]
    ]

-- ---- one column

module _ (codes : List ℕ) (before : GateList) (column : List Bit3) (x y : GateList) (r s : Ref) where
  signals_once : IsBySignal codes before column x r → IsBySignal codes before column y s → (x ≡ y) × (r ≡ s)
  signals_once a b =
      let number = first_number before codes column a.number b.number a.negated b.negated a.signal b.signal in
      let sign = first_sign before codes column b.number a.negated b.negated (subst (λ n. IsFirstSignal before codes column n a.negated) number a.signal) b.signal in
      (a.gates ∙ sym b.gates, a.reference ∙ ap₂ (λ n negated. Signal n negated) number sign ∙ sym b.reference)

  pairs_once : IsByPair codes before column x r → IsByPair codes before column y s → (x ≡ y) × (r ≡ s)
  pairs_once a b =
      let gate = first_gate before.inputs codes column a.gate b.gate a.pair b.pair in
      (a.gates ∙ ap (λ g. (with_gate before g).gates) gate ∙ sym b.gates, a.reference ∙ ap (λ g. Signal (with_gate before g).signal false) gate ∙ sym b.reference)

  minterms_once : IsByMinterms codes before column x r → IsByMinterms codes before column y s → (x ≡ y) × (r ≡ s)
  minterms_once a b = (a.gates ∙ sym b.gates, a.reference ∙ sym b.reference)

  pub takes_once : Takes codes before column x r → Takes codes before column y s → (x ≡ y) × (r ≡ s)
  takes_once a b = elim a [
    | inl signal ↦ elim b [
      | inl other ↦ signals_once signal other
      | inr rest ↦ elim rest [
        | inl pair ↦ absurd (pair.none signal.number signal.negated signal.signal.in_range signal.signal.agrees)
        | inr minterms ↦ absurd (minterms.none signal.number signal.negated signal.signal.in_range signal.signal.agrees)
      ]
    ]
    | inr first ↦ elim b [
      | inl signal ↦ elim first [
        | inl pair ↦ absurd (pair.none signal.number signal.negated signal.signal.in_range signal.signal.agrees)
        | inr minterms ↦ absurd (minterms.none signal.number signal.negated signal.signal.in_range signal.signal.agrees)
      ]
      | inr second ↦ elim first [
        | inl pair ↦ elim second [
          | inl other ↦ pairs_once pair other
          | inr minterms ↦ absurd (minterms.no_pair pair.gate.j pair.gate.k pair.pair.lower pair.pair.in_range pair.pair.tells)
        ]
        | inr minterms ↦ elim second [
          | inl pair ↦ absurd (minterms.no_pair pair.gate.j pair.gate.k pair.pair.lower pair.pair.in_range pair.pair.tells)
          | inr other ↦ minterms_once minterms other
        ]
      ]
    ]
  ]

-- ---- columns in order

pub takes_all_once : (codes : List ℕ) (before : GateList) (columns : List (List Bit3)) (x y : GateList)
    (r s : List Ref) → TakesAll codes before columns x r → TakesAll codes before columns y s → (x ≡ y) × (r ≡ s)
takes_all_once codes before [] x y r s a b = (a.0 ∙ sym b.0, a.1 ∙ sym b.1)
takes_all_once codes before (column ∷ columns) x y r s a b =
    let here = takes_once codes before column a.0 b.0 a.1 b.1 a.4 b.4 in
    let rest = takes_all_once codes a.0 columns x y a.2 b.2 a.5 (subst (λ g. TakesAll codes g columns y b.2) (sym here.0) b.5) in
    (rest.0, a.3 ∙ ap₂ (λ ref refs. ref ∷ refs) here.1 rest.1 ∙ sym b.3)

pub first_encodings_are_one : (codes : List ℕ) (bits : ℕ) (columns : List (List Bit3)) (a b : FirstEncoding) → IsFirstEncoding codes bits columns a → IsFirstEncoding codes bits columns b → a ≡ b
first_encodings_are_one codes bits columns a b x y =
    let make : List ℕ → GateList → List Ref → FirstEncoding = λ codes gates refs. record { codes = codes; gates = gates; refs = refs } in
    let rest = takes_all_once codes (record { inputs = bits; gates = [] }) columns a.gates b.gates a.refs b.refs x.refs y.refs in
    ap (λ c. make c a.gates a.refs) (x.same_codes ∙ sym y.same_codes) ∙ ap₂ (make b.codes) rest.0 rest.1
