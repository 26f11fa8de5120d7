-- Tables of gates over two words, by the scenarios that these tell apart.
use Rattle.std.proofs.Common.{◌≡◌, ◌≢◌, ◌↔◌, ℕ, zero, suc, ◌+◌, ◌*◌, ◌/◌, ◌%◌, ◌^◌, ◌<◌, ◌==◌, ◌⊎◌, Bool, true, false, ◌||◌, if◌then◌else◌, IsTrue, bit_and, bit_or, refl, sym, ap, ◌∙◌, subst, inl, inr, arith}
use Rattle.std.specs.Int.{w64, bit_not}
use Rattle.std.proofs.lemmas.Bool.{cases_eq, both_ways, cases_Bool, or_cases, or_left, or_right, and_parts, and_from, not-true, not_from_false}
use Rattle.std.proofs.lemmas.Nat.{or_lt, and_le_l}
use Rattle.std.proofs.lemmas.Bool.Decides.{nat_tests}
use Rattle.std.proofs.Math.Pow.{pow-lt}
use Rattle.std.proofs.lemmas.Nat.Bits.{bit_at-pow_same, bit_at-pow_other, same_from_bits_below, bit_at-lt, bit_at-zero}
use Rattle.cpog_defs.specs.Codes.{bit}
use Rattle.cpog_defs.specs.Gates.{gate_value}
use Rattle.gate_core.specs.Words.{AreApart, IsTableOf}
use Rattle.cpog_base.specs.BitLaws.{bit-and, bit-or, bit-not, bit-zero}
use Rattle.gate_core.proofs.WordLemmas.{below_64}

-- ---- one row

-- a table that is 1 at this row alone, and that only where a word has a bit
abbrev pub IsRow : ℕ → ℕ → ℕ → Type 0
IsRow number word row = (r : ℕ) → IsTrue (bit row r) ↔ ((r ≡ number) × (s : ℕ) × IsTrue (bit word s))

one_row : (n : ℕ) → n < 4 → 1 * 2 ^ n % 256 ≡ 2 ^ n
one_row n l = let p : 2 ^ n < 2 ^ 4 = pow-lt l in omega arith

pub row-lt : (n : ℕ) → n < 4 → 1 * 2 ^ n % 256 < 16
row-lt n l = let p : 2 ^ n < 2 ^ 4 = pow-lt l in omega (arith, one_row n l)

some_bit : (word : ℕ) → word < 2 ^ 64 → word ≢ 0 → (s : ℕ) × IsTrue (bit word s)
some_bit word l other = elim (find 64) [
  | inl found ↦ found
  | inr none ↦ absurd (other (same_from_bits_below 64 word 0 l (omega arith) (λ i m. zero_bit (word / 2 ^ i % 2) (bit_at-lt word i) (none i m) ∙ sym (bit_at-zero i))))
]
  where
    zero_bit : (b : ℕ) → b < 2 → (b == 1) ≡ false → b ≡ 0
    zero_bit b l h = grind (arith, nat_tests)

    find : (n : ℕ) → ((s : ℕ) × IsTrue (bit word s)) ⊎ ((i : ℕ) → i < n → bit word i ≡ false)
    find zero = inr (λ i m. absurd (omega arith))
    find (suc n) = elim (cases_Bool (bit word n)) [
      | inl t ↦ inl (n, t)
      | inr f ↦ elim (find n) [
        | inl found ↦ inl found
        | inr none ↦ inr (λ i m. elim (cases_eq i n) [ inl same ↦ rw same f | inr other ↦ none i (omega arith) ])
      ]
    ]

pub is_row : (n word : ℕ) → n < 4 → word < 2 ^ 64 → word ≢ 0 → IsRow n word (1 * 2 ^ n % 256)
is_row n word l m other r = (
  λ t. let s = some_bit word m other in (at_n t, s.0, s.1),
  λ h. rw (h.0, one_row n l) (ap (λ b. b == 1) (bit_at-pow_same n)),
)
  where
    at_n : IsTrue (bit (1 * 2 ^ n % 256) r) → r ≡ n
    at_n t = elim (cases_eq r n) [
      | inl same ↦ same
      | inr different ↦ absurd (both_ways _ (ap (λ k. bit k r) (one_row n l) ∙ ap (λ b. b == 1) (bit_at-pow_other n r different)) t)
    ]

-- ---- four rows

-- a word, or its complement
abbrev pub side : Bool → ℕ → ℕ
side true a = a
side false a = bit_not w64 a

-- the scenarios of a word with these bits in two further words
abbrev pub cell : ℕ → ℕ → ℕ → Bool → Bool → ℕ
cell word first second p q = bit_and (bit_and word (side p first)) (side q second)

side_has : (p : Bool) (a s : ℕ) → a < 2 ^ 64 → s < 64 → IsTrue (bit (side p a) s) ↔ (bit a s ≡ p)
side_has true a s l m = (λ t. t, λ t. t)
side_has false a s l m = (λ t. not-true (bit a s) (sym (bit-not w64 a s l m) ∙ t), λ f. bit-not w64 a s l m ∙ not_from_false (bit a s) f)

module _ (word first second : ℕ) (lw : word < 2 ^ 64) (lf : first < 2 ^ 64) (ls : second < 2 ^ 64) where
  cell_has : (p q : Bool) (s : ℕ) → IsTrue (bit (cell word first second p q) s) → IsTrue (bit word s) × (bit first s ≡ p) × (bit second s ≡ q)
  cell_has p q s t =
      let outer = and_parts _ _ (sym (bit-and (bit_and word (side p first)) (side q second) s) ∙ t) in
      let inner = and_parts _ _ (sym (bit-and word (side p first) s) ∙ outer.0) in
      let m = below_64 word s lw inner.0 in
      (inner.0, (side_has p first s lf m).0 inner.1, (side_has q second s ls m).0 outer.1)

  has_cell : (p q : Bool) (s : ℕ) → IsTrue (bit word s) → bit first s ≡ p → bit second s ≡ q → IsTrue (bit (cell word first second p q) s)
  has_cell p q s t is_p is_q =
      let m = below_64 word s lw t in
      bit-and (bit_and word (side p first)) (side q second) s
      ∙ and_from _ _ (bit-and word (side p first) s ∙ and_from _ _ t ((side_has p first s lf m).1 is_p)) ((side_has q second s ls m).1 is_q)

  -- the cell of a row
  abbrev cell_at : ℕ → ℕ
  cell_at zero = cell word first second false false
  cell_at (suc zero) = cell word first second false true
  cell_at (suc (suc zero)) = cell word first second true false
  cell_at (suc (suc (suc n))) = cell word first second true true

  module _ (a b c d : ℕ) (ra : IsRow 0 (cell_at 0) a) (rb : IsRow 1 (cell_at 1) b) (rc : IsRow 2 (cell_at 2) c) (rd : IsRow 3 (cell_at 3) d) where
    abbrev whole : ℕ
    whole = bit_or (bit_or (bit_or a b) c) d

    whole_bits : (n : ℕ) → bit whole n ≡ (((bit a n || bit b n) || bit c n) || bit d n)
    whole_bits n = bit-or (bit_or (bit_or a b) c) d n ∙ ap (λ x. x || bit d n) (bit-or (bit_or a b) c n ∙ ap (λ x. x || bit c n) (bit-or a b n))

    in_row : (i n : ℕ) → ((n ≡ i) × (s : ℕ) × IsTrue (bit (cell_at i) s)) → (s : ℕ) × IsTrue (bit (cell_at n) s)
    in_row i n h = (h.1, subst (λ k. IsTrue (bit (cell_at k) h.1)) (sym h.0) h.2)

    from_whole : (n : ℕ) → IsTrue (bit whole n) → (s : ℕ) × IsTrue (bit (cell_at n) s)
    from_whole n t = elim (or_cases _ _ (sym (whole_bits n) ∙ t)) [
      | inr at_d ↦ in_row 3 n ((rd n).0 at_d)
      | inl t ↦ elim (or_cases _ _ t) [
        | inr at_c ↦ in_row 2 n ((rc n).0 at_c)
        | inl t ↦ elim (or_cases _ _ t) [
          | inr at_b ↦ in_row 1 n ((rb n).0 at_b)
          | inl at_a ↦ in_row 0 n ((ra n).0 at_a)
        ]
      ]
    ]

    rows_of_whole : (p q : Bool) → IsTrue (gate_value whole p q) ↔ ((s : ℕ) × IsTrue (bit word s) × (bit first s ≡ p) × (bit second s ≡ q))
    rows_of_whole p q = (λ t. from p q t, λ h. to p q h.0 (has_cell p q h.0 h.1 h.2 h.3))
      where
        found : (p q : Bool) (h : (s : ℕ) × IsTrue (bit (cell word first second p q) s)) → (s : ℕ) × IsTrue (bit word s) × (bit first s ≡ p) × (bit second s ≡ q)
        found p q h = let c = cell_has p q h.0 h.1 in (h.0, c.0, c.1, c.2)

        from : (p q : Bool) → IsTrue (gate_value whole p q) → (s : ℕ) × IsTrue (bit word s) × (bit first s ≡ p) × (bit second s ≡ q)
        from false false t = found false false (from_whole 0 t)
        from false true t = found false true (from_whole 1 t)
        from true false t = found true false (from_whole 2 t)
        from true true t = found true true (from_whole 3 t)

        to : (p q : Bool) (s : ℕ) → IsTrue (bit (cell word first second p q) s) → IsTrue (gate_value whole p q)
        to false false s t = whole_bits 0 ∙ or_left _ _ (or_left _ _ (or_left _ _ ((ra 0).1 (refl, s, t))))
        to false true s t = whole_bits 1 ∙ or_left _ _ (or_left _ _ (or_right _ _ ((rb 1).1 (refl, s, t))))
        to true false s t = whole_bits 2 ∙ or_left _ _ (or_right _ _ ((rc 2).1 (refl, s, t)))
        to true true s t = whole_bits 3 ∙ or_right _ _ ((rd 3).1 (refl, s, t))

    pub is_table : a < 16 → b < 16 → c < 16 → d < 16 → IsTableOf whole word first second
    is_table la lb lc ld = record {
      few_rows = or_lt 4 (bit_or (bit_or a b) c) d (or_lt 4 (bit_or a b) c (or_lt 4 a b la lb) lc) ld;
      rows = rows_of_whole;
    }

-- ---- two tables

row_number : (n : ℕ) → n < 4 → (p : Bool) × (q : Bool) × ((table : ℕ) → gate_value table p q ≡ bit table n)
row_number zero l = (false, false, λ table. refl)
row_number (suc zero) l = (false, true, λ table. refl)
row_number (suc (suc zero)) l = (true, false, λ table. refl)
row_number (suc (suc (suc zero))) l = (true, true, λ table. refl)
row_number (suc (suc (suc (suc n)))) l = absurd (omega arith)

-- tables without a common row are of scenarios that are told apart, and the other way round
module _ (ones zeros first second a b : ℕ) (ta : IsTableOf a ones first second) (tb : IsTableOf b zeros first second) where
  pub apart_from : bit_and a b ≡ 0 → AreApart ones zeros first second
  apart_from none s t is_one is_zero same_first same_second =
      common (bit first s) (bit second s) ((ta.rows (bit first s) (bit second s)).1 (s, is_one, refl, refl)) ((tb.rows (bit first s) (bit second s)).1 (t, is_zero, sym same_first, sym same_second))
    where
      common : (p q : Bool) → IsTrue (gate_value a p q) → IsTrue (gate_value b p q) → ⊥
      common p q ha hb =
          let r = 2 * (if p then 1 else 0) + (if q then 1 else 0) in
          both_ways _ (ap (λ n. bit n r) none ∙ bit-zero r) (bit-and a b r ∙ and_from _ _ ha hb)

  pub from_apart : AreApart ones zeros first second → bit_and a b ≡ 0
  from_apart apart = same_from_bits_below 4 (bit_and a b) 0 (omega (arith, and_le_l a b, ta.few_rows)) (omega arith)
      (λ i m. zero_bit (bit_and a b / 2 ^ i % 2) (bit_at-lt (bit_and a b) i) (no_bit i m) ∙ sym (bit_at-zero i))
    where
      zero_bit : (b : ℕ) → b < 2 → (b == 1) ≡ false → b ≡ 0
      zero_bit b l h = grind (arith, nat_tests)

      no_bit : (i : ℕ) → i < 4 → bit (bit_and a b) i ≡ false
      no_bit i m = elim (cases_Bool (bit (bit_and a b) i)) [
        | inr f ↦ f
        | inl t ↦
            let row = row_number i m in
            let both = and_parts _ _ (sym (bit-and a b i) ∙ t) in
            let one = (ta.rows row.0 row.1).0 (row.2 a ∙ both.0) in
            let nil = (tb.rows row.0 row.1).0 (row.2 b ∙ both.1) in
            absurd (apart one.0 nil.0 one.1 nil.1 (one.2 ∙ sym nil.2) (one.3 ∙ sym nil.3))
      ]
