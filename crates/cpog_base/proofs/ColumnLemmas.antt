-- What each step on the words of a column does to the column.
use Rattle.std.proofs.Common.{◌≡◌, ℕ, zero, suc, ◌/◌, ◌%◌, ◌^◌, ◌<◌, ◌≤◌, ◌==◌, Bool, true, false, not, ◌||◌, if◌then◌else◌, IsTrue, List, [], ◌∷◌, length, replicate, slice_get, slice_set, get_or, Some, nat_eq, refl, sym, ap, ◌∙◌, inl, inr, arith, ◌≢◌}
use Rattle.std.specs.List.{list_any}
use Rattle.std.proofs.lemmas.List.Folds.{list_any-append}
use Rattle.std.proofs.lemmas.Bool.{or_cases, ne_eqb, cases_Bool, cases_eq, both_ways, eq-eqb}
use Rattle.std.proofs.lemmas.Bool.Decides.{nat_tests}
use Rattle.std.proofs.Math.Nat.{one-le-pow}
use Rattle.std.proofs.lemmas.List.{same_lists, get_or-replicate, get_or-set_same, get_or-set_other, length-replicate}
use Rattle.std.proofs.Math.ListN.{length-set}
use Rattle.std.proofs.lemmas.Option.{slice_get-get_or}
use Rattle.std.proofs.lemmas.Nat.Bits.{bit_at-lt, bit_at-zero, same_from_bits_below}
use denote.Enum.Bare.{sameb}
use Rattle.cpog_defs.specs.contracts.types.Bit3.{the_type}
use Rattle.cpog_defs.specs.Codes.{bit}
use Rattle.cpog_defs.specs.declared.types.Bit3.{Bit3}
use Rattle.cpog_defs.specs.declared.types.Bit3.TheVariants.{Zero, One, Free}
use Rattle.cpog_base.specs.Column.{is_one, is_zero, entry_of, entries, AreWords}
use Rattle.cpog_base.specs.ColumnLaws.{length-entries, get-entries}

abbrev entry : Bool → Bool → Bit3
entry o z = if o then One else (if z then Zero else Free)

-- ---- some entry

module _ (p : Bit3 → Bool) (w ones zeros : ℕ) (is : (i : ℕ) → p (entry_of ones zeros i) ≡ bit w i) where
  any_none : (n : ℕ) → list_any p (entries n ones zeros) ≡ false → (i : ℕ) → i < n → bit w i ≡ false
  unfolding entries
  any_none zero h i l = absurd (omega arith)
  any_none (suc n) h i l =
      let e = sym (list_any-append p (entries n ones zeros) (entry_of ones zeros n ∷ [])) ∙ h in
      let s = split (list_any p (entries n ones zeros)) (p (entry_of ones zeros n)) e in
      elim (cases_eq i n) [ inl same ↦ rw same (sym (is n) ∙ s.1) | inr other ↦ any_none n s.0 i (omega arith) ]
    where
      split : (a b : Bool) → (a || (b || false)) ≡ false → (a ≡ false) × (b ≡ false)
      split true b h = absurd (both_ways _ h refl)
      split false true h = absurd (both_ways _ h refl)
      split false false h = (refl, refl)

  any_some : (n : ℕ) → IsTrue (list_any p (entries n ones zeros)) → (i : ℕ) × IsTrue (bit w i)
  unfolding entries
  any_some zero h = absurd (both_ways false refl h)
  any_some (suc n) h =
      elim (or_cases _ _ (sym (list_any-append p (entries n ones zeros) (entry_of ones zeros n ∷ [])) ∙ h)) [
        | inl a ↦ any_some n a
        | inr b ↦ (n, sym (is n) ∙ alone (p (entry_of ones zeros n)) b)
      ]
    where
      alone : (b : Bool) → IsTrue (b || false) → IsTrue b
      alone true h = refl
      alone false h = h

  pub any_tells : (n : ℕ) → w < 2 ^ n → not (nat_eq w 0) ≡ list_any p (entries n ones zeros)
  any_tells n l = elim (cases_Bool (list_any p (entries n ones zeros))) [
    | inl t ↦
        let s = any_some n t in
        rw t (ap not (ne_eqb w 0 (λ z. both_ways _ (ap (λ k. k / 2 ^ s.0 % 2 == 1) z ∙ ap (λ k. k == 1) (bit_at-zero s.0)) s.1)))
    | inr f ↦ rw f (ap not (eq-eqb w 0 (same_from_bits_below n w 0 l (omega (arith, l)) (λ i m. zero_bit (w / 2 ^ i % 2) (bit_at-lt w i) (any_none n f i m) ∙ sym (bit_at-zero i)))))
  ]
    where
      zero_bit : (b : ℕ) → b < 2 → (b == 1) ≡ false → b ≡ 0
      zero_bit b l h = grind (arith, nat_tests)

one_of : (a b : Bool) → is_one (entry a b) ≡ a
one_of true b = refl
one_of false true = refl
one_of false false = refl

zero_of : (a b : Bool) → (IsTrue a → b ≡ false) → is_zero (entry a b) ≡ b
zero_of true b h = sym (h refl)
zero_of false true h = refl
zero_of false false h = refl

pub has_one_tells : (n ones zeros : ℕ) → AreWords n ones zeros → not (nat_eq ones 0) ≡ list_any is_one (entries n ones zeros)
has_one_tells n ones zeros h = any_tells is_one ones ones zeros (λ i. one_of (bit ones i) (bit zeros i)) n h.ones_below

pub has_zero_tells : (n ones zeros : ℕ) → AreWords n ones zeros → not (nat_eq zeros 0) ≡ list_any is_zero (entries n ones zeros)
has_zero_tells n ones zeros h = any_tells is_zero zeros ones zeros (λ i. zero_of (bit ones i) (bit zeros i) (h.apart i)) n h.zeros_below

-- ---- one entry

-- the derived test for 1
pub one_is : (b : Bit3) → sameb the_type b One ≡ is_one b
one_is One = refl
one_is Zero = refl
one_is Free = refl

-- the derived test for 0
pub zero_is : (b : Bit3) → sameb the_type b Zero ≡ is_zero b
zero_is One = refl
zero_is Zero = refl
zero_is Free = refl

pub no_entries : (n : ℕ) → entries n 0 0 ≡ replicate n Free
no_entries n = same_lists (entries n 0 0) (replicate n Free) (length-entries n 0 0 ∙ sym (length-replicate n Free))
    (λ k d l. let m : k < n = omega (arith, length-entries n 0 0) in
    get-entries n 0 0 k d m ∙ rw (bit_at-zero k) (sym (get_or-replicate n k Free d m)))

pub no_words : (n : ℕ) → n ≤ 64 → AreWords n 0 0
no_words n few = record {
  few = few;
  ones_below = one-le-pow n 2 (omega arith);
  zeros_below = one-le-pow n 2 (omega arith);
  apart = λ i _. ap (λ b. b == 1) (bit_at-zero i);
}

pub read_entry : (n ones zeros s : ℕ) (xs : List Bit3) → entries n ones zeros ≡ xs → s < length xs → slice_get xs s ≡ Some (entry_of ones zeros s)
read_entry n ones zeros s xs is l =
    let m : s < n = omega (arith, ap length is, length-entries n ones zeros) in
    slice_get-get_or xs s Free l ∙ ap Some (ap (λ ys. get_or ys s Free) (sym is) ∙ get-entries n ones zeros s Free m)

-- the words whose bit at s says this entry, and whose others are as before
module _ (n ones zeros ones_after zeros_after s : ℕ) (b : Bit3) (h : AreWords n ones zeros) (l : s < n)
    (one_is : bit ones_after s ≡ is_one b) (ones_kept : (k : ℕ) → k ≢ s → bit ones_after k ≡ bit ones k)
    (zero_is : bit zeros_after s ≡ is_zero b) (zeros_kept : (k : ℕ) → k ≢ s → bit zeros_after k ≡ bit zeros k) where
  never_both : (e : Bit3) → IsTrue (is_one e) → is_zero e ≡ false
  never_both One t = refl
  never_both Zero t = absurd (both_ways _ refl t)
  never_both Free t = refl

  pub words_after : ones_after < 2 ^ n → zeros_after < 2 ^ n → AreWords n ones_after zeros_after
  words_after ones_below zeros_below = record {
    few = h.few;
    ones_below = ones_below;
    zeros_below = zeros_below;
    apart = λ i t. elim (cases_eq i s) [
      | inl same ↦ rw same (zero_is ∙ never_both b (sym one_is ∙ ap (bit ones_after) (sym same) ∙ t))
      | inr other ↦ zeros_kept i other ∙ h.apart i (sym (ones_kept i other) ∙ t)
    ];
  }

  as_said : (e : Bit3) → entry (is_one e) (is_zero e) ≡ e
  as_said One = refl
  as_said Zero = refl
  as_said Free = refl

  pub entries_after : entries n ones_after zeros_after ≡ slice_set (entries n ones zeros) s b
  entries_after =
      let xs : List Bit3 = entries n ones zeros in
      let size : length xs ≡ n = length-entries n ones zeros in
      same_lists (entries n ones_after zeros_after) (slice_set xs s b) (length-entries n ones_after zeros_after ∙ sym size ∙ sym (length-set xs s b))
      (λ k d m. let in_n : k < n = omega (arith, length-entries n ones_after zeros_after) in
      get-entries n ones_after zeros_after k d in_n ∙ elim (cases_eq k s) [
        | inl same ↦ let in_xs : s < length xs = omega arith in
            rw (same, one_is, zero_is) (as_said b ∙ sym (get_or-set_same xs s b d in_xs))
        | inr other ↦ rw (ones_kept k other, zeros_kept k other) (sym (get_or-set_other xs s k b d other ∙ get-entries n ones zeros k d in_n))
      ])
