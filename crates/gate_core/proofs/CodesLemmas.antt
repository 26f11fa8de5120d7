-- Lists that agree are codes with the given bits, and the other way round.
use Rattle.std.proofs.Common.{zero, suc, ◌≤◌, ◌∷◌, length-append, refl, ◌≡◌, ℕ, ◌^◌, ◌<◌, List, [], length, get_or, sym, ◌∙◌, subst, inl, inr, arith}
use Rattle.std.proofs.lemmas.Bool.{cases_lt, cases_eq}
use Rattle.std.proofs.lemmas.Grind.{get_or_default_zero}
use Rattle.std.proofs.lemmas.Option.{get_or_from_slice_get, slice_get-get_or, slice_get_within}
use Rattle.cpog_defs.specs.declared.types.Bit3.{Bit3}
use Rattle.cpog_defs.specs.Entries.{Agrees, entry_at}
use Rattle.cpog_defs.specs.Codes.{bit, AreCodes, KeepGivenBits, open_patterns}
use Rattle.gate_core.specs.Patterns.{pattern_at}
use Rattle.std.proofs.Common.{take}
use Rattle.std.proofs.lemmas.List.{same_lists, get_or_at, get_or_append_left, get_or-replicate, length-replicate, get_or-take, length-take-le}
use Rattle.cpog_base.specs.Pattern.{HasGivenBits}
use Rattle.gate_core.specs.Laws.{AgreeingAreCodes, LeastCodesAgree, OpenCodesAreNumbers, GivenBitsMayBeLeft}
use Rattle.gate_core.specs.Least.{Agree, AreLeast, NoneGiven, numbers}

module _ (patterns : List (List Bit3)) (bits : ℕ) (codes : List ℕ) (size : length codes ≡ length patterns) where
  pub are_codes : Agree patterns (2 ^ bits) (length patterns) codes → AreCodes bits (length patterns) codes
  are_codes m = record {
    one_each = size;
    within = λ i d l. subst (λ x. x < 2 ^ bits) (sym (get_or_default_zero codes i d l)) (m.within i (omega (arith, l, size)));
    distinct = λ i j d before l e. absurd (omega (
      arith,
      before,
      m.apart i j (omega (arith, l, size, before)) (omega (arith, l, size))
          (sym (get_or_default_zero codes i d (omega (arith, before, l))) ∙ e ∙ get_or_default_zero codes j d l),
    ));
  }

  pub keep_bits : Agree patterns (2 ^ bits) (length patterns) codes → KeepGivenBits patterns codes
  keep_bits m = record {
    one_each = sym size;
    kept = λ s word i pattern e f. elim (cases_lt s (length patterns)) [
      | inl l ↦
          subst (λ w. Agrees (entry_at pattern i) (bit w i)) (get_or_from_slice_get codes s word 0 e)
          (subst (λ p. Agrees (entry_at p i) (bit (get_or codes s 0) i)) (get_or_from_slice_get patterns s pattern [] f) ((m.had s l).given i))
      | inr past ↦ absurd (omega (arith, past, slice_get_within patterns s pattern f))
    ];
  }

  pub agree : AreCodes bits (length patterns) codes → KeepGivenBits patterns codes → Agree patterns (2 ^ bits) (length patterns) codes
  agree a k = record {
    within = λ i l. a.within i 0 (omega (arith, l, size));
    had = λ s l. record {
      given = λ i. k.kept s (get_or codes s 0) i (pattern_at patterns s) (slice_get-get_or codes s 0 (omega (arith, l, size))) (slice_get-get_or patterns s [] l);
      kept = λ h. absurd (omega (arith, h));
    };
    apart = λ i j p q e. elim (cases_lt i j) [
      | inl l ↦ absurd (a.distinct i j 0 l (omega (arith, q, size)) e)
      | inr m ↦ elim (cases_lt j i) [
        | inl l ↦ absurd (a.distinct j i 0 l (omega (arith, p, size)) (sym e))
        | inr n ↦ omega (arith, m, n)
      ]
    ];
  }

pub agreeing_are_codes : AgreeingAreCodes
agreeing_are_codes patterns bits n codes few size =
    let front : List (List Bit3) = take n patterns in
    let long : length front ≡ n = length-take-le n patterns few in
    let size_too : length codes ≡ length front = size ∙ sym long in (
      λ m.
          let there : Agree front (2 ^ bits) (length front) codes = subst (λ k. Agree front (2 ^ bits) k codes) (sym long) (to_front m) in
          (subst (λ k. AreCodes bits k codes) long (are_codes front bits codes size_too there), keep_bits front bits codes size_too there),
      λ p. from_front (subst (λ k. Agree front (2 ^ bits) k codes) long (agree front bits codes size_too (subst (λ k. AreCodes bits k codes) (sym long) p.0) p.1)),
    )
  where
    to_front : Agree patterns (2 ^ bits) n codes → Agree (take n patterns) (2 ^ bits) n codes
    to_front m = record {
      within = m.within;
      had = λ s l. record {
        given = subst (λ p. HasGivenBits p (get_or codes s 0)) (sym (get_or-take n patterns s [] l)) (m.had s l).given;
        kept = λ h. absurd (omega (arith, h));
      };
      apart = m.apart;
    }

    from_front : Agree (take n patterns) (2 ^ bits) n codes → Agree patterns (2 ^ bits) n codes
    from_front m = record {
      within = m.within;
      had = λ s l. record {
        given = subst (λ p. HasGivenBits p (get_or codes s 0)) (get_or-take n patterns s [] l) (m.had s l).given;
        kept = λ h. absurd (omega (arith, h));
      };
      apart = m.apart;
    }

-- ---- one least list

pub least_codes_agree : LeastCodesAgree
least_codes_agree patterns top a b x y = same_lists a b (x.one_each ∙ sym y.one_each) (λ k d l.
    get_or_default_zero a k d l ∙ at k (omega (arith, l, x.one_each)) ∙ sym (get_or_default_zero b k d (omega (arith, l, x.one_each, y.one_each))))
  where
    before : (n : ℕ) → n ≤ length patterns → (j : ℕ) → j < n → get_or a j 0 ≡ get_or b j 0
    before zero few j l = absurd (omega arith)
    before (suc n) few j l =
        let earlier = before n (omega arith) in
        elim (cases_lt j n) [
          | inl m ↦ earlier j m
          | inr m ↦
              let is : j ≡ n = omega arith in
              let up : get_or a n 0 ≤ get_or b n 0 = x.least b n (omega arith) y.agree (λ i p. sym (earlier i p)) in
              let down : get_or b n 0 ≤ get_or a n 0 = y.least a n (omega arith) x.agree earlier in
              rw is (omega (arith, up, down))
        ]

    at : (k : ℕ) → k < length patterns → get_or a k 0 ≡ get_or b k 0
    at k l = before (length patterns) (omega arith) k l

-- ---- no bit is given

length-numbers : (n : ℕ) → length (numbers n) ≡ n
length-numbers zero = refl
length-numbers (suc n) = omega (arith, length-append (numbers n) (n ∷ []), length-numbers n)

get-numbers : (n s : ℕ) → s < n → get_or (numbers n) s 0 ≡ s
get-numbers zero s l = absurd (omega arith)
get-numbers (suc n) s l = elim (cases_eq s n) [
  | inl same ↦ rw same (get_or_at (numbers n) n [] 0 n (length-numbers n))
  | inr other ↦ get_or_append_left (numbers n) (n ∷ []) 0 s (omega (arith, length-numbers n)) ∙ get-numbers n s (omega arith)
]

pub numbers_are_least : (patterns : List (List Bit3)) (top : ℕ) → NoneGiven patterns → length patterns ≤ top → AreLeast patterns top (numbers (length patterns))
numbers_are_least patterns top none enough =
    let n = length patterns in record {
      one_each = length-numbers n;
      agree = record {
        within = λ i l. subst (λ w. w < top) (sym (get-numbers n i l)) (omega (arith, l, enough));
        had = λ s l. record {
          given = λ i. subst (λ e. Agrees e (bit (get_or (numbers n) s 0) i)) (sym (none s i)) tt;
          kept = λ h. absurd (omega (arith, h));
        };
        apart = λ i j l m e. sym (get-numbers n i l) ∙ e ∙ get-numbers n j m;
      };
      least = λ other k l agree same. subst (λ w. w ≤ get_or other k 0) (sym (get-numbers n k l)) (at_least other k l agree same);
    }
  where
    at_least : (other : List ℕ) (k : ℕ) → k < length patterns → Agree patterns top (length patterns) other →
        ((j : ℕ) → j < k → get_or other j 0 ≡ get_or (numbers (length patterns)) j 0) → k ≤ get_or other k 0
    at_least other k l agree same = elim (cases_lt (get_or other k 0) k) [
      | inr m ↦ m
      | inl less ↦
          let w : ℕ = get_or other k 0 in
          let taken : get_or other w 0 ≡ w = same w less ∙ get-numbers (length patterns) w (omega (arith, less, l)) in
          let e : w ≡ k = agree.apart w k (omega (arith, less, l)) l taken in
          absurd (omega (arith, less, e))
    ]

pub open_codes_are_numbers : OpenCodesAreNumbers
open_codes_are_numbers patterns top codes none enough least = least_codes_agree patterns top codes (numbers (length patterns)) least (numbers_are_least patterns top none enough)

-- any codes keep patterns that leave each bit open
keeps_open : (n : ℕ) (codes : List ℕ) → length codes ≡ n → KeepGivenBits (open_patterns n) codes
keeps_open n codes each = record {
  one_each = length-replicate n [] ∙ sym each;
  kept = λ s word i pattern at given.
      let l : s < n = omega (arith, slice_get_within (open_patterns n) s pattern given, length-replicate {A = List Bit3} n []) in
      let is : pattern ≡ [] = sym (get_or_from_slice_get (open_patterns n) s pattern [] given) ∙ get_or-replicate n s [] [] l in
      subst (λ p. Agrees (entry_at p i) (bit word i)) (sym is) tt;
}

pub given_bits_may_be_left : GivenBitsMayBeLeft
given_bits_may_be_left count bits orders patterns e h = record {
  bits_are = h.bits_are;
  codes = h.codes;
  given = keeps_open (length orders) e.codes h.codes.one_each;
  encoding = h.encoding;
  fits = h.fits;
}

-- ---- the least list has codes

pub least_are_codes : (patterns : List (List Bit3)) (bits : ℕ) (codes : List ℕ) → AreLeast patterns (2 ^ bits) codes → AreCodes bits (length patterns) codes × KeepGivenBits patterns codes
least_are_codes patterns bits codes h = (are_codes patterns bits codes h.one_each h.agree, keep_bits patterns bits codes h.one_each h.agree)
