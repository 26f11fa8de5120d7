-- Fixing one word after another.
use Rattle.std.proofs.Common.{◌≡◌, ◌≢◌, ℕ, ◌+◌, ◌*◌, ◌%◌, ◌^◌, ◌<◌, ◌≤◌, List, length, get_or, take, refl, sym, ap, ◌∙◌, subst, inl, inr, arith}
use Rattle.std.proofs.Common.{◌||◌, ◌==◌, nat_lt}
use Rattle.std.proofs.lemmas.Bool.{cases_eq, cases_lt, or_cases, both_ways, eq-eqb, lt-ltb, ltb-true}
use Rattle.std.proofs.lemmas.List.{get_or-set_same, get_or-set_other, get_or-take, length-take, length-take-le}
use Rattle.std.proofs.Math.ListN.{length-set, set}
use Rattle.std.proofs.Math.Pow.{pow-lt}
use Rattle.cpog_defs.specs.declared.types.Bit3.{Bit3}
use Rattle.std.proofs.Common.{Bool, true, false, IsTrue}
use Rattle.gate_core.specs.Matching.{IsMatching, IsMatchingBut, IsOwner, IsOwned, IsBlocked, IsHallViolator, IsTight, is_in}
use Rattle.gate_core.proofs.HallLemmas.{no_matching, same_number}
use Rattle.gate_core.specs.Patterns.{MayHave}
use Rattle.gate_core.specs.Least.{Agree, AreLeast}

pub top_is : (bits : ℕ) → bits ≤ 8 → 1 * 2 ^ bits % 65536 ≡ 2 ^ bits
top_is bits l = let m : bits < 9 = omega arith in let p : 2 ^ bits < 2 ^ 9 = pow-lt m in omega arith

pub same_front : (a b : List ℕ) (s j : ℕ) → take s a ≡ take s b → j < s → get_or a j 0 ≡ get_or b j 0
same_front a b s j e l = sym (get_or-take s a j 0 l) ∙ ap (λ xs. get_or xs j 0) e ∙ get_or-take s b j 0 l

module _ (patterns : List (List Bit3)) (top n : ℕ) where
  -- a list that agrees with the fixed words
  pub prefix : (fixed other : List ℕ) (s : ℕ) → Agree patterns top n other → ((j : ℕ) → j < s → get_or other j 0 ≡ get_or fixed j 0) → IsMatching (MayHave patterns (take s fixed)) top n other
  prefix fixed other s m same = record {
    within = m.within;
    had = λ i l. record {
      given = (m.had i l).given;
      kept = λ k. let in_s : i < s = omega (arith, k, length-take s fixed) in same i in_s ∙ sym (get_or-take s fixed i 0 in_s);
    };
    apart = m.apart;
  }

  pub forget : (fixed other : List ℕ) → IsMatching (MayHave patterns fixed) top n other → Agree patterns top n other
  forget fixed other m = record { within = m.within; had = λ i l. record { given = (m.had i l).given; kept = λ k. absurd (omega (arith, k)) }; apart = m.apart }

  -- what agrees with the fixed words
  pub follows : (fixed other : List ℕ) (s j : ℕ) → s ≤ length fixed → s ≤ n → IsMatching (MayHave patterns (take s fixed)) top n other → j < s → get_or other j 0 ≡ get_or fixed j 0
  follows fixed other s j long few m l = (m.had j (omega arith)).kept (omega (arith, length-take-le s fixed long)) ∙ get_or-take s fixed j 0 l

  pub more_fixed : (fixed other : List ℕ) (s word : ℕ) → s < length fixed → s < n → IsMatching (MayHave patterns (take s fixed)) top n other → get_or other s 0 ≡ word →
      IsMatching (MayHave patterns (take (s + 1) (set fixed s word))) top n other
  more_fixed fixed other s word long within m has = prefix (set fixed s word) other (s + 1) (forget (take s fixed) other m)
      (λ j l. elim (cases_eq j s) [
        | inl same ↦ ap (λ x. get_or other x 0) same ∙ has ∙ sym (ap (λ x. get_or (set fixed s word) x 0) same ∙ get_or-set_same fixed s word 0 long)
        | inr other_place ↦ follows fixed other s j (omega arith) (omega arith) m (omega arith) ∙ sym (get_or-set_other fixed s j word 0 other_place)
      ])

  -- a word more was tried for s
  pub word_more : (before fixed : List ℕ) (s word : ℕ) → s < length fixed → s < n → take s fixed ≡ take s before →
      ((other : List ℕ) → IsMatching (MayHave patterns (take s before)) top n other → get_or other s 0 < word → ⊥) →
      ((other : List ℕ) → IsMatching (MayHave patterns (take (s + 1) (set fixed s word))) top n other → ⊥) →
      (other : List ℕ) → IsMatching (MayHave patterns (take s before)) top n other → get_or other s 0 < word + 1 → ⊥
  word_more before fixed s word long within same old new other m l = elim (cases_lt (get_or other s 0) word) [
    | inl less ↦ old other m less
    | inr most ↦ new other (more_fixed fixed other s word long within (subst (λ xs. IsMatching (MayHave patterns xs) top n other) (sym same) m) (omega arith))
  ]

  -- a scenario more has its least word
  pub least_more : (fixed after : List ℕ) (s : ℕ) → take s after ≡ take s fixed →
      ((other : List ℕ) (k : ℕ) → k < s → Agree patterns top n other → ((j : ℕ) → j < k → get_or other j 0 ≡ get_or fixed j 0) → get_or fixed k 0 ≤ get_or other k 0) →
      ((other : List ℕ) → IsMatching (MayHave patterns (take s fixed)) top n other → get_or after s 0 ≤ get_or other s 0) →
      (other : List ℕ) (k : ℕ) → k < s + 1 → Agree patterns top n other → ((j : ℕ) → j < k → get_or other j 0 ≡ get_or after j 0) → get_or after k 0 ≤ get_or other k 0
  least_more fixed after s same old new other k l m agrees = elim (cases_eq k s) [
    | inl at_s ↦ subst (λ x. get_or after x 0 ≤ get_or other x 0) (sym at_s)
        (new other (prefix fixed other s m (λ j p. agrees j (omega arith) ∙ same_front after fixed s j same p)))
    | inr before ↦ let in_s : k < s = omega arith in
        subst (λ x. x ≤ get_or other k 0) (sym (same_front after fixed s k same in_s))
        (old other k in_s m (λ j p. agrees j p ∙ same_front after fixed s j same (omega arith)))
  ]

  -- all have their least words
  pub finished : (fixed words codes : List ℕ) → n ≡ length patterns → n ≤ length fixed → IsMatching (MayHave patterns (take n fixed)) top n words →
      ((other : List ℕ) (k : ℕ) → k < n → Agree patterns top n other → ((j : ℕ) → j < k → get_or other j 0 ≡ get_or fixed j 0) → get_or fixed k 0 ≤ get_or other k 0) →
      codes ≡ take n fixed → AreLeast patterns top codes
  finished fixed words codes size long m least is = subst (λ xs. AreLeast patterns top xs) (sym is) (record {
    one_each = length-take-le n fixed long ∙ size;
    agree = subst (λ c. Agree patterns top c (take n fixed)) size all;
    least = λ other k l agree same.
        let in_n : k < n = omega (arith, l, size) in
        subst (λ x. x ≤ get_or other k 0) (sym (get_or-take n fixed k 0 in_n))
        (least other k in_n (subst (λ c. Agree patterns top c other) (sym size) agree) (λ j p. same j p ∙ get_or-take n fixed j 0 (omega arith)));
  })
    where
      has : (i : ℕ) → i < n → get_or words i 0 ≡ get_or (take n fixed) i 0
      has i l = follows fixed words n i long (omega arith) m l ∙ sym (get_or-take n fixed i 0 l)

      all : Agree patterns top n (take n fixed)
      all = record {
        within = λ i l. subst (λ x. x < top) (has i l) (m.within i l);
        had = λ i l. record { given = (let P : ℕ → Type 0 = λ x. MayHave patterns (take n fixed) i x in (subst P (has i l) (m.had i l)).given); kept = λ k. absurd (omega (arith, k)) };
        apart = λ i j p q e. m.apart i j p q (has i p ∙ e ∙ sym (has j q));
      }

-- ---- words that are blocked

module _ (patterns : List (List Bit3)) (top n : ℕ) (before fixed words : List ℕ) (s word : ℕ) (long : s < length fixed) (long_too : s < length before) (within : s < n)
    (same : take s fixed ≡ take s before) where
  -- elsewhere the same may be had
  elsewhere : (i w : ℕ) → i ≢ s → MayHave patterns (take s before) i w → MayHave patterns (take (s + 1) (set fixed s word)) i w
  elsewhere i w other may = record {
    given = may.given;
    kept = λ k.
        let size = length-take (s + 1) (set fixed s word) in
        let in_s : i < s = omega (arith, k, size, other) in
        may.kept (omega (arith, in_s, length-take-le s before (omega arith))) ∙ get_or-take s before i 0 in_s ∙ sym (same_front fixed before s i same in_s)
        ∙ sym (get_or-set_other fixed s i word 0 other) ∙ sym (get_or-take (s + 1) (set fixed s word) i 0 (omega arith));
  }

  back : (i w : ℕ) → i ≢ s → MayHave patterns (take (s + 1) (set fixed s word)) i w → MayHave patterns (take s before) i w
  back i w other may = record {
    given = may.given;
    kept = λ k.
        let in_s : i < s = omega (arith, k, length-take s before) in
        may.kept (omega (arith, in_s, length-take-le (s + 1) (set fixed s word) (omega (arith, long, length-set fixed s word)))) ∙ get_or-take (s + 1) (set fixed s word) i 0 (omega arith)
        ∙ get_or-set_other fixed s i word 0 other ∙ same_front fixed before s i same in_s ∙ sym (get_or-take s before i 0 in_s);
  }

  pub tight_after : (marks : List Bool) → IsHallViolator
      (MayHave patterns (take (s + 1) (set fixed s word))) top n s words (is_in marks) →
      IsTight (MayHave patterns (take s before)) top n s words marks
  tight_after marks closed i w l other t below may = let p = closed.owned i w l t below (elsewhere i w other may) in record { owner = p.0; is_owner = p.1; is_reached = p.2 }

  pub but_s : IsMatching (MayHave patterns (take s before)) top n words → IsMatchingBut (MayHave patterns (take (s + 1) (set fixed s word))) top n s words
  but_s m = record {
    hole_within = within;
    within = λ i l _. m.within i l;
    had = λ i l other. elsewhere i _ other (m.had i l);
    apart = λ i j p q _ _ e. m.apart i j p q e;
  }

  pub word_blocked : (marks : List Bool) → n ≤ 64 → length words ≡ 64 → IsMatching (MayHave patterns (take s before)) top n words → IsTight (MayHave patterns (take s before)) top n s words marks →
      IsBlocked n s words marks word → (other : List ℕ) → IsMatching (MayHave patterns (take (s + 1) (set fixed s word))) top n other → ⊥
  word_blocked marks small words_size m tight owned other k =
      no_matching (MayHave patterns (take (s + 1) (set fixed s word))) top n s words other (λ i. (nat_lt i s || is_in marks i) || (i == s)) (omega (arith, words_size, small)) (but_s m)
      (record {
        has_hole = or_right (nat_lt s s || is_in marks s) (s == s) (eq-eqb s s refl);
        owned = λ i w l t below may. elim (cases_eq i s) [
          | inl at_s ↦
              let is : w ≡ word =
              (subst (λ x. MayHave patterns (take (s + 1) (set fixed s word)) x w) at_s may).kept
              (omega (
                arith,
                length-take-le (s + 1) (set fixed s word)
                    (omega (arith, long, length-set fixed s word)),
              ))
              ∙ get_or-take (s + 1) (set fixed s word) s 0 (omega arith) ∙ get_or-set_same fixed s word 0 long in
              blocked w (subst (IsBlocked n s words marks) (sym is) owned)
          | inr off ↦ elim (cases_lt i s) [
            | inl earlier ↦
                -- an earlier scenario may have its fixed word alone, which it has
                let same_word : w ≡ get_or words i 0 =
                (back i w off may).kept (omega (arith, earlier, length-take-le s before (omega (arith, long_too))))
                ∙ sym ((m.had i l).kept (omega (
                  arith,
                  earlier,
                  length-take-le s before (omega (arith, long_too)),
                ))) in
                blocked w (record { owner = i; is_owner = record { within = l; other = off; has = sym same_word }; is_among = or_left (nat_lt i s) (is_in marks i) (lt-ltb i s earlier) })
            | inr later ↦ marked w (tight i w l off (unmarked i off later t) below (back i w off may))
          ]
        ];
      }) k
    where
      unmarked : (i : ℕ) → i ≢ s → s ≤ i → IsTrue ((nat_lt i s || is_in marks i) || (i == s)) → IsTrue (is_in marks i)
      unmarked i off later t = elim (or_cases (nat_lt i s || is_in marks i) (i == s) t) [
        | inl a ↦ elim (or_cases (nat_lt i s) (is_in marks i) a) [ inl earlier ↦ absurd (omega (arith, later, ltb-true i s earlier)) | inr b ↦ b ]
        | inr b ↦ absurd (off (same_number i s b))
      ]

      or_left : (a b : Bool) → a ≡ true → (a || b) ≡ true
      or_left true b e = refl
      or_left false b e = absurd (both_ways _ refl e)

      or_right : (a b : Bool) → b ≡ true → (a || b) ≡ true
      or_right true b e = refl
      or_right false b e = e

      blocked : (w : ℕ) → IsBlocked n s words marks w → (o : ℕ) × IsOwner n s words w o × IsTrue ((nat_lt o s || is_in marks o) || (o == s))
      blocked w h = (h.owner, h.is_owner, or_left (nat_lt h.owner s || is_in marks h.owner) (h.owner == s) h.is_among)

      marked : (w : ℕ) → IsOwned n s words marks w → (o : ℕ) × IsOwner n s words w o × IsTrue ((nat_lt o s || is_in marks o) || (o == s))
      marked w h = blocked w (record { owner = h.owner; is_owner = h.is_owner; is_among = or_right (nat_lt h.owner s) (is_in marks h.owner) h.is_reached })
