-- One column serves or opposes another exactly where bits of words are within others.
use Rattle.std.proofs.Common.{◌≡◌, ◌≢◌, ◌↔◌, ℕ, ◌≤◌, Bool, true, false, ◌&&◌, ◌||◌, ◌⊎◌, if◌then◌else◌, IsTrue, length, refl, sym, ap, ◌∙◌, inl, inr, arith}
use Rattle.std.proofs.lemmas.Bool.{cases_lt, both_ways, and_parts, and_from, or_cases, or_left, or_right}
use Rattle.std.proofs.lemmas.List.{get_or_past}
use Rattle.cpog_defs.specs.Codes.{bit}
use Rattle.cpog_defs.specs.Entries.{entry_at}
use Rattle.cpog_defs.specs.declared.types.Bit3.{Bit3}
use Rattle.cpog_defs.specs.declared.types.Bit3.TheVariants.{Zero, One, Free}
use Rattle.cpog_base.specs.Bits.{IsWithin, ShareBit}
use Rattle.cpog_base.specs.BitLaws.{none_above}
use Rattle.cpog_base.specs.Column.{entries, AreWords, opposite, Serves, Opposes, AgreesSomewhere, DiffersSomewhere}
use Rattle.cpog_base.specs.ColumnLaws.{length-entries, get-entries}

-- ---- an entry, by the two bits that it is made of

abbrev entry : Bool → Bool → Bit3
entry o z = if o then One else (if z then Zero else Free)

-- the entry at a place, within the column or past its end
entry_there : (n ones zeros s : ℕ) → AreWords n ones zeros → entry_at (entries n ones zeros) s ≡ entry (bit ones s) (bit zeros s)
entry_there n ones zeros s h = elim (cases_lt s n) [
  | inl l ↦ get-entries n ones zeros s Free l
  | inr l ↦
      let past : length (entries n ones zeros) ≤ s = omega (arith, length-entries n ones zeros) in
      get_or_past (entries n ones zeros) s Free past ∙ rw (none_above n ones s h.ones_below l, none_above n zeros s h.zeros_below l) refl
]

same_entry : (bo bz ao az : Bool) → (IsTrue bo → bz ≡ false) → (IsTrue ao → IsTrue bo) → (IsTrue az → IsTrue bz) → entry ao az ≢ Free → entry bo bz ≡ entry ao az
same_entry true true ao az h one none d = absurd (both_ways _ (h refl) refl)
same_entry true false true az h one none d = refl
same_entry true false false true h one none d = absurd (both_ways _ refl (none refl))
same_entry true false false false h one none d = absurd (d refl)
same_entry false bz true az h one none d = absurd (both_ways _ refl (one refl))
same_entry false true false true h one none d = refl
same_entry false false false true h one none d = absurd (both_ways _ refl (none refl))
same_entry false bz false false h one none d = absurd (d refl)

other_entry : (bo bz ao az : Bool) → (IsTrue bo → bz ≡ false) → (IsTrue ao → IsTrue bz) → (IsTrue az → IsTrue bo) → entry ao az ≢ Free → entry bo bz ≡ opposite (entry ao az)
other_entry true true ao az h one none d = absurd (both_ways _ (h refl) refl)
other_entry true false true az h one none d = absurd (both_ways _ refl (one refl))
other_entry true false false true h one none d = refl
other_entry true false false false h one none d = absurd (d refl)
other_entry false true true az h one none d = refl
other_entry false false true az h one none d = absurd (both_ways _ refl (one refl))
other_entry false bz false true h one none d = absurd (both_ways _ refl (none refl))
other_entry false bz false false h one none d = absurd (d refl)

-- the entry is One, or Zero, exactly where that word has the bit
one_tells : (o z : Bool) → entry o z ≡ One → IsTrue o
one_tells true z e = refl
one_tells false true e = cc
one_tells false false e = cc

zero_tells : (o z : Bool) → entry o z ≡ Zero → IsTrue z
zero_tells true z e = cc
zero_tells false true e = refl
zero_tells false false e = cc

one_asks : (o z : Bool) → IsTrue o → entry o z ≡ One
one_asks true z t = refl
one_asks false z t = absurd (both_ways _ refl t)

zero_asks : (o z : Bool) → (IsTrue o → z ≡ false) → IsTrue z → entry o z ≡ Zero
zero_asks true z h t = absurd (both_ways _ (h refl) t)
zero_asks false true h t = refl
zero_asks false false h t = absurd (both_ways _ refl t)

one_is_asked : (x : Bit3) → x ≡ One → x ≢ Free
one_is_asked x e f = let g : One ≡ Free = sym e ∙ f in cc

zero_is_asked : (x : Bit3) → x ≡ Zero → x ≢ Free
zero_is_asked x e f = let g : Zero ≡ Free = sym e ∙ f in cc

-- both ask for the same, or for opposites, where two of the words share a bit
agree_bits : (bo bz ao az : Bool) → entry bo bz ≢ Free → entry ao az ≡ entry bo bz → (IsTrue bo × IsTrue ao) ⊎ (IsTrue bz × IsTrue az)
agree_bits true bz ao az d e = inl (refl, one_tells ao az e)
agree_bits false true ao az d e = inr (refl, zero_tells ao az e)
agree_bits false false ao az d e = absurd (d refl)

differ_bits : (bo bz ao az : Bool) → entry bo bz ≢ Free → entry ao az ≡ opposite (entry bo bz) → (IsTrue bo × IsTrue az) ⊎ (IsTrue bz × IsTrue ao)
differ_bits true bz ao az d e = inl (refl, zero_tells ao az e)
differ_bits false true ao az d e = inr (refl, one_tells ao az e)
differ_bits false false ao az d e = absurd (d refl)

-- ---- one column by the words of another

module _ (n bo bz m ao az : ℕ) (b : AreWords n bo bz) (a : AreWords m ao az) where
  b_there : (s : ℕ) → entry_at (entries n bo bz) s ≡ entry (bit bo s) (bit bz s)
  b_there s = entry_there n bo bz s b

  a_there : (s : ℕ) → entry_at (entries m ao az) s ≡ entry (bit ao s) (bit az s)
  a_there s = entry_there m ao az s a

  pub serves_from : IsWithin ao bo → IsWithin az bz → Serves (entries n bo bz) (entries m ao az)
  serves_from ones zeros s asked =
      b_there s ∙ same_entry (bit bo s) (bit bz s) (bit ao s) (bit az s) (b.apart s) (ones s) (zeros s) (λ f. asked (a_there s ∙ f)) ∙ sym (a_there s)

  pub opposes_from : IsWithin ao bz → IsWithin az bo → Opposes (entries n bo bz) (entries m ao az)
  opposes_from ones zeros s asked =
      b_there s ∙ other_entry (bit bo s) (bit bz s) (bit ao s) (bit az s) (b.apart s) (ones s) (zeros s) (λ f. asked (a_there s ∙ f)) ∙ ap opposite (sym (a_there s))

  a_one : (s : ℕ) → IsTrue (bit ao s) → entry_at (entries m ao az) s ≡ One
  a_one s t = a_there s ∙ one_asks (bit ao s) (bit az s) t

  a_zero : (s : ℕ) → IsTrue (bit az s) → entry_at (entries m ao az) s ≡ Zero
  a_zero s t = a_there s ∙ zero_asks (bit ao s) (bit az s) (a.apart s) t

  b_one : (s : ℕ) → entry_at (entries n bo bz) s ≡ One → IsTrue (bit bo s)
  b_one s e = one_tells (bit bo s) (bit bz s) (sym (b_there s) ∙ e)

  b_zero : (s : ℕ) → entry_at (entries n bo bz) s ≡ Zero → IsTrue (bit bz s)
  b_zero s e = zero_tells (bit bo s) (bit bz s) (sym (b_there s) ∙ e)

  pub served : Serves (entries n bo bz) (entries m ao az) → IsWithin ao bo × IsWithin az bz
  served h = (
    λ s t. b_one s (h s (one_is_asked _ (a_one s t)) ∙ a_one s t),
    λ s t. b_zero s (h s (zero_is_asked _ (a_zero s t)) ∙ a_zero s t),
  )

  pub opposed : Opposes (entries n bo bz) (entries m ao az) → IsWithin ao bz × IsWithin az bo
  opposed h = (
    λ s t. b_zero s (h s (one_is_asked _ (a_one s t)) ∙ ap opposite (a_one s t)),
    λ s t. b_one s (h s (zero_is_asked _ (a_zero s t)) ∙ ap opposite (a_zero s t)),
  )

  -- two tests that say that words are within others say together that one column serves, or opposes, the other
  pub serves_tells : (x y : Bool) → (IsTrue x ↔ IsWithin ao bo) → (IsTrue y ↔ IsWithin az bz) → IsTrue (x && y) ↔ Serves (entries n bo bz) (entries m ao az)
  serves_tells x y is_x is_y = (
    λ t. let p = and_parts x y t in serves_from (is_x.0 p.0) (is_y.0 p.1),
    λ h. let p = served h in and_from x y (is_x.1 p.0) (is_y.1 p.1),
  )

  pub opposes_tells : (x y : Bool) → (IsTrue x ↔ IsWithin ao bz) → (IsTrue y ↔ IsWithin az bo) → IsTrue (x && y) ↔ Opposes (entries n bo bz) (entries m ao az)
  opposes_tells x y is_x is_y = (
    λ t. let p = and_parts x y t in opposes_from (is_x.0 p.0) (is_y.0 p.1),
    λ h. let p = opposed h in and_from x y (is_x.1 p.0) (is_y.1 p.1),
  )

  one_there : (s : ℕ) → IsTrue (bit bo s) → entry_at (entries n bo bz) s ≡ One
  one_there s t = b_there s ∙ one_asks (bit bo s) (bit bz s) t

  zero_there : (s : ℕ) → IsTrue (bit bz s) → entry_at (entries n bo bz) s ≡ Zero
  zero_there s t = b_there s ∙ zero_asks (bit bo s) (bit bz s) (b.apart s) t

  -- two tests that say that words share a bit say together that the columns agree, or differ, somewhere
  pub agrees_tells : (x y : Bool) → (IsTrue x ↔ ShareBit bo ao) → (IsTrue y ↔ ShareBit bz az) → IsTrue (x || y) ↔ AgreesSomewhere (entries n bo bz) (entries m ao az)
  agrees_tells x y is_x is_y = (
    λ t. elim (or_cases x y t) [
      | inl p ↦ let s = is_x.0 p in (s.0, record { asked = one_is_asked _ (one_there s.0 s.1.0); same = a_one s.0 s.1.1 ∙ sym (one_there s.0 s.1.0) })
      | inr p ↦ let s = is_y.0 p in (s.0, record { asked = zero_is_asked _ (zero_there s.0 s.1.0); same = a_zero s.0 s.1.1 ∙ sym (zero_there s.0 s.1.0) })
    ],
    λ h. let s = h.0 in
        elim (agree_bits (bit bo s) (bit bz s) (bit ao s) (bit az s) (λ f. h.1.asked (b_there s ∙ f)) (sym (a_there s) ∙ h.1.same ∙ b_there s)) [
          | inl p ↦ or_left x y (is_x.1 (s, p))
          | inr p ↦ or_right x y (is_y.1 (s, p))
        ],
  )

  pub differs_tells : (x y : Bool) → (IsTrue x ↔ ShareBit bo az) → (IsTrue y ↔ ShareBit bz ao) → IsTrue (x || y) ↔ DiffersSomewhere (entries n bo bz) (entries m ao az)
  differs_tells x y is_x is_y = (
    λ t. elim (or_cases x y t) [
      | inl p ↦ let s = is_x.0 p in (s.0, record { asked = one_is_asked _ (one_there s.0 s.1.0); other = a_zero s.0 s.1.1 ∙ ap opposite (sym (one_there s.0 s.1.0)) })
      | inr p ↦ let s = is_y.0 p in (s.0, record { asked = zero_is_asked _ (zero_there s.0 s.1.0); other = a_one s.0 s.1.1 ∙ ap opposite (sym (zero_there s.0 s.1.0)) })
    ],
    λ h. let s = h.0 in
        elim (differ_bits (bit bo s) (bit bz s) (bit ao s) (bit az s) (λ f. h.1.asked (b_there s ∙ f)) (sym (a_there s) ∙ h.1.other ∙ ap opposite (b_there s))) [
          | inl p ↦ or_left x y (is_x.1 (s, p))
          | inr p ↦ or_right x y (is_y.1 (s, p))
        ],
  )
