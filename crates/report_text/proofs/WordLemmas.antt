-- The words of a report's lines tell what they stand for.
use Rattle.std.proofs.Common.{◌≡◌, ℕ, ◌^◌, ◌<◌, ◌≤◌, Bool, true, false, not, ◌||◌, eqb, List, [], ◌∷◌, ◌++◌, map, length, get_or, refl, sym, ap, ap₂, ◌∙◌, arith}
use Rattle.std.specs.Prelude.{if◌then◌else◌}
use Rattle.std.specs.List.{list_any}
use Rattle.std.proofs.lemmas.Nat.Bits.{same_from_bits_below, bit_at-lt}
use Rattle.cpog_base.specs.Pattern.{is_given}
use Rattle.cpog_defs.specs.Codes.{word_bits}
use Rattle.cpog_defs.specs.Gates.{IsRefOver}
use Rattle.cpog_defs.specs.declared.types.Bit3.{Bit3}
use Rattle.cpog_defs.specs.declared.types.Bit3.TheVariants as bits
use Rattle.cpog_defs.specs.declared.types.Ref.{Ref}
use Rattle.cpog_defs.specs.declared.types.Ref.TheVariants.{Const, Signal}
use Rattle.gate_core.proofs.GateLemmas.{get_or-word_bits}
use Rattle.line_text.specs.Words.{continues_name}
use Rattle.line_text.proofs.TellingLemmas.{AllPass, words_told, word_told, heads, tails}
use Rattle.netlist_verilog.proofs.GateRowLemmas.{same_bit}
use Rattle.netlist_verilog.proofs.WordLemmas.{not_signal, signal_told}
use Rattle.report_text.specs.Rows.{digit, digits_of, entry_digit, given_text, ref_text}

-- ---- digits

digit_passes : (b : Bool) → continues_name (digit b) ≡ true
digit_passes true = refl
digit_passes false = refl

digits_pass : (bs : List Bool) → AllPass continues_name (map digit bs)
digits_pass [] = tt
digits_pass (b ∷ bs) = (digit_passes b, digits_pass bs)

digit_is : (a b : Bool) → digit a ≡ digit b → a ≡ b
digit_is true true e = refl
digit_is true false e = absurd (omega (arith, e))
digit_is false true e = absurd (omega (arith, e))
digit_is false false e = refl

digits_are : (as' bs : List Bool) → map digit as' ≡ map digit bs → as' ≡ bs
digits_are [] [] e = refl
digits_are [] (b ∷ bs) e = absurd cc
digits_are (a ∷ as') [] e = absurd cc
digits_are (a ∷ as') (b ∷ bs) e = ap₂ (λ (z : Bool) (zs : List Bool). z ∷ zs) (digit_is a b (heads _ _ _ _ e)) (digits_are as' bs (tails _ _ _ _ e))

word_is : (n v w : ℕ) → v < 2 ^ n → w < 2 ^ n → word_bits v n ≡ word_bits w n → v ≡ w
word_is n v w hv hw e =
    same_from_bits_below n v w hv hw (λ i lt. same_bit _ _ (bit_at-lt v i) (bit_at-lt w i)
    (sym (get_or-word_bits v n i lt) ∙ ap (λ (bs : List Bool). get_or bs i false) e ∙ get_or-word_bits w n i lt))

-- the digits of a word, up to bytes of no name
pub digits_before : (n v w c d : ℕ) (x y : List ℕ) → v < 2 ^ n → w < 2 ^ n → continues_name c ≡ false → continues_name d ≡ false → digits_of n v ++ c ∷ x ≡ digits_of n w ++ d ∷ y → (v ≡ w) × ((c ∷ x) ≡ (d ∷ y))
digits_before n v w c d x y hv hw hc hd e =
    let r = words_told continues_name (digits_of n v) (digits_of n w) c d x y (digits_pass (word_bits v n)) (digits_pass (word_bits w n)) hc hd e in
    (word_is n v w hv hw (digits_are (word_bits v n) (word_bits w n) r.0), r.1)

-- the same up to the line's end
pub digits_told : (n v w : ℕ) (x y : List ℕ) → v < 2 ^ n → w < 2 ^ n → digits_of n v ++ 10 ∷ x ≡ digits_of n w ++ 10 ∷ y → (v ≡ w) × (x ≡ y)
digits_told n v w x y hv hw e = let r = digits_before n v w 10 10 x y hv hw refl refl e in (r.0, tails 10 10 x y r.1)

-- ---- patterns

entry_is : (a b : Bit3) → entry_digit a ≡ entry_digit b → a ≡ b
entry_is bits.Zero bits.Zero e = refl
entry_is bits.Zero bits.One e = absurd (omega (arith, e))
entry_is bits.Zero bits.Free e = absurd (omega (arith, e))
entry_is bits.One bits.Zero e = absurd (omega (arith, e))
entry_is bits.One bits.One e = refl
entry_is bits.One bits.Free e = absurd (omega (arith, e))
entry_is bits.Free bits.Zero e = absurd (omega (arith, e))
entry_is bits.Free bits.One e = absurd (omega (arith, e))
entry_is bits.Free bits.Free e = refl

entries_are : (ps qs : List Bit3) → map entry_digit ps ≡ map entry_digit qs → ps ≡ qs
entries_are [] [] e = refl
entries_are [] (q ∷ qs) e = absurd cc
entries_are (p ∷ ps) [] e = absurd cc
entries_are (p ∷ ps) (q ∷ qs) e = ap₂ (λ (z : Bit3) (zs : List Bit3). z ∷ zs) (entry_is p q (heads _ _ _ _ e)) (entries_are ps qs (tails _ _ _ _ e))

-- a byte of a pattern: no line feed
abbrev pub is_inside : ℕ → Bool
is_inside b = not (eqb b 10)

entry_inside : (b : Bit3) → is_inside (entry_digit b) ≡ true
entry_inside bits.Zero = refl
entry_inside bits.One = refl
entry_inside bits.Free = refl

entries_inside : (ps : List Bit3) → AllPass is_inside (map entry_digit ps)
entries_inside [] = tt
entries_inside (p ∷ ps) = (entry_inside p, entries_inside ps)

open_entry : (b : Bit3) → is_given b ≡ false → b ≡ bits.Free
open_entry bits.Zero e = absurd cc
open_entry bits.One e = absurd cc
open_entry bits.Free e = refl

-- two patterns of no given bit
both_open : (ps qs : List Bit3) → length ps ≡ length qs → list_any is_given ps ≡ false → list_any is_given qs ≡ false → ps ≡ qs
both_open [] [] n hp hq = refl
both_open [] (q ∷ qs) n hp hq = absurd (omega (arith, n))
both_open (p ∷ ps) [] n hp hq = absurd (omega (arith, n))
both_open (p ∷ ps) (q ∷ qs) n hp hq =
    let a = none_first (is_given p) (list_any is_given ps) hp in
    let b = none_first (is_given q) (list_any is_given qs) hq in
    ap₂ (λ (z : Bit3) (zs : List Bit3). z ∷ zs) (open_entry p a.0 ∙ sym (open_entry q b.0)) (both_open ps qs (omega (arith, n)) a.1 b.1)
  where
    none_first : (a b : Bool) → (a || b) ≡ false → (a ≡ false) × (b ≡ false)
    none_first true b e = absurd cc
    none_first false b e = (refl, e)

-- what is given of a code begins with a blank, or the line ends
pub given_front : (ps : List Bit3) (x : List ℕ) → (c : ℕ) × (r : List ℕ) × (continues_name c ≡ false) × (given_text ps ++ 10 ∷ x ≡ c ∷ r)
given_front ps x = by (list_any is_given ps)
  where
    by : (b : Bool) → (c : ℕ) × (r : List ℕ) × (continues_name c ≡ false) × ((if b then 32 ∷ map entry_digit ps else []) ++ 10 ∷ x ≡ c ∷ r)
    by true = (32, map entry_digit ps ++ 10 ∷ x, refl, refl)
    by false = (10, x, refl, refl)

-- what is given of a code, up to the line's end
pub given_told : (ps qs : List Bit3) (x y : List ℕ) → length ps ≡ length qs → given_text ps ++ 10 ∷ x ≡ given_text qs ++ 10 ∷ y → (ps ≡ qs) × (x ≡ y)
given_told ps qs x y n e = by (list_any is_given ps) (list_any is_given qs) refl refl e
  where
    by : (a b : Bool) → list_any is_given ps ≡ a → list_any is_given qs ≡ b → (if a then 32 ∷ map entry_digit ps else []) ++ 10 ∷ x ≡ (if b then 32 ∷ map entry_digit qs else []) ++ 10 ∷ y → (ps ≡ qs) × (x ≡ y)
    by true true ha hb e =
        let r = word_told is_inside (map entry_digit ps) (map entry_digit qs) 10 x y (entries_inside ps) (entries_inside qs) refl (tails 32 32 _ _ e) in
        (entries_are ps qs r.0, r.1)
    by true false ha hb e = absurd (omega (arith, heads 32 10 _ _ e))
    by false true ha hb e = absurd (omega (arith, heads 10 32 _ _ e))
    by false false ha hb e = (both_open ps qs n ha hb, tails 10 10 x y e)

-- ---- signals and conditions

-- a condition, up to the line's end
pub ref_told : (inputs signals : ℕ) (r s : Ref) (x y : List ℕ) → signals ≤ 2 ^ 64 → IsRefOver signals r →
    IsRefOver signals s → ref_text inputs r ++ 10 ∷ x ≡ ref_text inputs s ++ 10 ∷ y → (r ≡ s) × (x ≡ y)
ref_told inputs signals (Const false) (Const false) x y fit hr hs e = (refl, tails _ _ _ _ (tails _ _ _ _ e))
ref_told inputs signals (Const false) (Const true) x y fit hr hs e = absurd (omega (arith, heads 48 49 _ _ e))
ref_told inputs signals (Const true) (Const false) x y fit hr hs e = absurd (omega (arith, heads 49 48 _ _ e))
ref_told inputs signals (Const true) (Const true) x y fit hr hs e = (refl, tails _ _ _ _ (tails _ _ _ _ e))
ref_told inputs signals (Const false) (Signal n false) x y fit hr hs e = absurd (not_signal inputs n 48 _ _ (λ h. omega (arith, h)) (λ h. omega (arith, h)) (sym e))
ref_told inputs signals (Const true) (Signal n false) x y fit hr hs e = absurd (not_signal inputs n 49 _ _ (λ h. omega (arith, h)) (λ h. omega (arith, h)) (sym e))
ref_told inputs signals (Const false) (Signal n true) x y fit hr hs e = absurd (omega (arith, heads 48 33 _ _ e))
ref_told inputs signals (Const true) (Signal n true) x y fit hr hs e = absurd (omega (arith, heads 49 33 _ _ e))
ref_told inputs signals (Signal m false) (Const false) x y fit hr hs e = absurd (not_signal inputs m 48 _ _ (λ h. omega (arith, h)) (λ h. omega (arith, h)) e)
ref_told inputs signals (Signal m false) (Const true) x y fit hr hs e = absurd (not_signal inputs m 49 _ _ (λ h. omega (arith, h)) (λ h. omega (arith, h)) e)
ref_told inputs signals (Signal m true) (Const false) x y fit hr hs e = absurd (omega (arith, heads 33 48 _ _ e))
ref_told inputs signals (Signal m true) (Const true) x y fit hr hs e = absurd (omega (arith, heads 33 49 _ _ e))
ref_told inputs signals (Signal m false) (Signal n false) x y fit hr hs e = let t = signal_told inputs m n 10 x y (omega arith) (omega arith) refl e in (ap (λ k. Signal k false) t.0, t.1)
ref_told inputs signals (Signal m true) (Signal n true) x y fit hr hs e = let t = signal_told inputs m n 10 x y (omega arith) (omega arith) refl (tails _ _ _ _ e) in (ap (λ k. Signal k true) t.0, t.1)
ref_told inputs signals (Signal m false) (Signal n true) x y fit hr hs e = absurd (not_signal inputs m 33 _ _ (λ h. omega (arith, h)) (λ h. omega (arith, h)) e)
ref_told inputs signals (Signal m true) (Signal n false) x y fit hr hs e = absurd (not_signal inputs n 33 _ _ (λ h. omega (arith, h)) (λ h. omega (arith, h)) (sym e))
