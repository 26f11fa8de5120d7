-- Codes and what is given of them are read exactly.
use Rattle.std.proofs.Common.{◌≡◌, ℕ, zero, suc, ◌<◌, ◌≤◌, ◌+◌, ◌-◌, ◌*◌, ◌/◌, ◌%◌, ◌^◌, Bool, true, false, cond, eqb, ◌&&◌, ◌||◌, List, [], ◌∷◌, ◌++◌, length, map, take, drop, replicate, Option, Some, None, refl, sym, ap, ap₂, subst, ◌∙◌, arith, inl, inr, ◌⊎◌, lit<}
use Rattle.std.specs.List.{list_any}
use Rattle.std.proofs.lemmas.Bool.{eqb-true, eq-eqb}
use Rattle.std.proofs.lemmas.Nat.Bits.{bit_at-suc}
use Rattle.std.proofs.lemmas.List.{take_at, drop_at, take-append-drop}
use Rattle.std.proofs.Math.Nat.{pow-suc}
use Rattle.cpog_defs.specs.declared.types.Bit3.{Bit3}
use Rattle.cpog_defs.specs.declared.types.Bit3.TheVariants as bits
use Rattle.cpog_defs.specs.Codes.{bit, word_bits}
use Rattle.cpog_base.specs.Pattern.{is_given}
use Rattle.report_text.specs.Rows.{digit, digits_of, entry_digit, given_text}
use Rattle.line_rows.specs.Words.{◌>>=?◌}
use Rattle.line_rows.proofs.Exact.{IsExact, some_of, some_is, tested, chosen, both_true}
use Rattle.report_reader.specs.Codes.{digit_in, digits_in, entry_in, entries_in, given_from, pattern_in, given_in, split_of}
use Rattle.report_reader.proofs.ListLaws.{if_true}

-- ---- digits

-- the bits of a word: that of weight 1, and those of its half
bits_front : (n w : ℕ) → word_bits w (suc n) ≡ bit w 0 ∷ word_bits (w / 2) n
bits_front zero w = refl
bits_front (suc n) w = ap (λ (bs : List Bool). bs ++ bit w (suc n) ∷ []) (bits_front n w) ∙ ap (λ (b : ℕ). bit w 0 ∷ (word_bits (w / 2) n ++ eqb b 1 ∷ [])) (bit_at-suc w n)

low_digit : (d w : ℕ) → d ≡ w % 2 → digit (bit w 0) ≡ 48 + d
low_digit d w e = step (w % 2) d (omega arith) e (ap (λ (k : ℕ). digit (eqb (k % 2) 1)) (omega arith))
  where
    step : (m d : ℕ) → m < 2 → d ≡ m → digit (bit w 0) ≡ digit (eqb m 1) → digit (bit w 0) ≡ 48 + d
    step zero d lt e h = h ∙ ap (λ (k : ℕ). 48 + k) (sym e)
    step (suc zero) d lt e h = h ∙ ap (λ (k : ℕ). 48 + k) (sym e)
    step (suc (suc m)) d lt e h = absurd (omega arith)

digits_front : (n w d h : ℕ) → d < 2 → w ≡ d + 2 * h → digits_of (suc n) w ≡ (48 + d) ∷ digits_of n h
digits_front n w d h lt e =
    let low : d ≡ w % 2 = omega (arith, e) in
    let half : w / 2 ≡ h = omega (arith, e) in
    ap (λ (bs : List Bool). map digit bs) (bits_front n w) ∙ ap₂ (λ (a k : ℕ). a ∷ digits_of n k) (low_digit d w low) half

digit_again : (d : ℕ) → d < 2 → digit_in (48 + d) ≡ Some d
digit_again zero lt = refl
digit_again (suc zero) lt = refl
digit_again (suc (suc d)) lt = absurd (omega arith)

digit_choice : (b d : ℕ) → digit_in b ≡ Some d → ((b ≡ 48) × (0 ≡ d)) ⊎ ((b ≡ 49) × (1 ≡ d))
digit_choice b d e = elim (chosen (eqb b 48) 0 (cond (eqb b 49) (Some 1) None) d e) [
  | inl h ↦ inl (eqb-true b 48 h.0, h.1)
  | inr h ↦ let g = tested (eqb b 49) 1 d h.1 in inr (eqb-true b 49 g.0, g.1)
]

digit_takes : (b d : ℕ) → digit_in b ≡ Some d → (d < 2) × (b ≡ 48 + d)
digit_takes b d e = elim (digit_choice b d e) [ inl h ↦ (omega arith, omega arith) | inr h ↦ (omega arith, omega arith) ]

digits_again : (n w : ℕ) → w < 2 ^ n → digits_in n (digits_of n w) ≡ Some w
digits_again zero w lt = ap (λ (x : ℕ). Some x) (omega arith)
digits_again (suc n) w lt =
    let half : w / 2 < 2 ^ n = omega (arith, pow-suc 2 n) in
    let sum : w % 2 + 2 * (w / 2) ≡ w = omega arith in
    ap (digits_in (suc n)) (digits_front n w (w % 2) (w / 2) (omega arith) (sym sum)) ∙ rw (digit_again (w % 2) (omega arith), digits_again n (w / 2) half, sum) refl

digits_takes : (n : ℕ) (bytes : List ℕ) (w : ℕ) → digits_in n bytes ≡ Some w → (w < 2 ^ n) × (bytes ≡ digits_of n w)
digits_takes zero [] w e = let z : 0 ≡ w = some_is 0 w e in (omega arith, refl)
digits_takes zero (b ∷ bs) w e = absurd cc
digits_takes (suc n) [] w e = absurd cc
digits_takes (suc n) (b ∷ bs) w e =
    let d = some_of (digit_in b) (λ d. digits_in n bs >>=? λ w. Some (d + 2 * w)) w e in
    let v = some_of (digits_in n bs) (λ w. Some (d.0 + 2 * w)) w d.2 in
    let digit = digit_takes b d.0 d.1 in
    let others = digits_takes n bs v.0 v.1 in
    let sum : d.0 + 2 * v.0 ≡ w = some_is (d.0 + 2 * v.0) w v.2 in
    (omega (arith, others.0, pow-suc 2 n, digit.0, sum), ap₂ (λ (a : ℕ) (as' : List ℕ). a ∷ as') digit.1 others.1 ∙ sym (digits_front n w d.0 v.0 digit.0 (sym sum)))

pub digits_exact : (n : ℕ) → IsExact (λ w. w < 2 ^ n) (digits_of n) (digits_in n)
digits_exact n = record { again = digits_again n; takes = digits_takes n }

-- ---- what is given

entry_again : (e : Bit3) → entry_in (entry_digit e) ≡ Some e
entry_again bits.Zero = refl
entry_again bits.One = refl
entry_again bits.Free = refl

entry_takes : (b : ℕ) (e : Bit3) → entry_in b ≡ Some e → b ≡ entry_digit e
entry_takes b e h = elim (chosen (eqb b 48) bits.Zero _ e h) [
  | inl z ↦ eqb-true b 48 z.0 ∙ ap entry_digit z.1
  | inr z ↦ elim (chosen (eqb b 49) bits.One _ e z.1) [
    | inl y ↦ eqb-true b 49 y.0 ∙ ap entry_digit y.1
    | inr y ↦ let g = tested (eqb b 45) bits.Free e y.1 in eqb-true b 45 g.0 ∙ ap entry_digit g.1
  ]
]

entries_again : (es : List Bit3) → entries_in (map entry_digit es) ≡ Some es
entries_again [] = refl
entries_again (e ∷ es) = rw (entry_again e, entries_again es) refl

entries_takes : (bytes : List ℕ) (es : List Bit3) → entries_in bytes ≡ Some es → bytes ≡ map entry_digit es
entries_takes [] es e = ap (map entry_digit) (some_is [] es e)
entries_takes (b ∷ bs) es e =
    let d = some_of (entry_in b) (λ e. entries_in bs >>=? λ es. Some (e ∷ es)) es e in
    let v = some_of (entries_in bs) (λ es. Some (d.0 ∷ es)) es d.2 in
    ap₂ (λ (a : ℕ) (as' : List ℕ). a ∷ as') (entry_takes b d.0 d.1) (entries_takes bs v.0 v.1) ∙ ap (map entry_digit) (some_is (d.0 ∷ v.0) es v.2)

-- where no bit is given, each is open
all_open : (n : ℕ) (es : List Bit3) → length es ≡ n → list_any is_given es ≡ false → replicate n bits.Free ≡ es
all_open zero [] len h = refl
all_open zero (e ∷ es) len h = absurd (omega (arith, len))
all_open (suc n) [] len h = absurd (omega (arith, len))
all_open (suc n) (bits.Free ∷ es) len h = ap (λ (xs : List Bit3). bits.Free ∷ xs) (all_open n es (omega (arith, len)) h)
all_open (suc n) (bits.Zero ∷ es) len h = absurd cc
all_open (suc n) (bits.One ∷ es) len h = absurd cc

none_open : (n : ℕ) → list_any is_given (replicate n bits.Free) ≡ false
none_open zero = refl
none_open (suc n) = none_open n

so_many : (n : ℕ) → length (replicate n bits.Free) ≡ n
so_many zero = refl
so_many (suc n) = ap suc (so_many n)

abbrev shown : Bool → List Bit3 → List ℕ
shown b es = cond b (32 ∷ map entry_digit es) []

given_again : (n : ℕ) (es : List Bit3) → length es ≡ n → given_in n (given_text es) ≡ Some es
unfolding pattern_in
given_again n es len = step (list_any is_given es) refl
  where
    step : (b : Bool) → b ≡ list_any is_given es → given_in n (shown b es) ≡ Some es
    step false is = ap (λ (x : List Bit3). Some x) (all_open n es len (sym is))
    step true is =
        let same : eqb (length es) n ≡ true = eq-eqb _ _ len in
        rw (entries_again es, same, ← is) refl

given_takes : (n : ℕ) (bytes : List ℕ) (es : List Bit3) → given_in n bytes ≡ Some es → (length es ≡ n) × (bytes ≡ given_text es)
unfolding pattern_in
given_takes n [] es e = subst (λ (x : List Bit3). (length x ≡ n) × ([] ≡ given_text x)) (some_is _ es e) (so_many n, ap (λ (b : Bool). shown b (replicate n bits.Free)) (sym (none_open n)))
given_takes n (b ∷ bs) es e =
    let t = if_true (eqb b 32) (entries_in bs >>=? given_from n) es e in
    let v = some_of (entries_in bs) (given_from n) es t.1 in
    let g = tested (eqb (length v.0) n && list_any is_given v.0) v.0 es v.2 in
    let h = both_true (eqb (length v.0) n) (list_any is_given v.0) g.0 in
    let text : (b ∷ bs) ≡ 32 ∷ map entry_digit v.0 = ap₂ (λ (a : ℕ) (as' : List ℕ). a ∷ as') (eqb-true b 32 t.0) (entries_takes bs v.0 v.1) in
    subst (λ (x : List Bit3). (length x ≡ n) × ((b ∷ bs) ≡ given_text x)) g.1 (eqb-true (length v.0) n h.0, text ∙ ap (λ (c : Bool). shown c v.0) (sym h.1))

pub given_exact : (n : ℕ) → IsExact (λ es. length es ≡ n) given_text (given_in n)
given_exact n = record { again = given_again n; takes = given_takes n }

-- ---- the one behind the other

pub length-digits : (n w : ℕ) → length (digits_of n w) ≡ n
length-digits zero w = refl
length-digits (suc n) w = ap length (digits_front n w (w % 2) (w / 2) (omega arith) (omega arith)) ∙ ap suc (length-digits n (w / 2))

pub exact-split : {A B : Type 0} (n : ℕ) {F : A → Type 0} {t : A → List ℕ} {r : List ℕ → Option A} {G : B → Type 0} {u : B → List ℕ} {s : List ℕ → Option B} → IsExact F t r → ((a : A) → length (t a) ≡ n) → IsExact G u s
    → IsExact (λ (p : A × B). F p.0 × G p.1) (λ (p : A × B). t p.0 ++ u p.1) (split_of n r s)
exact-split {A = A} {B = B} n {F = F} {t = t} {r = r} {G = G} {u = u} {s = s} first len second = record {
  again = λ v fits. rw (take_at (t v.0) (u v.1) n (len v.0), drop_at (t v.0) (u v.1) n (len v.0), first.again v.0 fits.0, second.again v.1 fits.1) refl;
  takes = λ bytes v e.
      let a = some_of (r (take n bytes)) (λ a. s (drop n bytes) >>=? λ b. Some (a, b)) v e in
      let b = some_of (s (drop n bytes)) (λ b. Some (a.0, b)) v a.2 in
      let fa = first.takes (take n bytes) a.0 a.1 in
      let fb = second.takes (drop n bytes) b.0 b.1 in
      subst (λ (p : A × B). (F p.0 × G p.1) × (bytes ≡ t p.0 ++ u p.1)) (some_is (a.0, b.0) v b.2) ((fa.0, fb.0), sym (take-append-drop n bytes) ∙ ap₂ (λ (x y : List ℕ). x ++ y) fa.1 fb.1);
}

pub code_exact : (n : ℕ) → IsExact (λ (p : ℕ × List Bit3). (p.0 < 2 ^ n) × (length p.1 ≡ n)) (λ p. digits_of n p.0 ++ given_text p.1) (split_of n (digits_in n) (given_in n))
code_exact n = exact-split n (digits_exact n) (length-digits n) (given_exact n)
