-- The words of a module's lines tell what they stand for.
use Rattle.std.proofs.Common.{◌≡◌, ℕ, ◌-◌, ◌^◌, ◌<◌, ◌≤◌, Bool, true, false, ltb, ◌&&◌, List, [], ◌∷◌, ◌++◌, length, refl, sym, ap, ◌∙◌, ◌⊎◌, inl, inr, arith, subst}
use Rattle.std.specs.Prelude.{nat_le}
use Rattle.std.specs.Fmt.{decimal}
use Rattle.std.specs.Int.{IsInRange}
use Rattle.std.specs.Str.{bytes_eq}
use Rattle.std.specs.Str.Parse.{AllDigits}
use Rattle.std.proofs.lemmas.Bool.{cases_lt, ltb-true, lt-ltb, le-leb}
use Rattle.std.proofs.lemmas.Fmt.{decimal_is_IsNumeral, decimal_injective}
use Rattle.std.proofs.lemmas.Map.Keys.{apart_from_distinct}
use Rattle.std.proofs.lemmas.Slice.Eq.{bytes_eq-Decides}
use Rattle.std.proofs.lemmas.Str.Parse.{digit_from_value}
use Rattle.cpog_base.specs.Names.{AreDistinct}
use Rattle.cpog_defs.specs.declared.types.Ref.{Ref}
use Rattle.cpog_defs.specs.declared.types.Ref.TheVariants.{Const, Signal}
use Rattle.cpog_defs.specs.Gates.{IsRefOver}
use Rattle.line_text.specs.Words.{continues_name}
use Rattle.line_text.proofs.TellingLemmas.{AllPass, apart, word_told, heads, tails, decimal_continues}
use Rattle.netlist_verilog.specs.Wires.{name_of, signal_text}
use Rattle.netlist_verilog.specs.Formulas.{formula_text}
use Rattle.netlist_verilog.specs.Equations.{ref_formula}

-- ---- numbers before a byte that is no digit

abbrev is_digit : ℕ → Bool
is_digit b = nat_le 48 b && nat_le b 57

digits_pass : (ds : List ℕ) → AllDigits 10 ds → AllPass is_digit ds
digits_pass [] h = tt
digits_pass (d ∷ ds) h = (passes d (digit_from_value d h.0), digits_pass ds h.1)
  where
    passes : (d : ℕ) → IsInRange 48 57 d → is_digit d ≡ true
    passes d h = both (nat_le 48 d) (nat_le d 57) (le-leb 48 d h.0) (le-leb d 57 h.1)
      where
        both : (a b : Bool) → a ≡ true → b ≡ true → (a && b) ≡ true
        both true b h k = k
        both false b h k = absurd cc

pub decimal_told : (m n c : ℕ) (x y : List ℕ) → m < 2 ^ 64 → n < 2 ^ 64 → is_digit c ≡ false → decimal m ++ c ∷ x ≡ decimal n ++ c ∷ y → (m ≡ n) × (x ≡ y)
decimal_told m n c x y hm hn hc e =
    let r = word_told is_digit (decimal m) (decimal n) c x y (digits_pass (decimal m) ((decimal_is_IsNumeral m hm).0.1)) (digits_pass (decimal n) ((decimal_is_IsNumeral n hn).0.1)) hc e in
    (decimal_injective m n hm hn r.0, r.1)

-- ---- signals

pub signal_cases : (inputs n : ℕ) → ((n < inputs) × (signal_text inputs n ≡ 120 ∷ decimal n)) ⊎ ((inputs ≤ n) × (signal_text inputs n ≡ 103 ∷ decimal (n - inputs)))
signal_cases inputs n = elim (cases_lt n inputs) [
  | inl l ↦ inl (l, rw (lt-ltb n inputs l) refl)
  | inr g ↦ inr (g, rw (ge-ltb n inputs g) refl)
]
  where
    ge-ltb : (m k : ℕ) → k ≤ m → ltb m k ≡ false
    ge-ltb m k h = false_where (ltb m k) (λ e. (let l : m < k = ltb-true m k e in omega arith))
      where
        false_where : (b : Bool) → (b ≡ true → ⊥) → b ≡ false
        false_where true h = absurd (h refl)
        false_where false h = refl

pub signal_passes : (inputs n : ℕ) → n < 2 ^ 64 → AllPass continues_name (signal_text inputs n)
signal_passes inputs n lt = elim (signal_cases inputs n) [
  | inl h ↦ subst (AllPass continues_name) (sym h.1) (refl, decimal_continues n lt)
  | inr h ↦ subst (AllPass continues_name) (sym h.1) (refl, decimal_continues (n - inputs) (omega arith))
]

pub signal_is : (inputs m n : ℕ) → m < 2 ^ 64 → n < 2 ^ 64 → signal_text inputs m ≡ signal_text inputs n → m ≡ n
signal_is inputs m n hm hn e = elim (signal_cases inputs m) [
  | inl a ↦ elim (signal_cases inputs n) [
    | inl b ↦ decimal_injective m n hm hn (tails 120 120 _ _ (sym a.1 ∙ e ∙ b.1))
    | inr b ↦ absurd (omega (arith, heads 120 103 _ _ (sym a.1 ∙ e ∙ b.1)))
  ]
  | inr a ↦ elim (signal_cases inputs n) [
    | inl b ↦ absurd (omega (arith, heads 103 120 _ _ (sym a.1 ∙ e ∙ b.1)))
    | inr b ↦ (let h = decimal_injective (m - inputs) (n - inputs) (omega arith) (omega arith) (tails 103 103 _ _ (sym a.1 ∙ e ∙ b.1)) in omega (arith, h, a.0, b.0))
  ]
]

-- a signal, before a byte that no name has
pub signal_told : (inputs m n c : ℕ) (x y : List ℕ) → m < 2 ^ 64 → n < 2 ^ 64 → continues_name c ≡ false → signal_text inputs m ++ c ∷ x ≡ signal_text inputs n ++ c ∷ y → (m ≡ n) × (x ≡ y)
signal_told inputs m n c x y hm hn hc e =
    let r = word_told continues_name (signal_text inputs m) (signal_text inputs n) c x y (signal_passes inputs m hm) (signal_passes inputs n hn) hc e in
    (signal_is inputs m n hm hn r.0, r.1)

-- ---- references

-- a signal begins with a letter, and neither a digit nor a tilde is x or g
pub not_signal : (inputs n b : ℕ) (x y : List ℕ) → (b ≡ 120 → ⊥) → (b ≡ 103 → ⊥) → signal_text inputs n ++ x ≡ b ∷ y → ⊥
not_signal inputs n b x y not_x not_g e = elim (signal_cases inputs n) [
  | inl h ↦ not_x (sym (heads 120 b _ _ (ap (λ (w : List ℕ). w ++ x) (sym h.1) ∙ e)))
  | inr h ↦ not_g (sym (heads 103 b _ _ (ap (λ (w : List ℕ). w ++ x) (sym h.1) ∙ e)))
]

abbrev pub ref_text : ℕ → List (List ℕ) → Ref → List ℕ
ref_text inputs names r = formula_text inputs names (ref_formula r)

-- a reference, before a byte that no name has
pub ref_told : (inputs : ℕ) (names : List (List ℕ)) (signals : ℕ) (r s : Ref) (c : ℕ) (x y : List ℕ) → signals ≤ 2 ^ 64 → IsRefOver signals r → IsRefOver signals s → continues_name c ≡ false
    → ref_text inputs names r ++ c ∷ x ≡ ref_text inputs names s ++ c ∷ y → (r ≡ s) × (x ≡ y)
ref_told inputs names signals (Const false) (Const false) c x y fit hr hs hc e = (refl, tails c c x y (tails 48 48 _ _ (tails 98 98 _ _ (tails 39 39 _ _ (tails 49 49 _ _ e)))))
ref_told inputs names signals (Const true) (Const true) c x y fit hr hs hc e = (refl, tails c c x y (tails 49 49 _ _ (tails 98 98 _ _ (tails 39 39 _ _ (tails 49 49 _ _ e)))))
ref_told inputs names signals (Const false) (Const true) c x y fit hr hs hc e = absurd (omega (arith, heads 48 49 _ _ (tails 98 98 _ _ (tails 39 39 _ _ (tails 49 49 _ _ e)))))
ref_told inputs names signals (Const true) (Const false) c x y fit hr hs hc e = absurd (omega (arith, heads 49 48 _ _ (tails 98 98 _ _ (tails 39 39 _ _ (tails 49 49 _ _ e)))))
ref_told inputs names signals (Const false) (Signal n false) c x y fit hr hs hc e = absurd (not_signal inputs n 49 _ _ (λ h. omega (arith, h)) (λ h. omega (arith, h)) (sym e))
ref_told inputs names signals (Const true) (Signal n false) c x y fit hr hs hc e = absurd (not_signal inputs n 49 _ _ (λ h. omega (arith, h)) (λ h. omega (arith, h)) (sym e))
ref_told inputs names signals (Const false) (Signal n true) c x y fit hr hs hc e = absurd (omega (arith, heads 49 126 _ _ e))
ref_told inputs names signals (Const true) (Signal n true) c x y fit hr hs hc e = absurd (omega (arith, heads 49 126 _ _ e))
ref_told inputs names signals (Signal m false) (Const false) c x y fit hr hs hc e = absurd (not_signal inputs m 49 _ _ (λ h. omega (arith, h)) (λ h. omega (arith, h)) e)
ref_told inputs names signals (Signal m false) (Const true) c x y fit hr hs hc e = absurd (not_signal inputs m 49 _ _ (λ h. omega (arith, h)) (λ h. omega (arith, h)) e)
ref_told inputs names signals (Signal m true) (Const false) c x y fit hr hs hc e = absurd (omega (arith, heads 126 49 _ _ e))
ref_told inputs names signals (Signal m true) (Const true) c x y fit hr hs hc e = absurd (omega (arith, heads 126 49 _ _ e))
ref_told inputs names signals (Signal m false) (Signal n true) c x y fit hr hs hc e = absurd (not_signal inputs m 126 _ _ (λ h. omega (arith, h)) (λ h. omega (arith, h)) e)
ref_told inputs names signals (Signal m true) (Signal n false) c x y fit hr hs hc e = absurd (not_signal inputs n 126 _ _ (λ h. omega (arith, h)) (λ h. omega (arith, h)) (sym e))
ref_told inputs names signals (Signal m false) (Signal n false) c x y fit hr hs hc e = let t = signal_told inputs m n c x y (omega arith) (omega arith) hc e in (ap (λ k. Signal k false) t.0, t.1)
ref_told inputs names signals (Signal m true) (Signal n true) c x y fit hr hs hc e = let t =
    signal_told inputs m n c x y (omega arith) (omega arith) hc (tails 126 126 _ _ e) in
    (ap (λ k. Signal k true) t.0, t.1)

-- ---- names

same_bytes : (bs cs : List ℕ) → bs ≡ cs → bytes_eq bs cs ≡ true
same_bytes bs cs e = (bytes_eq-Decides bs cs).1 e

-- different operations have different names
pub name_is : (names : List (List ℕ)) (u v : ℕ) → AreDistinct names → u < length names → v < length names → name_of names u ≡ name_of names v → u ≡ v
name_is names u v distinct hu hv e = elim (cases_lt u v) [
  | inl l ↦ absurd (apart _ _ (same_bytes _ _ e) (apart_from_distinct bytes_eq names u v [] distinct l hv) refl)
  | inr g ↦ elim (cases_lt v u) [
    | inl l ↦ absurd (apart _ _ (same_bytes _ _ (sym e)) (apart_from_distinct bytes_eq names v u [] distinct l hu) refl)
    | inr g' ↦ omega arith
  ]
]
