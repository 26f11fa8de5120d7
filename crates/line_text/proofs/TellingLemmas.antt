-- Texts that tell what they were made of: whatever stands behind them, one text begins with no two values.
use Rattle.std.proofs.Common.{◌≡◌, ℕ, ◌<◌, ◌^◌, Bool, true, false, ◌&&◌, ◌||◌, not, List, [], ◌∷◌, ◌++◌, refl, sym, ap, ap₂, ◌∙◌, arith, append_assoc}
use Rattle.std.specs.List.{AllByRecursion, flat_map}
use Rattle.std.specs.Fmt.{decimal}
use Rattle.std.specs.Int.{IsInRange}
use Rattle.std.specs.Str.Parse.{AllDigits}
use Rattle.std.proofs.lemmas.Bool.{and_parts, le-leb}
use Rattle.std.proofs.lemmas.Fmt.{decimal_is_IsNumeral, decimal_injective}
use Rattle.std.proofs.lemmas.Str.Parse.{digit_from_value}
use Rattle.line_text.specs.Words.{begins_name, continues_name, all_continue, is_name, is_keyword, is_free_name}

-- each byte passes
abbrev pub AllPass : (ℕ → Bool) → List ℕ → Type 0
AllPass p w = AllByRecursion (λ b. p b ≡ true) w

pub apart : (b c : Bool) → b ≡ true → c ≡ false → b ≡ c → ⊥
apart b c yes' no' e = let h : true ≡ false = sym yes' ∙ e ∙ no' in absurd cc

-- two texts that are equal begin with one byte
pub heads : (b c : ℕ) (x y : List ℕ) → (b ∷ x) ≡ (c ∷ y) → b ≡ c
heads b c x y e = cc

-- and go on as one
pub tails : (b c : ℕ) (x y : List ℕ) → (b ∷ x) ≡ (c ∷ y) → x ≡ y
tails b c x y e = cc

-- words of bytes that pass, before bytes that don't
pub words_told : (p : ℕ → Bool) (v w : List ℕ) (c d : ℕ) (x y : List ℕ) → AllPass p v → AllPass p w → p c ≡ false → p d ≡ false → v ++ c ∷ x ≡ w ++ d ∷ y → (v ≡ w) × ((c ∷ x) ≡ (d ∷ y))
words_told p [] [] c d x y hv hw hc hd e = (refl, e)
words_told p [] (b ∷ w) c d x y hv hw hc hd e = let h : b ≡ c = cc in absurd (apart (p b) (p c) hw.0 hc (ap p h))
words_told p (b ∷ v) [] c d x y hv hw hc hd e = let h : b ≡ d = cc in absurd (apart (p b) (p d) hv.0 hd (ap p h))
words_told p (b ∷ v) (b' ∷ w) c d x y hv hw hc hd e =
    let h : b ≡ b' = cc in
    let t : v ++ c ∷ x ≡ w ++ d ∷ y = cc in
    let r = words_told p v w c d x y hv.1 hw.1 hc hd t in
    (ap₂ (λ (n : ℕ) (ns : List ℕ). n ∷ ns) h r.0, r.1)

-- the same before one byte
pub word_told : (p : ℕ → Bool) (v w : List ℕ) (c : ℕ) (x y : List ℕ) → AllPass p v → AllPass p w → p c ≡ false → v ++ c ∷ x ≡ w ++ c ∷ y → (v ≡ w) × (x ≡ y)
word_told p v w c x y hv hw hc e = let r = words_told p v w c c x y hv hw hc hc e in (r.0, (let t : (c ∷ x) ≡ (c ∷ y) = r.1 in cc))

pub AllPass-append : (p : ℕ → Bool) (v w : List ℕ) → AllPass p v → AllPass p w → AllPass p (v ++ w)
AllPass-append p [] w hv hw = hw
AllPass-append p (b ∷ v) w hv hw = (hv.0, AllPass-append p v w hv.1 hw)

pub or-true_left : (a b : Bool) → a ≡ true → (a || b) ≡ true
or-true_left true b h = refl
or-true_left false b h = absurd cc

pub or-true_right : (a b : Bool) → b ≡ true → (a || b) ≡ true
or-true_right true b h = refl
or-true_right false b h = h

pub digit_continues : (d : ℕ) → IsInRange 48 57 d → continues_name d ≡ true
digit_continues d h = or-true_right (begins_name d) _ (and_true _ _ (le-leb 48 d h.0) (le-leb d 57 h.1))
  where
    and_true : (a b : Bool) → a ≡ true → b ≡ true → (a && b) ≡ true
    and_true true b h k = k
    and_true false b h k = absurd cc

digits_continue : (ds : List ℕ) → AllDigits 10 ds → AllPass continues_name ds
digits_continue [] h = tt
digits_continue (d ∷ ds) h = (digit_continues d (digit_from_value d h.0), digits_continue ds h.1)

-- the bytes of a number are bytes of a name
pub decimal_continues : (n : ℕ) → n < 2 ^ 64 → AllPass continues_name (decimal n)
decimal_continues n lt = digits_continue (decimal n) ((decimal_is_IsNumeral n lt).0.1)

all_continue_passes : (w : List ℕ) → all_continue w ≡ true → AllPass continues_name w
all_continue_passes [] h = tt
all_continue_passes (b ∷ bs) h = let t = and_parts (continues_name b) (all_continue bs) h in (t.0, all_continue_passes bs t.1)

name_passes : (w : List ℕ) → is_name w ≡ true → AllPass continues_name w
name_passes [] h = absurd cc
name_passes (b ∷ bs) h =
    let t = and_parts (begins_name b) _ h in
    let u = and_parts (all_continue bs) _ t.1 in
    (or-true_left (begins_name b) _ t.0, all_continue_passes bs u.0)

pub free_name_passes : (w : List ℕ) → is_free_name w ≡ true → AllPass continues_name w
free_name_passes w h = name_passes w ((and_parts (is_name w) (not (is_keyword w)) h).0)

-- numbers before one byte that is no digit
pub number_told : (m n c : ℕ) (x y : List ℕ) → m < 2 ^ 64 → n < 2 ^ 64 → continues_name c ≡ false → decimal m ++ c ∷ x ≡ decimal n ++ c ∷ y → (m ≡ n) × (x ≡ y)
number_told m n c x y hm hn hc e =
    let r = word_told continues_name (decimal m) (decimal n) c x y (decimal_continues m hm) (decimal_continues n hn) hc e in
    (decimal_injective m n hm hn r.0, r.1)

abbrev pub blanks : List (List ℕ) → List ℕ
blanks words = flat_map (λ w. 32 ∷ w) words

-- what follows a word of a list begins with a blank or the line's end
after_word : (p : ℕ → Bool) (ws : List (List ℕ)) (x : List ℕ) → p 32 ≡ false → p 10 ≡ false → (c : ℕ) × (r : List ℕ) × (p c ≡ false) × (blanks ws ++ 10 ∷ x ≡ c ∷ r)
after_word p [] x h32 h10 = (10, x, h10, refl)
after_word p (w ∷ ws) x h32 h10 = (32, (w ++ blanks ws) ++ 10 ∷ x, h32, refl)

-- a list of words, each behind a blank, up to the line's end
pub list_told : (p : ℕ → Bool) (vs ws : List (List ℕ)) (x y : List ℕ) → p 32 ≡ false → p 10 ≡ false → AllByRecursion (AllPass p) vs → AllByRecursion (AllPass p) ws → blanks vs ++ 10 ∷ x ≡ blanks ws ++ 10 ∷ y → (vs ≡ ws) × (x ≡ y)
list_told p [] [] x y h32 h10 hv hw e = (refl, tails 10 10 x y e)
list_told p [] (w ∷ ws) x y h32 h10 hv hw e = absurd (omega (arith, heads 10 32 x ((w ++ blanks ws) ++ 10 ∷ y) e))
list_told p (v ∷ vs) [] x y h32 h10 hv hw e = absurd (omega (arith, heads 32 10 ((v ++ blanks vs) ++ 10 ∷ x) y e))
list_told p (v ∷ vs) (w ∷ ws) x y h32 h10 hv hw e =
    let a = after_word p vs x h32 h10 in
    let b = after_word p ws y h32 h10 in
    let t = tails 32 32 ((v ++ blanks vs) ++ 10 ∷ x) ((w ++ blanks ws) ++ 10 ∷ y) e in
    let u : v ++ a.0 ∷ a.1 ≡ w ++ b.0 ∷ b.1 = ap (λ (z : List ℕ). v ++ z) (sym a.3) ∙ sym (append_assoc v (blanks vs) (10 ∷ x)) ∙ t ∙ append_assoc w (blanks ws) (10 ∷ y) ∙ ap (λ (z : List ℕ). w ++ z) b.3 in
    let r = words_told p v w a.0 b.0 a.1 b.1 hv.0 hw.0 a.2 b.2 u in
    let s = list_told p vs ws x y h32 h10 hv.1 hw.1 (a.3 ∙ r.1 ∙ sym b.3) in
    (ap₂ (λ (z : List ℕ) (zs : List (List ℕ)). z ∷ zs) r.0 s.0, s.1)

-- lists of values, each told by its text, up to an end that begins as no value's text
pub until_told : {V : Type 0} (text : V → List ℕ) (Fits : V → Type 0) (IsEnd : List ℕ → Type 0)
    → ((a b : V) (x y : List ℕ) → Fits a → Fits b → text a ++ x ≡ text b ++ y → (a ≡ b) × (x ≡ y)) → ((a : V) (x y : List ℕ) → IsEnd y → text a ++ x ≡ y → ⊥)
    → (vs ws : List V) (x y : List ℕ) → AllByRecursion Fits vs → AllByRecursion Fits ws → IsEnd x → IsEnd y → flat_map text vs ++ x ≡ flat_map text ws ++ y → (vs ≡ ws) × (x ≡ y)
until_told text Fits IsEnd told apart' [] [] x y ha hb ex ey e = (refl, e)
until_told text Fits IsEnd told apart' [] (b ∷ ws) x y ha hb ex ey e = absurd (apart' b (flat_map text ws ++ y) x ex (sym (append_assoc (text b) (flat_map text ws) y) ∙ sym e))
until_told text Fits IsEnd told apart' (a ∷ vs) [] x y ha hb ex ey e = absurd (apart' a (flat_map text vs ++ x) y ey (sym (append_assoc (text a) (flat_map text vs) x) ∙ e))
until_told {V} text Fits IsEnd told apart' (a ∷ vs) (b ∷ ws) x y ha hb ex ey e =
    let r = told a b (flat_map text vs ++ x) (flat_map text ws ++ y) ha.0 hb.0 (sym (append_assoc (text a) (flat_map text vs) x) ∙ e ∙ append_assoc (text b) (flat_map text ws) y) in
    let s = until_told text Fits IsEnd told apart' vs ws x y ha.1 hb.1 ex ey r.1 in
    (ap₂ (λ (z : V) (zs : List V). z ∷ zs) r.0 s.0, s.1)
