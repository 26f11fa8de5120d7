-- A number has one spelling.
use Rattle.std.proofs.Common.{◌≡◌, ℕ, ◌<◌, ◌≤◌, ◌^◌, ◌+◌, ◌*◌, ◌-◌, suc, zero, List, [], ◌∷◌, length, get_or, take, sym, ap, subst, ◌∙◌, arith, lit<}
use Rattle.std.specs.Fmt.{decimal}
use Rattle.std.specs.Int.{IsInRange}
use Rattle.std.specs.Str.Parse.{AllDigits, digits_value}
use Rattle.std.proofs.lemmas.Fmt.{decimal_is_IsNumeral, decimal_nonempty, first_decimal, decimal-digits_value, decimal_digit}
use Rattle.std.proofs.lemmas.Str.Parse.{IsNumeralModel, numerals_by_value, tells_digits, digit_at, digits_value-take-le}
use Rattle.std.proofs.lemmas.Str.{digit_value_digit}
use Rattle.std.proofs.lemmas.List.{take_all}
use Rattle.std.proofs.lemmas.Int.Digits.{digits_more, digits_value_more}

own : IsNumeralModel (AllDigits 10) (digits_value 10)
own = numerals_by_value (AllDigits 10) tells_digits

pub not_empty : (word : List ℕ) (v : ℕ) → v < 2 ^ 64 → length word ≡ 0 → word ≡ decimal v → ⊥
not_empty word v lt none e = absurd (omega (arith, decimal_nonempty v lt, ap length e))

pub no_zero_first : (word : List ℕ) (v : ℕ) → v < 2 ^ 64 → 1 < length word → get_or word 0 0 ≡ 48 → word ≡ decimal v → ⊥
no_zero_first word zero lt long first e = absurd (omega (arith, ap length (e ∙ decimal_digit 0 (lit< tt))))
no_zero_first word (suc v) lt long first e = let h : 0 < suc v = omega arith in absurd (omega (arith, first_decimal (suc v) h lt, ap (λ (w : List ℕ). get_or w 0 0) e))

pub all_digits : (word : List ℕ) (v i : ℕ) → v < 2 ^ 64 → i < length word → word ≡ decimal v → IsInRange 48 57 (get_or word i 0)
all_digits word v i lt within e = digit_at word i (rw e ((decimal_is_IsNumeral v lt).0.1)) within

pub value_is : (word : List ℕ) (v : ℕ) → v < 2 ^ 64 → word ≡ decimal v → digits_value 10 word ≡ v
value_is word v lt e = rw e ((decimal_is_IsNumeral v lt).1)

pub front_below : (word : List ℕ) (v i : ℕ) → v < 2 ^ 64 → word ≡ decimal v → digits_value 10 (take i word) ≤ v
front_below word v i lt e = omega (arith, digits_value-take-le 10 word i (omega arith), value_is word v lt e)

pub spelled : (word : List ℕ) (n : ℕ) → AllDigits 10 word → 0 < length word → (get_or word 0 0 ≡ 48 → length word ≡ 1) → n < 2 ^ 64 → digits_value 10 word ≡ n → word ≡ decimal n
spelled word n digits some first lt e = rw (← e) (sym (decimal-digits_value own word digits some first (rw e lt)))

pub zero_is_spelled : (word : List ℕ) → length word ≡ 1 → get_or word 0 0 ≡ 48 → word ≡ decimal 0
zero_is_spelled [] one first = absurd (omega arith)
zero_is_spelled (b ∷ []) one first = ap (λ (x : ℕ). x ∷ []) first ∙ sym (decimal_digit 0 (lit< tt))
zero_is_spelled (b ∷ c ∷ bs) one first = absurd (omega arith)

-- one more digit
pub more_digits : (word : List ℕ) (i n digit : ℕ) → i < length word → IsInRange 48 57 (get_or word i 0) → digit ≡ get_or word i 0 - 48 → AllDigits 10 (take i word) → n ≡ digits_value 10 (take i word)
    → AllDigits 10 (take (i + 1) word) × (n * 10 + digit ≡ digits_value 10 (take (i + 1) word))
more_digits word i n digit lt in_range d digits e =
    let v = digit_value_digit (get_or word i 0) in_range in
    (digits_more 10 word i lt digits (omega (arith, v, in_range)), omega (arith, digits_value_more 10 word i lt, v))

pub number_whole : (word : List ℕ) (i n : ℕ) → length word ≤ i → 0 < length word → (get_or word 0 0 ≡ 48 → ⊥) → n < 2 ^ 64 → AllDigits 10 (take i word) → n ≡ digits_value 10 (take i word) → word ≡ decimal n
number_whole word i n le some first fits digits e =
    let whole : take i word ≡ word = take_all i word le in
    spelled word n (subst (λ (w : List ℕ). AllDigits 10 w) whole digits) some (λ zero. absurd (first zero)) fits (ap (digits_value 10) (sym whole) ∙ sym e)

pub number_is : (word : List ℕ) (i n v : ℕ) → length word ≤ i → v < 2 ^ 64 → n ≡ digits_value 10 (take i word) → word ≡ decimal v → n ≡ v
number_is word i n v le lt e w = e ∙ ap (digits_value 10) (take_all i word le) ∙ value_is word v lt w
