-- A number in front of bytes.
use Rattle.std.proofs.Common.{◌≡◌, ℕ, ◌+◌, ◌-◌, ◌<◌, ◌≤◌, ◌^◌, Bool, true, false, eqb, List, [], ◌∷◌, ◌++◌, length, take, drop, get_or, refl, sym, ap, ◌∙◌, subst, inl, inr, arith, length-append, length-drop}
use Rattle.std.specs.Prelude.{not, ◌==◌}
use Rattle.std.specs.Str.{bytes_eq}
use Rattle.std.proofs.lemmas.Slice.Eq.{bytes_eq-Decides}
use Rattle.std.specs.Fmt.{decimal}
use Rattle.std.specs.Int.{IsInRange}
use Rattle.std.specs.Str.Parse.{AllDigits, digits_value}
use Rattle.std.proofs.lemmas.Bool.{false≢true, cases_eq, cases_lt, or_cases, eqb-true}
use Rattle.std.proofs.lemmas.List.{append-nil, take_all, get_or-take, take-append-le, take-append-drop, length-take-le, get_or_append_left}
use Rattle.std.proofs.Math.Seq.{drop-append_seam}
use Rattle.std.proofs.lemmas.Fmt.{decimal_is_IsNumeral, decimal_nonempty, decimal_injective}
use Rattle.std.proofs.lemmas.Str.Parse.{digit_at, digit_from_value}
use Rattle.text_rows.specs.Words.{is_space, tokens, EndsWord, NoSpace, signed_word}
use Rattle.text_rows.proofs.Numbers.{all_digits, no_zero_first, front_below, spelled, more_digits}
use Rattle.text_rows.proofs.TokenSplits.{tokens_word, word_first}

pub not_both : (b : ℕ) → IsInRange 48 57 b → is_space b ≡ true → ⊥
not_both b r e = elim (or_cases (eqb b 32) (eqb b 9) e) [
  | inl h ↦ absurd (omega (arith, r, eqb-true b 32 h))
  | inr h ↦ absurd (omega (arith, r, eqb-true b 9 h))
]

digit_no_space : (b : ℕ) → IsInRange 48 57 b → is_space b ≡ false
digit_no_space b r = either (is_space b) refl
  where
    either : (t : Bool) → is_space b ≡ t → t ≡ false
    either false e = refl
    either true e = absurd (not_both b r e)

digits_no_space : (ds : List ℕ) → AllDigits 10 ds → NoSpace ds
digits_no_space [] h = tt
digits_no_space (d ∷ ds) h = (digit_no_space d (digit_from_value d h.0), digits_no_space ds h.1)

pub decimal_no_space : (n : ℕ) → n < 2 ^ 64 → NoSpace (decimal n)
decimal_no_space n lt = digits_no_space (decimal n) ((decimal_is_IsNumeral n lt).0.1)

pub tokens_number : (n : ℕ) (more bytes : List ℕ) → n < 10000000000 → EndsWord more → bytes ≡ decimal n ++ more → tokens bytes ≡ decimal n ∷ tokens more
tokens_number n more bytes lt ends e =
    let fits : n < 2 ^ 64 = omega arith in
    ap tokens e ∙ tokens_word (decimal n) more (decimal_nonempty n fits) (decimal_no_space n fits) ends

pub tokens_minus : (n : ℕ) (more body bytes : List ℕ) → n < 10000000000 → EndsWord more → bytes ≡ 45 ∷ body → body ≡ decimal n ++ more → tokens bytes ≡ (45 ∷ decimal n) ∷ tokens more
tokens_minus n more body bytes lt ends e f =
    let fits : n < 2 ^ 64 = omega arith in
    ap tokens (e ∙ ap (λ (t : List ℕ). 45 ∷ t) f) ∙ tokens_word (45 ∷ decimal n) more (omega arith) (refl, decimal_no_space n fits) ends

pub digit_in : (word more : List ℕ) (m i : ℕ) → m < 10000000000 → i < length (decimal m) → word ≡ decimal m ++ more → IsInRange 48 57 (get_or word i 0)
digit_in word more m i lt within e =
    let at : get_or word i 0 ≡ get_or (decimal m) i 0 = ap (λ (w : List ℕ). get_or w i 0) e ∙ get_or_append_left (decimal m) more 0 i within in
    rw at (all_digits (decimal m) m i (omega arith) within refl)

space_after : (word more : List ℕ) (m : ℕ) → EndsWord more → length (decimal m) < length word → word ≡ decimal m ++ more → is_space (get_or word (length (decimal m)) 0) ≡ true
space_after word [] m ends lt e = absurd (omega (arith, lt, ap length e, length-append (decimal m) []))
space_after word (y ∷ more) m ends lt e =
    let at : get_or word (length (decimal m)) 0 ≡ y = ap (λ (w : List ℕ). get_or w (length (decimal m)) 0) e ∙ seam (decimal m) y more in
    rw at ends
  where
    seam : (xs : List ℕ) (y : ℕ) (ys : List ℕ) → get_or (xs ++ y ∷ ys) (length xs) 0 ≡ y
    seam [] y ys = refl
    seam (x ∷ xs) y ys = seam xs y ys

digit_front : (word : List ℕ) (end i : ℕ) → end ≤ length word → AllDigits 10 (take end word) → i < end → IsInRange 48 57 (get_or word i 0)
digit_front word end i le digits lt =
    let n : length (take end word) ≡ end = length-take-le end word le in
    rw (← get_or-take end word i 0 lt) (digit_at (take end word) i digits (omega arith))

pub plain_found : (word : List ℕ) (n end : ℕ) → end ≤ length word → (end ≡ 0 → ⊥) → AllDigits 10 (take end word) → n ≡ digits_value 10 (take end word) → n < 10000000000 → (1 < end → get_or word 0 0 ≡ 48 → ⊥) → word ≡ decimal n ++ drop end word
plain_found word n end le some digits value lt padded =
    let l : length (take end word) ≡ end = length-take-le end word le in
    let at : get_or (take end word) 0 0 ≡ get_or word 0 0 = get_or-take end word 0 0 (omega arith) in
    let one : get_or (take end word) 0 0 ≡ 48 → length (take end word) ≡ 1 = λ e. (elim (cases_lt 1 end) [ inl more ↦ absurd (padded more (sym at ∙ e)) | inr less ↦ omega arith ]) in
    sym (take-append-drop end word) ∙ ap (λ (t : List ℕ). t ++ drop end word) (spelled (take end word) n digits (omega arith) one (omega arith) (sym value))

pub plain_no_digit : (word : List ℕ) (n end m : ℕ) (more : List ℕ) → end ≡ 0 → n ≡ digits_value 10 (take end word) → (end < length word → n < 1000000000 → IsInRange 48 57 (get_or word end 0) → ⊥) → m < 10000000000 → word ≡ decimal m ++ more → ⊥
plain_no_digit word n end m more none value stops lt e =
    let some = decimal_nonempty m (let h : m < 2 ^ 64 = omega arith in h) in
    let long : 0 < length word = omega (arith, some, ap length e, length-append (decimal m) more) in
    let d : IsInRange 48 57 (get_or word 0 0) = digit_in word more m 0 lt some e in
    let z : n ≡ 0 = value ∙ ap (λ (k : ℕ). digits_value 10 (take k word)) none in
    stops (omega arith) (omega arith) (subst (λ (k : ℕ). IsInRange 48 57 (get_or word k 0)) (sym none) d)

pub plain_padded : (word : List ℕ) (end m : ℕ) (more : List ℕ) → end ≤ length word → AllDigits 10 (take end word) → 1 < end → get_or word 0 0 ≡ 48 → m < 10000000000 → EndsWord more → word ≡ decimal m ++ more → ⊥
plain_padded word end m more le digits two first lt ends e =
    let fits : m < 2 ^ 64 = omega arith in
    let some = decimal_nonempty m fits in
    elim (cases_lt 1 (length (decimal m))) [
      | inl long ↦ no_zero_first (decimal m) m fits long (sym (get_or_append_left (decimal m) more 0 0 some) ∙ (ap (λ (w : List ℕ). get_or w 0 0) (sym e) ∙ first)) refl
      | inr short ↦
          let d : length (decimal m) ≡ 1 = omega arith in
          not_both (get_or word (length (decimal m)) 0) (digit_front word end (length (decimal m)) le digits (omega arith)) (space_after word more m ends (omega arith) e)
    ]

pub plain_goes_on : (word : List ℕ) (n end m : ℕ) (more : List ℕ) → end ≤ length word → AllDigits 10 (take end word) → n ≡ digits_value 10 (take end word) → (end < length word → n < 1000000000 → IsInRange 48 57 (get_or word end 0) → ⊥) → (EndsWord (drop end word) → ⊥) → m < 10000000000 → EndsWord more → word ≡ decimal m ++ more → ⊥
plain_goes_on word n end m more le digits value stops open_end lt ends e =
    let fits : m < 2 ^ 64 = omega arith in
    let d = length (decimal m) in
    let whole : length word ≡ d + length more = ap length e ∙ length-append (decimal m) more in
    elim (cases_lt end d) [
      | inl before ↦
          let digit : IsInRange 48 57 (get_or word end 0) = digit_in word more m end lt before e in
          let same : take end word ≡ take end (decimal m) = ap (take end) e ∙ take-append-le end (decimal m) more (omega arith) in
          let own : AllDigits 10 (take end (decimal m)) = subst (AllDigits 10) same digits in
          let at : IsInRange 48 57 (get_or (decimal m) end 0) = all_digits (decimal m) m end fits before refl in
          let next = more_digits (decimal m) end n (get_or (decimal m) end 0 - 48) before at refl own (value ∙ ap (digits_value 10) same) in
          let front = front_below (decimal m) m (end + 1) fits refl in
          elim (cases_lt n 1000000000) [
            | inl small ↦ stops (omega arith) small digit
            | inr large ↦ absurd (omega (arith, next.1, front))
          ]
      | inr behind ↦ elim (cases_eq end d) [
        | inl same ↦ open_end (subst EndsWord (sym (ap (drop end) e ∙ (ap (λ (k : ℕ). drop k (decimal m ++ more)) same ∙ drop-append_seam (decimal m) more))) ends)
        | inr apart ↦ not_both (get_or word d 0) (digit_front word end d le digits (omega arith)) (space_after word more m ends (omega arith) e)
      ]
    ]

-- ---- the first of the words

pub number_parts : (bytes word : List ℕ) (w : List ℕ) (ws : List (List ℕ)) → tokens word ≡ tokens bytes → (0 < length word → is_space (get_or word 0 0) ≡ false) → tokens bytes ≡ w ∷ ws → (more : List ℕ) × (word ≡ w ++ more) × EndsWord more × (tokens more ≡ ws)
number_parts bytes [] w ws same first e = let t : [] ≡ (w ∷ ws) = same ∙ e in absurd cc
number_parts bytes (b ∷ bs) w ws same first e = word_first (b ∷ bs) w ws (omega arith) (first (omega arith)) (same ∙ e)

pub same_number : (m n : ℕ) (x y : List ℕ) → m < 10000000000 → n < 10000000000 → EndsWord x → EndsWord y → decimal m ++ x ≡ decimal n ++ y → m ≡ n
same_number m n x y lm ln ex ey e =
    let t : (decimal m ∷ tokens x) ≡ (decimal n ∷ tokens y) = sym (tokens_number m x (decimal m ++ x) lm ex refl) ∙ (ap tokens e ∙ tokens_number n y (decimal n ++ y) ln ey refl) in
    decimal_injective m n (omega arith) (omega arith) (let h : decimal m ≡ decimal n = cc in h)

pub no_minus : (m : ℕ) (body more : List ℕ) → m < 10000000000 → (45 ∷ body) ≡ decimal m ++ more → ⊥
no_minus m body more lt e = absurd (omega (arith, digit_in (45 ∷ body) more m 0 lt (decimal_nonempty m (let h : m < 2 ^ 64 = omega arith in h)) e))

pub minus_tail : (body rest : List ℕ) → (45 ∷ body) ≡ (45 ∷ rest) → body ≡ rest
minus_tail body rest e = cc

pub longer : (n : ℕ) (word rest : List ℕ) → n < 10000000000 → word ≡ decimal n ++ rest → length rest < length word
longer n word rest lt e = omega (arith, ap length e, length-append (decimal n) rest, decimal_nonempty n (let h : n < 2 ^ 64 = omega arith in h))

-- no signed number is there
pub signed_none_minus : (word body : List ℕ) (negated : Bool) (m : ℕ) (more : List ℕ) → word ≡ 45 ∷ body → m < 10000000000 → ((x : List ℕ) → m < 10000000000 → EndsWord x → negated ≡ true → body ≡ decimal m ++ x → ⊥) → EndsWord more → word ≡ signed_word negated m ++ more → ⊥
signed_none_minus word body true m more e lt none ends f = none more lt ends refl (minus_tail body (decimal m ++ more) (sym e ∙ f))
signed_none_minus word body false m more e lt none ends f = no_minus m body more lt (sym e ∙ f)

pub signed_none_plain : (word : List ℕ) (negated : Bool) (m : ℕ) (more : List ℕ) → ((body : List ℕ) → word ≡ 45 ∷ body → ⊥) → (word ≡ decimal m ++ more → ⊥) → word ≡ signed_word negated m ++ more → ⊥
signed_none_plain word true m more no_minus none f = no_minus (decimal m ++ more) f
signed_none_plain word false m more no_minus none f = none f

pub whole : (word : List ℕ) (end : ℕ) → take (length word - end) (drop end word) ≡ drop end word
whole word end = take_all (length word - end) (drop end word) (omega (arith, length-drop end word))

-- ---- a given word

pub word_found : (bytes word after : List ℕ) → 0 < length word → NoSpace word → bytes ≡ word ++ after → EndsWord after → tokens bytes ≡ word ∷ tokens after
word_found bytes word after some none e ends = ap tokens e ∙ tokens_word word after some none ends

-- bytes that a test tells apart, and bytes that it doesn't
pub told_apart : (x y : List ℕ) → true ≡ not (bytes_eq x y) → x ≡ y → ⊥
told_apart x y h e = false≢true (sym (as_false (bytes_eq x y) h) ∙ (bytes_eq-Decides x y).1 e)
  where
    as_false : (b : Bool) → true ≡ not b → b ≡ false
    as_false false e = refl
    as_false true e = e

pub told_same : (x y : List ℕ) → false ≡ not (bytes_eq x y) → x ≡ y
told_same x y h = (bytes_eq-Decides x y).0 (as_true (bytes_eq x y) h)
  where
    as_true : (b : Bool) → false ≡ not b → b ≡ true
    as_true false e = e
    as_true true e = refl

-- ---- a number alone

-- what is one number has nothing behind another
pub none_behind : (m n : ℕ) (rest : List ℕ) → m < 10000000000 → n < 10000000000 → EndsWord rest → decimal m ≡ decimal n ++ rest → false ≡ (length rest == 0) → ⊥
none_behind m n [] small few ends e other = false≢true other
none_behind m n (b ∷ rest) small few ends e other =
    let same : m ≡ n = same_number m n [] (b ∷ rest) small few tt ends (append-nil (decimal m) ∙ e) in
    absurd (omega (arith, ap length e, ap (λ k. length (decimal k)) same, length-append (decimal n) (b ∷ rest)))
