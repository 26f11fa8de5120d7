-- Lines and words that are written are read.
use Rattle.std.proofs.Common.{◌≡◌, ◌≢◌, ℕ, zero, suc, ◌+◌, ◌<◌, ◌^◌, List, [], ◌∷◌, ◌++◌, length, drop, get_or, refl, sym, ap, ap₂, ◌∙◌, subst, arith, append_assoc, length-append, inl, inr}
use Rattle.std.specs.List.{AllByRecursion}
use Rattle.std.specs.Fmt.{decimal}
use Rattle.std.specs.Str.Parse.{AllDigits}
use Rattle.std.proofs.Math.Seq.{take-append_seam}
use Rattle.std.proofs.lemmas.Bool.{ne_eqb, cases_lt}
use Rattle.std.proofs.lemmas.List.{append-nil}
use Rattle.std.proofs.lemmas.Fmt.{decimal_is_IsNumeral, decimal_nonempty}
use Rattle.std.proofs.lemmas.Str.Parse.{digit_from_value}
use Rattle.line_text.specs.Lines.{text_of}
use Rattle.text_rows.specs.Words.{tokens, NoSpace, spaced, IsWord}
use Rattle.text_rows.specs.Lines.{without_return, free_lines, IsUnbroken}
use Rattle.text_rows.specs.FirstBad.{IsFirstBad, NoneBegins}
use Rattle.text_rows.specs.Laws.{BadLinesAreTold}
use Rattle.text_rows.proofs.TokenSplits.{tokens_space, tokens_word}
use Rattle.text_rows.proofs.LineLemmas.{first_at}

-- ---- words

no_space : (w : List ℕ) → AllByRecursion (λ b. 32 < b) w → NoSpace w
no_space [] h = tt
no_space (b ∷ w) h = (rw (ne_eqb b 32 (let n : b ≢ 32 = omega (arith, h.0) in n), ne_eqb b 9 (let n : b ≢ 9 = omega (arith, h.0) in n)) refl, no_space w h.1)

pub words_read : (words : List (List ℕ)) → AllByRecursion IsWord words → tokens (spaced words) ≡ words
words_read [] h = refl
words_read (w ∷ []) h = ap tokens (sym (append-nil w)) ∙ tokens_word w [] h.0.0 (no_space w h.0.1) tt
words_read (w ∷ x ∷ words) h =
    tokens_word w (32 ∷ spaced (x ∷ words)) h.0.0 (no_space w h.0.1) refl
    ∙ ap (λ (t : List (List ℕ)). w ∷ t) (tokens_space 32 (spaced (x ∷ words)) refl ∙ words_read (x ∷ words) h.1)

digits_above : (ds : List ℕ) → AllDigits 10 ds → AllByRecursion (λ b. 32 < b) ds
digits_above [] h = tt
digits_above (d ∷ ds) h = let r = digit_from_value d h.0 in (omega (arith, r.0), digits_above ds h.1)

pub decimal_word : (n : ℕ) → n < 2 ^ 64 → IsWord (decimal n)
decimal_word n lt = (decimal_nonempty n lt, digits_above (decimal n) ((decimal_is_IsNumeral n lt).0.1))

-- ---- lines

pub unbroken_both : (x y : List ℕ) → IsUnbroken x → IsUnbroken y → IsUnbroken (x ++ y)
unbroken_both [] y hx hy = hy
unbroken_both (b ∷ x) y hx hy = (hx.0, unbroken_both x y hx.1 hy)

word_unbroken : (w : List ℕ) → AllByRecursion (λ b. 32 < b) w → IsUnbroken w
word_unbroken [] h = tt
word_unbroken (b ∷ w) h = (((let n : b ≢ 10 = omega (arith, h.0) in n), (let n : b ≢ 13 = omega (arith, h.0) in n)), word_unbroken w h.1)

pub spaced_unbroken : (words : List (List ℕ)) → AllByRecursion IsWord words → IsUnbroken (spaced words)
spaced_unbroken [] h = tt
spaced_unbroken (w ∷ []) h = word_unbroken w h.0.1
spaced_unbroken (w ∷ x ∷ words) h =
    unbroken_both w (32 ∷ spaced (x ∷ words)) (word_unbroken w h.0.1) (((let n : 32 ≢ 10 = omega arith in n), (let n : 32 ≢ 13 = omega arith in n)), spaced_unbroken (x ∷ words) h.1)

return_stays : (l : List ℕ) → IsUnbroken l → without_return l ≡ l
return_stays [] h = refl
return_stays (b ∷ []) h = rw (ne_eqb b 13 h.0.1) refl
return_stays (a ∷ b ∷ l) h = ap (λ (t : List ℕ). a ∷ t) (return_stays (b ∷ l) h.1)

drop_past : (l : List ℕ) (x : ℕ) (rest : List ℕ) → drop (length l + 1) (l ++ x ∷ rest) ≡ rest
drop_past [] x rest = refl
drop_past (b ∷ l) x rest =
    let n : length (b ∷ l) + 1 ≡ suc (length l + 1) = omega arith in
    ap (λ (k : ℕ). drop k ((b ∷ l) ++ x ∷ rest)) n ∙ drop_past l x rest

at_seam : (l : List ℕ) (x : ℕ) (rest : List ℕ) → get_or (l ++ x ∷ rest) (length l) 0 ≡ x
at_seam [] x rest = refl
at_seam (b ∷ l) x rest = at_seam l x rest

no_feed_before : (l rest : List ℕ) (k : ℕ) → IsUnbroken l → k < length l → get_or (l ++ rest) k 0 ≡ 10 → ⊥
no_feed_before [] rest k h lt e = absurd (omega arith)
no_feed_before (b ∷ l) rest zero h lt e = h.0.0 e
no_feed_before (b ∷ l) rest (suc k) h lt e = no_feed_before l rest k h.1 (omega arith) e

line_first : (l rest : List ℕ) → IsUnbroken l → free_lines (l ++ 10 ∷ rest) ≡ l ∷ free_lines rest
line_first l rest h =
    first_at (l ++ 10 ∷ rest) (length l) (omega (arith, length-append l (10 ∷ rest))) (λ k lt e. no_feed_before l (10 ∷ rest) k h lt e) (at_seam l 10 rest)
    ∙ ap₂ (λ (a b : List ℕ). a ∷ free_lines b) (ap without_return (take-append_seam l (10 ∷ rest)) ∙ return_stays l h) (drop_past l 10 rest)

pub lines_read : (lines : List (List ℕ)) → AllByRecursion IsUnbroken lines → free_lines (text_of lines) ≡ lines
lines_read [] h = refl
lines_read (l ∷ lines) h =
    ap free_lines (append_assoc l (10 ∷ []) (text_of lines)) ∙ (line_first l (text_of lines) h.0 ∙ ap (λ (t : List (List ℕ)). l ∷ t) (lines_read lines h.1))

-- ---- the first bad line

longer_front : (g a h b : List (List ℕ)) → g ++ a ≡ h ++ b → length g < length h → (l : List ℕ) × (m : List (List ℕ)) × (after : List (List ℕ)) × (a ≡ l ∷ after) × (h ≡ g ++ l ∷ m)
longer_front [] a [] b e lt = absurd (omega arith)
longer_front [] a (l ∷ m) b e lt = (l, m, m ++ b, e, refl)
longer_front (x ∷ g) a [] b e lt = absurd (omega arith)
longer_front (x ∷ g) a (y ∷ h) b e lt =
    let same : x ≡ y = cc in
    let r = longer_front g a h b (let t : g ++ a ≡ h ++ b = cc in t) (omega arith) in
    (r.0, r.1, r.2, r.3, ap₂ (λ (c : List ℕ) (t : List (List ℕ)). c ∷ t) (sym same) r.4)

not_later : (IsText : List (List ℕ) → Type 0) (lines : List (List ℕ)) (j k : ℕ) → IsFirstBad IsText lines j → IsFirstBad IsText lines k → j < k → ⊥
not_later IsText lines j k f s lt =
    let r = longer_front f.good f.after s.good s.after (sym f.parts ∙ s.parts) (omega (arith, lt, f.number, s.number)) in
    let none : NoneBegins IsText f.good (r.0 ∷ r.2) = subst (NoneBegins IsText f.good) r.3 f.none in
    none (r.1 ++ s.begins.0) (subst IsText (ap (λ (t : List (List ℕ)). t ++ s.begins.0) r.4 ∙ append_assoc f.good (r.0 ∷ r.1) s.begins.0) s.begins.1)

one_first_bad : (IsText : List (List ℕ) → Type 0) (lines : List (List ℕ)) (j k : ℕ) → IsFirstBad IsText lines j → IsFirstBad IsText lines k → j ≡ k
one_first_bad IsText lines j k f s = elim (cases_lt j k) [
  | inl lt ↦ absurd (not_later IsText lines j k f s lt)
  | inr le ↦ elim (cases_lt k j) [
    | inl lt ↦ absurd (not_later IsText lines k j s f lt)
    | inr ge ↦ omega arith
  ]
]

no_text : (IsText : List (List ℕ) → Type 0) (lines : List (List ℕ)) (j : ℕ) → IsFirstBad IsText lines j → IsText lines → ⊥
no_text IsText lines j f t = by f.after f.parts f.none
  where
    by : (after : List (List ℕ)) → lines ≡ f.good ++ after → NoneBegins IsText f.good after → ⊥
    by [] e none = none (subst IsText (e ∙ append-nil f.good) t)
    by (l ∷ after) e none = none after (subst IsText e t)

pub bad_lines_told : (IsText : List (List ℕ) → Type 0) → BadLinesAreTold IsText
bad_lines_told IsText = (no_text IsText, one_first_bad IsText)
