-- The steps of the loop over names.
use Rattle.std.proofs.Common.{◌≡◌, ℕ, zero, suc, ◌<◌, ◌≤◌, ◌+◌, ◌-◌, Bool, true, false, cond, ◌&&◌, not, eqb, ltb, List, [], ◌∷◌, ◌++◌, length, take, drop, Option, Some, None, refl, sym, ap, subst, ◌∙◌, arith, append_assoc, length-append, inl, inr, ◌⊎◌, get_or, add-one, drop-cons, take_all}
use Rattle.std.specs.List.{slice_split, All, AllByRecursion, position_or_len, before_first, after_first}
use Rattle.std.specs.Str.{IsAscii, IsUtf8}
use Rattle.std.proofs.lemmas.Str.{IsUtf8-from_ascii}
use Rattle.std.proofs.lemmas.Bool.{both_ways, cases_Bool, lt-ltb, le-ltb, ltb-true, cases_lt, eqb-true}
use Rattle.std.proofs.lemmas.Bool.Decides.{nat_tests}
use Rattle.std.proofs.lemmas.List.{drop_all}
use Rattle.std.proofs.lemmas.List.Splits.{slice_split_first, slice_split_none}
use Rattle.std.proofs.lemmas.List.Sums.{fails_before_first, passes_at_first}
use Rattle.std.proofs.lemmas.List.Elements.{All-from_get_or}
use Rattle.cpog_base.specs.Names.{has_text, with_text}
use Rattle.line_text.specs.Words.{is_free_name, continues_name}
use Rattle.line_text.proofs.TellingLemmas.{AllPass, free_name_passes}
use Rattle.report_reader.specs.Reading.{is_next, names_from, names_after}
use Rattle.report_reader.proofs.NameLaws.{is_blank}

continues-lt : (b : ℕ) → continues_name b ≡ true → b < 128
continues-lt b h = grind (arith, nat_tests)

IsAscii-word : (w : List ℕ) → AllPass continues_name w → IsAscii w
IsAscii-word [] h zero = omega arith
IsAscii-word [] h (suc i) = omega arith
IsAscii-word (b ∷ w) h zero = continues-lt b h.0
IsAscii-word (b ∷ w) h (suc i) = IsAscii-word w h.1 i

pub IsUtf8-name : (w : List ℕ) → is_free_name w ≡ true → IsUtf8 w
IsUtf8-name w h = IsUtf8-from_ascii w (IsAscii-word w (free_name_passes w h))

not_less : (n : ℕ) → ltb n n ≡ false
not_less n = le-ltb n n (omega arith)

pub refused_word : (limit : ℕ) (names : List (List ℕ)) (w : List ℕ) → is_free_name w ≡ false → false ≡ is_next limit names w
refused_word limit names w h = rw h refl

pub refused_full : (limit : ℕ) (names : List (List ℕ)) (w : List ℕ) → limit ≤ length names → false ≡ is_next limit names w
refused_full limit names w le = rw (le-ltb (length names) limit le) (full (is_free_name w) (not (has_text names w)))
  where
    full : (a b : Bool) → false ≡ (a && (b && false))
    full true true = refl
    full true false = refl
    full false b = refl

pub is_taken : (limit : ℕ) (names : List (List ℕ)) (w : List ℕ) → is_free_name w ≡ true → length names < limit → ltb (length names) (length (with_text names w)) ≡ is_next limit names w
is_taken limit names w free lt = elim (cases_Bool (has_text names w)) [
  | inl there ↦ rw (there, free) (not_less (length names))
  | inr new ↦ rw (new, free, lt-ltb (length names) limit lt) (lt-ltb (length names) (length (names ++ w ∷ [])) (omega (arith, length-append names (w ∷ []))))
]

pub goes_last : (names : List (List ℕ)) (w : List ℕ) → ltb (length names) (length (with_text names w)) ≡ true → with_text names w ≡ names ++ w ∷ []
goes_last names w h = elim (cases_Bool (has_text names w)) [
  | inl there ↦ absurd (both_ways (ltb (length names) (length names)) (not_less (length names)) (subst (λ (b : Bool). ltb (length names) (length (cond b names (names ++ w ∷ []))) ≡ true) there h))
  | inr new ↦ rw new refl
]

-- ---- the loop

-- a word, and what follows it
pub next_names : (limit : ℕ) (done : List (List ℕ)) (more : List ℕ) → names_after limit done (32 ∷ more) ≡ cond (is_next limit done (before_first is_blank more)) (names_after limit (done ++ before_first is_blank more ∷ []) (drop (position_or_len is_blank more) more)) None
next_names limit done more = elim (cases_lt (position_or_len is_blank more) (length more)) [
  | inl lt ↦ rw (slice_split_first is_blank more 0 lt) (ap (λ (o : Option (List (List ℕ))). cond (is_next limit done (before_first is_blank more)) o None) (sym (at_blank (drop (position_or_len is_blank more) more) (after_first is_blank more) (cut more (position_or_len is_blank more) lt (passes_at_first is_blank more 0 lt)))))
  | inr ge ↦ rw (slice_split_none is_blank more (none_before more ge)) (last ge)
]
  where
    at_blank : (rest after : List ℕ) → rest ≡ 32 ∷ after → names_after limit (done ++ before_first is_blank more ∷ []) rest ≡ names_from limit (done ++ before_first is_blank more ∷ []) (slice_split is_blank after)
    at_blank rest after e = ap (names_after limit (done ++ before_first is_blank more ∷ [])) e

    none_before : (bytes : List ℕ) → length bytes ≤ position_or_len is_blank bytes → All (λ b. is_blank b ≡ false) bytes
    none_before bytes le = All-from_get_or (λ b. is_blank b ≡ false) bytes 0 (λ k lt. fails_before_first is_blank bytes k 0 (omega arith))

    cut_at : (bytes : List ℕ) (i b : ℕ) → i < length bytes → get_or bytes i 0 ≡ b → drop i bytes ≡ b ∷ drop (i + 1) bytes
    cut_at bytes i b lt e = rw (add-one, ← e) (drop-cons bytes i 0 lt)

    cut : (bytes : List ℕ) (i : ℕ) → i < length bytes → is_blank (get_or bytes i 0) ≡ true → drop i bytes ≡ 32 ∷ drop (i + 1) bytes
    cut bytes i lt h = cut_at bytes i 32 lt (eqb-true _ _ h)

    last : length more ≤ position_or_len is_blank more → cond (is_next limit done more) (Some (done ++ more ∷ [])) None ≡ cond (is_next limit done (before_first is_blank more)) (names_after limit (done ++ before_first is_blank more ∷ []) (drop (position_or_len is_blank more) more)) None
    last ge =
        let all : before_first is_blank more ≡ more = take_all (position_or_len is_blank more) more ge in
        let none : drop (position_or_len is_blank more) more ≡ [] = drop_all (position_or_len is_blank more) more ge in
        rw (all, none) refl

pub not_blank_first : (limit : ℕ) (done : List (List ℕ)) (b : ℕ) (more : List ℕ) → is_blank b ≡ false → names_after limit done (b ∷ more) ≡ None
not_blank_first limit done b more h = rw h refl

pub word_stops : (limit : ℕ) (done : List (List ℕ)) (more : List ℕ) → is_next limit done (before_first is_blank more) ≡ false → names_after limit done (32 ∷ more) ≡ None
word_stops limit done more h = next_names limit done more ∙ rw h refl

pub word_goes_on : (limit : ℕ) (done : List (List ℕ)) (more : List ℕ) → is_next limit done (before_first is_blank more) ≡ true → names_after limit done (32 ∷ more) ≡ names_after limit (done ++ before_first is_blank more ∷ []) (drop (position_or_len is_blank more) more)
word_goes_on limit done more h = next_names limit done more ∙ rw h refl

pub place_within : (bytes : List ℕ) → position_or_len is_blank bytes ≤ length bytes
place_within [] = omega arith
place_within (b ∷ bs) = step (is_blank b) (place_within bs)
  where
    step : (c : Bool) → position_or_len is_blank bs ≤ length bs → cond (not c) (1 + position_or_len is_blank bs) 0 ≤ length (b ∷ bs)
    step true h = omega arith
    step false h = omega (arith, h)
