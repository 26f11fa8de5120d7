-- One name of a header, as it is taken from the text.
use Rattle.std.proofs.Common.{◌≡◌, ℕ, zero, suc, ◌<◌, ◌≤◌, ◌+◌, Bool, true, false, cond, not, ltb, List, [], ◌∷◌, ◌++◌, length, drop, Option, Some, None, refl, ap, subst, arith, length-append, inl, inr}
use Rattle.std.specs.Prelude.{codes, MatchOption}
use Rattle.std.specs.List.{position_or_len, before_first}
use Rattle.std.specs.Str.{IsUtf8}
use Rattle.std.proofs.lemmas.Bool.{both_ways, cases_Bool, lt-ltb, le-ltb}
use Rattle.std.proofs.lemmas.Bool.Decides.{nat_tests}
use Rattle.cpog_base.specs.Names.{has_text, with_text}
use Rattle.line_text.specs.Words.{is_free_name, continues_name}
use Rattle.line_text.proofs.TellingLemmas.{AllPass, free_name_passes}
use Rattle.line_rows.specs.Words.{behind}
use Rattle.module_reader.specs.Lists.{is_comma, is_new_name, names_run}
use Rattle.std.specs.Str.{IsAscii, IsUtf8}
use Rattle.std.proofs.lemmas.Str.{IsUtf8-from_ascii}

continues-lt : (b : ℕ) → continues_name b ≡ true → b < 128
continues-lt b h = grind (arith, nat_tests)

IsAscii-word : (w : List ℕ) → AllPass continues_name w → IsAscii w
IsAscii-word [] h zero = omega arith
IsAscii-word [] h (suc i) = omega arith
IsAscii-word (b ∷ w) h zero = continues-lt b h.0
IsAscii-word (b ∷ w) h (suc i) = IsAscii-word w h.1 i

pub IsUtf8-name : (w : List ℕ) → is_free_name w ≡ true → IsUtf8 w
IsUtf8-name w h = IsUtf8-from_ascii w (IsAscii-word w (free_name_passes w h))

not_less : (n : ℕ) → ltb n n ≡ false
not_less n = le-ltb n n (omega arith)

pub refused_word : (names : List (List ℕ)) (w : List ℕ) → is_free_name w ≡ false → false ≡ is_new_name names w
refused_word names w h = rw h refl

pub is_taken : (names : List (List ℕ)) (w : List ℕ) → is_free_name w ≡ true → ltb (length names) (length (with_text names w)) ≡ is_new_name names w
is_taken names w free = elim (cases_Bool (has_text names w)) [
  | inl there ↦ rw (there, free) (not_less (length names))
  | inr new ↦ rw (new, free) (lt-ltb (length names) (length (names ++ w ∷ [])) (omega (arith, length-append names (w ∷ []))))
]

pub goes_last : (names : List (List ℕ)) (w : List ℕ) → ltb (length names) (length (with_text names w)) ≡ true → with_text names w ≡ names ++ w ∷ []
goes_last names w h = elim (cases_Bool (has_text names w)) [
  | inl there ↦ absurd (both_ways (ltb (length names) (length names)) (not_less (length names)) (subst (λ (b : Bool). ltb (length names) (length (cond b names (names ++ w ∷ []))) ≡ true) there h))
  | inr new ↦ rw new refl
]

pub stays : (names : List (List ℕ)) (w : List ℕ) → ltb (length names) (length (with_text names w)) ≡ false → with_text names w ≡ names
stays names w h = elim (cases_Bool (has_text names w)) [
  | inl there ↦ rw there refl
  | inr new ↦ absurd (both_ways (ltb (length names) (length (names ++ w ∷ []))) (subst (λ (b : Bool). ltb (length names) (length (cond b names (names ++ w ∷ []))) ≡ false) new h) (lt-ltb (length names) (length (names ++ w ∷ [])) (omega (arith, length-append names (w ∷ [])))))
]

-- ---- one step of the list

abbrev so_far : List (List ℕ) → List ℕ → List (List ℕ) × List ℕ
so_far names text = (names, text)

pub no_front : (names : List (List ℕ)) (text : List ℕ) (n : ℕ) → behind (codes ", a_") text ≡ None → names_run (suc n) names text ≡ (names, text)
unfolding names_run
no_front names text n e = rw e refl

pub word_stops : (names : List (List ℕ)) (text more : List ℕ) (n : ℕ) → behind (codes ", a_") text ≡ Some more → is_new_name names (before_first is_comma more) ≡ false → names_run (suc n) names text ≡ (names, text)
unfolding names_run
word_stops names text more n e h = rw e (rw h refl)

pub word_goes_on : (names : List (List ℕ)) (text more : List ℕ) (n : ℕ) → behind (codes ", a_") text ≡ Some more → is_new_name names (before_first is_comma more) ≡ true
    → names_run (suc n) names text ≡ names_run n (names ++ before_first is_comma more ∷ []) (drop (position_or_len is_comma more) more)
unfolding names_run
word_goes_on names text more n e h = rw e (rw h refl)

pub names_none : (names : List (List ℕ)) (n : ℕ) (bytes : List ℕ) → n ≡ 0 → names_run n names bytes ≡ (names, bytes)
unfolding names_run
names_none names n bytes is = ap (λ (k : ℕ). names_run k names bytes) is

pub place_within : (bytes : List ℕ) → position_or_len is_comma bytes ≤ length bytes
place_within [] = omega arith
place_within (b ∷ bs) = step (is_comma b) (place_within bs)
  where
    step : (c : Bool) → position_or_len is_comma bs ≤ length bs → cond (not c) (1 + position_or_len is_comma bs) 0 ≤ length (b ∷ bs)
    step true h = omega arith
    step false h = omega (arith, h)

pub match_none : {A : Type 0} (o : Option A) (P : Type 0) (Q : A → Type 0) → MatchOption o P Q → o ≡ None → P
match_none None P Q h e = h
match_none (Some x) P Q h e = absurd cc
