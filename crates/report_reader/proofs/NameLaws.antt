-- A list of names, each behind a blank, is read exactly.
use Rattle.std.proofs.Common.{◌≡◌, ℕ, zero, suc, ◌<◌, ◌≤◌, ◌+◌, ◌-◌, Bool, true, false, cond, ◌&&◌, ◌||◌, not, eqb, ltb, List, [], ◌∷◌, ◌++◌, length, take, drop, Option, Some, None, refl, sym, ap, ap₂, subst, ◌∙◌, arith, append_assoc, length-append, inl, inr}
use Rattle.std.specs.Prelude.{codes, IsTrue}
use Rattle.std.specs.List.{slice_split, onto_first, All, AllByRecursion, IsDistinct, flat_map}
use Rattle.std.specs.Str.{bytes_eq}
use Rattle.std.specs.Cmp.Lexicographic.{bytes_decides}
use Rattle.std.proofs.lemmas.Bool.{eqb-true, ltb-true, lt-ltb, ne_eqb, cases_Bool, both_ways}
use Rattle.std.proofs.lemmas.List.{append-nil}
use Rattle.std.proofs.lemmas.List.Splits.{slice_split_first, slice_split_none, slice_split_at}
use Rattle.std.proofs.lemmas.List.Elements.{All-from_recursion}
use Rattle.cpog_base.specs.Names.{has_text, AreDistinct}
use Rattle.line_text.specs.Words.{is_free_name, continues_name}
use Rattle.line_text.proofs.TellingLemmas.{AllPass, free_name_passes}
use Rattle.line_rows.specs.Words.{◌>>=?◌, behind_of}
use Rattle.line_rows.proofs.Exact.{IsExact, exact-behind, tested, both_true, some_is}
use Rattle.report_text.specs.Rows.{blank_names, operations_row}
use Rattle.report_reader.specs.Reading.{is_next, names_from, names_after, operations_in, AreNext}

abbrev pub is_blank : ℕ → Bool
is_blank b = eqb b 32

-- ---- words and their blanks

split_some : (xs : List ℕ) → (y : List ℕ) × (ys : List (List ℕ)) × (slice_split is_blank xs ≡ y ∷ ys)
split_some [] = ([], [], refl)
split_some (x ∷ xs) = elim (is_blank x) as (λ b. (y : List ℕ) × (ys : List (List ℕ)) × (cond b ([] ∷ slice_split is_blank xs) (onto_first x (slice_split is_blank xs)) ≡ y ∷ ys)) [ true ↦ ([], slice_split is_blank xs, refl) | false ↦ onto_some x (slice_split is_blank xs) ]
  where
    onto_some : (x : ℕ) (parts : List (List ℕ)) → (y : List ℕ) × (ys : List (List ℕ)) × (onto_first x parts ≡ y ∷ ys)
    onto_some x [] = (x ∷ [], [], refl)
    onto_some x (p ∷ ps) = (x ∷ p, ps, refl)

tail_is : (b : ℕ) (xs ys : List ℕ) → (b ∷ xs) ≡ (b ∷ ys) → xs ≡ ys
tail_is b xs ys e = cc

pub joined_again : (bs : List ℕ) → blank_names (slice_split is_blank bs) ≡ 32 ∷ bs
joined_again [] = refl
joined_again (x ∷ xs) = step (joined_again xs) (is_blank x) refl
  where
    step : blank_names (slice_split is_blank xs) ≡ 32 ∷ xs → (b : Bool) → b ≡ is_blank x → blank_names (cond b ([] ∷ slice_split is_blank xs) (onto_first x (slice_split is_blank xs))) ≡ 32 ∷ (x ∷ xs)
    step before true e = ap (λ (t : List ℕ). 32 ∷ t) before ∙ ap (λ (n : ℕ). 32 ∷ (n ∷ xs)) (sym (eqb-true x 32 (sym e)))
    step before false e =
        let s = split_some xs in
        let t : 32 ∷ (s.0 ++ blank_names s.1) ≡ 32 ∷ xs = ap blank_names (sym s.2) ∙ before in
        ap (λ (p : List (List ℕ)). blank_names (onto_first x p)) s.2 ∙ ap (λ (t : List ℕ). 32 ∷ (x ∷ t)) (tail_is 32 (s.0 ++ blank_names s.1) xs t)

not_blank : (b : ℕ) → continues_name b ≡ true → is_blank b ≡ false
not_blank b h = ne_eqb b 32 (λ e. absurd (both_ways (continues_name b) (ap continues_name e) h))

no_blanks : (w : List ℕ) → AllPass continues_name w → AllByRecursion (λ b. is_blank b ≡ false) w
no_blanks [] h = tt
no_blanks (b ∷ bs) h = (not_blank b h.0, no_blanks bs h.1)

pub word_plain : (w : List ℕ) → is_free_name w ≡ true → All (λ b. is_blank b ≡ false) w
word_plain w h = All-from_recursion (λ b. is_blank b ≡ false) w (no_blanks w (free_name_passes w h))

split_again : (w : List ℕ) (ws : List (List ℕ)) → AllByRecursion (λ w. is_free_name w ≡ true) (w ∷ ws) → slice_split is_blank (w ++ blank_names ws) ≡ w ∷ ws
split_again w [] h = ap (slice_split is_blank) (append-nil w) ∙ slice_split_none is_blank w (word_plain w h.0)
split_again w (v ∷ vs) h = slice_split_at is_blank w 32 (v ++ blank_names vs) (word_plain w h.0) refl ∙ ap (λ (t : List (List ℕ)). w ∷ t) (split_again v vs h.1)

-- ---- names behind those that are read

pub next_free : (limit : ℕ) (done ws : List (List ℕ)) → AreNext limit done ws → AllByRecursion (λ w. is_free_name w ≡ true) ws
next_free limit done [] h = tt
next_free limit done (w ∷ ws) h = ((both_true (is_free_name w) _ h.0).0, next_free limit (done ++ w ∷ []) ws h.1)

from_again : (limit : ℕ) (done ws : List (List ℕ)) → AreNext limit done ws → names_from limit done ws ≡ Some (done ++ ws)
from_again limit done [] h = ap (λ (x : List (List ℕ)). Some x) (sym (append-nil done))
from_again limit done (w ∷ ws) h = rw h.0 (from_again limit (done ++ w ∷ []) ws h.1 ∙ ap (λ (x : List (List ℕ)). Some x) (append_assoc done (w ∷ []) ws))

from_takes : (limit : ℕ) (done ws v : List (List ℕ)) → names_from limit done ws ≡ Some v → AreNext limit done ws × (done ++ ws ≡ v)
from_takes limit done [] v e = (tt, append-nil done ∙ some_is done v e)
from_takes limit done (w ∷ ws) v e = step (λ h. from_takes limit (done ++ w ∷ []) ws v h) (is_next limit done w) refl e
  where
    step : (names_from limit (done ++ w ∷ []) ws ≡ Some v → AreNext limit (done ++ w ∷ []) ws × ((done ++ w ∷ []) ++ ws ≡ v)) → (b : Bool) → b ≡ is_next limit done w → cond b (names_from limit (done ++ w ∷ []) ws) None ≡ Some v → AreNext limit done (w ∷ ws) × (done ++ w ∷ ws ≡ v)
    step more true is h = let r = more h in ((sym is, r.0), sym (append_assoc done (w ∷ []) ws) ∙ r.1)
    step more false is h = absurd cc

pub names_exact : (limit : ℕ) → IsExact (AreNext limit []) blank_names (names_after limit [])
names_exact limit = record { again = λ names fits. again names fits; takes = λ bytes names e. takes bytes names e }
  where
    again : (names : List (List ℕ)) → AreNext limit [] names → names_after limit [] (blank_names names) ≡ Some names
    again [] fits = refl
    again (w ∷ ws) fits = ap (names_from limit []) (split_again w ws (next_free limit [] (w ∷ ws) fits)) ∙ from_again limit [] (w ∷ ws) fits

    takes : (bytes : List ℕ) (names : List (List ℕ)) → names_after limit [] bytes ≡ Some names → AreNext limit [] names × (bytes ≡ blank_names names)
    takes [] names e = subst (λ (x : List (List ℕ)). AreNext limit [] x × ([] ≡ blank_names x)) (some_is [] names e) (tt, refl)
    takes (b ∷ bs) names e = step (is_blank b) refl e
      where
        step : (c : Bool) → c ≡ is_blank b → cond c (names_from limit [] (slice_split is_blank bs)) None ≡ Some names → AreNext limit [] names × ((b ∷ bs) ≡ blank_names names)
        step true is h =
            let r = from_takes limit [] (slice_split is_blank bs) names h in
            (subst (AreNext limit []) r.1 r.0, ap (λ (n : ℕ). n ∷ bs) (eqb-true b 32 (sym is)) ∙ sym (joined_again bs) ∙ ap blank_names r.1)
        step false is h = absurd cc

pub operations_exact : IsExact (AreNext 64 []) operations_row operations_in
unfolding operations_in
operations_exact = exact-behind (codes "operations") (names_exact 64)
