-- A list of words behind blanks is taken word by word.
use Rattle.std.proofs.Common.{◌≡◌, ℕ, zero, suc, ◌<◌, ◌≤◌, ◌+◌, Bool, true, false, cond, eqb, List, [], ◌∷◌, ◌++◌, length, take, drop, Option, Some, None, refl, sym, ap, subst, ◌∙◌, arith, inl, inr, get_or, add-one, drop-cons, take_all}
use Rattle.std.specs.List.{slice_split, All, AllByRecursion, position_or_len, before_first, after_first}
use Rattle.std.proofs.lemmas.Bool.{eqb-true, cases_lt}
use Rattle.std.proofs.lemmas.List.{append-nil, drop_all}
use Rattle.std.proofs.lemmas.List.Splits.{slice_split_first, slice_split_none, slice_split_at}
use Rattle.std.proofs.lemmas.List.Sums.{fails_before_first, passes_at_first}
use Rattle.std.proofs.lemmas.List.Elements.{All-from_get_or}
use Rattle.line_rows.specs.Words.{◌>>=?◌}
use Rattle.report_text.specs.Rows.{blank_names}
use Rattle.report_reader.specs.Lists.{words_from, words_after}
use Rattle.report_reader.proofs.NameLaws.{is_blank, joined_again}

-- a word has no blank
abbrev pub IsPlain : List ℕ → Type 0
IsPlain w = All (λ b. is_blank b ≡ false) w

split_again : (w : List ℕ) (ws : List (List ℕ)) → IsPlain w → AllByRecursion IsPlain ws → slice_split is_blank (w ++ blank_names ws) ≡ w ∷ ws
split_again w [] h hs = ap (slice_split is_blank) (append-nil w) ∙ slice_split_none is_blank w h
split_again w (v ∷ vs) h hs = slice_split_at is_blank w 32 (v ++ blank_names vs) h refl ∙ ap (λ (t : List (List ℕ)). w ∷ t) (split_again v vs hs.0 hs.1)

pub words_again : {S : Type 0} (step : S → List ℕ → Option S) (s : S) (ws : List (List ℕ)) → AllByRecursion IsPlain ws → words_after step s (blank_names ws) ≡ words_from step s ws
words_again step s [] h = refl
words_again step s (w ∷ ws) h = ap (words_from step s) (split_again w ws h.0 h.1)

pub if_true : {S : Type 0} (b : Bool) (o : Option S) (x : S) → cond b o None ≡ Some x → (b ≡ true) × (o ≡ Some x)
if_true true o x e = (refl, e)
if_true false o x e = absurd cc

pub words_takes : {S : Type 0} (step : S → List ℕ → Option S) (s : S) (bytes : List ℕ) (x : S) → words_after step s bytes ≡ Some x → (ws : List (List ℕ)) × (bytes ≡ blank_names ws) × (words_from step s ws ≡ Some x)
words_takes step s [] x e = ([], refl, e)
words_takes step s (b ∷ bs) x e =
    let t = if_true (is_blank b) (words_from step s (slice_split is_blank bs)) x e in
    (slice_split is_blank bs, ap (λ (n : ℕ). n ∷ bs) (eqb-true b 32 t.0) ∙ sym (joined_again bs), t.1)

-- ---- one word after another

none_before : (bytes : List ℕ) → length bytes ≤ position_or_len is_blank bytes → All (λ b. is_blank b ≡ false) bytes
none_before bytes le = All-from_get_or (λ b. is_blank b ≡ false) bytes 0 (λ k lt. fails_before_first is_blank bytes k 0 (omega arith))

cut_at : (bytes : List ℕ) (i b : ℕ) → i < length bytes → get_or bytes i 0 ≡ b → drop i bytes ≡ b ∷ drop (i + 1) bytes
cut_at bytes i b lt e = rw (add-one, ← e) (drop-cons bytes i 0 lt)

cut : (bytes : List ℕ) (i : ℕ) → i < length bytes → is_blank (get_or bytes i 0) ≡ true → drop i bytes ≡ 32 ∷ drop (i + 1) bytes
cut bytes i lt h = cut_at bytes i 32 lt (eqb-true _ _ h)

module _ {S : Type 0} (step : S → List ℕ → Option S) (s : S) (more : List ℕ) where
  abbrev rest_from : List ℕ → Option S
  rest_from rest = step s (before_first is_blank more) >>=? λ t. words_after step t rest

  last : length more ≤ position_or_len is_blank more → words_from step s (more ∷ []) ≡ rest_from (drop (position_or_len is_blank more) more)
  last ge =
      let all : before_first is_blank more ≡ more = take_all (position_or_len is_blank more) more ge in
      let none : drop (position_or_len is_blank more) more ≡ [] = drop_all (position_or_len is_blank more) more ge in
      rw (all, none) refl

  next_words : words_after step s (32 ∷ more) ≡ rest_from (drop (position_or_len is_blank more) more)
  next_words = elim (cases_lt (position_or_len is_blank more) (length more)) [
    | inl lt ↦ rw (slice_split_first is_blank more 0 lt) (sym (ap rest_from (cut more (position_or_len is_blank more) lt (passes_at_first is_blank more 0 lt))))
    | inr ge ↦ rw (slice_split_none is_blank more (none_before more ge)) (last ge)
  ]

  pub list_stops : step s (before_first is_blank more) ≡ None → words_after step s (32 ∷ more) ≡ None
  list_stops h = next_words ∙ rw h refl

  pub list_goes_on : (t : S) → step s (before_first is_blank more) ≡ Some t → words_after step s (32 ∷ more) ≡ words_after step t (drop (position_or_len is_blank more) more)
  list_goes_on t h = next_words ∙ rw h refl

pub not_a_list : {S : Type 0} (step : S → List ℕ → Option S) (s : S) (b : ℕ) (more : List ℕ) → is_blank b ≡ false → words_after step s (b ∷ more) ≡ None
not_a_list step s b more h = rw h refl
