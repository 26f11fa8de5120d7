-- The first line of a text, and the others.
use Rattle.std.proofs.Common.{◌≡◌, ◌≢◌, ℕ, ◌<◌, ◌≤◌, Bool, true, false, cond, eqb, List, [], ◌∷◌, ◌++◌, length, refl, sym, ap, ◌∙◌, arith, append_assoc}
use Rattle.std.specs.List.{slice_split, onto_first, position_or_len, before_first, after_first}
use Rattle.std.proofs.lemmas.List.Splits.{slice_split_first, slice_split_none, slice_split_at}
use Rattle.std.specs.List.{All}
use Rattle.std.proofs.lemmas.List.Sums.{fails_before_first}
use Rattle.std.proofs.lemmas.List.Elements.{All-from_get_or, All-from_recursion}
use Rattle.std.proofs.lemmas.Bool.{ne_eqb}
use Rattle.line_text.specs.Lines.{without_empty_end, lines_of, text_of}
use Rattle.std.specs.List.{AllByRecursion}
use Rattle.std.proofs.lemmas.List.Concat.{flat_map-cons}

abbrev pub is_feed : ℕ → Bool
is_feed b = eqb b 10

onto_some : (x : ℕ) (parts : List (List ℕ)) → (y : List ℕ) × (ys : List (List ℕ)) × (onto_first x parts ≡ y ∷ ys)
onto_some x [] = (x ∷ [], [], refl)
onto_some x (p ∷ ps) = (x ∷ p, ps, refl)

split_some : (xs : List ℕ) → (y : List ℕ) × (ys : List (List ℕ)) × (slice_split is_feed xs ≡ y ∷ ys)
split_some [] = ([], [], refl)
split_some (x ∷ xs) = elim (is_feed x) as (λ b. (y : List ℕ) × (ys : List (List ℕ)) × (cond b ([] ∷ slice_split is_feed xs) (onto_first x (slice_split is_feed xs)) ≡ y ∷ ys)) [ true ↦ ([], slice_split is_feed xs, refl) | false ↦ onto_some x (slice_split is_feed xs) ]

pub first_of_many : (bytes : List ℕ) → position_or_len is_feed bytes < length bytes → lines_of bytes ≡ before_first is_feed bytes ∷ lines_of (after_first is_feed bytes)
first_of_many bytes lt =
    let s = split_some (after_first is_feed bytes) in
    let e : slice_split is_feed bytes ≡ before_first is_feed bytes ∷ (s.0 ∷ s.1) = slice_split_first is_feed bytes 0 lt ∙ ap (λ (t : List (List ℕ)). before_first is_feed bytes ∷ t) s.2 in
    ap without_empty_end e ∙ ap (λ (t : List (List ℕ)). before_first is_feed bytes ∷ without_empty_end t) (sym s.2)

none_before : (bytes : List ℕ) → length bytes ≤ position_or_len is_feed bytes → All (λ b. is_feed b ≡ false) bytes
none_before bytes le = All-from_get_or (λ b. is_feed b ≡ false) bytes 0 (λ k lt. fails_before_first is_feed bytes k 0 (omega arith))

alone : (bytes : List ℕ) → 0 < length bytes → without_empty_end (bytes ∷ []) ≡ bytes ∷ []
alone [] lt = absurd (omega arith)
alone (b ∷ bs) lt = refl

pub first_of_one : (bytes : List ℕ) → 0 < length bytes → length bytes ≤ position_or_len is_feed bytes → lines_of bytes ≡ bytes ∷ []
first_of_one bytes some le = ap without_empty_end (slice_split_none is_feed bytes (none_before bytes le)) ∙ alone bytes some

pub line_again : (line rest : List ℕ) → All (λ b. is_feed b ≡ false) line → lines_of ((line ++ 10 ∷ []) ++ rest) ≡ line ∷ lines_of rest
line_again line rest none =
    let s = split_some rest in
    let e : slice_split is_feed ((line ++ 10 ∷ []) ++ rest) ≡ line ∷ (s.0 ∷ s.1) = ap (slice_split is_feed) (append_assoc line (10 ∷ []) rest) ∙ slice_split_at is_feed line 10 rest none refl ∙ ap (λ (t : List (List ℕ)). line ∷ t) s.2 in
    ap without_empty_end e ∙ ap (λ (t : List (List ℕ)). line ∷ without_empty_end t) (sym s.2)

pub text_again : (lines : List (List ℕ)) → AllByRecursion (λ l. All (λ b. is_feed b ≡ false) l) lines → lines_of (text_of lines) ≡ lines
text_again [] h = refl
text_again (l ∷ ls) h = ap lines_of (flat_map-cons (λ x. x ++ 10 ∷ []) l ls) ∙ line_again l (text_of ls) h.0 ∙ ap (λ (t : List (List ℕ)). l ∷ t) (text_again ls h.1)

-- no byte of a line is a line feed
no_feed : (line : List ℕ) → AllByRecursion (λ b. b ≢ 10) line → AllByRecursion (λ b. is_feed b ≡ false) line
no_feed [] h = tt
no_feed (b ∷ bs) h = (ne_eqb b 10 h.0, no_feed bs h.1)

pub lines_again : (lines : List (List ℕ)) → AllByRecursion (λ line. AllByRecursion (λ b. b ≢ 10) line) lines → lines_of (text_of lines) ≡ lines
lines_again lines h = text_again lines (each lines h)
  where
    each : (ls : List (List ℕ)) → AllByRecursion (λ line. AllByRecursion (λ b. b ≢ 10) line) ls → AllByRecursion (λ l. All (λ b. is_feed b ≡ false) l) ls
    each [] h = tt
    each (l ∷ ls) h = (All-from_recursion (λ b. is_feed b ≡ false) l (no_feed l h.0), each ls h.1)
