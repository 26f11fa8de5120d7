-- The first word of a line, and the others.
use Rattle.std.proofs.Common.{◌≡◌, ℕ, ◌<◌, ◌≤◌, true, false, List, [], ◌∷◌, ◌++◌, length, get_or, length-take, refl, sym, ap, subst, ◌∙◌, arith, inl, inr}
use Rattle.std.specs.List.{slice_split, position_or_len, before_first, after_first, All}
use Rattle.std.proofs.lemmas.List.Splits.{slice_split_first, slice_split_none, slice_split_at, slice_split-cons_yes}
use Rattle.std.proofs.lemmas.List.Sums.{fails_before_first, passes_at_first}
use Rattle.std.proofs.lemmas.Bool.{cases_lt, cases_Bool, false≢true}
use Rattle.std.proofs.lemmas.List.{append-nil}
use Rattle.std.proofs.lemmas.List.Elements.{All-from_get_or, All-from_recursion}
use Rattle.text_rows.specs.Words.{is_space, without_empty, tokens, EndsWord, NoSpace}

pub tokens_space : (b : ℕ) (bytes : List ℕ) → is_space b ≡ true → tokens (b ∷ bytes) ≡ tokens bytes
tokens_space b bytes e = ap without_empty (slice_split-cons_yes is_space b bytes e)

kept : (word : List ℕ) (others : List (List ℕ)) → 0 < length word → without_empty (word ∷ others) ≡ word ∷ without_empty others
kept [] others lt = absurd (omega arith)
kept (b ∷ bs) others lt = refl

pub tokens_first : (bytes : List ℕ) → 0 < position_or_len is_space bytes → position_or_len is_space bytes < length bytes → tokens bytes ≡ before_first is_space bytes ∷ tokens (after_first is_space bytes)
tokens_first bytes some lt = ap without_empty (slice_split_first is_space bytes 0 lt) ∙ kept (before_first is_space bytes) (slice_split is_space (after_first is_space bytes)) (omega (arith, length-take (position_or_len is_space bytes) bytes))

none_before : (bytes : List ℕ) → length bytes ≤ position_or_len is_space bytes → All (λ b. is_space b ≡ false) bytes
none_before bytes le = All-from_get_or (λ b. is_space b ≡ false) bytes 0 (λ k lt. fails_before_first is_space bytes k 0 (omega arith))

pub tokens_only : (bytes : List ℕ) → 0 < length bytes → length bytes ≤ position_or_len is_space bytes → tokens bytes ≡ bytes ∷ []
tokens_only bytes some le = ap without_empty (slice_split_none is_space bytes (none_before bytes le)) ∙ kept bytes [] some

passes_at_zero : (bytes : List ℕ) (i : ℕ) → i ≡ 0 → is_space (get_or bytes i 0) ≡ true → is_space (get_or bytes 0 0) ≡ true
passes_at_zero bytes i e h = subst (λ (j : ℕ). is_space (get_or bytes j 0) ≡ true) e h

pub starts_inside : (bytes : List ℕ) → 0 < length bytes → is_space (get_or bytes 0 0) ≡ false → 0 < position_or_len is_space bytes
starts_inside bytes some first = elim (cases_lt 0 (position_or_len is_space bytes)) [
  | inl h ↦ h
  | inr h ↦ absurd (false≢true (sym first ∙ passes_at_zero bytes (position_or_len is_space bytes) (omega arith) (passes_at_first is_space bytes 0 (omega arith))))
]

split_front : (word more : List ℕ) (y : ℕ) → NoSpace word → is_space y ≡ true → slice_split is_space (word ++ y ∷ more) ≡ word ∷ slice_split is_space more
split_front word more y none e = slice_split_at is_space word y more (All-from_recursion (λ b. is_space b ≡ false) word none) e

-- the first word and what is behind it
pub tokens_word : (word more : List ℕ) → 0 < length word → NoSpace word → EndsWord more → tokens (word ++ more) ≡ word ∷ tokens more
tokens_word word [] some none ends = ap tokens (append-nil word) ∙ (ap without_empty (slice_split_none is_space word (All-from_recursion (λ b. is_space b ≡ false) word none)) ∙ kept word [] some)
tokens_word word (y ∷ more) some none ends =
    ap without_empty (split_front word more y none ends) ∙ (kept word (slice_split is_space more) some ∙ ap (λ (t : List (List ℕ)). word ∷ t) (sym (tokens_space y more ends)))

-- the bytes up to the first blank
pub word_parts : (bytes : List ℕ) → (word : List ℕ) × (more : List ℕ) × (bytes ≡ word ++ more) × NoSpace word × EndsWord more
word_parts [] = ([], [], refl, tt, tt)
word_parts (b ∷ bs) = elim (cases_Bool (is_space b)) [
  | inl space ↦ ([], b ∷ bs, refl, tt, space)
  | inr other ↦ let p = word_parts bs in (b ∷ p.0, p.1, ap (λ (t : List ℕ). b ∷ t) p.2, (other, p.3), p.4)
]

parts_some : (word more bytes : List ℕ) → bytes ≡ word ++ more → EndsWord more → 0 < length bytes → is_space (get_or bytes 0 0) ≡ false → 0 < length word
parts_some [] [] bytes e ends some first = absurd (omega (arith, ap length e))
parts_some [] (y ∷ more) bytes e ends some first = absurd (false≢true (sym first ∙ (ap (λ (t : List ℕ). is_space (get_or t 0 0)) e ∙ ends)))
parts_some (b ∷ bs) more bytes e ends some first = omega arith

-- bytes that begin with a word, which is the first of the words
pub word_first : (bytes w : List ℕ) (ws : List (List ℕ)) → 0 < length bytes → is_space (get_or bytes 0 0) ≡ false → tokens bytes ≡ w ∷ ws → (more : List ℕ) × (bytes ≡ w ++ more) × EndsWord more × (tokens more ≡ ws)
word_first bytes w ws some first e =
    let p = word_parts bytes in
    let s : 0 < length p.0 = parts_some p.0 p.1 bytes p.2 p.4 some first in
    let t : (p.0 ∷ tokens p.1) ≡ (w ∷ ws) = sym (tokens_word p.0 p.1 s p.3 p.4) ∙ (ap tokens (sym p.2) ∙ e) in
    (p.1, p.2 ∙ ap (λ (x : List ℕ). x ++ p.1) (let h : p.0 ≡ w = cc in h), p.4, (let h : tokens p.1 ≡ ws = cc in h))

pub no_tokens : (bytes : List ℕ) → 0 < length bytes → is_space (get_or bytes 0 0) ≡ false → tokens bytes ≡ [] → ⊥
no_tokens bytes some first e =
    let p = word_parts bytes in
    let s : 0 < length p.0 = parts_some p.0 p.1 bytes p.2 p.4 some first in
    let t : (p.0 ∷ tokens p.1) ≡ [] = sym (tokens_word p.0 p.1 s p.3 p.4) ∙ (ap tokens (sym p.2) ∙ e) in
    absurd cc
