-- The first line of a text, and the others.
use Rattle.std.proofs.Common.{◌≡◌, ℕ, zero, suc, ◌+◌, ◌<◌, Bool, true, false, cond, eqb, List, [], ◌∷◌, length, take, drop, get_or, refl, sym, ap, ◌∙◌, arith}
use Rattle.std.specs.List.{slice_split, onto_first, position_or_len, before_first, after_first}
use Rattle.std.proofs.lemmas.List.Splits.{slice_split_first, slice_split_none}
use Rattle.std.proofs.lemmas.List.Sums.{position_or_len_is}
use Rattle.std.proofs.lemmas.List.Elements.{All-from_get_or}
use Rattle.std.proofs.lemmas.Bool.{eq-eqb, ne_eqb}
use Rattle.text_rows.specs.Lines.{without_return, fed, free_lines}

abbrev pub is_feed : ℕ → Bool
is_feed b = eqb b 10

pub return_dropped : (line : List ℕ) (k : ℕ) → suc k ≡ length line → get_or line k 0 ≡ 13 → take k line ≡ without_return line
return_dropped [] k n e = absurd (omega (arith, n))
return_dropped (b ∷ []) zero n e = rw (eq-eqb b 13 e) refl
return_dropped (b ∷ []) (suc k) n e = absurd (omega (arith, n))
return_dropped (a ∷ b ∷ bs) zero n e = absurd (omega (arith, n))
return_dropped (a ∷ b ∷ bs) (suc k) n e = ap (λ (t : List ℕ). a ∷ t) (return_dropped (b ∷ bs) k (omega (arith, n)) e)

pub return_stays : (line : List ℕ) (k : ℕ) → suc k ≡ length line → (get_or line k 0 ≡ 13 → ⊥) → line ≡ without_return line
return_stays [] k n e = absurd (omega (arith, n))
return_stays (b ∷ []) zero n e = rw (ne_eqb b 13 e) refl
return_stays (b ∷ []) (suc k) n e = absurd (omega (arith, n))
return_stays (a ∷ b ∷ bs) zero n e = absurd (omega (arith, n))
return_stays (a ∷ b ∷ bs) (suc k) n e = ap (λ (t : List ℕ). a ∷ t) (return_stays (b ∷ bs) k (omega (arith, n)) e)

pub return_none : (line : List ℕ) → length line ≡ 0 → line ≡ without_return line
return_none [] e = refl
return_none (b ∷ bs) e = absurd (omega arith)

onto_some : (x : ℕ) (parts : List (List ℕ)) → (y : List ℕ) × (ys : List (List ℕ)) × (onto_first x parts ≡ y ∷ ys)
onto_some x [] = (x ∷ [], [], refl)
onto_some x (p ∷ ps) = (x ∷ p, ps, refl)

split_some : (xs : List ℕ) → (y : List ℕ) × (ys : List (List ℕ)) × (slice_split is_feed xs ≡ y ∷ ys)
split_some [] = ([], [], refl)
split_some (x ∷ xs) = elim (is_feed x) as (λ b. (y : List ℕ) × (ys : List (List ℕ)) × (cond b ([] ∷ slice_split is_feed xs) (onto_first x (slice_split is_feed xs)) ≡ y ∷ ys)) [ true ↦ ([], slice_split is_feed xs, refl) | false ↦ onto_some x (slice_split is_feed xs) ]

fed_more : (x y : List ℕ) (ys : List (List ℕ)) → fed (x ∷ y ∷ ys) ≡ without_return x ∷ fed (y ∷ ys)
fed_more [] y ys = refl
fed_more (b ∷ bs) y ys = refl

first_of_many : (bytes : List ℕ) → position_or_len is_feed bytes < length bytes → free_lines bytes ≡ without_return (before_first is_feed bytes) ∷ free_lines (after_first is_feed bytes)
first_of_many bytes lt =
    let s = split_some (after_first is_feed bytes) in
    let e : slice_split is_feed bytes ≡ before_first is_feed bytes ∷ (s.0 ∷ s.1) = slice_split_first is_feed bytes 0 lt ∙ ap (λ (t : List (List ℕ)). before_first is_feed bytes ∷ t) s.2 in
    ap fed e ∙ (fed_more (before_first is_feed bytes) s.0 s.1 ∙ ap (λ (t : List (List ℕ)). without_return (before_first is_feed bytes) ∷ fed t) (sym s.2))

alone : (bytes : List ℕ) → 0 < length bytes → fed (bytes ∷ []) ≡ bytes ∷ []
alone [] lt = absurd (omega arith)
alone (b ∷ bs) lt = refl

pub first_of_one : (bytes : List ℕ) → 0 < length bytes → ((k : ℕ) → k < length bytes → get_or bytes k 0 ≡ 10 → ⊥) → free_lines bytes ≡ bytes ∷ []
first_of_one bytes some none = ap fed (slice_split_none is_feed bytes (All-from_get_or (λ b. is_feed b ≡ false) bytes 0 (λ k lt. ne_eqb (get_or bytes k 0) 10 (none k lt)))) ∙ alone bytes some

pub first_at : (bytes : List ℕ) (end : ℕ) → end < length bytes → ((k : ℕ) → k < end → get_or bytes k 0 ≡ 10 → ⊥) → get_or bytes end 0 ≡ 10 → free_lines bytes ≡ without_return (take end bytes) ∷ free_lines (drop (end + 1) bytes)
first_at bytes end lt none here =
    let p : position_or_len is_feed bytes ≡ end = position_or_len_is is_feed bytes end 0 (omega arith) (λ k l. ne_eqb (get_or bytes k 0) 10 (none k l)) (λ l. eq-eqb (get_or bytes end 0) 10 here) in
    first_of_many bytes (omega (arith, p)) ∙ ap (λ (k : ℕ). without_return (take k bytes) ∷ free_lines (drop (k + 1) bytes)) p
