-- A word takes two bytes at least, with what ends it.
use Rattle.std.proofs.Common.{◌≡◌, ℕ, ◌+◌, ◌*◌, ◌≤◌, ◌==◌, Bool, true, false, cond, List, [], ◌∷◌, length, arith}
use Rattle.std.specs.List.{slice_split, onto_first}
use Rattle.text_rows.specs.Words.{is_space, without_empty, tokens}
use Rattle.text_rows.specs.Lines.{without_return, fed, free_lines}

-- the bytes of parts, and one more for each
abbrev pub weight : List (List ℕ) → ℕ
weight [] = 0
weight (p ∷ parts) = (length p + 1) + weight parts

weight_onto : (b : ℕ) (parts : List (List ℕ)) → 1 ≤ weight parts → weight (onto_first b parts) ≡ weight parts + 1
weight_onto b [] some = absurd (omega arith)
weight_onto b (p ∷ parts) some = omega arith

weight_split : (test : ℕ → Bool) (bytes : List ℕ) → weight (slice_split test bytes) ≡ length bytes + 1
weight_split test [] = omega arith
weight_split test (b ∷ bytes) =
    let rest = weight_split test bytes in
    elim (test b) as (λ t. weight (cond t ([] ∷ slice_split test bytes) (onto_first b (slice_split test bytes))) ≡ length (b ∷ bytes) + 1) [
      | true ↦ omega (arith, rest)
      | false ↦ omega (arith, rest, weight_onto b (slice_split test bytes) (omega (arith, rest)))
    ]

few_filled : (parts : List (List ℕ)) → 2 * length (without_empty parts) ≤ weight parts
few_filled [] = omega arith
few_filled ([] ∷ parts) = omega (arith, few_filled parts)
few_filled ((b ∷ bs) ∷ parts) = omega (arith, few_filled parts)

pub few_words : (line : List ℕ) → 2 * length (tokens line) ≤ length line + 1
few_words line = omega (arith, few_filled (slice_split is_space line), weight_split is_space line)

shorter : (line : List ℕ) → length (without_return line) ≤ length line
shorter [] = omega arith
shorter (b ∷ []) = elim (b == 13) as (λ t. length (cond t [] (b ∷ [])) ≤ length (b ∷ [])) [ true ↦ omega arith | false ↦ omega arith ]
shorter (a ∷ b ∷ line) = omega (arith, shorter (b ∷ line))

few_fed : (parts : List (List ℕ)) → weight (fed parts) ≤ weight parts
few_fed [] = omega arith
few_fed ([] ∷ []) = omega arith
few_fed ((b ∷ bs) ∷ []) = omega arith
few_fed ([] ∷ y ∷ more) = omega (arith, few_fed (y ∷ more))
few_fed ((b ∷ bs) ∷ y ∷ more) = omega (arith, shorter (b ∷ bs), few_fed (y ∷ more))

pub few_lines : (bytes : List ℕ) → weight (free_lines bytes) ≤ length bytes + 1
few_lines bytes = omega (arith, few_fed (slice_split (λ b. b == 10) bytes), weight_split (λ b. b == 10) bytes)
