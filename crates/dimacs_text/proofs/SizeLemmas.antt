-- A formula has at most half as many clauses and literals as its text has bytes.
use Rattle.std.proofs.Common.{◌≡◌, ℕ, suc, ◌+◌, ◌*◌, ◌<◌, ◌≤◌, ◌==◌, Bool, true, false, cond, List, [], ◌∷◌, length, map, refl, ap, arith, length-append}
use Rattle.std.specs.Prelude.{slice_index}
use Rattle.std.specs.List.{flat_map}
use Rattle.std.specs.Fmt.{decimal}
use Rattle.std.proofs.lemmas.List.Sums.{sum_by-append}
use Rattle.clause_arena.specs.Clauses.{Clause}
use Rattle.clause_arena.specs.Arenas.{literals}
use Rattle.text_rows.specs.Words.{tokens}
use Rattle.text_rows.specs.Lines.{free_lines}
use Rattle.text_rows.proofs.SizeLemmas.{weight, few_words, few_lines}
use Rattle.dimacs_text.specs.Logs.{lit_word, is_passed, SpellsIf}
use Rattle.dimacs_text.specs.Formulas.{body_words, clause_words, clauses_words, AreClauses, header_words, SpellsFormula}

length_map : (c : Clause) → length (map lit_word c) ≡ length c
length_map [] = refl
length_map (l ∷ c) = ap suc (length_map c)

words_count : (cs : List Clause) → length (clauses_words cs) ≡ length cs + literals cs
words_count [] = refl
words_count (c ∷ cs) =
    let all : length (clauses_words (c ∷ cs)) ≡ length (clause_words c) + length (clauses_words cs) = length-append (clause_words c) (clauses_words cs) in
    let first : length (clause_words c) ≡ length (map lit_word c) + 1 = length-append (map lit_word c) (decimal 0 ∷ []) in
    let lits : literals (c ∷ cs) ≡ (0 + length c) + literals cs = sum_by-append (λ (d : Clause). length d) (c ∷ []) cs in
    omega (arith, all, first, lits, words_count cs, length_map c)

few_of_line : (line : List ℕ) → 2 * length (body_words line) ≤ length line + 1
few_of_line line = elim (slice_index line 0 == 99) as (λ t. 2 * length (cond t [] (tokens line)) ≤ length line + 1) [ true ↦ omega arith | false ↦ few_words line ]

few_of_body : (lines : List (List ℕ)) → 2 * length (flat_map body_words lines) ≤ weight lines
few_of_body [] = omega arith
few_of_body (l ∷ lines) = omega (arith, length-append (body_words l) (flat_map body_words lines), few_of_line l, few_of_body lines)

few_spelled : (lines : List (List ℕ)) (v : ℕ) (cs : List Clause) → SpellsFormula lines v cs → 2 * (length cs + literals cs) + 1 ≤ weight lines
few_spelled [] v cs s = absurd s
few_spelled (l ∷ lines) v cs s = either (is_passed l) (λ t. few_spelled lines v cs t) s
  where
    either : (b : Bool) → (SpellsFormula lines v cs → 2 * (length cs + literals cs) + 1 ≤ weight lines) → SpellsIf b (SpellsFormula lines v cs) ((v < 10000000000) × (length cs < 10000000000) × (tokens l ≡ header_words v (length cs)) × AreClauses v cs × (flat_map body_words lines ≡ clauses_words cs)) → 2 * (length cs + literals cs) + 1 ≤ weight (l ∷ lines)
    either true rest s = omega (arith, rest s)
    either false rest s = omega (arith, few_of_body lines, ap length s.4, words_count cs)

pub few_of_text : (bytes : List ℕ) (v : ℕ) (cs : List Clause) → SpellsFormula (free_lines bytes) v cs → 2 * (length cs + literals cs) ≤ length bytes
few_of_text bytes v cs s = omega (arith, few_spelled (free_lines bytes) v cs s, few_lines bytes)
