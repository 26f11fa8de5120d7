-- Codes of which no bit is given.
use Rattle.std.proofs.Common.{◌≡◌, ℕ, ◌^◌, ◌≤◌, List, [], length, replicate, ◌∙◌, ap, arith, inl, inr}
use Rattle.std.proofs.lemmas.Bool.{cases_lt}
use Rattle.std.proofs.lemmas.List.{get_or-replicate, get_or_past, length-replicate}
use Rattle.cpog_defs.specs.declared.types.Bit3.{Bit3}
use Rattle.cpog_defs.specs.declared.types.Bit3.TheVariants.{Free}
use Rattle.cpog_defs.specs.Entries.{entry_at}
use Rattle.gate_core.specs.Least.{NoneGiven, IsFirstClash, numbers}
use Rattle.gate_core.proofs.CodesLemmas.{numbers_are_least}
use Rattle.graph_answers.specs.Synthesis.{free_patterns}

free_entry : (bits i : ℕ) → entry_at (replicate bits Free) i ≡ Free
free_entry bits i = elim (cases_lt i bits) [
  | inl l ↦ get_or-replicate bits i Free Free l
  | inr g ↦ get_or_past (replicate bits Free) i Free (omega (arith, length-replicate {A = Bit3} bits Free, g))
]

none_given : (n bits : ℕ) → NoneGiven (free_patterns n bits)
none_given n bits s i = elim (cases_lt s n) [
  | inl l ↦ ap (λ p. entry_at p i) (get_or-replicate n s (replicate bits Free) [] l) ∙ free_entry bits i
  | inr g ↦ ap (λ p. entry_at p i) (get_or_past (free_patterns n bits) s [] (omega (arith, length-replicate {A = List Bit3} n (replicate bits Free), g)))
]

-- where there are enough codes, none of the first scenarios clash
pub free_codes : (n bits k : ℕ) → n ≤ 2 ^ bits → IsFirstClash (free_patterns n bits) (2 ^ bits) k → ⊥
free_codes n bits k enough clash =
    let size : length (free_patterns n bits) ≡ n = length-replicate n (replicate bits Free) in
    let all = (numbers_are_least (free_patterns n bits) (2 ^ bits) (none_given n bits) (omega (arith, size, enough))).agree in
    clash.none (numbers (length (free_patterns n bits))) (record {
      within = λ i l. all.within i (omega (arith, l, clash.within));
      had = λ i l. all.had i (omega (arith, l, clash.within));
      apart = λ i j l m. all.apart i j (omega (arith, l, clash.within)) (omega (arith, m, clash.within));
    })
