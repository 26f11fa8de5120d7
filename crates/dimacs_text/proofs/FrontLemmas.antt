-- The lines up to the `p` line.
use Rattle.std.proofs.Common.{◌≡◌, ℕ, true, List, [], ◌∷◌, ◌++◌, refl, sym, ap, arith, lit<}
use Rattle.std.specs.Prelude.{codes}
use Rattle.std.specs.List.{AllByRecursion}
use Rattle.std.proofs.lemmas.Fmt.{decimal_digit}
use Rattle.clause_arena.specs.Clauses.{Clause}
use Rattle.text_rows.specs.Words.{tokens}
use Rattle.dimacs_text.specs.Logs.{is_passed}
use Rattle.dimacs_text.specs.Formulas.{header_words, SpellsFormula}
use Rattle.dimacs_text.specs.Texts.{IsFormulaText}

abbrev pub AllPassed : List (List ℕ) → Type 0
AllPassed front = AllByRecursion (λ l. is_passed l ≡ true) front

pub passed_push : (front : List (List ℕ)) (l : List ℕ) → AllPassed front → is_passed l ≡ true → AllPassed (front ++ l ∷ [])
passed_push [] l h p = (p, tt)
passed_push (x ∷ front) l h p = (h.0, passed_push front l h.1 p)

pub spells_behind : (front tail : List (List ℕ)) (v : ℕ) (cs : List Clause) → AllPassed front → SpellsFormula (front ++ tail) v cs → SpellsFormula tail v cs
spells_behind [] tail v cs h s = s
spells_behind (l ∷ front) tail v cs h s = spells_behind front tail v cs h.1 (rw h.0 at s)

pub spells_before : (front tail : List (List ℕ)) (v : ℕ) (cs : List Clause) → AllPassed front → SpellsFormula tail v cs → SpellsFormula (front ++ tail) v cs
spells_before [] tail v cs h s = s
spells_before (l ∷ front) tail v cs h s = rw h.0 (spells_before front tail v cs h.1 s)

-- the lines that are passed over begin a formula of nothing
pub begins_all : (front : List (List ℕ)) → AllPassed front → (more : List (List ℕ)) × IsFormulaText (front ++ more)
begins_all front h = (codes "p cnf 0 0" ∷ [], (0, [], spells_before front (codes "p cnf 0 0" ∷ []) 0 [] h (omega arith, omega arith, words, tt, refl)))
  where
    words : tokens (codes "p cnf 0 0") ≡ header_words 0 0
    words = ap (λ (d : List ℕ). codes "p" ∷ codes "cnf" ∷ d ∷ d ∷ []) (sym (decimal_digit 0 (lit< tt)))
