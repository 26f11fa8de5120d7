-- Worked rows of the template, computed.
use Rattle.std.proofs.Common.{◌≡◌, ℕ, true, false, List, [], ◌∷◌, length, refl}
use Rattle.cpog_defs.specs.declared.types.Bit3.{Bit3}
use Rattle.cpog_defs.specs.declared.types.Bit3.TheVariants.{Zero, One, Free}
use Rattle.clause_arena.specs.Clauses.{Lit}
use Rattle.gate_template.specs.declared.types.Template.TheVariants.{First, Second, Third}
use Rattle.gate_template.specs.Variables.{variables, number}
use Rattle.gate_template.specs.Families.{as_clause, as_clauses, code_clauses, gate_clauses, class_clauses, given_clauses, all_zero_clauses, zero_clauses}
use Rattle.gate_template.specs.Templates.{template, shape_of}
use Rattle.cpog_defs.specs.Codes.{open_patterns}
use Rattle.clause_arena.specs.Arenas.{literals}

abbrev is : ℕ → Lit
is n = record { var = n; negated = false }

abbrev no : ℕ → Lit
no n = record { var = n; negated = true }

two_classes : template Third ((Free ∷ One ∷ []) ∷ (Free ∷ Free ∷ []) ∷ []) 2 0 ((One ∷ Zero ∷ []) ∷ []) ≡
    (no 5 ∷ is 1 ∷ is 3 ∷ []) ∷ (no 5 ∷ no 1 ∷ no 3 ∷ []) ∷ (no 6 ∷ is 2 ∷ is 4 ∷ []) ∷ (no 6 ∷ no 2 ∷ no 4 ∷ []) ∷ (is 5 ∷ is 6 ∷ [])
    ∷ (is 7 ∷ is 8 ∷ [])
    ∷ (no 7 ∷ is 1 ∷ is 9 ∷ []) ∷ (no 7 ∷ no 1 ∷ no 9 ∷ []) ∷ (no 7 ∷ no 3 ∷ is 9 ∷ []) ∷ (no 7 ∷ is 3 ∷ no 9 ∷ [])
    ∷ (no 8 ∷ is 2 ∷ is 9 ∷ []) ∷ (no 8 ∷ no 2 ∷ no 9 ∷ []) ∷ (no 8 ∷ no 4 ∷ is 9 ∷ []) ∷ (no 8 ∷ is 4 ∷ no 9 ∷ [])
    ∷ (is 2 ∷ []) ∷ (no 1 ∷ []) ∷ []
unfolding as_clauses as_clause number variables code_clauses gate_clauses class_clauses given_clauses zero_clauses
two_classes = refl

-- four scenarios, each with an operation of its own
four_rows : List (List Bit3)
four_rows = (One ∷ Zero ∷ Zero ∷ Zero ∷ []) ∷ (Zero ∷ One ∷ Zero ∷ Zero ∷ []) ∷ (Zero ∷ Zero ∷ One ∷ Zero ∷ []) ∷ (Zero ∷ Zero ∷ Zero ∷ One ∷ []) ∷ []

four_variables : length (variables (shape_of (open_patterns 4) 2 3 four_rows)) ≡ 75
unfolding variables four_rows
four_variables = refl

four_clauses : length (template First (open_patterns 4) 2 3 four_rows) ≡ 477
unfolding as_clause as_clauses number variables code_clauses gate_clauses class_clauses four_rows
four_clauses = refl

four_literals : literals (template First (open_patterns 4) 2 3 four_rows) ≡ 1954
unfolding as_clause as_clauses number variables code_clauses gate_clauses class_clauses four_rows
four_literals = refl

-- the second template has a clause of one literal more for each bit
four_clauses_second : length (template Second (open_patterns 4) 2 3 four_rows) ≡ 479
unfolding as_clause as_clauses number variables code_clauses gate_clauses class_clauses all_zero_clauses four_rows
four_clauses_second = refl

four_literals_second : literals (template Second (open_patterns 4) 2 3 four_rows) ≡ 1956
unfolding as_clause as_clauses number variables code_clauses gate_clauses class_clauses all_zero_clauses four_rows
four_literals_second = refl

-- two scenarios, each with an operation of its own, and no gate: one class
one_row : List (List Bit3)
one_row = (One ∷ Zero ∷ []) ∷ []

two_variables : length (variables (shape_of (open_patterns 2) 2 0 one_row)) ≡ 9
unfolding variables one_row
two_variables = refl

two_clauses_first : length (template First (open_patterns 2) 2 0 one_row) ≡ 14
unfolding as_clause as_clauses number variables code_clauses gate_clauses class_clauses one_row
two_clauses_first = refl

two_clauses_second : length (template Second (open_patterns 2) 2 0 one_row) ≡ 16
unfolding as_clause as_clauses number variables code_clauses gate_clauses class_clauses all_zero_clauses one_row
two_clauses_second = refl
