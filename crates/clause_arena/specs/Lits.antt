-- A literal as a signed number, and as the number in which it is kept.
use Rattle.std.specs.Prelude.{◌≡◌, ℕ, ◌+◌, ◌*◌, ◌/◌, ◌%◌, ◌==◌, Bool, true, false, ℤ, pos, negsuc, neg_ℤ, nat_abs, if◌then◌else◌}
use Rattle.std.proofs.Common.{arith, inl, inr}
use Rattle.std.proofs.lemmas.Bool.{cases_eq, eq-eqb, ne_eqb}
use Rattle.clause_arena.specs.Clauses.{Lit}

-- the number is below 0
abbrev pub is_negative : ℤ → Bool
is_negative (pos n) = false
is_negative (negsuc n) = true

-- the literal that DIMACS CNF writes as a number
abbrev pub lit_of : ℤ → Lit
lit_of z = record { var = nat_abs z; negated = is_negative z }

-- the number that DIMACS CNF writes for a literal
abbrev pub signed : Lit → ℤ
signed l = if l.negated then neg_ℤ (pos l.var) else pos l.var

-- twice the variable, and one more for a complement
abbrev pub code_of : Lit → ℕ
code_of l = 2 * l.var + (if l.negated then 1 else 0)

-- the literal of such a number
abbrev pub lit_of_code : ℕ → Lit
lit_of_code c = record { var = c / 2; negated = (c % 2) == 1 }

pub code_of-lit_of_code : (c : ℕ) → code_of (lit_of_code c) ≡ c
code_of-lit_of_code c = elim (cases_eq (c % 2) 1) [
  | inl one ↦ rw (eq-eqb (c % 2) 1 one) (omega arith)
  | inr other ↦ rw (ne_eqb (c % 2) 1 other) (omega arith)
]
