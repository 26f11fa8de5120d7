-- The two parts in which a clause is gone through.
use Rattle.std.proofs.Common.{ℕ, ◌≤◌, List, length, Option, Some, None, inl, inr, arith}
use Rattle.std.proofs.lemmas.Bool.{cases_lt}
use Rattle.clause_arena.specs.Clauses.{Lit, Clause}
use Rattle.watch_lists.specs.Watched.{IsReplacement, IsOpenBetween}

-- where the later part has none, what is found in the part before it is found in the clause
pub both_parts : (c : Clause) (T : List Lit) (start : ℕ) (o : Option ℕ) → start ≤ length c → IsOpenBetween c T start (length c) None → IsOpenBetween c T 2 start o → IsReplacement c T o
both_parts c T start None _ later before = λ i from below. elim (cases_lt i start) [ inl low ↦ before i from low | inr high ↦ later i high below ]
both_parts c T start (Some i) fits later before = (before.0, omega (arith, before.1, fits), before.2)
