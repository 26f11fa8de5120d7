-- Clauses laid out in one list of literals.
use Rattle.std.specs.Prelude.{◌≡◌, ℕ, ◌-◌, ◌<◌, ◌≤◌, List, [], length, map, sum_by, min, slice_range, slice_index_or}
use Rattle.clause_arena.specs.Clauses.{Lit, Clause}
use Rattle.clause_arena.specs.declared.span.Span.{Span}

-- the clauses, and how many more clauses and literals there is room for
pub record Arena : Type 0 where
  pub clauses : List Clause
  pub spare_clauses : ℕ
  pub spare_literals : ℕ

-- the clause at a place
abbrev pub clause_at : List Clause → ℕ → Clause
clause_at clauses id = slice_index_or clauses id []

-- how many literals the clauses have together
abbrev pub literals : List Clause → ℕ
literals clauses = sum_by (λ c. length c) clauses

-- what is free of a room, of which at most 4294967294 places are used
abbrev pub spare : ℕ → ℕ → ℕ
spare room used = min room 4294967294 - used

-- what stands for the place of a clause that isn't there
abbrev pub no_span : Span
no_span = record { start = 0; end = 0 }

-- where a clause lies
abbrev pub span_at : List Span → ℕ → Span
span_at spans k = slice_index_or spans k no_span

-- the literals that lie there
abbrev pub part : List Lit → Span → Clause
part lits s = slice_range lits s.start s.end

-- all clauses
abbrev pub parts : List Lit → List Span → List Clause
parts lits spans = map (part lits) spans

-- the clauses lie one after another and fill the list, and both are few
pub record IsLaidOut (lits : List Lit) (spans : List Span) : Type 0 where
  pub proper : (k : ℕ) → k < length spans → (span_at spans k).start ≤ (span_at spans k).end
  pub within : (k : ℕ) → k < length spans → (span_at spans k).end ≤ length lits
  pub apart : (j k : ℕ) → j < k → k < length spans → (span_at spans j).end ≤ (span_at spans k).start
  pub few : length spans < 4294967295
  pub few_literals : length lits < 4294967295
  pub filled : sum_by (λ c. length c) (parts lits spans) ≡ length lits
