-- What is read behind the `p` line.
use Rattle.std.specs.Prelude.{◌≡◌, ℕ, ◌+◌, true, List, [], ◌∷◌, ◌++◌, length, codes, MatchOption, Result, Ok, Err}
use Rattle.std.specs.List.{AllByRecursion, flat_map}
use Rattle.clause_arena.specs.Clauses.{Clause}
use Rattle.clause_arena.specs.Formulas.{is_within, are_within}
use Rattle.dimacs_text.specs.declared.cnf.CnfFault.{CnfFault}
use Rattle.dimacs_text.specs.declared.cnf.CnfFault.TheVariants as faults
use Rattle.dimacs_text.specs.declared.cnf.BodyEnd.{BodyEnd}
use Rattle.dimacs_text.specs.declared.body.Body.{Body}
use Rattle.dimacs_text.specs.Keeping.{Holds}
use Rattle.text_rows.specs.Lines.{free_lines}
use Rattle.dimacs_text.specs.Formulas.{body_words, clauses_words, AreClauses}
use Rattle.dimacs_text.specs.Streams.{stream, IsRoom}

-- these lines, none of which is `lrat`, give whole clauses and the literals of an open one, and more may follow
pub record IsGood (variables count : ℕ) (good : List (List ℕ)) (clauses : List Clause) (open_lits : Clause) : Type 0 where
  pub others : AllByRecursion (λ l. l ≡ codes "lrat" → ⊥) good
  pub read : flat_map body_words good ≡ stream clauses open_lits []
  pub left : IsRoom count clauses open_lits
  pub within : are_within variables clauses ≡ true
  pub open_within : is_within variables open_lits ≡ true

-- no clauses have the words of lines that begin so
abbrev pub NoneBegin : ℕ → ℕ → List (List ℕ) → Type 0
NoneBegin variables count lines = (tail : List (List ℕ)) (all : List Clause) → AreClauses variables all → length all ≡ count → flat_map body_words (lines ++ tail) ≡ clauses_words all → ⊥

-- a line that may not stand
pub record IsBodyBad (variables count front : ℕ) (lines : List (List ℕ)) (n : ℕ) : Type 0 where
  pub good : List (List ℕ)
  pub line : List ℕ
  pub after : List (List ℕ)
  pub clauses : List Clause
  pub open_lits : Clause
  pub parts : lines ≡ good ++ line ∷ after
  pub number : n ≡ front + length good + 1
  pub is_good : IsGood variables count good clauses open_lits
  pub other : line ≡ codes "lrat" → ⊥
  pub none : NoneBegin variables count (good ++ line ∷ [])

-- up to the line `lrat` or the end
abbrev pub IsBodyRead : ℕ → ℕ → ℕ → List (List ℕ) → Body → Result BodyEnd CnfFault → Type 0
IsBodyRead variables count before lines body (Ok x) = (good : List (List ℕ)) × (ds : List Clause) × (os : Clause) × Holds body ds os × IsGood variables count good ds os
    × MatchOption x.rest ((lines ≡ good) × (x.lines ≡ before + length good)) (λ r. (lines ≡ good ++ codes "lrat" ∷ free_lines r.now) × (x.lines ≡ before + length good + 1))
IsBodyRead variables count before lines body (Err (faults.BadLine n)) = IsBodyBad variables count before lines n
IsBodyRead variables count before lines body (Err faults.Limit) = ⊥
IsBodyRead variables count before lines body (Err faults.Memory) = Unit {0}
