-- When a line of a log follows, and which hint is the first that breaks the rule.
use Rattle.std.specs.Prelude.{◌≡◌, ◌≢◌, suc, zero, ℕ, ◌-◌, ◌<◌, ◌≤◌, ◌==◌, if◌then◌else◌, List, [], ◌∷◌, length, take, Option, Some, None, IsSomeAnd, slice_get}
use Rattle.std.specs.List.{list_any}
use Rattle.clause_arena.specs.Clauses.{Lit, opposite, Clause, In}
use Rattle.proof_check.specs.Lines.{Line, line_at}

-- the clause of each live id
abbrev pub Live : Type 0
Live = ℕ → Option Clause

-- the formula's clauses have the ids from 1 on
abbrev pub first_live : List Clause → Live
first_live formula id = if id == 0 then None else slice_get formula (id - 1)

-- what is live after one more line: the added clause too, and no deleted one
abbrev pub after : Live → Line → Live
after live (Line.Add id lits hints) k = if k == id then Some lits else live k
after live (Line.Del ids) k = if list_any (λ i. i == k) ids then None else live k

-- what is live after these lines
abbrev pub live_after : Live → List Line → Live
live_after live [] = live
live_after live (line ∷ lines) = live_after (after live line) lines

-- every literal of the clause is false
abbrev pub AllFalse : List Lit → Clause → Type 0
AllFalse falses c = (m : Lit) → In m c → In m falses

-- as a set, one literal isn't false, and it is unassigned
pub record IsUnit (falses : List Lit) (c : Clause) (l : Lit) : Type 0 where
  pub holds : In l c
  pub others : (m : Lit) → In m c → m ≢ l → In m falses
  pub not_false : In l falses → ⊥
  pub not_true : In (opposite l) falses → ⊥

-- the hints in order: each but the last makes one literal true, and the last has every literal false
abbrev pub HintsLead : Live → List Lit → List ℕ → Type 0
HintsLead live falses [] = ⊥
HintsLead live falses (h ∷ []) = IsSomeAnd (live h) (AllFalse falses)
HintsLead live falses (h ∷ k ∷ hints) =
    IsSomeAnd (live h) (λ c. (l : Lit) × IsUnit falses c l × HintsLead live (opposite l ∷ falses) (k ∷ hints))

-- what an addition owes beside its hints, over a formula with so many variables and clauses
pub record IsProper (variables clauses : ℕ) (id : ℕ) (lits : Clause) (hints : List ℕ) : Type 0 where
  pub id_above : clauses < id
  pub within : (l : Lit) → In l lits → l.var ≤ variables
  pub one_sign : (l : Lit) → In l lits → In (opposite l) lits → ⊥
  pub some_hint : 0 < length hints

-- an addition that is proper and whose hints lead follows, and every deletion
abbrev pub LineFollows : ℕ → ℕ → Live → Line → Type 0
LineFollows variables clauses live (Line.Add id lits hints) = IsProper variables clauses id lits hints × HintsLead live lits hints
LineFollows variables clauses live (Line.Del ids) = Unit {0}

-- every line follows
abbrev pub AllFollow : ℕ → ℕ → Live → List Line → Type 0
AllFollow variables clauses live [] = Unit {0}
AllFollow variables clauses live (line ∷ lines) = LineFollows variables clauses live line × AllFollow variables clauses (after live line) lines

-- k is the number, from 1, of the first hint that breaks the rule
abbrev pub BreaksAt : Live → List Lit → List ℕ → ℕ → Type 0
BreaksAt live falses [] k = ⊥
BreaksAt live falses (h ∷ []) k = (k ≡ 1) × ¬ (IsSomeAnd (live h) (AllFalse falses))
BreaksAt live falses (h ∷ j ∷ hints) zero = ⊥
BreaksAt live falses (h ∷ j ∷ hints) (suc zero) = ¬ (IsSomeAnd (live h) (λ c. (l : Lit) × IsUnit falses c l))
BreaksAt live falses (h ∷ j ∷ hints) (suc (suc k)) =
    IsSomeAnd (live h) (λ c. (l : Lit) × IsUnit falses c l × BreaksAt live (opposite l ∷ falses) (j ∷ hints) (suc k))

-- the line doesn't follow, and this is its hint: 0 for a cause that lies in no hint
abbrev pub Breaks : ℕ → ℕ → Live → Line → ℕ → Type 0
Breaks variables clauses live (Line.Add id lits hints) zero = ¬ (IsProper variables clauses id lits hints)
Breaks variables clauses live (Line.Add id lits hints) (suc k) = IsProper variables clauses id lits hints × BreaksAt live lits hints (suc k)
Breaks variables clauses live (Line.Del ids) k = ⊥

-- some addition is empty
abbrev pub HasEmpty : List Line → Type 0
HasEmpty [] = ⊥
HasEmpty (Line.Add id [] hints ∷ lines) = Unit {0}
HasEmpty (Line.Add id (l ∷ lits) hints ∷ lines) = HasEmpty lines
HasEmpty (Line.Del ids ∷ lines) = HasEmpty lines

-- the log refutes the formula
pub record Refutes (variables : ℕ) (formula : List Clause) (lines : List Line) : Type 0 where
  pub follow : AllFollow variables (length formula) (first_live formula) lines
  pub empty : HasEmpty lines

-- the line of this number, from 1, is the first that doesn't follow, and h is its hint
abbrev pub IsFirstBreak : ℕ → List Clause → List Line → ℕ → ℕ → Type 0
IsFirstBreak variables formula lines zero h = ⊥
IsFirstBreak variables formula lines (suc k) h =
    (k < length lines) × AllFollow variables (length formula) (first_live formula) (take k lines)
    × Breaks variables (length formula) (live_after (first_live formula) (take k lines)) (line_at lines k) h
