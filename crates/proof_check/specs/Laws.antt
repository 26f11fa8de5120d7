-- What is proved of following.
use Rattle.std.specs.Prelude.{◌≡◌, ℕ, List}
use Rattle.clause_arena.specs.Clauses.{Clause, HaveNoSolution}
use Rattle.proof_check.specs.Lines.{Line}
use Rattle.proof_check.specs.Following.{Live, LineFollows, Breaks, Refutes}

-- a line for which a hint breaks the rule doesn't follow
abbrev pub VerdictsExclude : Type 0
VerdictsExclude = (variables clauses : ℕ) (live : Live) (line : Line) (h : ℕ) → Breaks variables clauses live line h → LineFollows variables clauses live line → ⊥

-- one hint is the first that breaks the rule
abbrev pub OneFirstHint : Type 0
OneFirstHint = (variables clauses : ℕ) (live : Live) (line : Line) (j k : ℕ) → Breaks variables clauses live line j → Breaks variables clauses live line k → j ≡ k

-- what a log refutes is satisfied by no assignment
abbrev pub RefutationsLeaveNone : Type 0
RefutationsLeaveNone = (variables : ℕ) (formula : List Clause) (lines : List Line) → Refutes variables formula lines → HaveNoSolution formula
