-- The logs of an engine can be written.
use Rattle.std.proofs.Common.{◌≡◌, ℕ, ◌+◌, ◌<◌, ◌≤◌, List, [], ◌∷◌, ◌++◌, length, take, refl, sym, ap, ◌∙◌, subst, arith, inl, inr}
use Rattle.std.specs.List.{AllByRecursion}
use Rattle.std.proofs.lemmas.List.{take_more}
use Rattle.cpog_base.specs.declared.limits.TheConstants.{VARIABLE_LIMIT}
use Rattle.clause_arena.specs.Clauses.{Lit, Clause, In}
use Rattle.proof_check.specs.Lines.{Line, no_line, line_at, Rise, LinesPositive}
use Rattle.proof_check.specs.Following.{Live, after, first_live, AllFollow, Refutes}
use Rattle.proof_check.specs.Progress.{IsProgress, IsProgressLog}
use Rattle.cnf_build.specs.Evidence.{IsNumbered, line_numbered, IsWrittenLog}
use Rattle.opcode_assign.specs.Logs.{HasVariable, has_variables}

-- ---- lines that were read

read_push : (lines : List Line) (l : Line) → AllByRecursion has_variables lines → has_variables l → AllByRecursion has_variables (lines ++ l ∷ [])
read_push [] l h f = (f, tt)
read_push (x ∷ lines) l h f = (h.0, read_push lines l h.1 f)

pub read_more : (lines : List Line) (i : ℕ) (l : Line) → i < length lines → l ≡ line_at lines i → AllByRecursion has_variables (take i lines) → has_variables l → AllByRecursion has_variables (take (i + 1) lines)
read_more lines i l lt at h f =
    subst (AllByRecursion has_variables) (sym (take_more lines i no_line lt ∙ ap (λ (y : Line). take i lines ++ y ∷ []) (sym at))) (read_push (take i lines) l h f)

-- ---- what a writer needs

rise_from_zero : (last : ℕ) (lines : List Line) → Rise last lines → Rise 0 lines
rise_from_zero last [] h = tt
rise_from_zero last (Line.Add id lits hints ∷ lines) h = (omega (arith, h.0), h.1)
rise_from_zero last (Line.Del ids ∷ lines) h = rise_from_zero last lines h

literals_numbered : (n : ℕ) (lits : Clause) → n ≤ VARIABLE_LIMIT → ((l : Lit) → In l lits → l.var ≤ n) → AllByRecursion HasVariable lits → AllByRecursion IsNumbered lits
literals_numbered n [] few within h = tt
literals_numbered n (l ∷ lits) few within h = ((omega (arith, h.0), omega (arith, within l (inl refl), few)), literals_numbered n lits few (λ m i. within m (inr i)) h.1)

followed_numbered : (n clauses : ℕ) (live : Live) (lines : List Line) → n ≤ VARIABLE_LIMIT → AllFollow n clauses live lines → AllByRecursion has_variables lines → AllByRecursion line_numbered lines
followed_numbered n clauses live [] few f h = tt
followed_numbered n clauses live (Line.Add id lits hints ∷ lines) few f h = (literals_numbered n lits few f.0.0.within h.0, followed_numbered n clauses (after live (Line.Add id lits hints)) lines few f.1 h.1)
followed_numbered n clauses live (Line.Del ids ∷ lines) few f h = (tt, followed_numbered n clauses (after live (Line.Del ids)) lines few f.1 h.1)

progress_numbered : (n clauses : ℕ) (live : Live) (known : List Clause) (lines : List Line) → n ≤ VARIABLE_LIMIT → IsProgress n clauses live known lines → AllByRecursion has_variables lines → AllByRecursion line_numbered lines
progress_numbered n clauses live known [] few f h = tt
progress_numbered n clauses live known (Line.Add id lits hints ∷ lines) few f h = (literals_numbered n lits few f.0.0.within h.0, progress_numbered n clauses (after live (Line.Add id lits hints)) (lits ∷ known) lines few f.2 h.1)
progress_numbered n clauses live known (Line.Del ids ∷ lines) few f h = absurd f

module _ (n first : ℕ) (formula : List Clause) (lines : List Line) (few : n ≤ VARIABLE_LIMIT) (rise : Rise first lines) (positive : LinesPositive lines) (read : AllByRecursion has_variables lines) where
  pub refutation_written : Refutes n formula lines → IsWrittenLog lines
  refutation_written r = record {
    rise = rise_from_zero first lines rise;
    positive = positive;
    numbered = followed_numbered n (length formula) (first_live formula) lines few r.follow read;
  }

  pub progress_written : IsProgressLog n formula lines → IsWrittenLog lines
  progress_written p = record {
    rise = rise_from_zero first lines rise;
    positive = positive;
    numbered = progress_numbered n (length formula) (first_live formula) formula lines few p read;
  }
