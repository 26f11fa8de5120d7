use Rattle.std.proofs.Common.{arith, ◌≡◌, ◌++◌, ◌∷◌, ◌∙◌, sym, ap, subst, true, List, ℕ}
use Rattle.std.specs.Prelude.{codes}
use Rattle.std.proofs.lemmas.Bool.{false≢true}
use Rattle.clause_arena.specs.Clauses.{Clause}
use Rattle.clause_arena.specs.Formulas.{are_within}
use Rattle.text_rows.specs.Lines.{free_lines}
use Rattle.dimacs_text.proofs.CnfLemmas.{err_read, line_first, end_first, read_found, limit_found, lrat_none}
use Rattle.dimacs_text.proofs.SizeLemmas.{few_of_text}
use Rattle.dimacs_text.proofs.cnf.read_cnf.Goals as goal

pub returns-in-Err-read_body-clause-read : goal.returns-in-Err-read_body-clause-read
returns-in-Err-read_body-clause-read c =
    let f = c.in-Ok.ensures.front in
    let head = c.in-Ok.front.header in
    err_read head.variables head.clauses c.in-Ok.front.lines f.0 f.1 (free_lines c.args.bytes.now) (free_lines c.in-Ok.front.rest.now) c.read_body.new.body c.in-Err-read_body.fault f.2 f.3 f.4 c.in-Err-read_body.ensures.body

pub returns-in-Some-clause-read : goal.returns-in-Some-clause-read
returns-in-Some-clause-read c =
    let f = c.in-Ok.ensures.front in
    let v = c.in-Ok.front.header.variables in
    let count = c.in-Ok.front.header.clauses in
    let all = free_lines c.args.bytes.now in
    let b = c.in-Ok-read_body.ensures.body in
    let at = rw c.in-Some.is at b.5 in
    line_first f.0 f.1 v count _ all b.0 (codes "lrat") _ b.1 b.2 f.2 (f.3 ∙ ap (λ (t : List (List ℕ)). f.0 ++ f.1 ∷ t) at.0) (omega (arith, at.1, f.4)) b.4 (lrat_none v count f.2.few_variables b.0 b.1 b.2 b.4)

pub returns-then-not-is_whole-clause-read : goal.returns-then-not-is_whole-clause-read
returns-then-not-is_whole-clause-read c =
    let f = c.in-Ok.ensures.front in
    let head = c.in-Ok.front.header in
    let all = free_lines c.args.bytes.now in
    let b = c.in-Ok-read_body.ensures.body in
    let at = rw c.in-None.is at b.5 in
    end_first f.0 f.1 head.variables head.clauses _ all b.0 b.1 b.2 f.2 (f.3 ∙ ap (λ (t : List (List ℕ)). f.0 ++ f.1 ∷ t) at.0) (omega (arith, at.1, f.4)) b.4
    (λ n o. false≢true (sym c.if-not-is_whole.true ∙ (c.is_whole.ensures b.1 b.2 b.3).1 (n, o)))

pub overflow_cast-result : goal.overflow_cast-result
overflow_cast-result c =
    let b = c.in-Ok-read_body.ensures.body in
    let k = c.in-Some-into_clauses.ensures c.in-Ok.front.header.variables b.1 b.2 c.in-Ok-read_body.ensures.kind b.3 in
    omega (arith, k.0)

pub invariant_of-result : goal.invariant_of-result
invariant_of-result c =
    let b = c.in-Ok-read_body.ensures.body in
    let k = c.in-Some-into_clauses.ensures c.in-Ok.front.header.variables b.1 b.2 c.in-Ok-read_body.ensures.kind b.3 in
    record { within = subst (λ (cs : List Clause). are_within c.in-Ok.front.header.variables cs ≡ true) (sym k.1) b.4.within }

pub returns-in-Some-into_clauses-clause-read : goal.returns-in-Some-into_clauses-clause-read
returns-in-Some-into_clauses-clause-read c =
    let f = c.in-Ok.ensures.front in
    let head = c.in-Ok.front.header in
    let all = free_lines c.args.bytes.now in
    let b = c.in-Ok-read_body.ensures.body in
    let at = rw c.in-None.is at b.5 in
    let parts : all ≡ f.0 ++ f.1 ∷ b.0 = f.3 ∙ ap (λ (t : List (List ℕ)). f.0 ++ f.1 ∷ t) at.0 in
    let whole = (c.is_whole.ensures b.1 b.2 b.3).0 c.if-not-is_whole.false in
    let k = c.in-Some-into_clauses.ensures head.variables b.1 b.2 c.in-Ok-read_body.ensures.kind b.3 in
    read_found f.0 f.1 head.variables head.clauses all b.0 b.1 c.in-Some-into_clauses.clauses.clauses b.2 f.2 parts b.4 whole.0 whole.1 k.0 k.1

pub returns-in-None-into_clauses-clause-read : goal.returns-in-None-into_clauses-clause-read
returns-in-None-into_clauses-clause-read c =
    let f = c.in-Ok.ensures.front in
    let head = c.in-Ok.front.header in
    let all = free_lines c.args.bytes.now in
    let b = c.in-Ok-read_body.ensures.body in
    let at = rw c.in-None.is at b.5 in
    let parts : all ≡ f.0 ++ f.1 ∷ b.0 = f.3 ∙ ap (λ (t : List (List ℕ)). f.0 ++ f.1 ∷ t) at.0 in
    let whole = (c.is_whole.ensures b.1 b.2 b.3).0 c.if-not-is_whole.false in
    limit_found f.0 f.1 head.variables head.clauses all b.0 b.1 b.2 f.2 parts b.4 whole.0 whole.1 (c.in-None-into_clauses.ensures head.variables b.1 b.2 c.in-Ok-read_body.ensures.kind b.3)

pub returns-in-Some-into_clauses-clause-size : goal.returns-in-Some-into_clauses-clause-size
returns-in-Some-into_clauses-clause-size c =
    let f = c.in-Ok.ensures.front in
    let head = c.in-Ok.front.header in
    let all = free_lines c.args.bytes.now in
    let b = c.in-Ok-read_body.ensures.body in
    let at = rw c.in-None.is at b.5 in
    let parts : all ≡ f.0 ++ f.1 ∷ b.0 = f.3 ∙ ap (λ (t : List (List ℕ)). f.0 ++ f.1 ∷ t) at.0 in
    let whole = (c.is_whole.ensures b.1 b.2 b.3).0 c.if-not-is_whole.false in
    let k = c.in-Some-into_clauses.ensures head.variables b.1 b.2 c.in-Ok-read_body.ensures.kind b.3 in
    few_of_text c.args.bytes.now head.variables c.in-Some-into_clauses.clauses.clauses (read_found f.0 f.1 head.variables head.clauses all b.0 b.1 c.in-Some-into_clauses.clauses.clauses b.2 f.2 parts b.4 whole.0 whole.1 k.0 k.1).0
