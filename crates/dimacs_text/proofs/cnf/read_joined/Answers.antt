use Rattle.std.proofs.Common.{arith, length-append, ◌≡◌, ◌++◌, ◌∷◌, ◌∙◌, sym, ap, subst, length, true, List, ℕ}
use Rattle.std.specs.Prelude.{codes}
use Rattle.std.proofs.lemmas.Bool.{false≢true}
use Rattle.clause_arena.specs.Clauses.{Clause}
use Rattle.clause_arena.specs.Formulas.{are_within}
use Rattle.text_rows.specs.Lines.{free_lines}
use Rattle.dimacs_text.proofs.JoinedLemmas.{joined_end}
use Rattle.dimacs_text.proofs.JoinedReadLemmas.{joined_err, others_front, lrat_first, log_err, judged_err, joined_found}
use Rattle.dimacs_text.proofs.CnfLemmas.{behind_front, good_begins}
use Rattle.dimacs_text.proofs.cnf.read_joined.Goals as goal

pub returns-in-Err-read_body : goal.returns-in-Err-read_body
returns-in-Err-read_body c =
    let f = c.in-Ok.ensures.front in
    let head = c.in-Ok.front.header in
    joined_err head.variables head.clauses c.in-Ok.front.lines f.0 f.1 (free_lines c.args.bytes.now) (free_lines c.in-Ok.front.rest.now) c.read_body.new.body c.in-Err-read_body.fault f.2 f.3 f.4 c.in-Err-read_body.ensures.body

pub returns-in-None : goal.returns-in-None
returns-in-None c =
    let f = c.in-Ok.ensures.front in
    let head = c.in-Ok.front.header in
    let all = free_lines c.args.bytes.now in
    let b = c.in-Ok-read_body.ensures.body in
    let at = rw c.in-None.is at b.5 in
    let parts : all ≡ f.0 ++ f.1 ∷ b.0 = f.3 ∙ ap (λ (t : List (List ℕ)). f.0 ++ f.1 ∷ t) at.0 in
    joined_end all _ (f.0 ++ f.1 ∷ b.0) parts (omega (arith, at.1, f.4, length-append f.0 (f.1 ∷ b.0))) (others_front f.0 f.1 head.variables head.clauses b.0 b.1 b.2 f.2 b.4) (good_begins f.0 f.1 head.variables head.clauses b.0 b.1 b.2 f.2 b.4)

pub returns-then-not-is_whole : goal.returns-then-not-is_whole
returns-then-not-is_whole c =
    let f = c.in-Ok.ensures.front in
    let head = c.in-Ok.front.header in
    let all = free_lines c.args.bytes.now in
    let b = c.in-Ok-read_body.ensures.body in
    let rest = free_lines c.in-Some.rest.now in
    let at = rw c.in-Some.is at b.5 in
    let parts : all ≡ (f.0 ++ f.1 ∷ b.0) ++ codes "lrat" ∷ rest = f.3 ∙ (ap (λ (t : List (List ℕ)). f.0 ++ f.1 ∷ t) at.0 ∙ sym (behind_front f.0 f.1 b.0 (codes "lrat" ∷ rest))) in
    lrat_first f.0 f.1 head.variables head.clauses _ all b.0 rest b.1 b.2 f.2 parts (omega (arith, at.1, f.4)) b.4 (λ n o. false≢true (sym c.if-not-is_whole.true ∙ (c.is_whole.ensures b.1 b.2 b.3).1 (n, o)))

pub returns-in-None-into_clauses : goal.returns-in-None-into_clauses
returns-in-None-into_clauses c =
    let f = c.in-Ok.ensures.front in
    let head = c.in-Ok.front.header in
    let all = free_lines c.args.bytes.now in
    let b = c.in-Ok-read_body.ensures.body in
    let rest = free_lines c.in-Some.rest.now in
    let at = rw c.in-Some.is at b.5 in
    let parts : all ≡ (f.0 ++ f.1 ∷ b.0) ++ codes "lrat" ∷ rest = f.3 ∙ (ap (λ (t : List (List ℕ)). f.0 ++ f.1 ∷ t) at.0 ∙ sym (behind_front f.0 f.1 b.0 (codes "lrat" ∷ rest))) in
    let whole = (c.is_whole.ensures b.1 b.2 b.3).0 c.if-not-is_whole.false in
    let over = c.in-None-into_clauses.ensures head.variables b.1 b.2 c.in-Ok-read_body.ensures.kind b.3 in
    judged_err f.0 f.1 head.variables head.clauses c.in-Ok-read_body.end.lines all b.0 rest b.1 b.2 c.judged_fault.result f.2 parts (omega (arith, at.1, f.4)) b.4 whole.0 whole.1 over c.judged_fault.ensures

pub overflow_cast-variables : goal.overflow_cast-variables
overflow_cast-variables c =
    let head = c.in-Ok.front.header in
    let b = c.in-Ok-read_body.ensures.body in
    let k = c.in-Some-into_clauses.ensures head.variables b.1 b.2 c.in-Ok-read_body.ensures.kind b.3 in
    omega (arith, k.0)

pub read_log_after-requires-clause-small : goal.read_log_after-requires-clause-small
read_log_after-requires-clause-small c =
    let head = c.in-Ok.front.header in
    let b = c.in-Ok-read_body.ensures.body in
    let k = c.in-Some-into_clauses.ensures head.variables b.1 b.2 c.in-Ok-read_body.ensures.kind b.3 in
    omega (arith, k.0)

pub invariant_of-result : goal.invariant_of-result
invariant_of-result c =
    let head = c.in-Ok.front.header in
    let b = c.in-Ok-read_body.ensures.body in
    let k = c.in-Some-into_clauses.ensures head.variables b.1 b.2 c.in-Ok-read_body.ensures.kind b.3 in
    record { within = subst (λ (cs : List Clause). are_within head.variables cs ≡ true) (sym k.1) b.4.within }

pub returns-in-Ok-read_log_after : goal.returns-in-Ok-read_log_after
returns-in-Ok-read_log_after c =
    let f = c.in-Ok.ensures.front in
    let head = c.in-Ok.front.header in
    let all = free_lines c.args.bytes.now in
    let b = c.in-Ok-read_body.ensures.body in
    let rest = free_lines c.in-Some.rest.now in
    let at = rw c.in-Some.is at b.5 in
    let parts : all ≡ (f.0 ++ f.1 ∷ b.0) ++ codes "lrat" ∷ rest = f.3 ∙ (ap (λ (t : List (List ℕ)). f.0 ++ f.1 ∷ t) at.0 ∙ sym (behind_front f.0 f.1 b.0 (codes "lrat" ∷ rest))) in
    let whole = (c.is_whole.ensures b.1 b.2 b.3).0 c.if-not-is_whole.false in
    let k = c.in-Some-into_clauses.ensures head.variables b.1 b.2 c.in-Ok-read_body.ensures.kind b.3 in
    let log = c.in-Ok-read_log_after.ensures in
    joined_found f.0 f.1 head.variables head.clauses c.len-count.result c.in-Ok-read_log_after.log.first all b.0 rest b.1 c.in-Some-into_clauses.clauses.clauses b.2 c.in-Ok-read_log_after.log.lines f.2 parts b.4 whole.0 whole.1 k.0 k.1 c.len-count.ensures.len log.0 log.1 log.2

pub returns-in-Err-read_log_after : goal.returns-in-Err-read_log_after
returns-in-Err-read_log_after c =
    let f = c.in-Ok.ensures.front in
    let head = c.in-Ok.front.header in
    let all = free_lines c.args.bytes.now in
    let b = c.in-Ok-read_body.ensures.body in
    let rest = free_lines c.in-Some.rest.now in
    let at = rw c.in-Some.is at b.5 in
    let parts : all ≡ (f.0 ++ f.1 ∷ b.0) ++ codes "lrat" ∷ rest = f.3 ∙ (ap (λ (t : List (List ℕ)). f.0 ++ f.1 ∷ t) at.0 ∙ sym (behind_front f.0 f.1 b.0 (codes "lrat" ∷ rest))) in
    let whole = (c.is_whole.ensures b.1 b.2 b.3).0 c.if-not-is_whole.false in
    let k = c.in-Some-into_clauses.ensures head.variables b.1 b.2 c.in-Ok-read_body.ensures.kind b.3 in
    let e = c.in-Err-read_log_after.ensures in
    rw c.joined_fault.ensures
    (log_err f.0 f.1 head.variables head.clauses c.in-Ok-read_body.end.lines c.len-count.result all b.0 rest b.1 b.2 c.in-Err-read_log_after.fault f.2 parts (omega (arith, at.1, f.4)) b.4 whole.0 whole.1 (c.len-count.ensures.len ∙ ap length k.1) e)
