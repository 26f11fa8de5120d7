use Rattle.std.proofs.Common.{◌≡◌, ◌+◌, ◌++◌, ◌∷◌, [], List, ap, ◌∙◌, arith}
use Rattle.proof_check.specs.Lines.{Line, Add}
use Rattle.sat_engine.proofs.FullLemmas.{empty_refutes}
use Rattle.sat_engine.proofs.solver.refuted_at_once.Goals as goal

pub returns-clause-refutes : goal.returns-clause-refutes
returns-clause-refutes c =
    let none : c.reserve.new.self.lines ≡ [] = c.in_ok-reserve.ensures.same ∙ c.new-log.ensures.lines in
    let lines : c.push_add_reserved.new.self.lines ≡ Add (c.len-count.result + 1) [] ((c.args.id + 1) ∷ []) ∷ [] = c.push_add_reserved.ensures.pushed ∙ ap (λ (q : List Line). q ++ (Add (c.len-count.result + 1) [] ((c.args.id + 1) ∷ [])) ∷ []) none in
    rw lines (empty_refutes c.args.cnf.now.variables c.args.cnf.now.clauses.clauses c.args.id (c.len-count.result + 1) c.requires.is_clause c.requires.empty (omega (arith, c.len-count.ensures.len)))
