use Rattle.std.proofs.Common.{◌≡◌, ◌∙◌, ap, length, replicate, true, false, ℕ}
use Rattle.proof_check.proofs.LiveLemmas.{filled, new_fits}
use Rattle.proof_check.proofs.scratch.Scratch.new.Goals as goal

pub returns : goal.returns
returns c =
    let f = c.args.formula.now.clauses.clauses in
    let lines = c.args.log.now.lines in
    let cf : c.resize.new.self.items ≡ replicate (length f) true = filled _ _ true _ _ c.new-clauses_live.ensures.items c.new-clauses_live.ensures.len c.in_ok-resize.ensures.items ∙ ap (λ (n : ℕ). replicate n true) c.len-clauses.ensures.len in
    let lf : c.resize-2.new.self.items ≡ replicate (length lines) false = filled _ _ false _ _ c.new-lines_live.ensures.items c.new-lines_live.ensures.len c.in_ok-resize-2.ensures.items ∙ ap (λ (n : ℕ). replicate n false) c.len.ensures.len in
    new_fits c.args.formula.now.variables f lines _ _ cf lf
