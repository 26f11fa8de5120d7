use Rattle.std.proofs.Common.{◌≡◌, ◌++◌, ◌∷◌, [], arith, ap, ◌∙◌}
use Rattle.std.proofs.lemmas.List.{take_all}
use Rattle.clause_arena.proofs.ArenaLemmas.{parts_push, laid_push}
use Rattle.clause_arena.proofs.arena.ClauseArena.push_reserved.Goals as goal

pub invariant_of-self : goal.invariant_of-self
invariant_of-self c =
    let a = c.self.inside in
    let all : c.loop-lit.self-inside.literals.items ≡ a.literals.items ++ c.args.lits.now = c.loop-lit.invariant.items ∙ ap (λ q. a.literals.items ++ q) (take_all _ _ c.loop-lit-test.false) in
    rw (c.push_reserved-2.ensures.items, all, c.loop-lit.invariant.spans)
    (laid_push a.literals.items c.args.lits.now a.spans.items _ c.self.invariant (omega (arith, a.literals.ok.0)) (omega (arith, a.literals.ok.0)) (omega (arith, a.spans.ok.0, c.requires.room_clauses, ap (λ v. v.spare_clauses) c.self.view_is)) (omega (arith, a.literals.ok.0, c.requires.room_literals, ap (λ v. v.spare_literals) c.self.view_is)))

pub returns-clause-pushed : goal.returns-clause-pushed
returns-clause-pushed c =
    let a = c.self.inside in
    let all : c.loop-lit.self-inside.literals.items ≡ a.literals.items ++ c.args.lits.now = c.loop-lit.invariant.items ∙ ap (λ q. a.literals.items ++ q) (take_all _ _ c.loop-lit-test.false) in
    rw (c.push_reserved-2.ensures.items, all, c.loop-lit.invariant.spans)
    (parts_push a.literals.items c.args.lits.now a.spans.items _ c.self.invariant (omega (arith, a.literals.ok.0)) (omega (arith, a.literals.ok.0))
    ∙ ap (λ v. v.clauses ++ c.args.lits.now ∷ []) c.self.view_is)
