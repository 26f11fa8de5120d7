use Rattle.std.proofs.Common.{◌++◌, ◌∷◌, [], arith, ap, ◌∙◌}
use Rattle.clause_arena.proofs.ArenaLemmas.{parts_push, laid_push}
use Rattle.clause_arena.proofs.arena.ClauseArena.push.Goals as goal

pub invariant_of-self-2 : goal.invariant_of-self-2
invariant_of-self-2 c =
    let a = c.self.inside in
    rw (c.push_reserved.ensures.items, c.reserve.ensures.items, c.in_ok-extend_from_slice.ensures.items)
    (laid_push a.literals.items c.args.lits.now a.spans.items _ c.self.invariant (omega (arith, a.literals.ok.0)) (omega (arith, a.literals.ok.0, c.in_ok-extend_from_slice.ensures.len)) (omega arith) (omega arith))

pub returns-clause-ok : goal.returns-clause-ok
returns-clause-ok c =
    let a = c.self.inside in
    rw (c.push_reserved.ensures.items, c.reserve.ensures.items, c.in_ok-extend_from_slice.ensures.items)
    (parts_push a.literals.items c.args.lits.now a.spans.items _ c.self.invariant (omega (arith, a.literals.ok.0)) (omega (arith, a.literals.ok.0, c.in_ok-extend_from_slice.ensures.len))
    ∙ ap (λ v. v.clauses ++ c.args.lits.now ∷ []) c.self.view_is)
