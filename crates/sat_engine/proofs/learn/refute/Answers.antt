use Rattle.std.proofs.Common.{◌≡◌, ◌+◌, ◌++◌, ◌∷◌, [], length, refl, sym, ap, ◌∙◌, subst, arith}
use Rattle.proof_check.specs.Lines.{Add, last_id, ArePositive}
use Rattle.proof_check.specs.Following.{first_live}
use Rattle.sat_engine.proofs.SearchLemmas.{refute_line}
use Rattle.sat_engine.proofs.KeepLemmas.{within_at}
use Rattle.sat_engine.proofs.StepLemmas.{refuting_short, hints_positive, first_are}
use Rattle.sat_engine.proofs.learn.refute.Goals as goal

pub analyse_ground-requires-clause-within : goal.analyse_ground-requires-clause-within
analyse_ground-requires-clause-within c = within_at c.args.known.now.arena.clauses c.args.trail.now.variables c.requires.searching.within

pub overflow_cast-hints : goal.overflow_cast-hints
overflow_cast-hints c =
    let short = refuting_short c.args.known.now.arena.clauses c.args.trail.now c.analyse_ground.new.work.hints.items c.requires.searching c.in_ok-analyse_ground.ensures in
    omega (arith, short, c.analyse_ground.new.work.hints.ok.0, c.requires.sized.variables_few)

pub push_add_reserved-requires-clause-above : goal.push_add_reserved-requires-clause-above
push_add_reserved-requires-clause-above c =
    let log = c.args.known.now.log in
    let last : last_id c.reserve.new.self.first c.reserve.new.self.lines ≡ length c.args.known.now.arena.clauses = ap (λ q. last_id q c.reserve.new.self.lines) c.in_ok-reserve.ensures.first ∙ ap (last_id log.first) c.in_ok-reserve.ensures.same ∙ c.requires.sized.last in
    omega (arith, last, c.len-id.ensures.len)

pub push_add_reserved-requires-clause-positive : goal.push_add_reserved-requires-clause-positive
push_add_reserved-requires-clause-positive c =
    let clauses = c.args.known.now.arena.clauses in
    subst ArePositive (sym c.deref.ensures.value) (hints_positive (first_live clauses) refl c.analyse_ground.new.work.hints.items [] (c.in_ok-analyse_ground.ensures (first_live clauses) (first_are clauses)))

pub returns-clause-refutes : goal.returns-clause-refutes
returns-clause-refutes c formula g =
    let hints = c.analyse_ground.new.work.hints.items in
    let lines : c.push_add_reserved.new.self.lines ≡ c.args.known.now.log.lines ++ (Add (c.len-id.result + 1) [] hints) ∷ [] = c.push_add_reserved.ensures.pushed ∙ ap (λ q. q ++ (Add (c.len-id.result + 1) [] c.deref.result.now) ∷ []) c.in_ok-reserve.ensures.same
    ∙ ap (λ q. c.args.known.now.log.lines ++ (Add (c.len-id.result + 1) [] q) ∷ []) c.deref.ensures.value in
    rw lines (refute_line formula c.args.known.now.arena.clauses c.args.trail.now c.args.known.now.log.lines c.requires.searching g (c.len-id.result + 1) hints (omega (arith, c.len-id.ensures.len)) c.in_ok-analyse_ground.ensures)
