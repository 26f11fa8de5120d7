use Rattle.std.proofs.Common.{◌≡◌, ◌≢◌, ◌+◌, ◌++◌, ◌∷◌, [], take, max, sym, ap, ◌∙◌, subst, arith}
use Rattle.std.proofs.lemmas.List.{take_more}
use Rattle.clause_arena.specs.Clauses.{Lit, In}
use Rattle.sat_trail.specs.Trails.{entry_at}
use Rattle.sat_engine.specs.Searches.{IsJump}
use Rattle.sat_engine.proofs.PlaceLemmas.{in_read}
use Rattle.sat_engine.proofs.StepLemmas.{lower_assigned, one_of, jump_same, jump_more}
use Rattle.sat_engine.proofs.learn.jump_level.Goals as goal
use Rattle.sat_engine.proofs.learn.jump_level.Goals.{then-var, else-var}

pub level_of-requires : goal.level_of-requires
level_of-requires c =
    let x = c.lit-item.result in
    let i : In x c.args.lits.now = in_read c.args.lits.now c.loop-lit.lit-index x c.loop-lit-test.true c.lit-item.is in
    let ne : x.var ≢ c.args.asserting.var = λ e. c.if-var.true (c.var.ensures.same ∙ e ∙ sym c.var-in-loop-lit.ensures.same) in
    let h = lower_assigned c.args.trail.now c.args.asserting x c.args.lits.now c.requires.lower i ne in
    (h.0, h.1, h.2 ∙ sym c.var-then-var.ensures.same)

pub loop-lit-preserved : goal.loop-lit-preserved
loop-lit-preserved c =
    let t = c.args.trail.now in
    let x = c.lit-item.result in
    let k = c.loop-lit.lit-index in
    let lits = c.args.lits.now in
    let grow : take (k + 1) lits ≡ take k lits ++ x ∷ [] = take_more lits k x c.loop-lit-test.true ∙ ap (λ q. take k lits ++ q ∷ []) (sym c.lit-item.is) in
    let i : In x lits = in_read lits k x c.loop-lit-test.true c.lit-item.is in
    subst (λ q. IsJump t c.args.asserting q c.if-var.jump) (sym grow) (elim c.if-var.branch [
      | then-var w ↦
          let ne : x ≢ c.args.asserting = λ e. w.if-var.true (c.var.ensures.same ∙ ap (λ (q : Lit). q.var) e ∙ sym c.var-in-loop-lit.ensures.same) in
          let f = c.requires.lower x i ne in
          let v : (entry_at t.entries f.0).lit.var ≡ w.var-then-var.result = ap (λ (q : Lit). q.var) f.1.1 ∙ sym w.var-then-var.ensures.same in
          let level : w.level_of.result ≡ (entry_at t.entries f.0).level = w.level_of.ensures f.0 f.1.0 v in
          let is : c.if-var.jump ≡ max c.loop-lit.jump (entry_at t.entries f.0).level = w.jump-is ∙ omega (arith, level, w.higher-jump.ensures) in
          subst (IsJump t c.args.asserting (take k lits ++ x ∷ [])) (sym is) (jump_more t c.args.asserting x (take k lits) c.loop-lit.jump (entry_at t.entries f.0).level ne f.0 f.1 (omega arith) f.3 c.loop-lit.invariant)
      | else-var w ↦
          let same : x.var ≡ c.args.asserting.var = omega (arith, c.var.ensures.same, c.var-in-loop-lit.ensures.same, w.if-var.false) in
          subst (IsJump t c.args.asserting (take k lits ++ x ∷ [])) (sym w.jump-is) (jump_same t c.args.asserting x (take k lits) c.loop-lit.jump (one_of lits c.args.asserting x c.requires.holds i c.requires.once same) c.loop-lit.invariant)
    ])
