use Rattle.std.proofs.Common.{◌≡◌, ◌<◌, ◌^◌, subst, sym, ap, ◌∙◌, arith, length}
use Rattle.std.proofs.lemmas.List.{with_items_is}
use Rattle.std.specs.Vec.{with_items}
use Rattle.watch_lists.specs.Watched.{AreSameListed}
use Rattle.watch_lists.specs.Steps.{AreFit, IsExtended}
use Rattle.watch_lists.specs.Watching.{view_of, AreKept, IsFit, AreSameAttached, IsGrown, IsOutcome}
use Rattle.watch_lists.proofs.FitLemmas.{fit_in, run_trail, run_out, run_kept, attached_same, grown_out}
use Rattle.watch_lists.proofs.watches.Watches.propagate.Goals as goal

pub run-requires-clause-fit : goal.run-requires-clause-fit
run-requires-clause-fit c =
    let f = fit_in _ _ _ _ c.self.invariant (subst (λ w. IsFit w c.args.arena.now.clauses c.args.trail.now) (sym c.self.view_is) c.requires.fit) c.len-valid.ensures.valid in
    subst (λ q. AreFit c.self.inside.heads q c.args.arena.now.clauses c.args.trail.now c.args.trail.now.given) (sym c.deref_mut.ensures.value) f

pub invariant_of-self : goal.invariant_of-self
invariant_of-self c =
    let size : length c.run.new.links ≡ length c.self.inside.links.items = c.run.ensures.listed.size ∙ ap length c.deref_mut.ensures.value in
    let items = with_items_is c.self.inside.links c.run.new.links (c.run.ensures.listed.size ∙ c.deref_mut.ensures.len) in
    let few : length c.run.new.links < 2 ^ 32 = omega (arith, size, c.self.invariant.few) in
    subst (AreKept c.self.inside.heads) (sym items) (run_kept _ _ _ _ _ few c.run.ensures.outcome)

pub returns-clause-attached : goal.returns-clause-attached
returns-clause-attached c =
    let items = with_items_is c.self.inside.links c.run.new.links (c.run.ensures.listed.size ∙ c.deref_mut.ensures.len) in
    let listed = subst (λ q. AreSameListed c.self.inside.heads q c.run.new.links) c.deref_mut.ensures.value c.run.ensures.listed in
    let same = attached_same c.self.inside.heads c.self.invariant.even.0 c.self.invariant.whole.0 _ _ c.self.invariant.even.1 c.self.invariant.whole.1 listed in
    let same2 = subst (λ q. AreSameAttached (view_of c.self.inside.heads c.self.inside.links.items) (view_of c.self.inside.heads q)) (sym items) same in
    subst (λ w. AreSameAttached w (view_of c.self.inside.heads (with_items c.self.inside.links c.run.new.links).items)) c.self.view_is same2

pub returns-clause-grown : goal.returns-clause-grown
returns-clause-grown c =
    let grown = subst (λ q. IsExtended c.self.inside.heads q c.args.arena.now.clauses c.args.trail.now c.run.new.trail) c.deref_mut.ensures.value c.run.ensures.grown in
    subst (λ w. IsGrown w c.args.arena.now.clauses c.args.trail.now c.run.new.trail) c.self.view_is (grown_out _ _ _ c.self.invariant.whole.0 _ _ c.self.invariant.whole.1 c.run.ensures.given grown)

pub returns-clause-outcome : goal.returns-clause-outcome
returns-clause-outcome c =
    let items = with_items_is c.self.inside.links c.run.new.links (c.run.ensures.listed.size ∙ c.deref_mut.ensures.len) in
    subst (λ q. IsOutcome (view_of c.self.inside.heads q) c.run.new.arena.clauses c.run.new.trail c.run.result) (sym items) (run_out _ _ _ _ _ c.run.ensures.outcome)

pub returns-clause-valid : goal.returns-clause-valid
returns-clause-valid c = run_trail _ _ _ _ _ c.run.ensures.outcome
