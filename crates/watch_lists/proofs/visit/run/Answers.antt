use Rattle.std.proofs.Common.{◌≡◌, ◌+◌, ap, arith}
use Rattle.sat_trail.specs.Trails.{TrailState}
use Rattle.watch_lists.proofs.SwapLemmas.{sets_refl, sets_trans}
use Rattle.watch_lists.proofs.StepLemmas.{start_of, extended_trans, extended_refl, extended_given, listed_refl, listed_trans}
use Rattle.watch_lists.proofs.visit.run.Goals as goal

pub given-init : goal.given-init
given-init c = record {
  sets = sets_refl _;
  listed = listed_refl _ _;
  grown = extended_refl _ _ _ _;
  given = omega arith;
  fit = c.requires.fit;
  pending = c.requires.pending;
}

pub visit-requires-clause-at : goal.visit-requires-clause-at
visit-requires-clause-at c =
    let n = c.in-Some.ensures.next in
    rw c.negated.ensures (start_of _ _ _ c.given.trail c.next.new.self c.in-Some.lit c.given.invariant.fit c.given.invariant.pending n.0 n.1 n.2 c.in-Some.ensures.valid)

pub returns-in-Some-visit-clause-sets : goal.returns-in-Some-visit-clause-sets
returns-in-Some-visit-clause-sets c = sets_trans _ _ _ c.given.invariant.sets c.in-Some-visit.ensures.sets

pub returns-in-Some-visit-clause-listed : goal.returns-in-Some-visit-clause-listed
returns-in-Some-visit-clause-listed c = listed_trans _ _ _ _ c.given.invariant.listed c.in-Some-visit.ensures.listed

pub returns-in-Some-visit-clause-grown : goal.returns-in-Some-visit-clause-grown
returns-in-Some-visit-clause-grown c =
    let n = c.in-Some.ensures.next in
    let g = extended_given _ _ _ _ _ _ _ n.2 c.given.invariant.grown in
    extended_trans _ _ _ _ _ _ _ _ c.given.invariant.sets c.given.invariant.listed g c.in-Some-visit.ensures.grown

pub given-preserved : goal.given-preserved
given-preserved c =
    let n = c.in-Some.ensures.next in
    let up : c.next.new.self.given ≡ c.given.trail.given + 1 = ap (λ (t : TrailState). t.given) n.2 in
    let g = extended_given _ _ _ _ _ _ _ n.2 c.given.invariant.grown in
    record {
      sets = sets_trans _ _ _ c.given.invariant.sets c.in_default-visit.ensures.sets;
      listed = listed_trans _ _ _ _ c.given.invariant.listed c.in_default-visit.ensures.listed;
      grown = extended_trans _ _ _ _ _ _ _ _ c.given.invariant.sets c.given.invariant.listed g c.in_default-visit.ensures.grown;
      given = omega (arith, c.given.invariant.given, up, c.in_default-visit.ensures.given);
      fit = c.in_default-visit.ensures.outcome.0;
      pending = c.in_default-visit.ensures.outcome.1;
    }
