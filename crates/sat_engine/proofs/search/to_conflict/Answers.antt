use Rattle.std.proofs.Common.{◌+◌, [], ◌∷◌, ap, ◌∙◌, None}
use Rattle.sat_trail.specs.Trails.{Entry, TrailState}
use Rattle.watch_lists.proofs.SwapLemmas.{sets_trans}
use Rattle.watch_lists.proofs.KeepLemmas.{fit_more}
use Rattle.sat_engine.proofs.KeepLemmas.{keep_grown, keep_decided, all_quiet, listed_more}
use Rattle.sat_engine.proofs.SetLemmas.{sets_of, keep_sets, listed_sets}
use Rattle.sat_engine.proofs.search.to_conflict.Goals as goal

pub returns-in-Conflict-clause-sets : goal.returns-in-Conflict-clause-sets
returns-in-Conflict-clause-sets c = sets_trans _ c.decisions.known.arena.clauses _ c.decisions.invariant.sets c.propagate.ensures.sets

pub returns-in-Conflict-clause-searching : goal.returns-in-Conflict-clause-searching
returns-in-Conflict-clause-searching c =
    let k0 = c.decisions.known in
    let a1 = c.propagate.new.arena in
    let w1 = c.propagate.new.self in
    let t0 = c.decisions.trail in
    let t1 = c.propagate.new.trail in
    let same = c.propagate.ensures.sets in
    let sets = sets_of k0.arena.clauses a1.clauses same in
    let grown = keep_grown k0.arena.clauses k0.watches t0 t1 c.decisions.invariant.searching c.propagate.ensures.grown c.propagate.ensures.valid in
    let kept = keep_sets k0.arena.clauses a1.clauses sets t1 grown in
    kept

pub returns-in-Conflict-clause-listed : goal.returns-in-Conflict-clause-listed
returns-in-Conflict-clause-listed c =
    let k0 = c.decisions.known in
    let a1 = c.propagate.new.arena in
    let w1 = c.propagate.new.self in
    let t0 = c.decisions.trail in
    let t1 = c.propagate.new.trail in
    let same = c.propagate.ensures.sets in
    let sets = sets_of k0.arena.clauses a1.clauses same in
    let more = listed_more k0.arena.clauses k0.watches t0 t1 c.propagate.ensures.grown.more c.propagate.ensures.grown.appended c.decisions.invariant.listed in
    let listing = listed_sets k0.arena.clauses a1.clauses sets k0.watches w1 t1 c.propagate.ensures.attached more in
    listing

pub returns-in_default-next-clause-sets : goal.returns-in_default-next-clause-sets
returns-in_default-next-clause-sets c = sets_trans _ c.decisions.known.arena.clauses _ c.decisions.invariant.sets c.propagate.ensures.sets

pub returns-in_default-next-clause-searching : goal.returns-in_default-next-clause-searching
returns-in_default-next-clause-searching c =
    let k0 = c.decisions.known in
    let a1 = c.propagate.new.arena in
    let w1 = c.propagate.new.self in
    let t0 = c.decisions.trail in
    let t1 = c.propagate.new.trail in
    let same = c.propagate.ensures.sets in
    let sets = sets_of k0.arena.clauses a1.clauses same in
    let grown = keep_grown k0.arena.clauses k0.watches t0 t1 c.decisions.invariant.searching c.propagate.ensures.grown c.propagate.ensures.valid in
    let kept = keep_sets k0.arena.clauses a1.clauses sets t1 grown in
    kept

pub returns-in_default-next-clause-listed : goal.returns-in_default-next-clause-listed
returns-in_default-next-clause-listed c =
    let k0 = c.decisions.known in
    let a1 = c.propagate.new.arena in
    let w1 = c.propagate.new.self in
    let t0 = c.decisions.trail in
    let t1 = c.propagate.new.trail in
    let same = c.propagate.ensures.sets in
    let sets = sets_of k0.arena.clauses a1.clauses same in
    let more = listed_more k0.arena.clauses k0.watches t0 t1 c.propagate.ensures.grown.more c.propagate.ensures.grown.appended c.decisions.invariant.listed in
    let listing = listed_sets k0.arena.clauses a1.clauses sets k0.watches w1 t1 c.propagate.ensures.attached more in
    listing

pub returns-in_default-next-clause-outcome : goal.returns-in_default-next-clause-outcome
returns-in_default-next-clause-outcome c =
    let k0 = c.decisions.known in
    let a1 = c.propagate.new.arena in
    let w1 = c.propagate.new.self in
    let t0 = c.decisions.trail in
    let t1 = c.propagate.new.trail in
    let same = c.propagate.ensures.sets in
    let sets = sets_of k0.arena.clauses a1.clauses same in
    let grown = keep_grown k0.arena.clauses k0.watches t0 t1 c.decisions.invariant.searching c.propagate.ensures.grown c.propagate.ensures.valid in
    let kept = keep_sets k0.arena.clauses a1.clauses sets t1 grown in
    let more = listed_more k0.arena.clauses k0.watches t0 t1 c.propagate.ensures.grown.more c.propagate.ensures.grown.appended c.decisions.invariant.listed in
    let listing = listed_sets k0.arena.clauses a1.clauses sets k0.watches w1 t1 c.propagate.ensures.attached more in
    (c.in_default-next.ensures, all_quiet a1.clauses w1 t1 kept listing c.in_default.ensures.outcome.2)

pub decisions-preserved : goal.decisions-preserved
decisions-preserved c =
    let k0 = c.decisions.known in
    let a1 = c.propagate.new.arena in
    let w1 = c.propagate.new.self in
    let t0 = c.decisions.trail in
    let t1 = c.propagate.new.trail in
    let same = c.propagate.ensures.sets in
    let sets = sets_of k0.arena.clauses a1.clauses same in
    let grown = keep_grown k0.arena.clauses k0.watches t0 t1 c.decisions.invariant.searching c.propagate.ensures.grown c.propagate.ensures.valid in
    let kept = keep_sets k0.arena.clauses a1.clauses sets t1 grown in
    let more = listed_more k0.arena.clauses k0.watches t0 t1 c.propagate.ensures.grown.more c.propagate.ensures.grown.appended c.decisions.invariant.listed in
    let listing = listed_sets k0.arena.clauses a1.clauses sets k0.watches w1 t1 c.propagate.ensures.attached more in
    let t2 = c.decide.new.self in
    let is = c.decide.ensures.grown in
    let e : Entry = record { lit = c.in-Some.lit; level = t1.level + 1; reason = None } in
    record {
      variables = ap (λ (q : TrailState). q.variables) is ∙ c.propagate.ensures.grown.variables ∙ c.decisions.invariant.variables;
      log = c.decisions.invariant.log;
      sets = sets_trans _ k0.arena.clauses _ c.decisions.invariant.sets same;
      searching = keep_decided a1.clauses t1 t2 c.in-Some.lit kept (all_quiet a1.clauses w1 t1 kept listing c.in_default.ensures.outcome.2) c.in_default.ensures.outcome.1 is c.decide.ensures.valid;
      listed = listed_more a1.clauses w1 t1 t2 (e ∷ []) (ap (λ (q : TrailState). q.entries) is) listing;
      fit = fit_more w1 a1.clauses t1 t2 e (ap (λ (q : TrailState). q.entries) is) (ap (λ (q : TrailState). q.given) is) (ap (λ (q : TrailState). q.variables) is) kept.trail.given_in c.in_default.ensures.outcome.0;
    }
