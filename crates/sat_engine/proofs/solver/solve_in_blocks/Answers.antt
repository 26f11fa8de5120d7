use Rattle.std.proofs.Common.{◌≡◌, length, ap, sym, ◌∙◌, subst, arith}
use Rattle.proof_check.specs.Progress.{IsProgressLog, Spends}
use Rattle.sat_engine.specs.Steps.{IsWithin}
use Rattle.sat_trail.specs.Trails.{TrailState}
use Rattle.sat_engine.specs.Searches.{IsLogged}
use Rattle.sat_engine.specs.Verdicts.{IsVerdict, IsFull}
use Rattle.sat_engine.specs.Outcomes.{AreAssigned}
use Rattle.sat_engine.proofs.FullLemmas.{trail_fresh, start_searching, start_logged, full_satisfies}
use Rattle.sat_engine.proofs.CopyLemmas.{formula_within}
use Rattle.sat_engine.proofs.UnitLemmas.{listed_start}
use Rattle.sat_engine.proofs.BoundLemmas.{progress_bounded}
use Rattle.sat_engine.proofs.solver.solve_in_blocks.Goals as goal

pub load-requires-clause-within : goal.load-requires-clause-within
load-requires-clause-within c =
    let formula = c.args.cnf.now.clauses.clauses in
    let t = c.in_ok-trail.trail in
    let vars : t.variables ≡ c.args.cnf.now.variables = ap (λ (q : TrailState). q.variables) c.in_ok-trail.ensures.empty in
    subst (IsWithin formula) (sym vars) (formula_within c.args.cnf.now.variables formula c.args.cnf.now.within)

pub assign_units-requires-clause-searching : goal.assign_units-requires-clause-searching
assign_units-requires-clause-searching c =
    let formula = c.args.cnf.now.clauses.clauses in
    let known = c.in_ok-known.known in
    let t = c.in_ok-trail.trail in
    let loaded = c.in_ok-known.ensures.loaded in
    let vars : t.variables ≡ c.args.cnf.now.variables = ap (λ (q : TrailState). q.variables) c.in_ok-trail.ensures.empty in
    start_searching formula known.arena.clauses known.watches t (trail_fresh t c.args.cnf.now.variables c.in_ok-trail.ensures.empty) (ap (λ (q : TrailState). q.entries) c.in_ok-trail.ensures.empty) (ap (λ (q : TrailState). q.level) c.in_ok-trail.ensures.empty) c.in_default.ensures (subst (IsWithin formula) (sym vars) (formula_within c.args.cnf.now.variables c.args.cnf.now.clauses.clauses c.args.cnf.now.within)) loaded

pub search-requires-clause-listed : goal.search-requires-clause-listed
search-requires-clause-listed c =
    let formula = c.args.cnf.now.clauses.clauses in
    let known = c.in_ok-known.known in
    let t = c.in_ok-trail.trail in
    let loaded = c.in_ok-known.ensures.loaded in
    let vars : t.variables ≡ c.args.cnf.now.variables = ap (λ (q : TrailState). q.variables) c.in_ok-trail.ensures.empty in
    listed_start formula known.arena.clauses known.watches c.assign_units.new.trail loaded c.in_default-assign_units.ensures.searching c.in_default-assign_units.ensures.outcome

pub search-requires-clause-fit : goal.search-requires-clause-fit
search-requires-clause-fit c = c.in_default-assign_units.ensures.fit c.in_ok-known.known.watches c.in_ok-known.ensures.fit

pub returns-in-Sat : goal.returns-in-Sat
returns-in-Sat c =
    let formula = c.args.cnf.now.clauses.clauses in
    let known = c.in_ok-known.known in
    let t = c.in_ok-trail.trail in
    let loaded = c.in_ok-known.ensures.loaded in
    let vars : t.variables ≡ c.args.cnf.now.variables = ap (λ (q : TrailState). q.variables) c.in_ok-trail.ensures.empty in
    let t1 = c.assign_units.new.trail in
    let vars1 : t1.variables ≡ c.args.cnf.now.variables = c.assign_units.ensures.variables ∙ vars in
    let logged : IsLogged formula t1.variables known.arena.clauses known.log.lines = rw c.in_ok-known.ensures.log.0 (start_logged formula known.arena.clauses known.watches t1.variables loaded) in
    let first : c.search.new.known.log.first ≡ length formula = c.in_ok-verdict.ensures.first ∙ c.in_ok-known.ensures.log.1 in
    let full : IsFull formula c.search.new.known.arena.clauses c.search.new.known.log.lines t1.variables c.search.new.trail = subst (IsVerdict formula c.args.budget c.search.new.known.arena.clauses c.search.new.known.log.lines t1.variables c.search.new.trail) c.in-Sat.is (c.in_ok-verdict.ensures.verdict formula logged) in
    let a : AreAssigned c.search.new.trail c.in_ok-assignment-in-Sat.field-0.items c.search.new.trail.variables = c.in_ok-assignment-in-Sat.ensures in
    (a.fits ∙ full.variables_are ∙ vars1, full_satisfies formula c.search.new.known.arena.clauses c.search.new.known.log.lines t1.variables c.search.new.trail c.in_ok-assignment-in-Sat.field-0.items (subst (IsWithin formula) (sym vars1) (formula_within c.args.cnf.now.variables c.args.cnf.now.clauses.clauses c.args.cnf.now.within)) full a)

pub returns : goal.returns
returns c =
    let formula = c.args.cnf.now.clauses.clauses in
    let known = c.in_ok-known.known in
    let t = c.in_ok-trail.trail in
    let loaded = c.in_ok-known.ensures.loaded in
    let vars : t.variables ≡ c.args.cnf.now.variables = ap (λ (q : TrailState). q.variables) c.in_ok-trail.ensures.empty in
    let t1 = c.assign_units.new.trail in
    let vars1 : t1.variables ≡ c.args.cnf.now.variables = c.assign_units.ensures.variables ∙ vars in
    let logged : IsLogged formula t1.variables known.arena.clauses known.log.lines = rw c.in_ok-known.ensures.log.0 (start_logged formula known.arena.clauses known.watches t1.variables loaded) in
    let first : c.search.new.known.log.first ≡ length formula = c.in_ok-verdict.ensures.first ∙ c.in_ok-known.ensures.log.1 in
    let v : IsProgressLog t1.variables formula c.search.new.known.log.lines × Spends c.args.budget c.search.new.known.log.lines = subst (IsVerdict formula c.args.budget c.search.new.known.arena.clauses c.search.new.known.log.lines t1.variables c.search.new.trail) c.in-Open.is (c.in_ok-verdict.ensures.verdict formula logged) in
    let progress : IsProgressLog c.args.cnf.now.variables formula c.search.new.known.log.lines = subst (λ k. IsProgressLog k formula c.search.new.known.log.lines) vars1 v.0 in
    (first, progress, v.1, omega (arith, v.1.reached, progress_bounded c.args.cnf.now.variables formula c.search.new.known.log.lines (formula_within c.args.cnf.now.variables c.args.cnf.now.clauses.clauses c.args.cnf.now.within) progress))
