use Rattle.std.proofs.Common.{◌≡◌, ◌+◌, ◌<◌, ◌≤◌, ◌∷◌, ◌++◌, [], List, length, subst, sym, ap, ◌∙◌, arith, length-append}
use Rattle.proof_check.specs.Progress.{StaysBelow, Spends, IsProgressLog}
use Rattle.proof_check.specs.Following.{Refutes}
use Rattle.proof_check.specs.Lines.{Add, numbers, last_id}
use Rattle.clause_arena.specs.Clauses.{Clause}
use Rattle.sat_engine.proofs.FullLemmas.{stays_below, spends}
use Rattle.sat_engine.proofs.LogLemmas.{numbers_push, last_push}
use Rattle.clause_arena.specs.Arenas.{literals}
use Rattle.sat_engine.specs.Searches.{IsLogged}
use Rattle.sat_engine.proofs.KeepLemmas.{keep_cut, listed_cut}
use Rattle.sat_engine.proofs.SetLemmas.{sets_of, logged_sets, literals_same}
use Rattle.sat_engine.proofs.LearntLemmas.{sized_same}
use Rattle.watch_lists.proofs.KeepLemmas.{fit_cut}
use Rattle.proof_check.specs.Records.{LogState}
use Rattle.sat_engine.proofs.StepLemmas.{literals_push}
use Rattle.sat_engine.proofs.search.search.Goals as goal

pub conflicts-smaller : goal.conflicts-smaller
conflicts-smaller c =
    let n = c.conflicts.trail.variables in
    let short = c.in_ok-learn.ensures.short in
    let k0 = c.conflicts.known in
    let k1 = c.to_conflict.new.known in
    let same = c.to_conflict.ensures.sets in
    let before : numbers k1.log.lines ≡ numbers k0.log.lines = ap (λ (q : LogState). numbers q.lines) c.to_conflict.ensures.log in
    let line = Add (length c.to_conflict.new.known.arena.clauses + 1) c.learn.new.work.lits.items c.learn.new.work.hints.items in
    let now : numbers c.learn.new.known.log.lines ≡ numbers c.to_conflict.new.known.log.lines + (length c.learn.new.work.lits.items + length c.learn.new.work.hints.items) = ap numbers c.in_ok-learn.ensures.line ∙ numbers_push c.to_conflict.new.known.log.lines line in
    let vars : c.to_conflict.new.trail.variables ≡ n = c.to_conflict.ensures.variables in
    omega (arith, now, before, c.in_ok-learn.ensures.some)

pub conflicts-smaller-then-is_due : goal.conflicts-smaller-then-is_due
conflicts-smaller-then-is_due c =
    let n = c.conflicts.trail.variables in
    let short = c.in_ok-learn.ensures.short in
    let k0 = c.conflicts.known in
    let k1 = c.to_conflict.new.known in
    let same = c.to_conflict.ensures.sets in
    let before : numbers k1.log.lines ≡ numbers k0.log.lines = ap (λ (q : LogState). numbers q.lines) c.to_conflict.ensures.log in
    let line = Add (length c.to_conflict.new.known.arena.clauses + 1) c.learn.new.work.lits.items c.learn.new.work.hints.items in
    let now : numbers c.learn.new.known.log.lines ≡ numbers c.to_conflict.new.known.log.lines + (length c.learn.new.work.lits.items + length c.learn.new.work.hints.items) = ap numbers c.in_ok-learn.ensures.line ∙ numbers_push c.to_conflict.new.known.log.lines line in
    let vars : c.to_conflict.new.trail.variables ≡ n = c.to_conflict.ensures.variables in
    omega (arith, now, before, c.in_ok-learn.ensures.some)

pub conflicts-preserved : goal.conflicts-preserved
conflicts-preserved c =
    let n = c.conflicts.trail.variables in
    let short = c.in_ok-learn.ensures.short in
    let k0 = c.conflicts.known in
    let k1 = c.to_conflict.new.known in
    let same = c.to_conflict.ensures.sets in
    let before : numbers k1.log.lines ≡ numbers k0.log.lines = ap (λ (q : LogState). numbers q.lines) c.to_conflict.ensures.log in
    let line = Add (length c.to_conflict.new.known.arena.clauses + 1) c.learn.new.work.lits.items c.learn.new.work.hints.items in
    let now : numbers c.learn.new.known.log.lines ≡ numbers c.to_conflict.new.known.log.lines + (length c.learn.new.work.lits.items + length c.learn.new.work.hints.items) = ap numbers c.in_ok-learn.ensures.line ∙ numbers_push c.to_conflict.new.known.log.lines line in
    let vars : c.to_conflict.new.trail.variables ≡ n = c.to_conflict.ensures.variables in
    let more : literals c.learn.new.known.arena.clauses ≡ literals c.to_conflict.new.known.arena.clauses + length c.learn.new.work.lits.items = ap literals c.in_ok-learn.ensures.clauses ∙ literals_push c.to_conflict.new.known.arena.clauses c.learn.new.work.lits.items in
    let count : length c.learn.new.known.arena.clauses ≡ length c.to_conflict.new.known.arena.clauses + 1 = ap length c.in_ok-learn.ensures.clauses ∙ length-append c.to_conflict.new.known.arena.clauses (c.learn.new.work.lits.items ∷ []) in
    let back : c.learn.new.trail.variables ≡ n = c.in_ok-learn.ensures.variables ∙ vars in
    let there : (formula : List Clause) → IsLogged formula n k0.arena.clauses k0.log.lines → IsLogged formula n k1.arena.clauses k1.log.lines = λ formula g. subst (λ (q : LogState). IsLogged formula n k1.arena.clauses q.lines) (sym c.to_conflict.ensures.log) (logged_sets k0.arena.clauses k1.arena.clauses (sets_of k0.arena.clauses k1.arena.clauses same) formula n k0.log.lines g) in
    let last : last_id c.learn.new.known.log.first c.learn.new.known.log.lines ≡ length c.learn.new.known.arena.clauses = ap (last_id c.learn.new.known.log.first) c.in_ok-learn.ensures.line ∙ last_push k1.log.lines c.learn.new.known.log.first (length k1.arena.clauses + 1) c.learn.new.work.lits.items c.learn.new.work.hints.items ∙ sym count in
    let unspent : numbers c.learn.new.known.log.lines < c.args.budget = omega arith in
    record {
      variables = back ∙ c.conflicts.invariant.variables;
      first = c.in_ok-learn.ensures.first ∙ ap (λ (q : LogState). q.first) c.to_conflict.ensures.log ∙ c.conflicts.invariant.first;
      unspent = unspent;
      searching = c.in_ok-learn.ensures.searching;
      listed = c.in_ok-learn.ensures.listed;
      fit = c.in_ok-learn.ensures.fit;
      sized = record { variables_few = omega (arith, back, c.conflicts.invariant.sized.variables_few); numbers_few = omega (arith, unspent, c.requires.budget); clauses_few = omega (arith, more, count, now, before, same.count, literals_same k0.arena.clauses k1.arena.clauses same, c.in_ok-learn.ensures.some, c.conflicts.invariant.sized.clauses_few); last = last };
      flags = c.in_ok-learn.ensures.flags ∙ vars ∙ sym (back);
      clear = c.in_ok-learn.ensures.clear;
      logged = λ formula g. subst (λ k. IsLogged formula k c.learn.new.known.arena.clauses c.learn.new.known.log.lines) (vars ∙ sym (back)) (c.in_ok-learn.ensures.logged formula (subst (λ k. IsLogged formula k k1.arena.clauses k1.log.lines) (sym vars) (there formula (c.conflicts.invariant.logged formula g))));
    }

pub conflicts-preserved-then-is_due : goal.conflicts-preserved-then-is_due
conflicts-preserved-then-is_due c =
    let n = c.conflicts.trail.variables in
    let short = c.in_ok-learn.ensures.short in
    let k0 = c.conflicts.known in
    let k1 = c.to_conflict.new.known in
    let same = c.to_conflict.ensures.sets in
    let before : numbers k1.log.lines ≡ numbers k0.log.lines = ap (λ (q : LogState). numbers q.lines) c.to_conflict.ensures.log in
    let line = Add (length c.to_conflict.new.known.arena.clauses + 1) c.learn.new.work.lits.items c.learn.new.work.hints.items in
    let now : numbers c.learn.new.known.log.lines ≡ numbers c.to_conflict.new.known.log.lines + (length c.learn.new.work.lits.items + length c.learn.new.work.hints.items) = ap numbers c.in_ok-learn.ensures.line ∙ numbers_push c.to_conflict.new.known.log.lines line in
    let vars : c.to_conflict.new.trail.variables ≡ n = c.to_conflict.ensures.variables in
    let more : literals c.learn.new.known.arena.clauses ≡ literals c.to_conflict.new.known.arena.clauses + length c.learn.new.work.lits.items = ap literals c.in_ok-learn.ensures.clauses ∙ literals_push c.to_conflict.new.known.arena.clauses c.learn.new.work.lits.items in
    let count : length c.learn.new.known.arena.clauses ≡ length c.to_conflict.new.known.arena.clauses + 1 = ap length c.in_ok-learn.ensures.clauses ∙ length-append c.to_conflict.new.known.arena.clauses (c.learn.new.work.lits.items ∷ []) in
    let back : c.learn.new.trail.variables ≡ n = c.in_ok-learn.ensures.variables ∙ vars in
    let there : (formula : List Clause) → IsLogged formula n k0.arena.clauses k0.log.lines → IsLogged formula n k1.arena.clauses k1.log.lines = λ formula g. subst (λ (q : LogState). IsLogged formula n k1.arena.clauses q.lines) (sym c.to_conflict.ensures.log) (logged_sets k0.arena.clauses k1.arena.clauses (sets_of k0.arena.clauses k1.arena.clauses same) formula n k0.log.lines g) in
    let last : last_id c.learn.new.known.log.first c.learn.new.known.log.lines ≡ length c.learn.new.known.arena.clauses = ap (last_id c.learn.new.known.log.first) c.in_ok-learn.ensures.line ∙ last_push k1.log.lines c.learn.new.known.log.first (length k1.arena.clauses + 1) c.learn.new.work.lits.items c.learn.new.work.hints.items ∙ sym count in
    let unspent : numbers c.learn.new.known.log.lines < c.args.budget = omega arith in
    let far : c.back_to.new.self.variables ≡ n = c.back_to.ensures.cut.variables ∙ back in
    record {
      variables = far ∙ c.conflicts.invariant.variables;
      first = c.in_ok-learn.ensures.first ∙ ap (λ (q : LogState). q.first) c.to_conflict.ensures.log ∙ c.conflicts.invariant.first;
      unspent = unspent;
      searching = keep_cut c.learn.new.known.arena.clauses c.learn.new.trail c.back_to.new.self 0 c.in_ok-learn.ensures.searching (omega arith) c.back_to.ensures.cut c.back_to.ensures.valid;
      listed = listed_cut c.learn.new.known.arena.clauses c.learn.new.known.watches c.learn.new.trail c.back_to.new.self 0 c.back_to.ensures.cut c.in_ok-learn.ensures.listed;
      fit = fit_cut c.learn.new.trail c.back_to.new.self 0 c.back_to.ensures.cut c.learn.new.known.watches c.learn.new.known.arena.clauses c.in_ok-learn.ensures.fit;
      sized = record { variables_few = omega (arith, far, c.conflicts.invariant.sized.variables_few); numbers_few = omega (arith, unspent, c.requires.budget); clauses_few = omega (arith, more, count, now, before, same.count, literals_same k0.arena.clauses k1.arena.clauses same, c.in_ok-learn.ensures.some, c.conflicts.invariant.sized.clauses_few); last = last };
      flags = c.in_ok-learn.ensures.flags ∙ vars ∙ sym (far);
      clear = c.in_ok-learn.ensures.clear;
      logged = λ formula g. subst (λ k. IsLogged formula k c.learn.new.known.arena.clauses c.learn.new.known.log.lines) (vars ∙ sym (far)) (c.in_ok-learn.ensures.logged formula (subst (λ k. IsLogged formula k k1.arena.clauses k1.log.lines) (sym vars) (there formula (c.conflicts.invariant.logged formula g))));
    }

pub learn-requires-clause-sized : goal.learn-requires-clause-sized
learn-requires-clause-sized c = sized_same c.conflicts.trail.variables c.to_conflict.new.trail.variables c.conflicts.known.arena.clauses c.to_conflict.new.known.arena.clauses c.conflicts.known.log c.to_conflict.new.known.log c.to_conflict.ensures.sets c.to_conflict.ensures.log c.to_conflict.ensures.variables c.conflicts.invariant.sized

pub refute-requires-clause-sized : goal.refute-requires-clause-sized
refute-requires-clause-sized c = sized_same c.conflicts.trail.variables c.to_conflict.new.trail.variables c.conflicts.known.arena.clauses c.to_conflict.new.known.arena.clauses c.conflicts.known.log c.to_conflict.new.known.log c.to_conflict.ensures.sets c.to_conflict.ensures.log c.to_conflict.ensures.variables c.conflicts.invariant.sized

pub returns-in_default-clause-verdict : goal.returns-in_default-clause-verdict
returns-in_default-clause-verdict c formula g =
    let n = c.args.trail.now.variables in
    let k0 = c.conflicts.known in
    let k1 = c.to_conflict.new.known in
    let t0 = c.conflicts.trail in
    let t1 = c.to_conflict.new.trail in
    let same = c.to_conflict.ensures.sets in
    let g0 : IsLogged formula t0.variables k0.arena.clauses k0.log.lines = c.conflicts.invariant.logged formula g in
    let g1 : IsLogged formula t0.variables k1.arena.clauses k1.log.lines = subst (λ (q : LogState). IsLogged formula t0.variables k1.arena.clauses q.lines) (sym c.to_conflict.ensures.log) (logged_sets k0.arena.clauses k1.arena.clauses (sets_of k0.arena.clauses k1.arena.clauses same) formula t0.variables k0.log.lines g0) in
    let there : IsLogged formula n k1.arena.clauses k1.log.lines = subst (λ k. IsLogged formula k k1.arena.clauses k1.log.lines) c.conflicts.invariant.variables g1 in
    let vars : t1.variables ≡ n = c.to_conflict.ensures.variables ∙ c.conflicts.invariant.variables in
    let now : IsLogged formula t1.variables k1.arena.clauses k1.log.lines = subst (λ k. IsLogged formula k k1.arena.clauses k1.log.lines) (sym vars) there in
    let less : numbers k1.log.lines < c.args.budget = omega (arith, c.conflicts.invariant.unspent, ap (λ (q : LogState). numbers q.lines) c.to_conflict.ensures.log) in
    record {
      trail = c.in_default.ensures.searching.trail;
      variables_are = vars;
      assigned = c.in_default.ensures.outcome.0;
      quiet = c.in_default.ensures.outcome.1;
      filled = c.in_default.ensures.searching.filled;
      logged = there;
    }

pub returns-then-level-eq0-clause-verdict : goal.returns-then-level-eq0-clause-verdict
returns-then-level-eq0-clause-verdict c formula g =
    let n = c.args.trail.now.variables in
    let k0 = c.conflicts.known in
    let k1 = c.to_conflict.new.known in
    let t0 = c.conflicts.trail in
    let t1 = c.to_conflict.new.trail in
    let same = c.to_conflict.ensures.sets in
    let g0 : IsLogged formula t0.variables k0.arena.clauses k0.log.lines = c.conflicts.invariant.logged formula g in
    let g1 : IsLogged formula t0.variables k1.arena.clauses k1.log.lines = subst (λ (q : LogState). IsLogged formula t0.variables k1.arena.clauses q.lines) (sym c.to_conflict.ensures.log) (logged_sets k0.arena.clauses k1.arena.clauses (sets_of k0.arena.clauses k1.arena.clauses same) formula t0.variables k0.log.lines g0) in
    let there : IsLogged formula n k1.arena.clauses k1.log.lines = subst (λ k. IsLogged formula k k1.arena.clauses k1.log.lines) c.conflicts.invariant.variables g1 in
    let vars : t1.variables ≡ n = c.to_conflict.ensures.variables ∙ c.conflicts.invariant.variables in
    let now : IsLogged formula t1.variables k1.arena.clauses k1.log.lines = subst (λ k. IsLogged formula k k1.arena.clauses k1.log.lines) (sym vars) there in
    let less : numbers k1.log.lines < c.args.budget = omega (arith, c.conflicts.invariant.unspent, ap (λ (q : LogState). numbers q.lines) c.to_conflict.ensures.log) in
    let line = Add (length k1.arena.clauses + 1) [] c.refute.new.work.hints.items in (
      subst (λ k. Refutes k formula c.refute.new.known.log.lines) vars (c.in_ok-refute.ensures.refutes formula now),
      subst (StaysBelow c.args.budget) (sym c.in_ok-refute.ensures.line) (stays_below c.args.budget k1.log.lines line less),
    )

pub returns-then-numbers-budget-clause-verdict : goal.returns-then-numbers-budget-clause-verdict
returns-then-numbers-budget-clause-verdict c formula g =
    let n = c.args.trail.now.variables in
    let k0 = c.conflicts.known in
    let k1 = c.to_conflict.new.known in
    let t0 = c.conflicts.trail in
    let t1 = c.to_conflict.new.trail in
    let same = c.to_conflict.ensures.sets in
    let g0 : IsLogged formula t0.variables k0.arena.clauses k0.log.lines = c.conflicts.invariant.logged formula g in
    let g1 : IsLogged formula t0.variables k1.arena.clauses k1.log.lines = subst (λ (q : LogState). IsLogged formula t0.variables k1.arena.clauses q.lines) (sym c.to_conflict.ensures.log) (logged_sets k0.arena.clauses k1.arena.clauses (sets_of k0.arena.clauses k1.arena.clauses same) formula t0.variables k0.log.lines g0) in
    let there : IsLogged formula n k1.arena.clauses k1.log.lines = subst (λ k. IsLogged formula k k1.arena.clauses k1.log.lines) c.conflicts.invariant.variables g1 in
    let vars : t1.variables ≡ n = c.to_conflict.ensures.variables ∙ c.conflicts.invariant.variables in
    let now : IsLogged formula t1.variables k1.arena.clauses k1.log.lines = subst (λ k. IsLogged formula k k1.arena.clauses k1.log.lines) (sym vars) there in
    let less : numbers k1.log.lines < c.args.budget = omega (arith, c.conflicts.invariant.unspent, ap (λ (q : LogState). numbers q.lines) c.to_conflict.ensures.log) in
    let line = Add (length k1.arena.clauses + 1) c.learn.new.work.lits.items c.learn.new.work.hints.items in
    let logged = c.in_ok-learn.ensures.logged formula now in
    let reached : c.args.budget ≤ numbers (k1.log.lines ++ line ∷ []) = omega (arith, c.if-numbers-budget.true, c.numbers.ensures, ap numbers c.in_ok-learn.ensures.line) in (
      subst (λ k. IsProgressLog k formula c.learn.new.known.log.lines) vars logged.progress,
      subst (Spends c.args.budget) (sym c.in_ok-learn.ensures.line) (spends c.args.budget k1.log.lines line less reached),
    )
