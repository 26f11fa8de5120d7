use Rattle.std.proofs.Common.{◌≡◌, ◌⊎◌, ℕ, ◌+◌, ◌*◌, None, replicate, ◌<◌, ◌≤◌, ◌++◌, ◌∷◌, [], List, true, take, length, sym, ap, ◌∙◌, subst, inl, inr, refl, arith, length-take-le}
use Rattle.std.proofs.lemmas.Bool.{cases_lt}
use Rattle.std.proofs.lemmas.List.{take_more, length-replicate}
use Rattle.watch_lists.specs.Watching.{listed}
use Rattle.clause_arena.specs.Clauses.{Clause, Lit, In}
use Rattle.clause_arena.specs.Arenas.{clause_at}
use Rattle.watch_lists.proofs.KeepLemmas.{fit_push}
use Rattle.sat_engine.specs.Copies.{IsCopy, IsLoaded}
use Rattle.sat_engine.specs.Searches.{IsAttached}
use Rattle.sat_engine.proofs.KeepLemmas.{clause_push_here, known_at}
use Rattle.sat_engine.proofs.CopyLemmas.{loaded_none, loaded_more, fit_none, within_all, same_at}
use Rattle.sat_engine.proofs.load.load.Goals as goal

pub clauses-init : goal.clauses-init
clauses-init c =
    let w = c.reserve.new.self in
    let none : (k : ℕ) → listed w k ≡ None = λ k. c.in_ok-reserve.ensures.listed k ∙ c.in_ok-new.ensures.1 k in
    let size = 2 * c.variables-variables.result + 2 in
    let zeros : c.in_ok-marks.marks.items ≡ replicate size 0 = c.in_ok-marks.ensures.items_if_clones_equal (λ y e. e) in
    record {
      loaded = rw c.new.ensures (loaded_none w none);
      fit = rw c.new.ensures (fit_none w c.args.trail.now (c.in_ok-reserve.ensures.variables ∙ c.in_ok-new.ensures.0 ∙ c.variables.ensures.same) none);
      places = omega (arith, c.in_ok-reserve.ensures.reserved, c.len-count.ensures.len);
      table = rw zeros (record { size = length-replicate {A = ℕ} size 0; below = λ k. omega (arith, same_at size k 0) });
      lines = c.new-3.ensures.lines;
      clauses = c.new-3.ensures.first ∙ c.len-count.ensures.len;
    }

pub copy_clause-requires-clause-within : goal.copy_clause-requires-clause-within
copy_clause-requires-clause-within c l i =
    let formula = c.args.formula.now.clauses in
    let low = c.args.trail.now.variables in
    let w = c.requires.within (clause_at formula c.clauses.id) (known_at formula c.clauses.id (omega arith)) l (subst (λ q. In l q) c.clause.ensures i) in
    omega (arith, w.1, c.variables-variables.ensures.same)

pub clauses-preserved-then-both : goal.clauses-preserved-then-both
clauses-preserved-then-both c =
    let formula = c.args.formula.now.clauses in
    let id = c.clauses.id in
    let old = c.clauses.known.arena.clauses in
    let new = c.copy_clause.new.into.items in
    let w = c.clauses.known.watches in
    let count : id < length formula = omega arith in
    let grow : take (id + 1) formula ≡ take id formula ++ (clause_at formula id) ∷ [] = take_more formula id [] count in
    let part : length (take id formula) ≡ id = length-take-le id formula (omega (arith, count)) in
    let at : id ≡ length old = omega (arith, c.clauses.invariant.loaded.same.0, part) in
    let pushed : c.push.new.self.clauses ≡ old ++ new ∷ [] = c.in_ok-push.ensures.ok ∙ ap (λ (q : Clause). old ++ q ∷ []) c.deref.ensures.value in
    let copy : IsCopy (clause_at formula id) new c.in_ok-both.both = subst (λ q. IsCopy q new c.in_ok-both.both) c.clause.ensures c.in_ok-both.ensures.copy in
    let low : (l : Lit) → In l new → l.var ≤ c.args.trail.now.variables = within_all formula c.args.trail.now.variables (clause_at formula id) new c.in_ok-both.both id c.requires.within count refl copy in
    rw (grow, pushed) (record {
      loaded = loaded_more (take id formula) old w w (clause_at formula id) new c.in_ok-both.both id at c.clauses.invariant.loaded copy (λ k ne. refl) (inr (inl c.if-both.true));
      fit = fit_push w old new c.args.trail.now low c.clauses.invariant.fit;
      places = c.clauses.invariant.places;
      table = c.copy_clause.ensures.table;
      lines = c.clauses.invariant.lines;
      clauses = c.clauses.invariant.clauses;
    })

pub attach_long-requires-clause-fit : goal.attach_long-requires-clause-fit
attach_long-requires-clause-fit c =
    let formula = c.args.formula.now.clauses in
    let id = c.clauses.id in
    let old = c.clauses.known.arena.clauses in
    let new = c.copy_clause.new.into.items in
    let w = c.clauses.known.watches in
    let count : id < length formula = omega arith in
    let pushed : c.push.new.self.clauses ≡ old ++ new ∷ [] = c.in_ok-push.ensures.ok ∙ ap (λ (q : Clause). old ++ q ∷ []) c.deref.ensures.value in
    let copy : IsCopy (clause_at formula id) new c.in_ok-both.both = subst (λ q. IsCopy q new c.in_ok-both.both) c.clause.ensures c.in_ok-both.ensures.copy in
    let low : (l : Lit) → In l new → l.var ≤ c.args.trail.now.variables = within_all formula c.args.trail.now.variables (clause_at formula id) new c.in_ok-both.both id c.requires.within count refl copy in
    rw pushed (fit_push w old new c.args.trail.now low c.clauses.invariant.fit)

pub clauses-preserved : goal.clauses-preserved
clauses-preserved c =
    let formula = c.args.formula.now.clauses in
    let id = c.clauses.id in
    let old = c.clauses.known.arena.clauses in
    let new = c.copy_clause.new.into.items in
    let w = c.clauses.known.watches in
    let w2 = c.attach_long.new.watches in
    let count : id < length formula = omega arith in
    let grow : take (id + 1) formula ≡ take id formula ++ (clause_at formula id) ∷ [] = take_more formula id [] count in
    let part : length (take id formula) ≡ id = length-take-le id formula (omega (arith, count)) in
    let at : id ≡ length old = omega (arith, c.clauses.invariant.loaded.same.0, part) in
    let pushed : c.push.new.self.clauses ≡ old ++ new ∷ [] = c.in_ok-push.ensures.ok ∙ ap (λ (q : Clause). old ++ q ∷ []) c.deref.ensures.value in
    let here : clause_at c.push.new.self.clauses id ≡ new = ap (λ (q : List Clause). clause_at q id) pushed ∙ clause_push_here old new id at in
    let copy : IsCopy (clause_at formula id) new c.in_ok-both.both = subst (λ q. IsCopy q new c.in_ok-both.both) c.clause.ensures c.in_ok-both.ensures.copy in
    let cover : IsAttached w2 id ⊎ (c.in_ok-both.both ≡ true) ⊎ (length new ≤ 1) = elim (cases_lt 1 (length new)) [
      | inl long ↦ inl (c.attach_long.ensures.long (omega (arith, long, ap length here)))
      | inr short ↦ inr (inr short)
    ] in
    rw grow (record {
      loaded = subst (λ q. IsLoaded (take id formula ++ (clause_at formula id) ∷ []) q w2) (sym pushed) (loaded_more (take id formula) old w w2 (clause_at formula id) new c.in_ok-both.both id at c.clauses.invariant.loaded copy c.attach_long.ensures.others cover);
      fit = c.attach_long.ensures.fit;
      places = omega (arith, c.clauses.invariant.places, c.attach_long.ensures.places);
      table = c.copy_clause.ensures.table;
      lines = c.clauses.invariant.lines;
      clauses = c.clauses.invariant.clauses;
    })
