use Rattle.std.proofs.Common.{◌≡◌, ◌<◌, length, sym, ap, ◌∙◌, subst, inl, inr, arith}
use Rattle.sat_trail.specs.Trails.{lit_at, no_lit}
use Rattle.std.specs.List.{SwappedAt}
use Rattle.std.proofs.lemmas.List.{get_or_read}
use Rattle.std.proofs.lemmas.Bool.{cases_eq}
use Rattle.clause_arena.specs.Clauses.{Lit, In, HasEachVariableOnce}
use Rattle.sat_engine.specs.Searches.{IsOfLevel}
use Rattle.sat_engine.proofs.ArrangeLemmas.{swapped_same, swapped_once}
use Rattle.sat_engine.proofs.learn.put_second.Goals as goal

pub level_of-requires : goal.level_of-requires
level_of-requires c =
    let t = c.args.trail.now in
    let old = c.args.lits.now.items in
    let place = c.places.place in
    let same : c.places.lits.items ≡ old = c.places.invariant.same in
    let inside : place < length c.places.lits.items = omega (arith, c.places.lits.ok.0, c.args.lits.now.ok.0, c.len-place-end.ensures, ap length same) in
    let within : place < length old = omega (arith, inside, ap length same) in
    let read : c.index.result.now ≡ lit_at old place = get_or_read c.places.lits.items place _ inside c.index.ensures no_lit ∙ ap (λ q. lit_at q place) same in
    let v : (lit_at old place).var ≡ c.var.result = sym (c.var.ensures.same ∙ ap (λ (q : Lit). q.var) read) in
    let held = c.requires.assigned place within in
    (held.0, held.1, held.2 ∙ v)

pub swap-requires : goal.swap-requires
swap-requires c =
    let t = c.args.trail.now in
    let old = c.args.lits.now.items in
    let place = c.places.place in
    let same : c.places.lits.items ≡ old = c.places.invariant.same in
    let inside : place < length c.places.lits.items = omega (arith, c.places.lits.ok.0, c.args.lits.now.ok.0, c.len-place-end.ensures, ap length same) in
    let within : place < length old = omega (arith, inside, ap length same) in
    let read : c.index.result.now ≡ lit_at old place = get_or_read c.places.lits.items place _ inside c.index.ensures no_lit ∙ ap (λ q. lit_at q place) same in
    let v : (lit_at old place).var ≡ c.var.result = sym (c.var.ensures.same ∙ ap (λ (q : Lit). q.var) read) in
    let held = c.requires.assigned place within in
    record { i_in_bounds = omega (arith, inside, c.places.lits.ok.0, c.places.auto.place); j_in_bounds = omega (arith, inside, c.places.lits.ok.0) }

pub returns-then-level_of-level : goal.returns-then-level_of-level
returns-then-level_of-level c =
    let t = c.args.trail.now in
    let old = c.args.lits.now.items in
    let place = c.places.place in
    let same : c.places.lits.items ≡ old = c.places.invariant.same in
    let inside : place < length c.places.lits.items = omega (arith, c.places.lits.ok.0, c.args.lits.now.ok.0, c.len-place-end.ensures, ap length same) in
    let within : place < length old = omega (arith, inside, ap length same) in
    let read : c.index.result.now ≡ lit_at old place = get_or_read c.places.lits.items place _ inside c.index.ensures no_lit ∙ ap (λ q. lit_at q place) same in
    let v : (lit_at old place).var ≡ c.var.result = sym (c.var.ensures.same ∙ ap (λ (q : Lit). q.var) read) in
    let held = c.requires.assigned place within in
    let new = c.swap.new.self.items in
    let first : 1 < length old = omega (arith, within, c.places.auto.place) in
    let swapped : SwappedAt old new 1 place = subst (λ q. SwappedAt q new 1 place) same c.swap.ensures.by_index in
    let len : length new ≡ length old = sym c.swap.new.self.ok.0 ∙ c.swap.ensures.len ∙ c.places.lits.ok.0 ∙ ap length same in
    record {
      same = swapped_same old new 1 place first within len swapped;
      once = swapped_once old new 1 place first within len swapped c.requires.once;
      len = len;
      first = swapped.2 0 no_lit (omega arith) (omega (arith, c.places.auto.place));
      second = λ i pos il of q ql e. sym (c.level_of.ensures q ql (e ∙ ap (λ (l : Lit). l.var) (swapped.0 no_lit) ∙ v)) ∙ c.if-level_of-level.true;
    }

pub places-preserved : goal.places-preserved
places-preserved c =
    let t = c.args.trail.now in
    let old = c.args.lits.now.items in
    let place = c.places.place in
    let same : c.places.lits.items ≡ old = c.places.invariant.same in
    let inside : place < length c.places.lits.items = omega (arith, c.places.lits.ok.0, c.args.lits.now.ok.0, c.len-place-end.ensures, ap length same) in
    let within : place < length old = omega (arith, inside, ap length same) in
    let read : c.index.result.now ≡ lit_at old place = get_or_read c.places.lits.items place _ inside c.index.ensures no_lit ∙ ap (λ q. lit_at q place) same in
    let v : (lit_at old place).var ≡ c.var.result = sym (c.var.ensures.same ∙ ap (λ (q : Lit). q.var) read) in
    let held = c.requires.assigned place within in
    record {
      same = same;
      none = λ i pos lt il of. elim (cases_eq i place) [
        | inl here ↦ c.if-level_of-level.false (c.level_of.ensures held.0 held.1 (held.2 ∙ v) ∙ of held.0 held.1 (held.2 ∙ ap (λ q. (lit_at q place).var) (sym same) ∙ ap (λ k. (lit_at c.places.lits.items k).var) (sym here)))
        | inr other ↦ c.places.invariant.none i pos (omega (arith, lt, other)) il of
      ];
    }

pub returns : goal.returns
returns c =
    let old = c.args.lits.now.items in
    let new = c.places.lits.items in
    let same : new ≡ old = c.places.invariant.same in
    record {
      same = λ l. (λ i. subst (λ q. In l q) (sym same) i, λ i. subst (λ q. In l q) same i);
      once = subst HasEachVariableOnce (sym same) c.requires.once;
      len = ap length same;
      first = ap (λ q. lit_at q 0) same;
      second = λ i pos il of. absurd (c.places.invariant.none i pos (omega (arith, il, c.places-test.false, c.len-place-end.ensures, c.args.lits.now.ok.0)) (omega (arith, il, ap length same)) (subst (λ q. IsOfLevel c.args.trail.now c.args.level (lit_at q i)) (sym same) of));
    }
