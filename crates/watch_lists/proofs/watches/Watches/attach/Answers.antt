use Rattle.std.proofs.Common.{◌≡◌, ◌<◌, ◌+◌, ◌-◌, ◌*◌, ◌/◌, None, subst, sym, ap, ◌∙◌, arith, length, refl}
use Rattle.sat_trail.specs.Trails.{lit_at, no_lit}
use Rattle.std.proofs.lemmas.List.{with_items_is, get_or_read}
use Rattle.clause_arena.specs.Lits.{code_of}
use Rattle.clause_arena.specs.Arenas.{clause_at}
use Rattle.sat_trail.proofs.LitLemmas.{code_fits}
use Rattle.watch_lists.specs.Watched.{IsLinked}
use Rattle.watch_lists.specs.Watching.{view_of, listed, reserved, AreKept, IsFit}
use Rattle.watch_lists.proofs.SwapLemmas.{in_place, once_different}
use Rattle.watch_lists.proofs.FitLemmas.{attach_by, reserved_is, variables_is}
use Rattle.watch_lists.proofs.watches.Watches.attach.Goals as goal

pub overflow_mul-id : goal.overflow_mul-id
overflow_mul-id c =
    let placed : c.args.id < reserved (view_of c.self.inside.heads c.self.inside.links.items) = subst (λ w. c.args.id < reserved w) (sym c.self.view_is) c.requires.place in
    omega (arith, placed, reserved_is _ _ c.self.invariant.whole.0 c.self.invariant.whole.1, c.self.invariant.whole.1, c.self.invariant.few)

pub overflow_add-self-inside : goal.overflow_add-self-inside
overflow_add-self-inside c =
    let placed : c.args.id < reserved (view_of c.self.inside.heads c.self.inside.links.items) = subst (λ w. c.args.id < reserved w) (sym c.self.view_is) c.requires.place in
    omega (arith, placed, reserved_is _ _ c.self.invariant.whole.0 c.self.invariant.whole.1, c.self.invariant.whole.1, c.self.invariant.few)

pub link_clause-requires-clause-node : goal.link_clause-requires-clause-node
link_clause-requires-clause-node c =
    let placed : c.args.id < reserved (view_of c.self.inside.heads c.self.inside.links.items) = subst (λ w. c.args.id < reserved w) (sym c.self.view_is) c.requires.place in
    omega (arith, placed, reserved_is _ _ c.self.invariant.whole.0 c.self.invariant.whole.1, c.self.invariant.whole.1, ap length c.deref_mut.ensures.value)

pub link_clause-requires-clause-first : goal.link_clause-requires-clause-first
link_clause-requires-clause-first c =
    let clause = clause_at c.args.arena.now.clauses c.args.id in
    let two = c.requires.two in
    let read : c.index-clause-0.result ≡ lit_at clause 0 = get_or_read c.clause-clause.result.now 0 _ (subst (λ q. 0 < length q) (sym c.clause-clause.ensures) (omega (arith, two))) c.index-clause-0.is no_lit ∙ ap (λ q. lit_at q 0) c.clause-clause.ensures in
    let low = c.requires.fit.within c.args.id c.requires.clause (lit_at clause 0) (in_place clause 0 (omega (arith, two))) in
    let vars : c.self.inside.heads / 2 - 1 ≡ c.args.trail.now.variables = sym (variables_is _ _) ∙ ap (λ w. w.variables) c.self.view_is ∙ c.requires.fit.variables in
    rw read (omega (arith, code_fits (lit_at clause 0) c.args.trail.now.variables low, vars, c.self.invariant.even.1))

pub link_clause-requires-clause-second : goal.link_clause-requires-clause-second
link_clause-requires-clause-second c =
    let clause = clause_at c.args.arena.now.clauses c.args.id in
    let two = c.requires.two in
    let read : c.index-clause-1.result ≡ lit_at clause 1 = get_or_read c.clause-clause.result.now 1 _ (subst (λ q. 1 < length q) (sym c.clause-clause.ensures) (omega (arith, two))) c.index-clause-1.is no_lit ∙ ap (λ q. lit_at q 1) c.clause-clause.ensures in
    let low = c.requires.fit.within c.args.id c.requires.clause (lit_at clause 1) (in_place clause 1 (omega (arith, two))) in
    let vars : c.self.inside.heads / 2 - 1 ≡ c.args.trail.now.variables = sym (variables_is _ _) ∙ ap (λ w. w.variables) c.self.view_is ∙ c.requires.fit.variables in
    rw read (omega (arith, code_fits (lit_at clause 1) c.args.trail.now.variables low, vars, c.self.invariant.even.1))

pub invariant_of-self : goal.invariant_of-self
invariant_of-self c =
    let clause = clause_at c.args.arena.now.clauses c.args.id in
    let two = c.requires.two in
    let x : c.index-clause-0.result ≡ lit_at clause 0 = get_or_read c.clause-clause.result.now 0 _ (subst (λ q. 0 < length q) (sym c.clause-clause.ensures) (omega (arith, two))) c.index-clause-0.is no_lit ∙ ap (λ q. lit_at q 0) c.clause-clause.ensures in
    let y : c.index-clause-1.result ≡ lit_at clause 1 = get_or_read c.clause-clause.result.now 1 _ (subst (λ q. 1 < length q) (sym c.clause-clause.ensures) (omega (arith, two))) c.index-clause-1.is no_lit ∙ ap (λ q. lit_at q 1) c.clause-clause.ensures in
    let linked0 = subst (λ q. IsLinked q c.link_clause.new.links (c.self.inside.heads + 2 * c.args.id) c.index-clause-0.result c.index-clause-1.result) c.deref_mut.ensures.value c.link_clause.ensures in
    let linked1 = subst (λ q. IsLinked c.self.inside.links.items c.link_clause.new.links (c.self.inside.heads + 2 * c.args.id) q c.index-clause-1.result) x linked0 in
    let linked = subst (λ q. IsLinked c.self.inside.links.items c.link_clause.new.links (c.self.inside.heads + 2 * c.args.id) (lit_at clause 0) q) y linked1 in
    let fit = subst (λ w. IsFit w c.args.arena.now.clauses c.args.trail.now) (sym c.self.view_is) c.requires.fit in
    let placed : c.args.id < reserved (view_of c.self.inside.heads c.self.inside.links.items) = subst (λ w. c.args.id < reserved w) (sym c.self.view_is) c.requires.place in
    let free : listed (view_of c.self.inside.heads c.self.inside.links.items) c.args.id ≡ None = subst (λ w. listed w c.args.id ≡ None) (sym c.self.view_is) c.requires.free in
    let x_low : 1 < code_of (lit_at clause 0) = omega (arith, ap code_of x, c.code-first.ensures.same, c.code-first.ensures.positive) in
    let y_low : 1 < code_of (lit_at clause 1) = omega (arith, ap code_of y, c.code-second.ensures.same, c.code-second.ensures.positive) in
    let all = attach_by _ _ _ _ _ c.args.id (lit_at clause 0) (lit_at clause 1) c.self.invariant fit c.len-valid.ensures.valid placed free c.requires.clause two refl refl (once_different clause c.requires.once) x_low y_low c.requires.first_covers c.requires.second_covers linked in
    let size : length c.link_clause.new.links ≡ length c.deref_mut.result.now = linked0.two.size ∙ linked0.one.size ∙ linked0.size ∙ ap length (sym c.deref_mut.ensures.value) in
    let items = with_items_is c.self.inside.links c.link_clause.new.links (size ∙ c.deref_mut.ensures.len) in
    subst (AreKept c.self.inside.heads) (sym items) all.0

pub returns-clause-fit : goal.returns-clause-fit
returns-clause-fit c =
    let clause = clause_at c.args.arena.now.clauses c.args.id in
    let two = c.requires.two in
    let x : c.index-clause-0.result ≡ lit_at clause 0 = get_or_read c.clause-clause.result.now 0 _ (subst (λ q. 0 < length q) (sym c.clause-clause.ensures) (omega (arith, two))) c.index-clause-0.is no_lit ∙ ap (λ q. lit_at q 0) c.clause-clause.ensures in
    let y : c.index-clause-1.result ≡ lit_at clause 1 = get_or_read c.clause-clause.result.now 1 _ (subst (λ q. 1 < length q) (sym c.clause-clause.ensures) (omega (arith, two))) c.index-clause-1.is no_lit ∙ ap (λ q. lit_at q 1) c.clause-clause.ensures in
    let linked0 = subst (λ q. IsLinked q c.link_clause.new.links (c.self.inside.heads + 2 * c.args.id) c.index-clause-0.result c.index-clause-1.result) c.deref_mut.ensures.value c.link_clause.ensures in
    let linked1 = subst (λ q. IsLinked c.self.inside.links.items c.link_clause.new.links (c.self.inside.heads + 2 * c.args.id) q c.index-clause-1.result) x linked0 in
    let linked = subst (λ q. IsLinked c.self.inside.links.items c.link_clause.new.links (c.self.inside.heads + 2 * c.args.id) (lit_at clause 0) q) y linked1 in
    let fit = subst (λ w. IsFit w c.args.arena.now.clauses c.args.trail.now) (sym c.self.view_is) c.requires.fit in
    let placed : c.args.id < reserved (view_of c.self.inside.heads c.self.inside.links.items) = subst (λ w. c.args.id < reserved w) (sym c.self.view_is) c.requires.place in
    let free : listed (view_of c.self.inside.heads c.self.inside.links.items) c.args.id ≡ None = subst (λ w. listed w c.args.id ≡ None) (sym c.self.view_is) c.requires.free in
    let x_low : 1 < code_of (lit_at clause 0) = omega (arith, ap code_of x, c.code-first.ensures.same, c.code-first.ensures.positive) in
    let y_low : 1 < code_of (lit_at clause 1) = omega (arith, ap code_of y, c.code-second.ensures.same, c.code-second.ensures.positive) in
    let all = attach_by _ _ _ _ _ c.args.id (lit_at clause 0) (lit_at clause 1) c.self.invariant fit c.len-valid.ensures.valid placed free c.requires.clause two refl refl (once_different clause c.requires.once) x_low y_low c.requires.first_covers c.requires.second_covers linked in
    let size : length c.link_clause.new.links ≡ length c.deref_mut.result.now = linked0.two.size ∙ linked0.one.size ∙ linked0.size ∙ ap length (sym c.deref_mut.ensures.value) in
    let items = with_items_is c.self.inside.links c.link_clause.new.links (size ∙ c.deref_mut.ensures.len) in
    subst (λ q. IsFit (view_of c.self.inside.heads q) c.args.arena.now.clauses c.args.trail.now) (sym items) all.1

pub returns-clause-places : goal.returns-clause-places
returns-clause-places c =
    let clause = clause_at c.args.arena.now.clauses c.args.id in
    let two = c.requires.two in
    let x : c.index-clause-0.result ≡ lit_at clause 0 = get_or_read c.clause-clause.result.now 0 _ (subst (λ q. 0 < length q) (sym c.clause-clause.ensures) (omega (arith, two))) c.index-clause-0.is no_lit ∙ ap (λ q. lit_at q 0) c.clause-clause.ensures in
    let y : c.index-clause-1.result ≡ lit_at clause 1 = get_or_read c.clause-clause.result.now 1 _ (subst (λ q. 1 < length q) (sym c.clause-clause.ensures) (omega (arith, two))) c.index-clause-1.is no_lit ∙ ap (λ q. lit_at q 1) c.clause-clause.ensures in
    let linked0 = subst (λ q. IsLinked q c.link_clause.new.links (c.self.inside.heads + 2 * c.args.id) c.index-clause-0.result c.index-clause-1.result) c.deref_mut.ensures.value c.link_clause.ensures in
    let linked1 = subst (λ q. IsLinked c.self.inside.links.items c.link_clause.new.links (c.self.inside.heads + 2 * c.args.id) q c.index-clause-1.result) x linked0 in
    let linked = subst (λ q. IsLinked c.self.inside.links.items c.link_clause.new.links (c.self.inside.heads + 2 * c.args.id) (lit_at clause 0) q) y linked1 in
    let fit = subst (λ w. IsFit w c.args.arena.now.clauses c.args.trail.now) (sym c.self.view_is) c.requires.fit in
    let placed : c.args.id < reserved (view_of c.self.inside.heads c.self.inside.links.items) = subst (λ w. c.args.id < reserved w) (sym c.self.view_is) c.requires.place in
    let free : listed (view_of c.self.inside.heads c.self.inside.links.items) c.args.id ≡ None = subst (λ w. listed w c.args.id ≡ None) (sym c.self.view_is) c.requires.free in
    let x_low : 1 < code_of (lit_at clause 0) = omega (arith, ap code_of x, c.code-first.ensures.same, c.code-first.ensures.positive) in
    let y_low : 1 < code_of (lit_at clause 1) = omega (arith, ap code_of y, c.code-second.ensures.same, c.code-second.ensures.positive) in
    let all = attach_by _ _ _ _ _ c.args.id (lit_at clause 0) (lit_at clause 1) c.self.invariant fit c.len-valid.ensures.valid placed free c.requires.clause two refl refl (once_different clause c.requires.once) x_low y_low c.requires.first_covers c.requires.second_covers linked in
    let size : length c.link_clause.new.links ≡ length c.deref_mut.result.now = linked0.two.size ∙ linked0.one.size ∙ linked0.size ∙ ap length (sym c.deref_mut.ensures.value) in
    let items = with_items_is c.self.inside.links c.link_clause.new.links (size ∙ c.deref_mut.ensures.len) in
    ap (λ q. reserved (view_of c.self.inside.heads q)) items ∙ all.2 ∙ ap reserved c.self.view_is

pub returns-clause-attached : goal.returns-clause-attached
returns-clause-attached c =
    let clause = clause_at c.args.arena.now.clauses c.args.id in
    let two = c.requires.two in
    let x : c.index-clause-0.result ≡ lit_at clause 0 = get_or_read c.clause-clause.result.now 0 _ (subst (λ q. 0 < length q) (sym c.clause-clause.ensures) (omega (arith, two))) c.index-clause-0.is no_lit ∙ ap (λ q. lit_at q 0) c.clause-clause.ensures in
    let y : c.index-clause-1.result ≡ lit_at clause 1 = get_or_read c.clause-clause.result.now 1 _ (subst (λ q. 1 < length q) (sym c.clause-clause.ensures) (omega (arith, two))) c.index-clause-1.is no_lit ∙ ap (λ q. lit_at q 1) c.clause-clause.ensures in
    let linked0 = subst (λ q. IsLinked q c.link_clause.new.links (c.self.inside.heads + 2 * c.args.id) c.index-clause-0.result c.index-clause-1.result) c.deref_mut.ensures.value c.link_clause.ensures in
    let linked1 = subst (λ q. IsLinked c.self.inside.links.items c.link_clause.new.links (c.self.inside.heads + 2 * c.args.id) q c.index-clause-1.result) x linked0 in
    let linked = subst (λ q. IsLinked c.self.inside.links.items c.link_clause.new.links (c.self.inside.heads + 2 * c.args.id) (lit_at clause 0) q) y linked1 in
    let fit = subst (λ w. IsFit w c.args.arena.now.clauses c.args.trail.now) (sym c.self.view_is) c.requires.fit in
    let placed : c.args.id < reserved (view_of c.self.inside.heads c.self.inside.links.items) = subst (λ w. c.args.id < reserved w) (sym c.self.view_is) c.requires.place in
    let free : listed (view_of c.self.inside.heads c.self.inside.links.items) c.args.id ≡ None = subst (λ w. listed w c.args.id ≡ None) (sym c.self.view_is) c.requires.free in
    let x_low : 1 < code_of (lit_at clause 0) = omega (arith, ap code_of x, c.code-first.ensures.same, c.code-first.ensures.positive) in
    let y_low : 1 < code_of (lit_at clause 1) = omega (arith, ap code_of y, c.code-second.ensures.same, c.code-second.ensures.positive) in
    let all = attach_by _ _ _ _ _ c.args.id (lit_at clause 0) (lit_at clause 1) c.self.invariant fit c.len-valid.ensures.valid placed free c.requires.clause two refl refl (once_different clause c.requires.once) x_low y_low c.requires.first_covers c.requires.second_covers linked in
    let size : length c.link_clause.new.links ≡ length c.deref_mut.result.now = linked0.two.size ∙ linked0.one.size ∙ linked0.size ∙ ap length (sym c.deref_mut.ensures.value) in
    let items = with_items_is c.self.inside.links c.link_clause.new.links (size ∙ c.deref_mut.ensures.len) in
    ap (λ q. listed (view_of c.self.inside.heads q) c.args.id) items ∙ (all.3 c.args.id).0 refl

pub returns-clause-others : goal.returns-clause-others
returns-clause-others c =
    let clause = clause_at c.args.arena.now.clauses c.args.id in
    let two = c.requires.two in
    let x : c.index-clause-0.result ≡ lit_at clause 0 = get_or_read c.clause-clause.result.now 0 _ (subst (λ q. 0 < length q) (sym c.clause-clause.ensures) (omega (arith, two))) c.index-clause-0.is no_lit ∙ ap (λ q. lit_at q 0) c.clause-clause.ensures in
    let y : c.index-clause-1.result ≡ lit_at clause 1 = get_or_read c.clause-clause.result.now 1 _ (subst (λ q. 1 < length q) (sym c.clause-clause.ensures) (omega (arith, two))) c.index-clause-1.is no_lit ∙ ap (λ q. lit_at q 1) c.clause-clause.ensures in
    let linked0 = subst (λ q. IsLinked q c.link_clause.new.links (c.self.inside.heads + 2 * c.args.id) c.index-clause-0.result c.index-clause-1.result) c.deref_mut.ensures.value c.link_clause.ensures in
    let linked1 = subst (λ q. IsLinked c.self.inside.links.items c.link_clause.new.links (c.self.inside.heads + 2 * c.args.id) q c.index-clause-1.result) x linked0 in
    let linked = subst (λ q. IsLinked c.self.inside.links.items c.link_clause.new.links (c.self.inside.heads + 2 * c.args.id) (lit_at clause 0) q) y linked1 in
    let fit = subst (λ w. IsFit w c.args.arena.now.clauses c.args.trail.now) (sym c.self.view_is) c.requires.fit in
    let placed : c.args.id < reserved (view_of c.self.inside.heads c.self.inside.links.items) = subst (λ w. c.args.id < reserved w) (sym c.self.view_is) c.requires.place in
    let free : listed (view_of c.self.inside.heads c.self.inside.links.items) c.args.id ≡ None = subst (λ w. listed w c.args.id ≡ None) (sym c.self.view_is) c.requires.free in
    let x_low : 1 < code_of (lit_at clause 0) = omega (arith, ap code_of x, c.code-first.ensures.same, c.code-first.ensures.positive) in
    let y_low : 1 < code_of (lit_at clause 1) = omega (arith, ap code_of y, c.code-second.ensures.same, c.code-second.ensures.positive) in
    let all = attach_by _ _ _ _ _ c.args.id (lit_at clause 0) (lit_at clause 1) c.self.invariant fit c.len-valid.ensures.valid placed free c.requires.clause two refl refl (once_different clause c.requires.once) x_low y_low c.requires.first_covers c.requires.second_covers linked in
    let size : length c.link_clause.new.links ≡ length c.deref_mut.result.now = linked0.two.size ∙ linked0.one.size ∙ linked0.size ∙ ap length (sym c.deref_mut.ensures.value) in
    let items = with_items_is c.self.inside.links c.link_clause.new.links (size ∙ c.deref_mut.ensures.len) in
    λ k ne. ap (λ q. listed (view_of c.self.inside.heads q) k) items ∙ (all.3 k).1 ne ∙ ap (λ w. listed w k) c.self.view_is
