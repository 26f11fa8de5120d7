use Rattle.std.proofs.Common.{◌≡◌, ◌<◌, Some, None, length, sym, ap, ◌∙◌, subst, arith}
use Rattle.std.proofs.lemmas.List.{get_or_default, get_or_read}
use Rattle.clause_arena.specs.Clauses.{In}
use Rattle.sat_trail.specs.Trails.{true_lits, no_lit, lit_at}
use Rattle.clause_arena.specs.Arenas.{clause_at}
use Rattle.clause_arena.specs.Lits.{code_of}
use Rattle.watch_lists.specs.declared.link.Link.{Link}
use Rattle.watch_lists.specs.Watched.{no_link, place_of, IsReplacement, IsRelinked}
use Rattle.watch_lists.proofs.StepLemmas.{node_is, before_low, pair_low, id_low, two, within_all, other_low, before_apart, kept_by, assigned_by, grown_by, conflict_by, code_high, code_not_before, code_not_node, moved_by, moved_sets}
use Rattle.watch_lists.proofs.visit.step.Goals as goal

pub bounds-links-node : goal.bounds-links-node
bounds-links-node c = (node_is _ _ _ _ _ _ _ c.requires.at).1

pub bounds-links-node-2 : goal.bounds-links-node-2
bounds-links-node-2 c = (node_is _ _ _ _ _ _ _ c.requires.at).1

pub is_true-requires : goal.is_true-requires
is_true-requires c =
    let e = ap (λ (q : Link). q.other) (get_or_default c.args.links.now c.args.node c.index-links-node.result no_link (node_is _ _ _ _ _ _ _ c.requires.at).1) in
    rw e (other_low _ _ _ _ _ _ _ c.requires.at)

pub returns-then-is_true-clause-outcome : goal.returns-then-is_true-clause-outcome
returns-then-is_true-clause-outcome c =
    let e = ap (λ (q : Link). q.other) (get_or_default c.args.links.now c.args.node c.index-links-node.result no_link (node_is _ _ _ _ _ _ _ c.requires.at).1) in
    kept_by _ _ _ _ _ _ _ c.requires.at _ e c.if-is_true.ensures

pub overflow_sub-id : goal.overflow_sub-id
overflow_sub-id c = (node_is _ _ _ _ _ _ _ c.requires.at).0

pub clause-requires : goal.clause-requires
clause-requires c = id_low _ _ _ _ _ _ _ c.requires.at

pub replacement-requires-clause-within : goal.replacement-requires-clause-within
replacement-requires-clause-within c = λ l i. within_all _ _ _ _ _ _ _ c.requires.at l (subst (In l) c.clause.ensures i)

pub replacement-requires-clause-two : goal.replacement-requires-clause-two
replacement-requires-clause-two c = rw c.clause.ensures (two _ _ _ _ _ _ _ c.requires.at)

pub is_false-requires : goal.is_false-requires
is_false-requires c =
    let e = ap (λ (q : Link). q.other) (get_or_default c.args.links.now c.args.node c.index-links-node.result no_link (node_is _ _ _ _ _ _ _ c.requires.at).1) in
    rw e (other_low _ _ _ _ _ _ _ c.requires.at)

pub assign-requires-clause-within : goal.assign-requires-clause-within
assign-requires-clause-within c =
    let e = ap (λ (q : Link). q.other) (get_or_default c.args.links.now c.args.node c.index-links-node.result no_link (node_is _ _ _ _ _ _ _ c.requires.at).1) in
    rw e (other_low _ _ _ _ _ _ _ c.requires.at)

pub returns-then-is_false-clause-outcome : goal.returns-then-is_false-clause-outcome
returns-then-is_false-clause-outcome c =
    let e = ap (λ (q : Link). q.other) (get_or_default c.args.links.now c.args.node c.index-links-node.result no_link (node_is _ _ _ _ _ _ _ c.requires.at).1) in
    let none = subst (λ q. IsReplacement q (true_lits c.args.trail.now.entries) None) c.clause.ensures c.in-None.ensures in
    (c.requires.at, conflict_by _ _ _ _ _ _ _ c.requires.at _ e c.if-is_false.ensures none)

pub returns-else-is_false-clause-grown : goal.returns-else-is_false-clause-grown
returns-else-is_false-clause-grown c =
    let e = ap (λ (q : Link). q.other) (get_or_default c.args.links.now c.args.node c.index-links-node.result no_link (node_is _ _ _ _ _ _ _ c.requires.at).1) in
    let none = subst (λ q. IsReplacement q (true_lits c.args.trail.now.entries) None) c.clause.ensures c.in-None.ensures in
    grown_by _ _ _ _ _ _ _ c.requires.at _ _ e c.assign.ensures.grown none

pub returns-else-is_false-clause-outcome : goal.returns-else-is_false-clause-outcome
returns-else-is_false-clause-outcome c =
    let e = ap (λ (q : Link). q.other) (get_or_default c.args.links.now c.args.node c.index-links-node.result no_link (node_is _ _ _ _ _ _ _ c.requires.at).1) in
    assigned_by _ _ _ _ _ _ _ c.requires.at _ _ e c.assign.ensures.grown c.assign.ensures.valid

pub move_watch-requires-clause-before : goal.move_watch-requires-clause-before
move_watch-requires-clause-before c =
    before_low _ _ _ _ _ _ _ c.requires.at

pub move_watch-requires-clause-node : goal.move_watch-requires-clause-node
move_watch-requires-clause-node c =
    (node_is _ _ _ _ _ _ _ c.requires.at).1

pub move_watch-requires-clause-pair : goal.move_watch-requires-clause-pair
move_watch-requires-clause-pair c =
    pair_low _ _ _ _ _ _ _ c.requires.at

pub move_watch-requires-clause-before_apart : goal.move_watch-requires-clause-before_apart
move_watch-requires-clause-before_apart c =
    before_apart _ _ _ _ _ _ _ c.requires.at

pub move_watch-requires-clause-clause : goal.move_watch-requires-clause-clause
move_watch-requires-clause-clause c =
    id_low _ _ _ _ _ _ _ c.requires.at

pub move_watch-requires-clause-two : goal.move_watch-requires-clause-two
move_watch-requires-clause-two c =
    two _ _ _ _ _ _ _ c.requires.at

pub move_watch-requires-clause-head : goal.move_watch-requires-clause-head
move_watch-requires-clause-head c =
    let open_at = subst (λ q. IsReplacement q (true_lits c.args.trail.now.entries) (Some c.in-Some.place)) c.clause.ensures c.in-Some.ensures in
    let read : c.index-clause-place.result ≡ lit_at (clause_at c.args.arena.now.clauses (place_of c.args.heads c.args.node)) c.in-Some.place = get_or_read c.clause-in-Some.result.now c.in-Some.place _ (subst (λ q. c.in-Some.place < length q) (sym c.clause-in-Some.ensures) open_at.1) c.index-clause-place.is no_lit ∙ ap (λ q. lit_at q c.in-Some.place) c.clause-in-Some.ensures in
    let code : c.code.result ≡ code_of (lit_at (clause_at c.args.arena.now.clauses (place_of c.args.heads c.args.node)) c.in-Some.place) = c.code.ensures.same ∙ ap code_of read in
    omega (arith, code, code_high _ _ _ _ _ _ _ c.requires.at c.in-Some.place open_at, node_is _ _ _ _ _ _ _ c.requires.at)

pub move_watch-requires-clause-head_apart : goal.move_watch-requires-clause-head_apart
move_watch-requires-clause-head_apart c =
    let open_at = subst (λ q. IsReplacement q (true_lits c.args.trail.now.entries) (Some c.in-Some.place)) c.clause.ensures c.in-Some.ensures in
    let read : c.index-clause-place.result ≡ lit_at (clause_at c.args.arena.now.clauses (place_of c.args.heads c.args.node)) c.in-Some.place = get_or_read c.clause-in-Some.result.now c.in-Some.place _ (subst (λ q. c.in-Some.place < length q) (sym c.clause-in-Some.ensures) open_at.1) c.index-clause-place.is no_lit ∙ ap (λ q. lit_at q c.in-Some.place) c.clause-in-Some.ensures in
    let code : c.code.result ≡ code_of (lit_at (clause_at c.args.arena.now.clauses (place_of c.args.heads c.args.node)) c.in-Some.place) = c.code.ensures.same ∙ ap code_of read in
    λ e. code_not_before _ _ _ _ _ _ _ c.requires.at c.in-Some.place open_at (sym code ∙ e)

pub move_watch-requires-clause-node_apart : goal.move_watch-requires-clause-node_apart
move_watch-requires-clause-node_apart c =
    let open_at = subst (λ q. IsReplacement q (true_lits c.args.trail.now.entries) (Some c.in-Some.place)) c.clause.ensures c.in-Some.ensures in
    let read : c.index-clause-place.result ≡ lit_at (clause_at c.args.arena.now.clauses (place_of c.args.heads c.args.node)) c.in-Some.place = get_or_read c.clause-in-Some.result.now c.in-Some.place _ (subst (λ q. c.in-Some.place < length q) (sym c.clause-in-Some.ensures) open_at.1) c.index-clause-place.is no_lit ∙ ap (λ q. lit_at q c.in-Some.place) c.clause-in-Some.ensures in
    let code : c.code.result ≡ code_of (lit_at (clause_at c.args.arena.now.clauses (place_of c.args.heads c.args.node)) c.in-Some.place) = c.code.ensures.same ∙ ap code_of read in
    λ e. code_not_node _ _ _ _ _ _ _ c.requires.at c.in-Some.place open_at (sym code ∙ e)

pub move_watch-requires-clause-place : goal.move_watch-requires-clause-place
move_watch-requires-clause-place c =
    let open_at = subst (λ q. IsReplacement q (true_lits c.args.trail.now.entries) (Some c.in-Some.place)) c.clause.ensures c.in-Some.ensures in
    open_at.1

pub move_watch-requires-clause-code : goal.move_watch-requires-clause-code
move_watch-requires-clause-code c =
    c.code.ensures.same

pub returns-in-Some-clause-sets : goal.returns-in-Some-clause-sets
returns-in-Some-clause-sets c =
    let open_at = subst (λ q. IsReplacement q (true_lits c.args.trail.now.entries) (Some c.in-Some.place)) c.clause.ensures c.in-Some.ensures in
    rw c.move_watch.ensures.clauses (moved_sets _ _ _ _ _ _ _ c.requires.at c.in-Some.place open_at)

pub returns-in-Some-clause-listed : goal.returns-in-Some-clause-listed
returns-in-Some-clause-listed c =
    let open_at = subst (λ q. IsReplacement q (true_lits c.args.trail.now.entries) (Some c.in-Some.place)) c.clause.ensures c.in-Some.ensures in
    let read : c.index-clause-place.result ≡ lit_at (clause_at c.args.arena.now.clauses (place_of c.args.heads c.args.node)) c.in-Some.place = get_or_read c.clause-in-Some.result.now c.in-Some.place _ (subst (λ q. c.in-Some.place < length q) (sym c.clause-in-Some.ensures) open_at.1) c.index-clause-place.is no_lit ∙ ap (λ q. lit_at q c.in-Some.place) c.clause-in-Some.ensures in
    let code : c.code.result ≡ code_of (lit_at (clause_at c.args.arena.now.clauses (place_of c.args.heads c.args.node)) c.in-Some.place) = c.code.ensures.same ∙ ap code_of read in
    let moved = moved_by _ _ _ _ _ _ _ c.requires.at c.in-Some.place open_at c.move_watch.new.links (omega (arith, code, c.code.ensures.positive)) (subst (IsRelinked c.args.links.now c.move_watch.new.links c.args.before c.args.node) read c.move_watch.ensures.relinked) in
    moved.0

pub returns-in-Some-clause-outcome : goal.returns-in-Some-clause-outcome
returns-in-Some-clause-outcome c =
    let open_at = subst (λ q. IsReplacement q (true_lits c.args.trail.now.entries) (Some c.in-Some.place)) c.clause.ensures c.in-Some.ensures in
    let read : c.index-clause-place.result ≡ lit_at (clause_at c.args.arena.now.clauses (place_of c.args.heads c.args.node)) c.in-Some.place = get_or_read c.clause-in-Some.result.now c.in-Some.place _ (subst (λ q. c.in-Some.place < length q) (sym c.clause-in-Some.ensures) open_at.1) c.index-clause-place.is no_lit ∙ ap (λ q. lit_at q c.in-Some.place) c.clause-in-Some.ensures in
    let code : c.code.result ≡ code_of (lit_at (clause_at c.args.arena.now.clauses (place_of c.args.heads c.args.node)) c.in-Some.place) = c.code.ensures.same ∙ ap code_of read in
    let moved = moved_by _ _ _ _ _ _ _ c.requires.at c.in-Some.place open_at c.move_watch.new.links (omega (arith, code, c.code.ensures.positive)) (subst (IsRelinked c.args.links.now c.move_watch.new.links c.args.before c.args.node) read c.move_watch.ensures.relinked) in
    rw c.move_watch.ensures.clauses (moved.1, moved.2)
