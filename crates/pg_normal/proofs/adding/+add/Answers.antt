use Rattle.std.specs.Str.{bytes_eq}
use Rattle.std.proofs.lemmas.List.Quantifiers.{position-Some}
use Rattle.std.proofs.Common.{arith, [], ◌≡◌, ◌<◌, ℕ, map, sym, ◌∙◌, ap, subst, length, rules, slice_index, ◌&&◌, ◌||◌, IsTrue}
use Rattle.std.specs.List.{list_all}
use Rattle.std.proofs.lemmas.List.{length-replicate}
use Rattle.std.proofs.lemmas.Bool.{both_ways}
use Rattle.indexmap.proofs.MapLemmas.{OnOk-map}
use Rattle.cpog_base.specs.Names.{has_text}
use Rattle.cpog_defs.specs.Codes.{bit}
use Rattle.pg_algebra.specs.Graphs.{overlay, sequence, when, overlay_all, sequence_all}
use Rattle.pg_algebra.specs.Conditions.{valuation, value, params_of}
use Rattle.pg_algebra.proofs.TreeLaws.{graph_of-When, graph_of-Overlay, graph_of-Sequence}
use Rattle.pg_algebra.specs.declared.expr.Expr.TheViews.{sized-When, sized-Overlay, sized-Sequence, size_is-ExprList}
use Rattle.pg_normal.specs.Known.{IsKnown, HasFullRows, entry, graph_of_rows, graph_or_empty, graph_stated, graphs_known, tables_at}
use Rattle.pg_normal.specs.Sound.{is_sound}
use Rattle.pg_normal.proofs.RowLemmas.{zero_row, bit-none}
use Rattle.pg_normal.proofs.MemberLemmas.{under_parts, sound-Overlay, sound-Sequence}
use Rattle.pg_normal.proofs.StepLemmas.{next_member, line_step, over_step, over_done, line_done, line_ends, sound_step, op_added, no_vertices, when_done, table_in}
use Rattle.pg_normal.proofs.UnitedLemmas.{united_grows, both_held, joined_grows}
use Rattle.pg_normal.proofs.adding.+add.Goals as goal

pub add-unwrap-table-requires : goal.add-unwrap-table-requires
add-unwrap-table-requires t c = c.table_of.ensures.known
    ∙ ap (λ x. list_all (has_text c.args.known.now.params) (params_of x)) c.get.ensures
    ∙ (under_parts (length c.args.arcs.now) c.args.known.now.params c.args.expr.now c.in-When.cond c.in-When.inner
    c.in-When.is c.requires.sound).0

pub add-add-requires-in-When : goal.add-add-requires-in-When
add-add-requires-in-When t c = (
  search (rules, sized-When),
  (
    ap (is_sound (length c.args.arcs.now) c.args.known.now.params) c.get-in-When.ensures
        ∙ (under_parts (length c.args.arcs.now) c.args.known.now.params c.args.expr.now c.in-When.cond c.in-When.inner
        c.in-When.is c.requires.sound).1,
    c.requires.rows,
  ),
)

pub add-add_overlay-requires : goal.add-add_overlay-requires
add-add_overlay-requires t c = (
  search (rules, sized-Overlay, size_is-ExprList),
  (
    rw c.members.ensures (subst (λ b. IsTrue b)
        (ap (is_sound (length c.args.arcs.now) c.args.known.now.params) c.in-Overlay.is
        ∙ sound-Overlay (length c.args.arcs.now) c.args.known.now.params c.in-Overlay.list.members) c.requires.sound),
    c.requires.rows,
  ),
)

pub add-add_sequence-requires : goal.add-add_sequence-requires
add-add_sequence-requires t c = (
  search (rules, sized-Sequence, size_is-ExprList),
  (
    rw c.members-in-Sequence.ensures (subst (λ b. IsTrue b)
        (ap (is_sound (length c.args.arcs.now) c.args.known.now.params) c.in-Sequence.is
        ∙ sound-Sequence (length c.args.arcs.now) c.args.known.now.params c.in-Sequence.list.members) c.requires.sound),
    c.requires.rows,
  ),
)

pub add-returns-in-Op-clause-rows : goal.add-returns-in-Op-clause-rows
add-returns-in-Op-clause-rows t c = record {
  over = c.requires.rows.over;
  width = c.add.ensures.len ∙ c.requires.rows.width;
  square = c.requires.rows.square;
  there = c.requires.rows.there;
}

pub add-returns-in-Op-clause-graph : goal.add-returns-in-Op-clause-graph
add-returns-in-Op-clause-graph t c n h =
    op_added c.args.vertices.now c.add.new.self c.args.arcs.now c.in-Op.v n (bit c.args.guard.0 n) (c.add.ensures.same n) c.add.ensures.others
    ∙ ap (λ e. overlay (graph_of_rows c.args.vertices.now c.args.arcs.now n) (when (bit c.args.guard.0 n) (graph_stated c.args.known.now n e))) (sym c.in-Op.is)

pub add-add_earlier-requires-clause-place : goal.add-add_earlier-requires-clause-place
add-add_earlier-requires-clause-place t c =
    let found = (position-Some (bytes_eq c.as_str.result.now) c.args.known.now.graphs c.in-Some.place [] (sym c.in-Some.ensures)).0 in
    let each = c.requires.rows.over.each in
    omega (arith, found, each)

pub add-returns-in-Some-clause-graph : goal.add-returns-in-Some-clause-graph
add-returns-in-Some-clause-graph t c n h =
    c.add_earlier.ensures.graph n h
    ∙ ap (λ o. overlay (graph_of_rows c.args.vertices.now c.args.arcs.now n) (when (bit c.args.guard.0 n) (graph_or_empty n (tables_at c.args.known.now.tables o)))) c.in-Some.ensures
    ∙ ap (λ name. overlay (graph_of_rows c.args.vertices.now c.args.arcs.now n) (when (bit c.args.guard.0 n) (graphs_known c.args.known.now n name))) c.as_str.ensures
    ∙ ap (λ e. overlay (graph_of_rows c.args.vertices.now c.args.arcs.now n) (when (bit c.args.guard.0 n) (graph_stated c.args.known.now n e))) (sym c.in-Graph.is)

pub add-returns-in-When-clause-graph : goal.add-returns-in-When-clause-graph
add-returns-in-When-clause-graph t c = OnOk-map c.add-in-When.result _ _ (λ inner n h.
    inner n h
    ∙ ap (λ x. overlay (graph_of_rows c.args.vertices.now c.args.arcs.now n) x) (
    ap (λ e. when (bit c.and-both.result.0 n) (graph_stated c.args.known.now n e)) c.get-in-When.ensures
    ∙ when_done (graphs_known c.args.known.now n) (valuation c.args.known.now.params n) c.in-When.cond c.in-When.inner
    (bit c.args.guard.0 n) (bit c.unwrap-table.result.0 n) (bit c.and-both.result.0 n) (c.and-both.ensures n h)
    (table_in (λ x. (m : ℕ) → m < 64 → bit x.0 m ≡ value
    (valuation c.args.known.now.params m) c.get.result.now) c.table_of.result c.unwrap-table.result
    c.unwrap-table.ensures c.table_of.ensures.table n h
    ∙ ap (value (valuation c.args.known.now.params n)) c.get.ensures)
    ∙ ap (when (bit c.args.guard.0 n)) (sym (graph_of-When (graphs_known c.args.known.now n) (valuation c.args.known.now.params n) c.in-When.cond c.in-When.inner))
    ∙ ap (λ e. when (bit c.args.guard.0 n) (graph_stated c.args.known.now n e)) (sym c.in-When.is))) c.add-in-When.ensures.graph

pub add_overlay-over-preserved : goal.add_overlay-over-preserved
add_overlay-over-preserved t c = record {
  rows = c.in_ok-add.ensures.rows;
  sound = (sound_step (length c.args.arcs.now) c.args.known.now.params c.args.members.now c.over.member-index c.member-item.result c.over-test.true c.member-item.is c.over.invariant.sound).1;
  graph = λ n h. over_step (graphs_known c.args.known.now n) (valuation c.args.known.now.params n) (bit c.args.guard.0 n) c.args.members.now c.over.member-index c.member-item.result
      (graph_of_rows c.over.vertices c.over.arcs n) (graph_of_rows c.add.new.vertices c.add.new.arcs n) _
      c.over-test.true c.member-item.is (c.in_ok-add.ensures.graph n h) (c.over.invariant.graph n h);
}

pub add_overlay-returns-clause-graph : goal.add_overlay-returns-clause-graph
add_overlay-returns-clause-graph t c n h =
    over_done (graphs_known c.args.known.now n) (valuation c.args.known.now.params n)
    (bit c.args.guard.0 n) c.args.members.now c.over.member-index
    (graph_of_rows c.over.vertices c.over.arcs n) _ c.over-test.false (c.over.invariant.graph n h)

pub add_sequence-line-init : goal.add_sequence-line-init
add_sequence-line-init t c = record {
  here = ap length c.in_ok-here.ensures ∙ length-replicate (length c.args.arcs.now) 0;
  row = ap length c.in_ok-joined.ensures ∙ length-replicate (length c.args.arcs.now) 0;
  rows = record {
    over = c.requires.rows.over;
    width = ap length c.in_ok-before.ensures ∙ length-replicate (length c.args.arcs.now) 0;
    square = c.requires.rows.square;
    there = c.requires.rows.there;
  };
  joined = λ u v n h held both. absurd (both_ways _ (zero_row _ _ c.in_ok-before.ensures u n) held);
  sound = c.requires.sound;
  graph = λ n h. ap (λ s. sequence s (when (bit c.args.guard.0 n) (sequence_all (map (graph_stated c.args.known.now n) c.args.members.now))))
      (no_vertices c.in_ok-before.before c.args.arcs.now n (λ v. zero_row _ _ c.in_ok-before.ensures v n));
}

pub add_sequence-join_once-requires-clause-joined : goal.add_sequence-join_once-requires-clause-joined
add_sequence-join_once-requires-clause-joined t c =
    joined_grows c.line.before c.line.joined c.line.arcs c.add.new.arcs
    (λ u v n h held. both_held (bit (entry c.line.arcs u v) n) _ (bit (entry c.add.new.arcs u v) n) (ap (λ g. g.arc u v) (c.in_ok-add.ensures.graph n h)) held)
    c.line.invariant.joined

pub add_sequence-line-preserved : goal.add_sequence-line-preserved
add_sequence-line-preserved t c = record {
  here = c.in_ok-add.ensures.rows.width ∙ sym arcs;
  row = c.take_up.ensures.row ∙ c.join_once.ensures.row ∙ sym arcs;
  rows = record {
    over = subst (λ k. IsKnown k c.args.known.now) (sym arcs) c.in_ok-add.ensures.rows.over;
    width = c.take_up.ensures.len ∙ c.line.invariant.rows.width ∙ sym (arcs ∙ c.add.auto.arcs);
    square = subst (λ k. HasFullRows k c.join_once.new.arcs) (sym arcs) c.join_once.ensures.square;
    there = united_grows c.args.known.now c.add.new.united c.add.new.arcs c.join_once.new.arcs (λ u v n h held. both_held _ _ _ (c.join_once.ensures.each u v n h) held) c.in_ok-add.ensures.rows.there;
  };
  joined = c.take_up.ensures.joined c.join_once.new.arcs c.join_once.ensures.joined;
  sound = (sound_step (length c.args.arcs.now) c.args.known.now.params c.args.members.now c.line.member-index c.member-item.result c.line-test.true c.member-item.is c.line.invariant.sound).1;
  graph = λ n h. line_step (graphs_known c.args.known.now n) (valuation c.args.known.now.params n) (bit c.args.guard.0 n) c.args.members.now c.line.member-index c.member-item.result
      (graph_of_rows c.line.before c.line.arcs n) (graph_of_rows c.take_up.new.before c.join_once.new.arcs n) _
      c.line-test.true c.member-item.is
      (next_member c.clear.new.self c.line.before c.add.new.vertices c.take_up.new.before c.line.arcs c.add.new.arcs c.join_once.new.arcs n
      (when (bit c.args.guard.0 n) (graph_stated c.args.known.now n c.member-item.result))
      (λ v. ap (λ x. bit x n) (c.clear.ensures.zeros v) ∙ bit-none n)
      (c.in_ok-add.ensures.graph n h)
      (λ u v. c.join_once.ensures.each u v n h)
      (λ v. c.take_up.ensures.each v n h))
      (c.line.invariant.graph n h);
}
  where
    arcs : length c.join_once.new.arcs ≡ length c.add.new.arcs
    arcs = c.join_once.auto.arcs

pub add_sequence-returns-clause-graph : goal.add_sequence-returns-clause-graph
add_sequence-returns-clause-graph t c n h =
    line_ends c.args.vertices.now c.line.before c.unite.new.self c.line.arcs c.args.arcs.now n
    (when (bit c.args.guard.0 n) (sequence_all (map (graph_stated c.args.known.now n) c.args.members.now)))
    (line_done (graphs_known c.args.known.now n) (valuation c.args.known.now.params n)
    (bit c.args.guard.0 n) c.args.members.now c.line.member-index
    (graph_of_rows c.line.before c.line.arcs n) _ c.line-test.false (c.line.invariant.graph n h))
    (λ v. c.unite.ensures.each v n ∙ ap (λ b. bit (slice_index c.args.vertices.now v) n || (b && bit (slice_index c.line.before v) n)) (c.constant.ensures n h))

pub add-returns-in-Overlay-clause-graph : goal.add-returns-in-Overlay-clause-graph
add-returns-in-Overlay-clause-graph t c = OnOk-map c.add_overlay.result _ _ (λ graph n h.
    graph n h
    ∙ ap (λ es. overlay (graph_of_rows c.args.vertices.now c.args.arcs.now n) (when (bit c.args.guard.0 n) (overlay_all (map (graph_stated c.args.known.now n) es)))) c.members.ensures
    ∙ ap (λ g. overlay (graph_of_rows c.args.vertices.now c.args.arcs.now n) (when (bit c.args.guard.0 n) g))
    (sym (ap (graph_stated c.args.known.now n) c.in-Overlay.is
    ∙ graph_of-Overlay (graphs_known c.args.known.now n)
    (valuation c.args.known.now.params n) c.in-Overlay.list.members)))
    c.add_overlay.ensures.graph

pub add-returns-in-Sequence-clause-graph : goal.add-returns-in-Sequence-clause-graph
add-returns-in-Sequence-clause-graph t c = OnOk-map c.add_sequence.result _ _ (λ graph n h.
    graph n h
    ∙ ap (λ es. overlay (graph_of_rows c.args.vertices.now c.args.arcs.now n) (when (bit c.args.guard.0 n) (sequence_all (map (graph_stated c.args.known.now n) es)))) c.members-in-Sequence.ensures
    ∙ ap (λ g. overlay (graph_of_rows c.args.vertices.now c.args.arcs.now n) (when (bit c.args.guard.0 n) g))
    (sym (ap (graph_stated c.args.known.now n) c.in-Sequence.is
    ∙ graph_of-Sequence (graphs_known c.args.known.now n)
    (valuation c.args.known.now.params n) c.in-Sequence.list.members)))
    c.add_sequence.ensures.graph
