use Rattle.std.proofs.Common.{◌≡◌, sym, ◌∙◌, ap, subst, length}
use Rattle.cpog_defs.specs.Codes.{bit}
use Rattle.pg_algebra.specs.Conditions.{valuation}
use Rattle.pg_algebra.specs.Meaning.{graph_of}
use Rattle.pg_normal.specs.Known.{HasFullRows, entry, graph_of_rows, graphs_known, orders_known}
use Rattle.pg_normal.specs.Appearing.{appearing, with_numbers}
use Rattle.pg_normal.proofs.RowLemmas.{zero_row, written_back}
use Rattle.pg_normal.proofs.StepLemmas.{nothing_before}
use Rattle.pg_normal.proofs.OverLemmas.{tables_are_over}
use Rattle.pg_normal.proofs.adding.tables_of.Goals as goal

pub returns-clause-graph : goal.returns-clause-graph
returns-clause-graph c n h =
    ap (λ a. graph_of_rows c.add.new.vertices a n) (c.from_vec.ensures
    ∙ written_back c.add.new.arcs c.in_ok-arcs.arcs.items c.in_ok-arcs.arcs.len (c.add.auto.arcs
    ∙ ap length c.deref_mut.ensures.value) c.in_ok-arcs.arcs.ok.0)
    ∙ c.in_ok-add.ensures.graph n h
    ∙ nothing_before (graph_of_rows c.in_ok-vertices.vertices c.deref_mut.result.now n)
    (graph_of (graphs_known c.args.known.now n) (valuation c.args.known.now.params n) c.args.expr.now)
    (bit c.constant.result.0 n)
    (λ v. zero_row _ _ c.in_ok-vertices.ensures v n)
    (λ u v. ap (λ a. bit (entry a u v) n) c.deref_mut.ensures.value ∙ c.in_ok-arcs.ensures.zeros u v n)
    (c.constant.ensures n h)

pub returns-clause-over : goal.returns-clause-over
returns-clause-over c =
    tables_are_over c.args.count c.args.known.now c.args.expr.now
    (record { order = c.note.new.order; vertices = c.add.new.vertices; arcs = c.from_vec.result })
    c.requires.known.over
    (c.in_ok-add.ensures.rows.width ∙ c.add.auto.arcs ∙ rows)
    (subst (λ a. HasFullRows c.args.count a)
    (sym (c.from_vec.ensures ∙ written_back c.add.new.arcs c.in_ok-arcs.arcs.items c.in_ok-arcs.arcs.len
    (c.add.auto.arcs ∙ ap length c.deref_mut.ensures.value) c.in_ok-arcs.arcs.ok.0))
    (subst (λ k. HasFullRows k c.add.new.arcs) (c.add.auto.arcs ∙ rows) c.in_ok-add.ensures.rows.square))
    (returns-clause-graph c)
    (c.in_ok-note.ensures ∙ ap (λ vs. with_numbers vs (appearing (orders_known c.args.known.now) c.args.expr.now)) c.new-order.ensures)
  where
    rows : length c.deref_mut.result.now ≡ c.args.count
    rows = ap length c.deref_mut.ensures.value ∙ c.in_ok-arcs.ensures.square.rows
