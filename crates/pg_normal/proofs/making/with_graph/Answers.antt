use Rattle.std.proofs.Common.{ap, ◌∙◌}
use Rattle.std.specs.Str.{bytes_eq}
use Rattle.pg_algebra.specs.Conditions.{valuation}
use Rattle.pg_algebra.specs.Meaning.{graph_of}
use Rattle.pg_normal.specs.Appearing.{first_appearing}
use Rattle.pg_normal.specs.Known.{tables_named, graph_or_empty, graphs_known, order_or_none, orders_known}
use Rattle.pg_normal.proofs.MakingLemmas.{form_same}
use Rattle.pg_normal.proofs.NamedLemmas.{at_push, graph_push, order_push}
use Rattle.pg_normal.proofs.making.with_graph.Goals as goal

pub returns-clause-form : goal.returns-clause-form
returns-clause-form c = form_same _ _ _ _ c.in_ok-form.form (λ n h. c.in_ok-tables.ensures.graph n h) c.in_ok-tables.ensures.order c.in_ok-form.ensures

pub returns-clause-graphs : goal.returns-clause-graphs
returns-clause-graphs c n other h =
    ap (λ k. graph_or_empty n (tables_named k other)) c.in_ok-known.ensures
    ∙ ap (graph_or_empty n) (at_push c.args.known.graphs c.args.known.tables c.args.name.now c.in_ok-tables.tables other c.requires.known.each c.requires.new)
    ∙ graph_push n (bytes_eq other c.args.name.now) c.in_ok-tables.tables (tables_named c.args.known other)
    (graph_of (graphs_known c.args.known n) (valuation c.args.known.params n) c.args.expr.now)
    (c.in_ok-tables.ensures.graph n h)

pub returns-clause-orders : goal.returns-clause-orders
returns-clause-orders c other =
    ap (λ k. order_or_none (tables_named k other)) c.in_ok-known.ensures
    ∙ ap order_or_none (at_push c.args.known.graphs c.args.known.tables c.args.name.now c.in_ok-tables.tables other c.requires.known.each c.requires.new)
    ∙ order_push (bytes_eq other c.args.name.now) c.in_ok-tables.tables (tables_named c.args.known other) (first_appearing (orders_known c.args.known) c.args.expr.now) c.in_ok-tables.ensures.order
