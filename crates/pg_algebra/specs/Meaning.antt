-- The graph of an expression (Mokhov and Khomenko 2014).
use Rattle.std.specs.Prelude.{ℕ, List}
use Rattle.pg_algebra.specs.Conditions.{Valuation, value}
use Rattle.pg_algebra.specs.Graphs as graph
use Rattle.pg_algebra.specs.declared.expr.Expr.{Expr, Empty, Op, Graph, When', Overlay', Sequence', Row_of-Expr, end_of-Expr, more_of-Expr}

-- the graphs of earlier lines, by their names
abbrev pub Earlier : Type 0
Earlier = List ℕ → graph.Graph

-- a reference is the earlier graph, `[c]p` is p where c has the value 1, an overlay unites its members, and a sequence has an arc from each vertex of a member to each vertex of a later one, too
abbrev mutual
  pub graph_of : Earlier → Valuation → Expr → graph.Graph
  graph_of earlier t Empty = graph.empty
  graph_of earlier t (Op v) = graph.single v
  graph_of earlier t (Graph name) = earlier name
  graph_of earlier t (When' c shape (more_of-Expr e end_of-Expr)) = graph.when (value t c) (graph_of earlier t e)
  graph_of earlier t (Overlay' shape members) = overlay_row earlier t members
  graph_of earlier t (Sequence' shape members) = sequence_row earlier t members

  pub overlay_row : {m : _} → Earlier → Valuation → Row_of-Expr m → graph.Graph
  overlay_row earlier t end_of-Expr = graph.empty
  overlay_row earlier t (more_of-Expr e rest) = graph.overlay (graph_of earlier t e) (overlay_row earlier t rest)

  pub sequence_row : {m : _} → Earlier → Valuation → Row_of-Expr m → graph.Graph
  sequence_row earlier t end_of-Expr = graph.empty
  sequence_row earlier t (more_of-Expr e rest) = graph.sequence (graph_of earlier t e) (sequence_row earlier t rest)
