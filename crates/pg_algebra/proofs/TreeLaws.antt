-- A tree's value, its parameters and its graph are those of its parts.
use Rattle.std.specs.Prelude.{◌≡◌, refl, not, ◌&&◌, ◌||◌, List, [], ◌∷◌, ◌++◌, map}
use Rattle.std.specs.List.{list_all, list_any, flat_map}
use Rattle.std.proofs.Common.{ap}
use denote.Hole.Carrier.{hidden}
use Rattle.pg_algebra.specs.declared.cond.Cond.{Cond}
use Rattle.pg_algebra.specs.declared.cond.Cond.TheBlock.{hidden-the_row-Cond-0, hidden-the_row-Cond-1}
use Rattle.pg_algebra.specs.declared.cond.Cond.TheViews.{Not, And, Or}
use Rattle.pg_algebra.specs.declared.expr.Expr.{Expr}
use Rattle.pg_algebra.specs.declared.expr.Expr.TheBlock.{hidden-the_row-Expr-0, hidden-the_row-Expr-1}
use Rattle.pg_algebra.specs.declared.expr.Expr.TheViews.{When, Overlay, Sequence}
use Rattle.pg_algebra.specs.Graphs.{overlay, sequence, when, overlay_all, sequence_all}
use Rattle.pg_algebra.specs.Conditions.{Valuation, value, params_of}
use Rattle.pg_algebra.specs.Meaning.{Earlier, graph_of}
use Rattle.pg_algebra.specs.Laws.{ValuesOfConditions, GraphsOfExpressions}

pub value-Not : (t : Valuation) (c : Cond) → value t (Not c) ≡ not (value t c)
unfolding hidden-the_row-Cond-0 hidden
value-Not t c = refl

pub value-And : (t : Valuation) (cs : List Cond) → value t (And (record { members = cs })) ≡ list_all (value t) cs
unfolding hidden-the_row-Cond-1 hidden
value-And t [] = refl
value-And t (c ∷ cs) = ap (λ b. value t c && b) (value-And t cs)

pub value-Or : (t : Valuation) (cs : List Cond) → value t (Or (record { members = cs })) ≡ list_any (value t) cs
unfolding hidden-the_row-Cond-1 hidden
value-Or t [] = refl
value-Or t (c ∷ cs) = ap (λ b. value t c || b) (value-Or t cs)

pub params_of-Not : (c : Cond) → params_of (Not c) ≡ params_of c
unfolding hidden-the_row-Cond-0 hidden
params_of-Not c = refl

pub params_of-And : (cs : List Cond) → params_of (And (record { members = cs })) ≡ flat_map params_of cs
unfolding hidden-the_row-Cond-1 hidden
params_of-And [] = refl
params_of-And (c ∷ cs) = ap (λ names. params_of c ++ names) (params_of-And cs)

pub params_of-Or : (cs : List Cond) → params_of (Or (record { members = cs })) ≡ flat_map params_of cs
unfolding hidden-the_row-Cond-1 hidden
params_of-Or [] = refl
params_of-Or (c ∷ cs) = ap (λ names. params_of c ++ names) (params_of-Or cs)

pub graph_of-When : (earlier : Earlier) (t : Valuation) (c : Cond) (e : Expr) → graph_of earlier t (When c e) ≡ when (value t c) (graph_of earlier t e)
unfolding hidden-the_row-Expr-0 hidden
graph_of-When earlier t c e = refl

pub graph_of-Overlay : (earlier : Earlier) (t : Valuation) (es : List Expr) → graph_of earlier t (Overlay (record { members = es })) ≡ overlay_all (map (graph_of earlier t) es)
unfolding hidden-the_row-Expr-1 hidden
graph_of-Overlay earlier t [] = refl
graph_of-Overlay earlier t (e ∷ es) = ap (overlay (graph_of earlier t e)) (graph_of-Overlay earlier t es)

pub graph_of-Sequence : (earlier : Earlier) (t : Valuation) (es : List Expr) → graph_of earlier t (Sequence (record { members = es })) ≡ sequence_all (map (graph_of earlier t) es)
unfolding hidden-the_row-Expr-1 hidden
graph_of-Sequence earlier t [] = refl
graph_of-Sequence earlier t (e ∷ es) = ap (sequence (graph_of earlier t e)) (graph_of-Sequence earlier t es)

pub values_of_conditions : ValuesOfConditions
values_of_conditions = record {
  bit_value = λ t b. refl;
  param_value = λ t name. refl;
  not_value = value-Not;
  and_value = value-And;
  or_value = value-Or;
  bit_params = λ b. refl;
  param_params = λ name. refl;
  not_params = params_of-Not;
  and_params = params_of-And;
  or_params = params_of-Or;
}

pub graphs_of_expressions : GraphsOfExpressions
graphs_of_expressions = record {
  empty_graph = λ earlier t. refl;
  op_graph = λ earlier t v. refl;
  reference_graph = λ earlier t name. refl;
  when_graph = graph_of-When;
  overlay_graph = graph_of-Overlay;
  sequence_graph = graph_of-Sequence;
}
