-- What each kind of tree means, and how valuations are numbered.
use Rattle.std.specs.Prelude.{◌≡◌, ◌≢◌, ℕ, ◌<◌, Bool, not, List, [], ◌∷◌, map}
use Rattle.std.specs.List.{list_all, list_any, flat_map}
use Rattle.cpog_base.specs.declared.limits.TheConstants.{PARAM_LIMIT}
use Rattle.cpog_defs.specs.Codes.{bit}
use Rattle.pg_algebra.specs.Conditions.{Valuation, value, params_of}
use Rattle.pg_algebra.specs.Graphs as graph
use Rattle.pg_algebra.specs.Meaning.{Earlier, graph_of}
use Rattle.pg_algebra.specs.Tables.{flip, with_param}
use Rattle.pg_algebra.specs.declared.cond.Cond.{Cond, Bit, Param}
use Rattle.pg_algebra.specs.declared.cond.Cond.TheViews as cond
use Rattle.pg_algebra.specs.declared.expr.Expr.{Expr, Empty, Op, Graph}
use Rattle.pg_algebra.specs.declared.expr.Expr.TheViews as expr

-- the value of a condition, and its parameters, out of those of its parts
pub record ValuesOfConditions : Type 0 where
  pub bit_value : (t : Valuation) (b : Bool) → value t (Bit b) ≡ b
  pub param_value : (t : Valuation) (name : List ℕ) → value t (Param name) ≡ t name
  pub not_value : (t : Valuation) (c : Cond) → value t (cond.Not c) ≡ not (value t c)
  pub and_value : (t : Valuation) (cs : List Cond) → value t (cond.And (record { members = cs })) ≡ list_all (value t) cs
  pub or_value : (t : Valuation) (cs : List Cond) → value t (cond.Or (record { members = cs })) ≡ list_any (value t) cs
  pub bit_params : (b : Bool) → params_of (Bit b) ≡ []
  pub param_params : (name : List ℕ) → params_of (Param name) ≡ name ∷ []
  pub not_params : (c : Cond) → params_of (cond.Not c) ≡ params_of c
  pub and_params : (cs : List Cond) → params_of (cond.And (record { members = cs })) ≡ flat_map params_of cs
  pub or_params : (cs : List Cond) → params_of (cond.Or (record { members = cs })) ≡ flat_map params_of cs

-- the graph of an expression out of those of its parts
pub record GraphsOfExpressions : Type 0 where
  pub empty_graph : (earlier : Earlier) (t : Valuation) → graph_of earlier t Empty ≡ graph.empty
  pub op_graph : (earlier : Earlier) (t : Valuation) (v : ℕ) → graph_of earlier t (Op v) ≡ graph.single v
  pub reference_graph : (earlier : Earlier) (t : Valuation) (name : List ℕ) → graph_of earlier t (Graph name) ≡ earlier name
  pub when_graph : (earlier : Earlier) (t : Valuation) (c : Cond) (e : Expr) → graph_of earlier t (expr.When c e) ≡ graph.when (value t c) (graph_of earlier t e)
  pub overlay_graph : (earlier : Earlier) (t : Valuation) (es : List Expr) → graph_of earlier t (expr.Overlay (record { members = es })) ≡ graph.overlay_all (map (graph_of earlier t) es)
  pub sequence_graph : (earlier : Earlier) (t : Valuation) (es : List Expr) → graph_of earlier t (expr.Sequence (record { members = es })) ≡ graph.sequence_all (map (graph_of earlier t) es)

-- a valuation with one parameter turned or set has the other bits of the one before, and no number above 63 comes of it
pub record ValuationsAreNumbered : Type 0 where
  pub flip_one : (n k : ℕ) → bit (flip n k) k ≡ not (bit n k)
  pub flip_others : (n k j : ℕ) → j ≢ k → bit (flip n k) j ≡ bit n j
  pub flip_below : (n k : ℕ) → k < PARAM_LIMIT → n < 64 → flip n k < 64
  pub set_one : (n k : ℕ) (b : Bool) → bit (with_param n k b) k ≡ b
  pub set_others : (n k j : ℕ) (b : Bool) → j ≢ k → bit (with_param n k b) j ≡ bit n j
  pub set_below : (n k : ℕ) (b : Bool) → k < PARAM_LIMIT → n < 64 → with_param n k b < 64
