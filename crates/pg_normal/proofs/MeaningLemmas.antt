-- What holds of the graph of each expression where it holds of the earlier graphs.
use Rattle.std.specs.Prelude.{◌≡◌, refl, ℕ, ◌==◌, Bool, true, false, ◌&&◌, ◌||◌, List, ◌++◌}
use Rattle.std.proofs.Common.{◌∙◌, inl, inr}
use Rattle.std.proofs.lemmas.Bool.{both_ways, and_parts, or_cases, or_left, or_right}
use Rattle.std.proofs.lemmas.List.Folds.{list_any-append}
use Rattle.pg_algebra.specs.declared.expr.Expr.{Expr, Empty, Op, Graph, When', Overlay', Sequence', Row_of-Expr, end_of-Expr, more_of-Expr}
use Rattle.pg_algebra.specs.Conditions.{Valuation, value}
use Rattle.pg_algebra.specs.Meaning.{Earlier, graph_of, overlay_row, sequence_row}
use Rattle.pg_algebra.specs.Graphs as graph
use Rattle.pg_normal.specs.Appearing.{appearing, appearing_row, has}

-- an arc has both of its ends
abbrev pub HasEnds : graph.Graph → Type 0
HasEnds g = (u v : ℕ) → g.arc u v ≡ true → (g.vertex u ≡ true) × (g.vertex v ≡ true)

no : {P : Type 0} → false ≡ true → P
no h = absurd (both_ways _ refl h)

ends-when : (b : Bool) (p : graph.Graph) → HasEnds p → HasEnds (graph.when b p)
ends-when true p h u v arc = h u v arc
ends-when false p h u v arc = no arc

ends-overlay : (p q : graph.Graph) → HasEnds p → HasEnds q → HasEnds (graph.overlay p q)
ends-overlay p q hp hq u v arc = elim (or_cases (p.arc u v) (q.arc u v) arc) [
  | inl first ↦ (or_left (p.vertex u) (q.vertex u) (hp u v first).0, or_left (p.vertex v) (q.vertex v) (hp u v first).1)
  | inr second ↦ (or_right (p.vertex u) (q.vertex u) (hq u v second).0, or_right (p.vertex v) (q.vertex v) (hq u v second).1)
]

ends-sequence : (p q : graph.Graph) → HasEnds p → HasEnds q → HasEnds (graph.sequence p q)
ends-sequence p q hp hq u v arc = elim (or_cases (p.arc u v || q.arc u v) (p.vertex u && q.vertex v) arc) [
  | inl kept ↦ ends-overlay p q hp hq u v kept
  | inr new ↦ (or_left (p.vertex u) (q.vertex u) (and_parts (p.vertex u) (q.vertex v) new).0, or_right (p.vertex v) (q.vertex v) (and_parts (p.vertex u) (q.vertex v) new).1)
]

mutual
  pub ends : (earlier : Earlier) (t : Valuation) → ((name : List ℕ) → HasEnds (earlier name)) → (e : Expr) → HasEnds (graph_of earlier t e)
  ends earlier t known Empty u v arc = no arc
  ends earlier t known (Op o) u v arc = no arc
  ends earlier t known (Graph name) u v arc = known name u v arc
  ends earlier t known (When' c shape (more_of-Expr e end_of-Expr)) u v arc = ends-when (value t c) (graph_of earlier t e) (ends earlier t known e) u v arc
  ends earlier t known (Overlay' shape members) u v arc = ends_over earlier t known members u v arc
  ends earlier t known (Sequence' shape members) u v arc = ends_line earlier t known members u v arc

  ends_over : {m : _} → (earlier : Earlier) (t : Valuation) → ((name : List ℕ) → HasEnds (earlier name)) → (row : Row_of-Expr m) → HasEnds (overlay_row earlier t row)
  ends_over earlier t known end_of-Expr u v arc = no arc
  ends_over earlier t known (more_of-Expr e rest) u v arc = ends-overlay (graph_of earlier t e) (overlay_row earlier t rest) (ends earlier t known e) (ends_over earlier t known rest) u v arc

  ends_line : {m : _} → (earlier : Earlier) (t : Valuation) → ((name : List ℕ) → HasEnds (earlier name)) → (row : Row_of-Expr m) → HasEnds (sequence_row earlier t row)
  ends_line earlier t known end_of-Expr u v arc = no arc
  ends_line earlier t known (more_of-Expr e rest) u v arc = ends-sequence (graph_of earlier t e) (sequence_row earlier t rest) (ends earlier t known e) (ends_line earlier t known rest) u v arc

-- each vertex appears
abbrev pub Lists : (List ℕ → List ℕ) → Earlier → Type 0
Lists orders earlier = (name : List ℕ) (v : ℕ) → (earlier name).vertex v ≡ true → has (orders name) v ≡ true

two : (xs ys : List ℕ) (v : ℕ) (a b : Bool) → (a ≡ true → has xs v ≡ true) → (b ≡ true → has ys v ≡ true) → (a || b) ≡ true → has (xs ++ ys) v ≡ true
two xs ys v a b first second h = list_any-append (λ w. v == w) xs ys ∙ elim (or_cases a b h) [
  | inl one ↦ or_left (has xs v) (has ys v) (first one)
  | inr other ↦ or_right (has xs v) (has ys v) (second other)
]

under : (b : Bool) (vertex : Bool) → (b && vertex) ≡ true → vertex ≡ true
under true vertex h = h
under false vertex h = no h

mutual
  pub appears : (earlier : Earlier) (t : Valuation) (orders : List ℕ → List ℕ) → Lists orders earlier → (e : Expr) (v : ℕ) → (graph_of earlier t e).vertex v ≡ true → has (appearing orders e) v ≡ true
  appears earlier t orders known Empty v h = no h
  appears earlier t orders known (Op o) v h = or_left (v == o) false h
  appears earlier t orders known (Graph name) v h = known name v h
  appears earlier t orders known (When' c shape (more_of-Expr e end_of-Expr)) v h = appears earlier t orders known e v (under (value t c) ((graph_of earlier t e).vertex v) h)
  appears earlier t orders known (Overlay' shape members) v h = appears_over earlier t orders known members v h
  appears earlier t orders known (Sequence' shape members) v h = appears_line earlier t orders known members v h

  appears_over : {m : _} → (earlier : Earlier) (t : Valuation) (orders : List ℕ → List ℕ) → Lists orders earlier →
      (row : Row_of-Expr m) (v : ℕ) → (overlay_row earlier t row).vertex v ≡ true →
      has (appearing_row orders row) v ≡ true
  appears_over earlier t orders known end_of-Expr v h = no h
  appears_over earlier t orders known (more_of-Expr e rest) v h = two (appearing orders e) (appearing_row orders rest) v ((graph_of earlier t e).vertex v) ((overlay_row earlier t rest).vertex v)
      (λ one. appears earlier t orders known e v one) (λ other. appears_over earlier t orders known rest v other) h

  appears_line : {m : _} → (earlier : Earlier) (t : Valuation) (orders : List ℕ → List ℕ) → Lists orders earlier →
      (row : Row_of-Expr m) (v : ℕ) → (sequence_row earlier t row).vertex v ≡ true →
      has (appearing_row orders row) v ≡ true
  appears_line earlier t orders known end_of-Expr v h = no h
  appears_line earlier t orders known (more_of-Expr e rest) v h = two (appearing orders e) (appearing_row orders rest) v ((graph_of earlier t e).vertex v) ((sequence_row earlier t rest).vertex v)
      (λ one. appears earlier t orders known e v one) (λ other. appears_line earlier t orders known rest v other) h
