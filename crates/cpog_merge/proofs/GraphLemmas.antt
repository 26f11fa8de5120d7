-- The graph by the classes.
use Rattle.std.proofs.Common.{◌≡◌, ◌≢◌, ℕ, ◌<◌, ◌≤◌, ◌==◌, false, if◌then◌else◌, List, [], ◌∷◌, length, get_or, refl, sym, ap, ◌∙◌, subst, inl, inr, arith}
use Rattle.std.proofs.lemmas.Bool.{cases_eq, cases_lt, eq-eqb, ne_eqb}
use Rattle.std.proofs.lemmas.List.{ext_get_or, get_or_past}
use Rattle.cpog_defs.specs.declared.types.Ref.{Ref}
use Rattle.cpog_defs.specs.declared.types.Ref.TheVariants.{Const}
use Rattle.cpog_defs.specs.declared.types.Place.{Place}
use Rattle.cpog_defs.specs.declared.types.Place.TheVariants.{Op, Arc}
use Rattle.cpog_defs.specs.Orders.{each_below}
use Rattle.cpog_defs.specs.Gates.{IsRefOver}
use Rattle.cpog_defs.specs.Graphs.{ConditionalGraph, IsPlace, IsGraph, op_ref, arc_ref, ref_of}
use Rattle.gate_core.specs.Square.{IsSquare}
use Rattle.cpog_merge.specs.Classes.{Classes, belongs_at}
use Rattle.cpog_merge.specs.ByClass.{condition_at, arc_conditions, graph_by_class, IsGraphByClass}
use Rattle.cpog_merge.specs.Laws.{GraphByClassIsGraph, OneGraphByClass}
use Rattle.cpog_merge.proofs.ColumnsLemmas.{length-blocks, get-blocks, single}
use Rattle.cpog_merge.proofs.AgreeLemmas.{references_stay_lem}

-- one element for each number, in its place
alone : {A : Type 0} (f : ℕ → A) (n i : ℕ) (d : A) → i < n → get_or (each_below (λ j. f j ∷ []) n) i d ≡ f i
alone f n i d l = ap (λ k. get_or (each_below (λ j. f j ∷ []) n) k d) (sym (single i)) ∙ get-blocks (λ j. f j ∷ []) 1 (λ j. refl) n i 0 d l (omega arith)

length-alone : {A : Type 0} (f : ℕ → A) (n : ℕ) → length (each_below (λ j. f j ∷ []) n) ≡ n
length-alone f n = length-blocks (λ j. f j ∷ []) 1 (λ j. refl) n ∙ omega arith

-- ---- its conditions

module _ (list : Classes) (refs : List Ref) where
  abbrev graph : ConditionalGraph
  graph = graph_by_class list refs

  abbrev arc_there : ℕ → ℕ → Ref
  arc_there u v = if u == v then Const false else condition_at list refs (Arc (record { 0 = u }) (record { 0 = v }))

  row_there : (u : ℕ) → u < list.count → get_or graph.arcs u [] ≡ arc_conditions list refs u
  row_there u l = alone (arc_conditions list refs) list.count u [] l

  entry_there : (u v : ℕ) → u < list.count → v < list.count → arc_ref graph u v ≡ arc_there u v
  entry_there u v l m = ap (λ row. get_or row v (Const false)) (row_there u l) ∙ alone (arc_there u) list.count v (Const false) m

  has_conditions : IsGraphByClass list.count list refs graph
  has_conditions (Op v) l = alone (λ k. condition_at list refs (Op (record { 0 = k }))) list.count v.0 (Const false) l
  has_conditions (Arc u v) l = entry_there u.0 v.0 l.0 l.1 ∙ rw (ne_eqb u.0 v.0 l.2) refl

  diagonal_there : (u : ℕ) → arc_ref graph u u ≡ Const false
  diagonal_there u = elim (cases_lt u list.count) [
    | inl l ↦ entry_there u u l l ∙ rw (eq-eqb u u refl) refl
    | inr m ↦ ap (λ row. get_or row u (Const false)) (get_or_past graph.arcs u [] (rw (length-alone (arc_conditions list refs) list.count) m))
  ]

pub by_class_is_graph : GraphByClassIsGraph
by_class_is_graph signals list refs over = (
  record {
    ops = length-alone (λ v. condition_at list refs (Op (record { 0 = v }))) list.count;
    arcs = length-alone (arc_conditions list refs) list.count;
    rows = λ u l. ap length (row_there list refs u l) ∙ length-alone (arc_there list refs u) list.count;
    diagonal = diagonal_there list refs;
    over = λ p l. subst (IsRefOver signals) (sym (has_conditions list refs p l)) (references_stay_lem signals refs (belongs_at list p) over);
  },
  has_conditions list refs,
)

-- ---- one graph

-- a condition for each operation and each pair, and none that counts from an operation to itself
record IsWhole (n : ℕ) (g : ConditionalGraph) : Type 0 where
  ops : length g.ops ≡ n
  arcs : length g.arcs ≡ n
  rows : (u : ℕ) → u < n → length (get_or g.arcs u []) ≡ n
  diagonal : (u : ℕ) → arc_ref g u u ≡ Const false

whole_graph : (n signals : ℕ) (g : ConditionalGraph) → IsGraph n signals g → IsWhole n g
whole_graph n signals g is = record { ops = is.ops; arcs = is.arcs; rows = is.rows; diagonal = is.diagonal }

whole_square : (n : ℕ) (g : ConditionalGraph) → IsSquare g → length g.ops ≡ n → IsWhole n g
whole_square n g is size = record {
  ops = size;
  arcs = is.arcs ∙ size;
  rows = λ u l. is.rows u (subst (λ m. u < m) (sym size) l) ∙ size;
  diagonal = is.diagonal;
}

same_parts : (a b : ConditionalGraph) → a.ops ≡ b.ops → a.arcs ≡ b.arcs → a ≡ b
same_parts a b ops arcs = λ i. record { ops = ops i; arcs = arcs i }

-- two graphs with the same conditions are one
one_graph : (n : ℕ) (a b : ConditionalGraph) → IsWhole n a → IsWhole n b → ((p : Place) → IsPlace n p → ref_of a p ≡ ref_of b p) → a ≡ b
one_graph n a b h k same = same_parts a b
    (ext_get_or (Const false) a.ops b.ops (h.ops ∙ sym k.ops) (λ v l. same (Op (record { 0 = v })) (subst (λ m. v < m) h.ops l)))
    (ext_get_or [] a.arcs b.arcs (h.arcs ∙ sym k.arcs) (λ u l. row u (subst (λ m. u < m) h.arcs l)))
  where
    entry : (u v : ℕ) → u < n → v < n → arc_ref a u v ≡ arc_ref b u v
    entry u v l m = elim (cases_eq u v) [
      | inl e ↦ subst (λ i. arc_ref a u i ≡ arc_ref b u i) e (h.diagonal u ∙ sym (k.diagonal u))
      | inr other ↦ same (Arc (record { 0 = u }) (record { 0 = v })) (l, m, other)
    ]

    row : (u : ℕ) → u < n → get_or a.arcs u [] ≡ get_or b.arcs u []
    row u l = ext_get_or (Const false) _ _ (h.rows u l ∙ sym (k.rows u l)) (λ v m. entry u v l (subst (λ i. v < i) (h.rows u l) m))

pub graphs_are_one : (n signals signals' : ℕ) (a b : ConditionalGraph) → IsGraph n signals a → IsGraph n signals' b → ((p : Place) → IsPlace n p → ref_of a p ≡ ref_of b p) → a ≡ b
graphs_are_one n signals signals' a b h k = one_graph n a b (whole_graph n signals a h) (whole_graph n signals' b k)

by_class_whole : (list : Classes) (refs : List Ref) → IsWhole list.count (graph_by_class list refs)
by_class_whole list refs = record {
  ops = length-alone (λ v. condition_at list refs (Op (record { 0 = v }))) list.count;
  arcs = length-alone (arc_conditions list refs) list.count;
  rows = λ u l. ap length (row_there list refs u l) ∙ length-alone (arc_there list refs u) list.count;
  diagonal = diagonal_there list refs;
}

is_by_class : (list : Classes) (refs : List Ref) (g : ConditionalGraph) → IsWhole list.count g → IsGraphByClass list.count list refs g → g ≡ graph_by_class list refs
is_by_class list refs g is conditions = one_graph list.count g (graph_by_class list refs) is (by_class_whole list refs) (λ p l. conditions p l ∙ sym (has_conditions list refs p l))

pub one_by_class : OneGraphByClass
one_by_class signals list refs g is = is_by_class list refs g (whole_graph list.count signals g is)

-- the conditions that are set for each operation and each pair
pub set_conditions : (list : Classes) (refs : List Ref) (g : ConditionalGraph) (n : ℕ) → list.count ≤ n
    → ((v : ℕ) → v < list.count → op_ref g v ≡ condition_at list refs (Op (record { 0 = v })))
    → ((u v : ℕ) → u < n → v < list.count → u ≢ v → arc_ref g u v ≡ condition_at list refs (Arc (record { 0 = u }) (record { 0 = v })))
    → IsGraphByClass list.count list refs g
set_conditions list refs g n all ops arcs (Op v) l = ops v.0 l
set_conditions list refs g n all ops arcs (Arc u v) l = arcs u.0 v.0 (omega (arith, l.0, all)) l.1 l.2

pub square_by_class : (list : Classes) (refs : List Ref) (g : ConditionalGraph) → IsSquare g → length g.ops ≡ list.count → IsGraphByClass list.count list refs g → g ≡ graph_by_class list refs
square_by_class list refs g is size = is_by_class list refs g (whole_square list.count g is size)
