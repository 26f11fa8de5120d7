-- The list that is made of the places of the classes says what it must.
use Rattle.std.proofs.Common.{◌≡◌, ℕ, ◌≤◌, ◌==◌, false, if◌then◌else◌, List, [], ◌∷◌, length, map, get_or, refl, sym, ap, subst, ◌∙◌, arith}
use Rattle.std.specs.List.{All}
use Rattle.std.proofs.lemmas.Bool.{ne_eqb}
use Rattle.std.proofs.lemmas.List.{length-map}
use Rattle.std.proofs.lemmas.List.Elements.{All-get_or, All-map}
use Rattle.cpog_defs.specs.declared.types.Bit3.{Bit3}
use Rattle.cpog_defs.specs.declared.types.Place.{Place}
use Rattle.cpog_defs.specs.declared.types.Place.TheVariants.{Op, Arc}
use Rattle.cpog_defs.specs.Graphs.{IsPlace}
use Rattle.cpog_merge.specs.declared.class_list.Belongs.{Belongs}
use Rattle.cpog_merge.specs.declared.class_list.Belongs.TheVariants.{Const}
use Rattle.cpog_merge.specs.Columns.{Columns, AreColumns, column_at}
use Rattle.gate_core.specs.Columns.{IsOpenColumn}
use Rattle.cpog_merge.specs.Classes.{IsClass, Classes, belongs_at, BelongsTo, AreClassPlaces, AreClassesOf, IsClassList}
use Rattle.cpog_merge.specs.Laws.{ClassesAreOpen}
use Rattle.cpog_merge.specs.Opens.{belonging, op_belongings, arc_belongings_from, arc_belongings}
use Rattle.cpog_merge.proofs.ColumnsLemmas.{length-blocks, get-blocks, single}
use Rattle.cpog_merge.proofs.ClassLemmas.{column_size, have_classes, belongs_as_said}

pub all_places : (t : Columns) (places : List Place) → AreClassPlaces t places → All (IsPlace t.count) places
all_places t places are = λ k d l. (All-get_or (IsClass t) places k d l are.each).is_open.place

-- the classes are open columns
pub open_class_columns : ClassesAreOpen
open_class_columns t list is are = subst (All (IsOpenColumn t.scenarios)) (sym are.columns) (All-map (IsOpenColumn t.scenarios) (column_at t) list.places
    (λ k d l. let o = (All-get_or (IsClass t) list.places k d l are.places.each).is_open in
    subst (λ n. IsOpenColumn n (column_at t (get_or list.places k d))) (column_size t is (get_or list.places k d) o.place) o.column))

-- the list with these classes
abbrev pub list_of : Columns → List Place → Classes
list_of t places = record {
  count = t.count;
  places = places;
  columns = map (column_at t) places;
  ops = op_belongings t (map (column_at t) places) t.count;
  arcs = arc_belongings t (map (column_at t) places) t.count t.count;
}

module _ (t : Columns) (is : AreColumns t) (places : List Place) (are : AreClassPlaces t places) where
  columns : List (List Bit3)
  columns = map (column_at t) places

  abbrev op_at : ℕ → List Belongs
  op_at v = belonging (map (column_at t) places) (column_at t (Op (record { 0 = v }))) ∷ []

  abbrev arc_at : ℕ → ℕ → List Belongs
  arc_at u v = (if u == v then Const false else belonging (map (column_at t) places) (column_at t (Arc (record { 0 = u }) (record { 0 = v })))) ∷ []

  row : (u : ℕ) → length (arc_belongings_from t (map (column_at t) places) t.count u) ≡ t.count
  row u = length-blocks (arc_at u) 1 (λ v. refl) t.count ∙ omega arith

  pub is_list : length places ≤ 16384 → IsClassList (list_of t places)
  is_list few = record {
    few_ops = is.few_ops;
    few = few;
    columns_each = length-map places (column_at t);
    ops_each = length-blocks op_at 1 (λ v. refl) t.count ∙ omega arith;
    arcs_each = length-blocks (arc_belongings_from t (map (column_at t) places) t.count) t.count row t.count;
  }

  belongs_there : (p : Place) → IsPlace t.count p → belongs_at (list_of t places) p ≡ belonging (map (column_at t) places) (column_at t p)
  belongs_there (Op v) l =
      ap (λ k. get_or (op_belongings t (map (column_at t) places) t.count) k (Const false)) (sym (single v.0))
      ∙ get-blocks op_at 1 (λ i. refl) t.count v.0 0 (Const false) l (omega arith)
  belongs_there (Arc u v) l =
      get-blocks (arc_belongings_from t (map (column_at t) places) t.count) t.count row t.count u.0 v.0 (Const false) l.0 l.1
      ∙ ap (λ k. get_or (arc_belongings_from t (map (column_at t) places) t.count u.0) k (Const false)) (sym (single v.0))
      ∙ get-blocks (arc_at u.0) 1 (λ i. refl) t.count v.0 0 (Const false) l.1 (omega arith)
      ∙ rw (ne_eqb u.0 v.0 l.2) refl

  pub are_classes : AreClassesOf t (list_of t places)
  are_classes = record {
    count = refl;
    places = are;
    columns = refl;
    belongs = λ p l. subst (BelongsTo (list_of t places) (column_at t p)) (sym (belongs_there p l)) (belongs_as_said (list_of t places) (column_at t p) ((have_classes t is places are).each p l));
  }
