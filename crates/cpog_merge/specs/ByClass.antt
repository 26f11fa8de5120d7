-- Graphs whose conditions are those of the classes.
use Rattle.std.specs.Prelude.{◌≡◌, ℕ, ◌<◌, ◌==◌, Bool, true, false, not, if◌then◌else◌, List, [], ◌∷◌, length, slice_index_or}
use Rattle.cpog_defs.specs.declared.types.Ref.{Ref}
use Rattle.cpog_defs.specs.declared.types.Ref.TheVariants.{Const as FixedRef, Signal}
use Rattle.cpog_defs.specs.declared.types.Place.{Place}
use Rattle.cpog_defs.specs.declared.types.Place.TheVariants.{Op, Arc}
use Rattle.cpog_defs.specs.Orders.{each_below}
use Rattle.cpog_defs.specs.Graphs.{ConditionalGraph, IsPlace, ref_of}
use Rattle.cpog_merge.specs.declared.class_list.Belongs.{Belongs}
use Rattle.cpog_merge.specs.declared.class_list.Belongs.TheVariants.{Const, Class}
use Rattle.cpog_merge.specs.Classes.{Classes, belongs_at}

-- a reference, or its complement where negated
abbrev pub signed_ref : Bool → Ref → Ref
signed_ref false r = r
signed_ref true (FixedRef b) = FixedRef (not b)
signed_ref true (Signal n negated) = Signal n (not negated)

-- the reference of the class at a place of the list
abbrev pub class_ref : List Ref → ℕ → Ref
class_ref refs number = slice_index_or refs number (FixedRef false)

-- the reference that a column takes by what it belongs to
abbrev pub ref_by : List Ref → Belongs → Ref
ref_by refs (Const b) = FixedRef b
ref_by refs (Class number negated) = signed_ref negated (class_ref refs number)

-- each class to which a column belongs has a reference in the list
abbrev pub HaveReferences : Classes → List Ref → Type 0
HaveReferences list refs = (p : Place) (number : ℕ) (negated : Bool) → IsPlace list.count p → belongs_at list p ≡ Class number negated → number < length refs

-- the condition of a place: the reference that its column takes
abbrev pub condition_at : Classes → List Ref → Place → Ref
condition_at list refs p = ref_by refs (belongs_at list p)

-- each condition is the one that its column takes
abbrev pub IsGraphByClass : ℕ → Classes → List Ref → ConditionalGraph → Type 0
IsGraphByClass count list refs graph = (p : Place) → IsPlace count p → ref_of graph p ≡ condition_at list refs p

-- the conditions of the pairs from u, by their second, and the constant 0 from u to itself
abbrev pub arc_conditions : Classes → List Ref → ℕ → List Ref
arc_conditions list refs u =
    each_below (λ v. (if u == v then FixedRef false else condition_at list refs (Arc (record { 0 = u }) (record { 0 = v }))) ∷ []) list.count

-- the graph in which each condition is the one that its column takes
abbrev pub graph_by_class : Classes → List Ref → ConditionalGraph
graph_by_class list refs = record {
  ops = each_below (λ v. condition_at list refs (Op (record { 0 = v })) ∷ []) list.count;
  arcs = each_below (λ u. arc_conditions list refs u ∷ []) list.count;
}

-- a reference to a signal, and no constant
abbrev pub IsSignal : Ref → Type 0
IsSignal (FixedRef b) = ⊥
IsSignal (Signal n negated) = Unit {0}
