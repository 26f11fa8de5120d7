-- What is promised of columns and of fitting.
use Rattle.std.specs.Prelude.{◌≡◌, ◌↔◌, ℕ, ◌*◌, ◌-◌, ◌≤◌, Bool, List, length, map}
use Rattle.std.specs.List.{All, sum_by}
use Rattle.cpog_defs.specs.declared.types.Bit3.{Bit3}
use Rattle.cpog_defs.specs.declared.types.Ref.{Ref}
use Rattle.cpog_defs.specs.declared.types.Place.{Place}
use Rattle.cpog_defs.specs.Graphs.{ConditionalGraph, IsGraph, IsPlace, ref_of}
use Rattle.cpog_defs.specs.Gates.{GateList, signal_count, IsRefOver}
use Rattle.cpog_defs.specs.Orders.{Order, IsOrderOf}
use Rattle.cpog_defs.specs.Scenarios.{Scenario, AreOrdersOf}
use Rattle.cpog_defs.specs.Encodings.{Encoding, IsEncoding, Fits, FitsScenarios, RefAgrees, AgreesWithColumns}
use Rattle.cpog_base.specs.declared.limits.TheConstants.{OPERATION_LIMIT, SCENARIO_LIMIT}
use Rattle.cpog_merge.specs.declared.class_list.Belongs.{Belongs}
use Rattle.cpog_merge.specs.Columns.{Columns, AreColumns, count_of, AreColumnsOf, AreSameColumns, AgreesWith}
use Rattle.cpog_merge.specs.Classes.{Classes, ServesAs, belongs_at, BelongsTo, AreClassesOf}
use Rattle.cpog_merge.specs.ByClass.{signed_ref, ref_by, IsGraphByClass, graph_by_class, IsSignal}
use Rattle.gate_core.specs.Columns.{IsOpenColumn, smaller_set}
use Rattle.gate_core.specs.Serving.{ReferencesServe}
use Rattle.gate_core.specs.Bounds.{IsLowerBound}
use Rattle.cpog_merge.specs.Incompatible.{IsCountEvidence, IsIncompatibleSet, place_at}

-- For all codes, gates and every conditional graph: the encoding fits the orders exactly where each condition has, on
-- each scenario's code, the value of each defined entry of its column.
abbrev pub FitsIsAgreeing : Type 0
FitsIsAgreeing =
    (e : Encoding) (count : ℕ) (orders : List Order) → All (IsOrderOf count) orders → IsEncoding count e → Fits e orders ↔ AgreesWithColumns e count orders

-- an encoding fits the orders of scenarios exactly where it fits the scenarios
abbrev pub FitsIsFittingScenarios : Type 0
FitsIsFittingScenarios = (e : Encoding) (scenarios : List Scenario) (orders : List Order) → AreOrdersOf scenarios orders → Fits e orders ↔ FitsScenarios e scenarios

-- a reference that agrees with a column agrees, complemented where negated, with each column that this one serves so
abbrev pub ServedAgree : Type 0
ServedAgree =
    (gates : GateList) (codes : List ℕ) (b a : List Bit3) (negated : Bool) (ref : Ref) →
    ServesAs negated b a → RefAgrees gates codes b ref → RefAgrees gates codes a (signed_ref negated ref)

-- no column belongs to two constants or classes, or to one with both signs
abbrev pub BelongsToOne : Type 0
BelongsToOne = (list : Classes) (column : List Bit3) (x y : Belongs) → BelongsTo list column x → BelongsTo list column y → x ≡ y

-- columns have one list of classes
abbrev pub ClassesAreOne : Type 0
ClassesAreOne =
    (t : Columns) (a b : Classes) → AreClassesOf t a → AreClassesOf t b →
    (a.places ≡ b.places) × (a.columns ≡ b.columns) × ((p : Place) → IsPlace t.count p → belongs_at a p ≡ belongs_at b p)

-- columns that are the same at each place have the same classes
abbrev pub SameColumnsSameClasses : Type 0
SameColumnsSameClasses = (t u : Columns) (list : Classes) → AreSameColumns t u → AreClassesOf t list → AreClassesOf u list

-- the classes are open columns
abbrev pub ClassesAreOpen : Type 0
ClassesAreOpen = (t : Columns) (list : Classes) → AreColumns t → AreClassesOf t list → All (IsOpenColumn t.scenarios) list.columns

-- the reference that a column takes speaks of the signals of which those of the classes speak
abbrev pub ReferencesStay : Type 0
ReferencesStay = (signals : ℕ) (refs : List Ref) (x : Belongs) → All (IsRefOver signals) refs → IsRefOver signals (ref_by refs x)

-- Where each class has a reference that agrees with it, a graph whose conditions are these references, complemented
-- where the column is negated, and the constants, agrees with every column.
abbrev pub GraphByClassAgrees : Type 0
GraphByClassAgrees =
    (e : Encoding) (t : Columns) (list : Classes) (refs : List Ref) → AreClassesOf t list → length e.codes ≡ t.scenarios →
    ReferencesServe list.columns e.codes e.gates refs → IsGraphByClass t.count list refs e.graph → AgreesWith e t

-- The converse: a graph that agrees with every column has, at the places of the classes, references that serve these, and none is a constant.
abbrev pub GraphServesClasses : Type 0
GraphServesClasses =
    (e : Encoding) (t : Columns) (list : Classes) → AreColumns t → AreClassesOf t list → IsGraph t.count (signal_count e.gates) e.graph → AgreesWith e t →
    ReferencesServe list.columns e.codes e.gates (map (ref_of e.graph) list.places) × All IsSignal (map (ref_of e.graph) list.places)

-- for references over some signals the graph by the classes is a graph over these signals
abbrev pub GraphByClassIsGraph : Type 0
GraphByClassIsGraph =
    (signals : ℕ) (list : Classes) (refs : List Ref) → All (IsRefOver signals) refs →
    IsGraph list.count signals (graph_by_class list refs) × IsGraphByClass list.count list refs (graph_by_class list refs)

-- a graph in which each condition is the one that its column takes is the graph by the classes
abbrev pub OneGraphByClass : Type 0
OneGraphByClass =
    (signals : ℕ) (list : Classes) (refs : List Ref) (graph : ConditionalGraph) →
    IsGraph list.count signals graph → IsGraphByClass list.count list refs graph → graph ≡ graph_by_class list refs

-- The smaller sets of all classes together have at most 1024 times as many members as there are scenarios, where there are at most 64 operations.
abbrev pub SmallerSetsAreFew : Type 0
SmallerSetsAreFew =
    (orders : List Order) (t : Columns) (list : Classes) → All (IsOrderOf (count_of orders)) orders → count_of orders ≤ OPERATION_LIMIT →
    AreColumnsOf orders t → AreClassesOf t list → sum_by smaller_set list.columns ≤ length orders * 1024

-- Summed over the classes, the members of the smaller set less one are at most 63488, where there are at most 64 scenarios as well.
abbrev pub JoiningIsBounded : Type 0
JoiningIsBounded =
    (orders : List Order) (t : Columns) (list : Classes) → All (IsOrderOf (count_of orders)) orders → count_of orders ≤ OPERATION_LIMIT → length orders ≤ SCENARIO_LIMIT →
    AreColumnsOf orders t → AreClassesOf t list → sum_by (λ column. smaller_set column - 1) list.columns ≤ 63488

-- Places whose columns are pairwise incompatible deny each encoding that has fewer gates than they are, less the bits of a code.
abbrev pub CountBounds : Type 0
CountBounds =
    (orders : List Order) (patterns : List (List Bit3)) (operations bits : ℕ) (places : List Place) → All (IsOrderOf operations) orders →
    IsCountEvidence operations orders places → IsLowerBound operations orders patterns bits (length places - bits)

-- the places of the classes that are taken in order, each where it is incompatible with all before it, are such places
abbrev pub IncompatibleSetsAreEvidence : Type 0
IncompatibleSetsAreEvidence =
    (orders : List Order) (t : Columns) (list : Classes) (taken : List ℕ) → AreColumnsOf orders t → AreClassesOf t list →
    IsIncompatibleSet list.columns taken → IsCountEvidence (count_of orders) orders (map (place_at list) taken)

-- columns have one such set
abbrev pub IncompatibleSetsAreOne : Type 0
IncompatibleSetsAreOne = (columns : List (List Bit3)) (a b : List ℕ) → IsIncompatibleSet columns a → IsIncompatibleSet columns b → a ≡ b
