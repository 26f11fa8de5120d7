-- Netlists of a controller: gates, conditions, arc wires, and what each operation waits for.
use Rattle.std.specs.Prelude.{◌≡◌, ◌↔◌, ℕ, ◌<◌, ◌≤◌, true, false, IsTrue, List, [], length, slice_index_or, Option, None, Some, IsSome}
use Rattle.std.specs.FinSet as set
use Rattle.cpog_defs.specs.declared.types.Ref.{Ref}
use Rattle.cpog_defs.specs.declared.types.Ref.TheVariants.{Const, Signal}
use Rattle.cpog_defs.specs.Orders.{Set}
use Rattle.cpog_defs.specs.Gates.{GateList, IsRefOver, signal_count}
use Rattle.cpog_defs.specs.Graphs.{ConditionalGraph, arc_ref}
use Rattle.cpog_defs.specs.Encodings.{Encoding}

-- gates, a condition for each operation, a row of arc wires for each, each with its condition where it is declared,
-- and the set that each waits for
pub record Netlist : Type 0 where
  pub gates : GateList
  pub conditions : List Ref
  pub wires : List (List (Option Ref))
  pub waits : List Set

-- the condition of an operation: the constant 0 past the last one
abbrev pub condition_of : Netlist → ℕ → Ref
condition_of n v = slice_index_or n.conditions v (Const false)

-- the arc wire from u to v, with its condition where it is declared
abbrev pub wire_of : Netlist → ℕ → ℕ → Option Ref
wire_of n u v = slice_index_or (slice_index_or n.wires u []) v None

-- the operations for which v waits
abbrev pub waits_of : Netlist → ℕ → Set
waits_of n v = slice_index_or n.waits v set.empty

-- an arc wire that is declared speaks of one of so many signals
abbrev pub IsWireOver : ℕ → Option Ref → Type 0
IsWireOver signals None = Unit {0}
IsWireOver signals (Some r) = IsRefOver signals r

-- at most 128 operations with all that belongs to each, no arc wire from one to itself, conditions over the signals,
-- and waits only where an arc wire is declared
pub record IsNetlist (n : Netlist) : Type 0 where
  pub few : length n.conditions ≤ 128
  pub wires : length n.wires ≡ length n.conditions
  pub rows : (u : ℕ) → u < length n.conditions → length (slice_index_or n.wires u []) ≡ length n.conditions
  pub waits : length n.waits ≡ length n.conditions
  pub diagonal : (u : ℕ) → wire_of n u u ≡ None
  pub conditions_over : (v : ℕ) → IsRefOver (signal_count n.gates) (condition_of n v)
  pub wires_over : (u v : ℕ) → IsWireOver (signal_count n.gates) (wire_of n u v)
  pub declared : (u v : ℕ) → IsTrue (set.contains (waits_of n v) u) → IsSome (wire_of n u v)

-- the arc wire of a condition: none for the constant 0
abbrev pub unless_zero : Ref → Option Ref
unless_zero (Const false) = None
unless_zero (Const true) = Some (Const true)
unless_zero (Signal number negated) = Some (Signal number negated)

-- the arc wires that lead from u are those of a graph's conditions
abbrev pub HasWiresFrom : ConditionalGraph → Netlist → ℕ → Type 0
HasWiresFrom graph n u = (v : ℕ) → wire_of n u v ≡ unless_zero (arc_ref graph u v)

-- v waits for each operation from which an arc wire leads to it
abbrev pub WaitsForWires : Netlist → ℕ → Type 0
WaitsForWires n v = (u : ℕ) → IsSome (wire_of n u v) → IsTrue (set.contains (waits_of n v) u)

-- the netlist of an encoding: an arc wire for each pair whose condition isn't the constant 0, and each operation
-- waits for exactly these
pub record IsNetlistOf (e : Encoding) (n : Netlist) : Type 0 where
  pub netlist : IsNetlist n
  pub gates : n.gates ≡ e.gates
  pub conditions : n.conditions ≡ e.graph.ops
  pub wires : (u v : ℕ) → wire_of n u v ≡ unless_zero (arc_ref e.graph u v)
  pub waits : (u v : ℕ) → IsTrue (set.contains (waits_of n v) u) ↔ IsSome (wire_of n u v)
