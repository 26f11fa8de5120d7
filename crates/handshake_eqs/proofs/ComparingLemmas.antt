-- Netlists that are compared with an encoding part by part.
use Rattle.std.proofs.Common.{◌≡◌, ℕ, ◌<◌, ◌≤◌, length, None, slice_index_or, [], sym, ap, ◌∙◌, inl, inr, arith}
use Rattle.std.proofs.lemmas.Bool.{cases_lt}
use Rattle.std.proofs.lemmas.List.{get_or_past}
use Rattle.cpog_defs.specs.Graphs.{ConditionalGraph, arc_ref}
use Rattle.gate_core.specs.Square.{IsSquare}
use Rattle.handshake_eqs.specs.Netlists.{Netlist, IsNetlist, wire_of, unless_zero, HasWiresFrom}
use Rattle.handshake_eqs.proofs.EncodedLemmas.{first_past, second_past}

-- no arc wire leads from a number past the operations
pub none_from_past : (n : Netlist) (u v : ℕ) → IsNetlist n → length n.conditions ≤ u → wire_of n u v ≡ None
none_from_past n u v is past = ap (λ row. slice_index_or row v None) (get_or_past n.wires u [] (omega (arith, is.wires, past)))

-- nor does one lead to it
pub none_to_past : (n : Netlist) (u v : ℕ) → IsNetlist n → length n.conditions ≤ v → wire_of n u v ≡ None
none_to_past n u v is past = elim (cases_lt u (length n.conditions)) [
  | inl l ↦ get_or_past (slice_index_or n.wires u []) v None (omega (arith, is.rows u l, past))
  | inr g ↦ none_from_past n u v is g
]

-- the arc wires from an operation are those to the operations
pub wires_from_below : (graph : ConditionalGraph) (n : Netlist) (u : ℕ) → IsNetlist n → IsSquare graph → length n.conditions ≡ length graph.ops →
    ((v : ℕ) → v < length graph.ops → wire_of n u v ≡ unless_zero (arc_ref graph u v)) → HasWiresFrom graph n u
wires_from_below graph n u is square count below v = elim (cases_lt v (length graph.ops)) [
  | inl l ↦ below v l
  | inr g ↦ none_to_past n u v is (omega (arith, count, g)) ∙ sym (ap unless_zero (second_past graph (length graph.ops) u v square.arcs square.rows g))
]

-- and the arc wires are those from the operations
pub wires_below : (graph : ConditionalGraph) (n : Netlist) → IsNetlist n → IsSquare graph → length n.conditions ≡ length graph.ops →
    ((u : ℕ) → u < length graph.ops → HasWiresFrom graph n u) → (u : ℕ) → HasWiresFrom graph n u
wires_below graph n is square count below u v = elim (cases_lt u (length graph.ops)) [
  | inl l ↦ below u l v
  | inr g ↦ none_from_past n u v is (omega (arith, count, g)) ∙ sym (ap unless_zero (first_past graph u v (omega (arith, square.arcs, g))))
]
