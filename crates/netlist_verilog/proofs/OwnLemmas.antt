-- What a module declares, assigns and reads are its own wires.
use Rattle.std.proofs.Common.{ℕ, ◌+◌, ◌<◌, ◌≤◌, List, [], ◌∷◌, ◌++◌, length, map, take, slice_index_or, sym, subst, arith, Option, None, Some}
use Rattle.std.specs.List.{AllByRecursion, All, Contains}
use Rattle.std.proofs.lemmas.List.{get_or-map, length-map}
use Rattle.std.proofs.lemmas.List.Elements.{All-from_recursion, recursion_from_All, All-append, All-take, All-contains}
use Rattle.cpog_defs.specs.declared.types.Ref.{Ref}
use Rattle.cpog_defs.specs.Gates.{signal_count}
use Rattle.handshake_eqs.specs.Netlists.{Netlist, wire_of}
use Rattle.netlist_verilog.specs.Module.{ModuleValue, IsModule, IsWireOf}
use Rattle.netlist_verilog.specs.Wires.{Wire, Signal, Acknowledge, Request, Done, Idle, Condition}
use Rattle.netlist_verilog.specs.Formulas.{Equation}
use Rattle.netlist_verilog.specs.Equations.{equations}
use Rattle.netlist_verilog.specs.Rows.{signals_from, for_each, input_wires, output_wires, arc_wire, arc_wires_from, arc_wires, inner_wires}
use Rattle.netlist_verilog.specs.Laws.{known_at, IsEquationOf, HasItsWires, HasOneDriverEach}
use Rattle.netlist_verilog.proofs.ValueLemmas.{parts_joined, parts_below}
use Rattle.netlist_verilog.proofs.FormulaLemmas.{reads_more, names_more}
use Rattle.netlist_verilog.proofs.DriverLemmas.{one_driver}

-- ---- declared wires

signals_own : (m : ModuleValue) (start count : ℕ) → start + count ≤ signal_count m.netlist.gates → AllByRecursion (IsWireOf m) (signals_from start count)
signals_own m start count le = parts_below (IsWireOf m) (λ k. Signal (start + k) ∷ []) count (λ k lt. (omega (arith, le, lt), tt))

arc_wire_own : (m : ModuleValue) (u v : ℕ) (w : Option Ref) → u < length m.netlist.conditions → v < length m.netlist.conditions → AllByRecursion (IsWireOf m) (arc_wire u v w)
arc_wire_own m u v None hu hv = tt
arc_wire_own m u v (Some r) hu hv = ((hu, hv), tt)

pub inputs_own : (m : ModuleValue) → AllByRecursion (IsWireOf m) (input_wires m.netlist)
inputs_own m =
    parts_joined (IsWireOf m) (signals_from 0 m.netlist.gates.inputs) _
    (signals_own m 0 m.netlist.gates.inputs (omega arith))
    (tt, parts_below (IsWireOf m) (λ v. Acknowledge v ∷ []) (length m.netlist.conditions) (λ v lt. (lt, tt)))

pub outputs_own : (m : ModuleValue) → AllByRecursion (IsWireOf m) (output_wires m.netlist)
outputs_own m =
    parts_joined (IsWireOf m) (for_each Request (length m.netlist.conditions)) (Done ∷ Idle ∷ [])
    (parts_below (IsWireOf m) (λ v. Request v ∷ []) (length m.netlist.conditions) (λ v lt. (lt, tt))) (tt, (tt, tt))

pub inner_own : (m : ModuleValue) → AllByRecursion (IsWireOf m) (inner_wires m.netlist)
inner_own m =
    let n : Netlist = m.netlist in
    let count : ℕ = length n.conditions in
    parts_joined (IsWireOf m) (signals_from n.gates.inputs (length n.gates.gates)) _ (signals_own m n.gates.inputs (length n.gates.gates) (omega arith))
    (parts_joined (IsWireOf m) (for_each Condition count) (arc_wires n) (parts_below (IsWireOf m) (λ v. Condition v ∷ []) count (λ v lt. (lt, tt)))
    (parts_below (IsWireOf m) (λ u. arc_wires_from n u count) count (λ u lu. parts_below (IsWireOf m) (λ v. arc_wire u v (wire_of n u v)) count (λ v lv. arc_wire_own m u v (wire_of n u v) lu lv))))

-- ---- equations

known_own : (m : ModuleValue) (i : ℕ) (w : Wire) → Contains (known_at m.netlist i) w → IsWireOf m w
known_own m i w =
    let inner : List Wire = inner_wires m.netlist in
    All-contains (IsWireOf m) (known_at m.netlist i) w (All-append (IsWireOf m) (input_wires m.netlist) (take i inner)
    (All-from_recursion (IsWireOf m) (input_wires m.netlist) (inputs_own m)) (All-take (IsWireOf m) i inner (All-from_recursion (IsWireOf m) inner (inner_own m))))

-- each assigns an inner wire or an output, and speaks of what is known
pub equations_over : (m : ModuleValue) → IsModule m → AllByRecursion (IsEquationOf m) (equations m.netlist)
equations_over m is =
    let n : Netlist = m.netlist in
    let es : List Equation = equations n in
    let wire : Equation → Wire = λ e. e.wire in
    let drivers : HasOneDriverEach m = one_driver m is in
    let assigned : All (IsWireOf m) (map wire es) =
    subst (All (IsWireOf m)) (sym drivers.assigned)
    (All-from_recursion (IsWireOf m) (inner_wires n ++ output_wires n)
    (parts_joined (IsWireOf m) (inner_wires n) (output_wires n) (inner_own m) (outputs_own m))) in
    recursion_from_All (IsEquationOf m) es (λ i d lt.
    let e : Equation = slice_index_or es i d in
    let speaks = drivers.reads_known i d lt in
    record {
      assigned = subst (IsWireOf m) (get_or-map wire es i d (wire d) lt) (assigned i (wire d) (omega (arith, lt, length-map es wire)));
      read = reads_more (Contains (known_at n i)) (IsWireOf m) (known_own m i) e.formula speaks.read;
      named = names_more (Contains (known_at n i)) (IsWireOf m) (known_own m i) e.comment speaks.named;
    })

pub its_wires : (m : ModuleValue) → IsModule m → HasItsWires m
its_wires m is = record {
  declared = parts_joined (IsWireOf m) (input_wires m.netlist) _ (inputs_own m) (parts_joined (IsWireOf m) (output_wires m.netlist) (inner_wires m.netlist) (outputs_own m) (inner_own m));
  equations_over = equations_over m is;
}
