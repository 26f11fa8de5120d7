use Rattle.std.proofs.Common.{false, length}
use Rattle.cpog_defs.specs.Orders.{each_below}
use Rattle.netlist_verilog.specs.Rows.{joined, wire_texts, arc_wires_from}
use Rattle.netlist_verilog.specs.Writes.{Writes}
use Rattle.netlist_verilog.proofs.declarations.put_arc_wires.Given as goal

abbrev pub invariant-firsts : goal.invariant-firsts
invariant-firsts l = Writes l.initial.out l.out (joined false (wire_texts l.design (each_below (λ u. arc_wires_from l.design.netlist u (length l.design.netlist.conditions)) l.u)))
