use Rattle.std.proofs.Common.{false}
use Rattle.netlist_verilog.specs.Rows.{joined, wire_texts, arc_wires_from}
use Rattle.netlist_verilog.specs.Writes.{Writes}
use Rattle.netlist_verilog.proofs.declarations.put_arc_wires_from.Given as goal

abbrev pub invariant-seconds : goal.invariant-seconds
invariant-seconds l = Writes l.initial.out l.out (joined false (wire_texts l.design (arc_wires_from l.design.netlist l.u.0 l.v)))
