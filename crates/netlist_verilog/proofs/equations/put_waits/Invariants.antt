use Rattle.std.specs.FinSet as set
use Rattle.cpog_defs.specs.Orders.{each_below}
use Rattle.handshake_eqs.specs.Netlists.{waits_of}
use Rattle.netlist_verilog.specs.Equations.{arc_formula}
use Rattle.netlist_verilog.specs.Rows.{and_text}
use Rattle.netlist_verilog.specs.Writes.{Writes}
use Rattle.netlist_verilog.proofs.equations.put_waits.Given as goal

abbrev pub invariant-waits : goal.invariant-waits
invariant-waits l = Writes l.initial.out l.out (each_below (λ u. and_text l.design (set.contains (waits_of l.design.netlist l.v.0) u) (arc_formula l.v.0 u)) l.u)
