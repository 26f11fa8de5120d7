use Rattle.line_text.specs.Lines.{text_of}
use Rattle.cpog_defs.specs.Orders.{each_below}
use Rattle.handshake_eqs.specs.Netlists.{wire_of}
use Rattle.netlist_verilog.specs.Equations.{arc_equation}
use Rattle.netlist_verilog.specs.Rows.{equation_rows}
use Rattle.netlist_verilog.specs.Writes.{Writes}
use Rattle.netlist_verilog.proofs.equations.put_arcs_from.Given as goal

abbrev pub invariant-seconds : goal.invariant-seconds
invariant-seconds l = Writes l.initial.out l.out (text_of (equation_rows l.design (each_below (λ v. arc_equation l.u.0 v (wire_of l.design.netlist l.u.0 v)) l.v)))
