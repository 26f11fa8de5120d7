use Rattle.std.proofs.Common.{length}
use Rattle.line_text.specs.Lines.{text_of}
use Rattle.cpog_defs.specs.Orders.{each_below}
use Rattle.netlist_verilog.specs.Equations.{arc_equations_from}
use Rattle.netlist_verilog.specs.Rows.{equation_rows}
use Rattle.netlist_verilog.specs.Writes.{Writes}
use Rattle.netlist_verilog.proofs.equations.put_arcs.Given as goal

abbrev pub invariant-firsts : goal.invariant-firsts
invariant-firsts l = Writes l.initial.out l.out (text_of (equation_rows l.design (each_below (λ u. arc_equations_from l.design.netlist u (length l.design.netlist.conditions)) l.u)))
