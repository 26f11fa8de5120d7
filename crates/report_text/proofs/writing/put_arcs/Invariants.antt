use Rattle.std.proofs.Common.{length}
use Rattle.line_text.specs.Lines.{text_of}
use Rattle.cpog_defs.specs.Orders.{each_below}
use Rattle.report_text.specs.Rows.{arc_lines_from}
use Rattle.netlist_verilog.specs.Writes.{Writes}
use Rattle.report_text.proofs.writing.put_arcs.Given as goal

abbrev pub invariant-firsts : goal.invariant-firsts
invariant-firsts l = Writes l.initial.out l.out (text_of (each_below (λ u. arc_lines_from l.bits l.names l.graph u (length l.names)) l.u))
