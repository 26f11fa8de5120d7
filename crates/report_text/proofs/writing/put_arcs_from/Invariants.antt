use Rattle.line_text.specs.Lines.{text_of}
use Rattle.report_text.specs.Rows.{arc_lines_from}
use Rattle.netlist_verilog.specs.Writes.{Writes}
use Rattle.report_text.proofs.writing.put_arcs_from.Given as goal

abbrev pub invariant-seconds : goal.invariant-seconds
invariant-seconds l = Writes l.initial.out l.out (text_of (arc_lines_from l.bits l.names l.graph l.u.0 l.v))
