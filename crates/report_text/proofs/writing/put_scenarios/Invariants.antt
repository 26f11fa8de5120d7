use Rattle.line_text.specs.Lines.{text_of}
use Rattle.cpog_defs.specs.Orders.{each_below}
use Rattle.report_text.specs.Rows.{scenario_lines}
use Rattle.netlist_verilog.specs.Writes.{Writes}
use Rattle.report_text.proofs.writing.put_scenarios.Given as goal

abbrev pub invariant-scenarios : goal.invariant-scenarios
invariant-scenarios l = Writes l.initial.out l.out (text_of (each_below (scenario_lines l.report) l.s))
