use Rattle.std.proofs.Common.{take}
use Rattle.report_text.specs.Rows.{blank_names}
use Rattle.netlist_verilog.specs.Writes.{Writes}
use Rattle.report_text.proofs.writing.put_names.Given as goal

abbrev pub invariant-names : goal.invariant-names
invariant-names l = Writes l.initial.out l.out (blank_names (take l.v l.names))
