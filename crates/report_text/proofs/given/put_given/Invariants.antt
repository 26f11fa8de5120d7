use Rattle.std.proofs.Common.{map, take}
use Rattle.netlist_verilog.specs.Writes.{Writes}
use Rattle.report_text.specs.Rows.{entry_digit}
use Rattle.report_text.proofs.given.put_given.Given as goal

abbrev pub invariant-bits : goal.invariant-bits
invariant-bits l = Writes l.initial.out l.out (map entry_digit (take l.i l.pattern))
