use Rattle.report_text.specs.Rows.{digits_of}
use Rattle.netlist_verilog.specs.Writes.{Writes}
use Rattle.report_text.proofs.signals.put_digits.Given as goal

abbrev pub invariant-bits : goal.invariant-bits
invariant-bits l = Writes l.initial.out l.out (digits_of l.i l.word)
