use Rattle.std.proofs.Common.{get_or, ◌∷◌, []}
use Rattle.line_text.specs.Lines.{text_of}
use Rattle.cpog_defs.specs.Orders.{each_below}
use Rattle.report_text.specs.Rows.{gate_row}
use Rattle.netlist_verilog.specs.Writes.{Writes}
use Rattle.report_text.proofs.writing.put_gates.Given as goal

abbrev pub invariant-gates : goal.invariant-gates
invariant-gates l = Writes l.initial.out l.out (text_of (each_below (λ g. gate_row l.bits g (get_or l.gates g (record { j = 0; k = 0; table = 0 })) ∷ []) l.g))
