use Rattle.std.proofs.Common.{◌∷◌, []}
use Rattle.line_text.specs.Lines.{text_of}
use Rattle.cpog_defs.specs.Orders.{each_below}
use Rattle.cpog_defs.specs.Graphs.{op_ref}
use Rattle.netlist_verilog.specs.Wires.{name_of}
use Rattle.report_text.specs.Rows.{op_row}
use Rattle.netlist_verilog.specs.Writes.{Writes}
use Rattle.report_text.proofs.writing.put_ops.Given as goal

abbrev pub invariant-ops : goal.invariant-ops
invariant-ops l = Writes l.initial.out l.out (text_of (each_below (λ v. op_row l.bits (name_of l.names v) (op_ref l.graph v) ∷ []) l.v))
