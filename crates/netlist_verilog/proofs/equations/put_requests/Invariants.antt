use Rattle.std.proofs.Common.{◌∷◌, []}
use Rattle.line_text.specs.Lines.{text_of}
use Rattle.cpog_defs.specs.Orders.{each_below}
use Rattle.netlist_verilog.specs.Equations.{request_equation}
use Rattle.netlist_verilog.specs.Rows.{equation_rows}
use Rattle.netlist_verilog.specs.Writes.{Writes}
use Rattle.netlist_verilog.proofs.equations.put_requests.Given as goal

abbrev pub invariant-requests : goal.invariant-requests
invariant-requests l = Writes l.initial.out l.out (text_of (equation_rows l.design (each_below (λ v. request_equation l.design.netlist v ∷ []) l.v)))
