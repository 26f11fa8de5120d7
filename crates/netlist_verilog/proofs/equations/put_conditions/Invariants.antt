use Rattle.std.proofs.Common.{◌∷◌, []}
use Rattle.line_text.specs.Lines.{text_of}
use Rattle.cpog_defs.specs.Orders.{each_below}
use Rattle.handshake_eqs.specs.Netlists.{condition_of}
use Rattle.netlist_verilog.specs.Equations.{condition_equation}
use Rattle.netlist_verilog.specs.Rows.{equation_rows}
use Rattle.netlist_verilog.specs.Writes.{Writes}
use Rattle.netlist_verilog.proofs.equations.put_conditions.Given as goal

abbrev pub invariant-conditions : goal.invariant-conditions
invariant-conditions l = Writes l.initial.out l.out (text_of (equation_rows l.design (each_below (λ v. condition_equation v (condition_of l.design.netlist v) ∷ []) l.v)))
