use Rattle.std.proofs.Common.{◌∷◌, []}
use Rattle.line_text.specs.Lines.{text_of}
use Rattle.cpog_defs.specs.Orders.{each_below}
use Rattle.netlist_verilog.specs.Equations.{gate_at, gate_equation}
use Rattle.netlist_verilog.specs.Rows.{equation_rows}
use Rattle.netlist_verilog.specs.Writes.{Writes}
use Rattle.netlist_verilog.proofs.equations.put_gates.Given as goal

abbrev pub invariant-gates : goal.invariant-gates
invariant-gates l = Writes l.initial.out l.out (text_of (equation_rows l.design (each_below (λ g. gate_equation l.design.netlist.gates.inputs g (gate_at l.design.netlist.gates g) ∷ []) l.g)))
