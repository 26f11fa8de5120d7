use Rattle.std.proofs.Common.{true}
use Rattle.cpog_defs.specs.Orders.{each_below}
use Rattle.netlist_verilog.specs.Equations.{through_formula}
use Rattle.netlist_verilog.specs.Rows.{and_text}
use Rattle.netlist_verilog.specs.Writes.{Writes}
use Rattle.module_reader.specs.Modules.{plain_module}
use Rattle.module_reader.proofs.printed.put_each_through.Given as goal

abbrev pub invariant-operations : goal.invariant-operations
invariant-operations l = Writes l.initial.out l.out (each_below (λ v. and_text (plain_module l.ports.inputs l.ports.names) true (through_formula v)) l.v)
