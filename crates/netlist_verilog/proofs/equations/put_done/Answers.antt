use Rattle.std.proofs.Common.{true, refl, length}
use Rattle.netlist_verilog.specs.Wires.{Go, Done}
use Rattle.netlist_verilog.specs.Formulas.{Read}
use Rattle.netlist_verilog.specs.Equations.{through_formula}
use Rattle.netlist_verilog.proofs.WritingLemmas.{each_written}
use Rattle.netlist_verilog.proofs.equations.put_done.Goals as goal

pub returns : goal.returns
returns c =
    each_written c.args.design.now Done (Read Go) (λ _. true) through_formula
    (length c.args.design.now.netlist.conditions) _ _ _ _
    (λ text. refl) c.in_ok-push_str.ensures.bytes c.in_ok-put_each_through.ensures
    c.in_ok-push_str-2.ensures.bytes
