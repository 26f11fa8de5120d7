use Rattle.std.proofs.Common.{true, refl, length}
use Rattle.netlist_verilog.specs.Wires.{Go, Idle, Acknowledge}
use Rattle.netlist_verilog.specs.Formulas.{Read, Not}
use Rattle.netlist_verilog.proofs.WritingLemmas.{each_written}
use Rattle.netlist_verilog.proofs.equations.put_idle.Goals as goal

pub returns : goal.returns
returns c =
    each_written c.args.design.now Idle (Not (Read Go)) (λ _. true) (λ v. Not (Read (Acknowledge v)))
    (length c.args.design.now.netlist.conditions) _ _ _ _
    (λ text. refl) c.in_ok-push_str.ensures.bytes c.in_ok-put_each_unacknowledged.ensures
    c.in_ok-push_str-2.ensures.bytes
