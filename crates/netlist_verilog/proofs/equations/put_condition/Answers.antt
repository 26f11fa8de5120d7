use Rattle.std.proofs.Common.{◌∙◌, ap}
use Rattle.handshake_eqs.specs.Netlists.{Netlist, condition_of}
use Rattle.netlist_verilog.specs.Wires.{name_of}
use Rattle.netlist_verilog.proofs.WritingLemmas.{condition_written, name_at}
use Rattle.netlist_verilog.proofs.equations.put_condition.Goals as goal

pub returns : goal.returns
returns c =
    condition_written c.args.design.now c.args.v.0 _ c.condition.result _ _ _ _
    (name_at c.names.result.now _ c.args.v.0 _ c.from.ensures c.get-name.ensures ∙ ap (λ ns. name_of ns c.args.v.0) c.names.ensures.names)
    (c.condition.ensures ∙ ap (λ (n : Netlist). condition_of n c.args.v.0) c.netlist.ensures)
    c.in_ok-write.ensures.bytes c.in_ok-put_ref.ensures c.in_ok-push_str.ensures.bytes
