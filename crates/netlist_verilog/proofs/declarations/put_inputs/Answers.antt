use Rattle.std.proofs.Common.{◌∙◌, ap}
use Rattle.handshake_eqs.specs.Netlists.{Netlist}
use Rattle.netlist_verilog.proofs.WritingLemmas.{inputs_written}
use Rattle.netlist_verilog.proofs.declarations.put_inputs.Goals as goal

pub returns : goal.returns
returns c =
    inputs_written c.args.design.now c.bits-bits.result c.from.result c.names.result.now _ _ _ _
    c.names.ensures.module (c.bits-bits.ensures.bits
    ∙ ap (λ (n : Netlist). n.gates.inputs) c.netlist.ensures) c.from.ensures c.names.ensures.names
    c.in_ok-put_signals.ensures c.in_ok-push_str.ensures.bytes c.in_ok-put_names.ensures
