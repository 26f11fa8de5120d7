use Rattle.std.proofs.Common.{◌∙◌, ap, refl, length}
use Rattle.cpog_defs.specs.Gates.{GateList}
use Rattle.handshake_eqs.specs.Netlists.{Netlist}
use Rattle.netlist_verilog.proofs.WritingLemmas.{wires_written}
use Rattle.netlist_verilog.proofs.declarations.put_wire_line.Goals as goal

pub returns : goal.returns
returns c =
    wires_written c.args.design.now c.bits-bits.result c.from.result c.len-gates.result _ c.names.result.now _ _ _ _ _ _ c.names.ensures.module c.requires
    (c.bits-bits.ensures.bits ∙ ap (λ (n : Netlist). n.gates.inputs) c.netlist.ensures) c.from.ensures
    (c.len-gates.ensures.len ∙ ap (λ (l : GateList). length l.gates) c.gates.ensures.gates ∙ ap (λ (n : Netlist). length n.gates.gates) c.netlist-2.ensures) refl c.names.ensures.names
    c.in_ok-push_str.ensures.bytes c.in_ok-put_signals.ensures c.in_ok-put_names.ensures c.in_ok-put_arc_wires.ensures c.in_ok-push_str-2.ensures.bytes
