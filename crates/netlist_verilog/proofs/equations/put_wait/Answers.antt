use Rattle.std.proofs.Common.{◌∙◌, ap}
use Rattle.handshake_eqs.specs.Netlists.{Netlist, waits_of}
use Rattle.netlist_verilog.specs.Wires.{name_of}
use Rattle.netlist_verilog.proofs.WritingLemmas.{wait_written, name_at}
use Rattle.netlist_verilog.proofs.equations.put_wait.Goals as goal

pub returns-in_ok-write : goal.returns-in_ok-write
returns-in_ok-write c =
    wait_written c.args.design.now c.args.u.0 c.args.v.0 _ c.waits.result c.contains.result _ _
    (name_at c.names.result.now _ c.args.u.0 _ c.from.ensures c.get-name.ensures ∙ ap (λ ns. name_of ns c.args.u.0) c.names.ensures.names)
    (c.waits.ensures ∙ ap (λ (n : Netlist). waits_of n c.args.v.0) c.netlist.ensures)
    c.contains.ensures c.if-contains.true c.in_ok-write.ensures.bytes
