use Rattle.netlist_verilog.proofs.WritingLemmas.{ports_written}
use Rattle.netlist_verilog.proofs.declarations.put_ports.Goals as goal

pub returns : goal.returns
returns c =
    ports_written _ _ _ _ _ _ _ _ _ _ _ _ c.in_ok-push_str.ensures.bytes c.in_ok-put_inputs.ensures c.in_ok-push_str-2.ensures.bytes c.in_ok-put_outputs.ensures c.in_ok-push_str-3.ensures.bytes
    c.in_ok-put_inputs-2.ensures c.in_ok-push_str-4.ensures.bytes c.in_ok-put_outputs-2.ensures c.in_ok-push_str-5.ensures.bytes
