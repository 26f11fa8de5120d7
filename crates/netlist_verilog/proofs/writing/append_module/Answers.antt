use Rattle.netlist_verilog.proofs.WritingLemmas.{module_written}
use Rattle.netlist_verilog.proofs.writing.append_module.Goals as goal

pub returns : goal.returns
returns c =
    module_written c.args.design.now _ _ _ _ _ _ _ _ _ _ c.in_ok-put_ports.ensures c.in_ok-put_wires.ensures
    c.in_ok-put_gates.ensures c.in_ok-put_conditions.ensures c.in_ok-put_arcs.ensures c.in_ok-put_requests.ensures
    c.in_ok-put_done.ensures c.in_ok-put_idle.ensures c.in_ok-push_str.ensures.bytes
