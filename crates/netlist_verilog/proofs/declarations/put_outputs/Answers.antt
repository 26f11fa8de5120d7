use Rattle.netlist_verilog.proofs.WritingLemmas.{outputs_written}
use Rattle.netlist_verilog.proofs.declarations.put_outputs.Goals as goal

pub returns : goal.returns
returns c =
    outputs_written c.args.design.now c.len-first.result c.names-names.result.now _ _ _ _ c.names-names.ensures.module
    c.names-names.ensures.names c.len-first.ensures.len c.separator.ensures c.in_ok-put_names.ensures
    c.in_ok-write.ensures.bytes
