use Rattle.std.proofs.Common.{refl}
use Rattle.netlist_verilog.proofs.WritingLemmas.{through_more, name_at}
use Rattle.module_reader.specs.Modules.{plain_module}
use Rattle.module_reader.proofs.printed.put_each_through.Goals as goal

pub operations-preserved : goal.operations-preserved
operations-preserved c =
    through_more (plain_module c.args.ports.now.inputs c.args.ports.now.names) c.operations.v _ _ _ _
    (name_at c.args.ports.now.names c.operations.v c.operations.v _ refl c.get-name.ensures) c.operations.invariant
    c.in_ok-write.ensures.bytes
