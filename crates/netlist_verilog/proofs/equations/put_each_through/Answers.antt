use Rattle.std.proofs.Common.{refl, ◌∙◌, ap}
use Rattle.netlist_verilog.specs.Wires.{name_of}
use Rattle.netlist_verilog.proofs.WritingLemmas.{through_more, name_at}
use Rattle.netlist_verilog.proofs.equations.put_each_through.Goals as goal

pub operations-preserved : goal.operations-preserved
operations-preserved c =
    through_more c.args.design.now c.operations.v _ _ _ _
    (name_at c.names-names.result.now c.operations.v c.operations.v _ refl c.get-name.ensures
    ∙ ap (λ ns. name_of ns c.operations.v) c.names-names.ensures.names) c.operations.invariant
    c.in_ok-write.ensures.bytes
