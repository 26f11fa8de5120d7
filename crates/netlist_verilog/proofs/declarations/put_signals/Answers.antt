use Rattle.std.proofs.Common.{◌+◌, true, refl}
use Rattle.netlist_verilog.specs.Wires.{signal_text}
use Rattle.netlist_verilog.proofs.WritingLemmas.{joined_more}
use Rattle.netlist_verilog.proofs.declarations.put_signals.Goals as goal

pub signals-preserved : goal.signals-preserved
signals-preserved c =
    joined_more true c.signals.first (λ k. signal_text c.args.inputs (c.args.start + k)) c.signals.k _ _ _ _ _ c.separator.ensures refl c.in_ok-write.ensures.bytes c.signals.invariant
