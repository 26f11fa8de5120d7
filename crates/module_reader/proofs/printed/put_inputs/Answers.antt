use Rattle.std.proofs.Common.{◌≡◌, ℕ, ◌+◌, true, ap, arith}
use Rattle.netlist_verilog.specs.Wires.{signal_text}
use Rattle.netlist_verilog.proofs.WritingLemmas.{joined_more}
use Rattle.module_reader.proofs.printed.put_inputs.Goals as goal

pub signals-preserved : goal.signals-preserved
signals-preserved c =
    joined_more true c.signals.first (λ k. signal_text c.args.inputs (0 + k)) c.signals.k _ _ _ _ _ c.separator.ensures (ap (signal_text c.args.inputs) (number_is c.signals.k)) c.in_ok-write.ensures.bytes c.signals.invariant
  where
    number_is : (k : ℕ) → k ≡ 0 + k
    number_is k = omega arith
