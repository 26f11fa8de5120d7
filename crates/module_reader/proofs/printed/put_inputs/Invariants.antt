use Rattle.std.proofs.Common.{◌+◌, true, string_bytes}
use Rattle.netlist_verilog.specs.Wires.{signal_text}
use Rattle.netlist_verilog.proofs.WritingLemmas.{IsJoined}
use Rattle.module_reader.proofs.printed.put_inputs.Given as goal

abbrev pub invariant-signals : goal.invariant-signals
invariant-signals l = IsJoined true l.first (λ k. signal_text l.inputs (0 + k)) l.k (string_bytes l.initial.out) (string_bytes l.out)
