use Rattle.gate_core.proofs.GateLemmas.{length-signal_values}
use Rattle.gate_core.proofs.laws.signals_are_counted.Goals as goal

pub returns : goal.returns
returns c = length-signal_values
