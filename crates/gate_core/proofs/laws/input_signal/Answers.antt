use Rattle.gate_core.proofs.GateLemmas.{input-signal}
use Rattle.gate_core.proofs.laws.input_signal.Goals as goal

pub returns : goal.returns
returns c = input-signal
