use Rattle.gate_core.proofs.GateLemmas.{gate-signal}
use Rattle.gate_core.proofs.laws.gate_signal.Goals as goal

pub returns : goal.returns
returns c = gate-signal
