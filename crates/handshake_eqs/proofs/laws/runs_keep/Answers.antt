use Rattle.handshake_eqs.specs.declared.machine.Machine.TheVariants.{Idle}
use Rattle.handshake_eqs.proofs.MachineLemmas.{run_keeps}
use Rattle.handshake_eqs.proofs.laws.runs_keep.Goals as goal

pub returns : goal.returns
returns c = λ orders codes same events m run. run_keeps orders codes same events Idle m tt run
