use Rattle.std.proofs.Common.{arith, refl}
use Rattle.cpog_outside.proofs.laws.memory_is_quiet.Goals as goal

pub returns-clause-sink : goal.returns-clause-sink
returns-clause-sink c = λ s count none fits. rw none (omega arith)

pub returns-clause-source : goal.returns-clause-source
returns-clause-source c = λ s none. rw none refl
