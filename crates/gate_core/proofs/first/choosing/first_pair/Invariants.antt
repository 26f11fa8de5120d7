use Rattle.std.proofs.Common.{ℕ, ◌<◌}
use Rattle.gate_core.specs.Words.{NoneWith}
use Rattle.gate_core.proofs.first.choosing.first_pair.Given as goal

abbrev pub invariant-loop-j : goal.invariant-loop-j
invariant-loop-j l = (j : ℕ) → j < l.j → NoneWith l.asked.ones l.asked.zeros l.inputs j
