use Rattle.std.proofs.Common.{◌≡◌, ◌<◌, ℕ}
use Rattle.cpog_defs.specs.Graphs.{op_ref}
use Rattle.handshake_eqs.specs.Netlists.{condition_of}
use Rattle.handshake_eqs.proofs.comparing.has_conditions.Given as goal

abbrev pub invariant-loop-v : goal.invariant-loop-v
invariant-loop-v l = (k : ℕ) → k < l.v → condition_of l.netlist k ≡ op_ref l.graph k
