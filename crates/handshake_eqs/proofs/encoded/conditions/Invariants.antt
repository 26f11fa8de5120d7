use Rattle.std.proofs.Common.{◌≡◌, take}
use Rattle.handshake_eqs.proofs.encoded.conditions.Given as goal

abbrev pub invariant-loop-v : goal.invariant-loop-v
invariant-loop-v l = l.refs.items ≡ take l.v l.graph.ops
