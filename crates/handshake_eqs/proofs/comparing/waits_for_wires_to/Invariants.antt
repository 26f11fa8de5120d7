use Rattle.std.proofs.Common.{◌<◌, ℕ, IsTrue, IsSome}
use Rattle.std.specs.FinSet as set
use Rattle.handshake_eqs.specs.Netlists.{wire_of, waits_of}
use Rattle.handshake_eqs.proofs.comparing.waits_for_wires_to.Given as goal

abbrev pub invariant-loop-u : goal.invariant-loop-u
invariant-loop-u l = (k : ℕ) → k < l.u → IsSome (wire_of l.netlist k l.v.0) → IsTrue (set.contains (waits_of l.netlist l.v.0) k)
