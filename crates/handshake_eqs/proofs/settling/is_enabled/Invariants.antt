use Rattle.std.specs.FinSet as set
use Rattle.handshake_eqs.proofs.MissingLemmas.{AreMissing}
use Rattle.handshake_eqs.proofs.settling.is_enabled.Given as goal

abbrev pub invariant-missing : goal.invariant-missing
invariant-missing l = AreMissing l.netlist l.values l.acks l.v.0 l.missing

abbrev pub decreases-missing : goal.decreases-missing
decreases-missing l = set.len l.missing
