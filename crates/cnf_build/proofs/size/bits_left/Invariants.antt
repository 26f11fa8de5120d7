use Rattle.std.proofs.Common.{◌≡◌, ◌≤◌}
use Rattle.gate_template.specs.Counts.{open_bits}
use Rattle.cnf_build.proofs.size.bits_left.Given as goal

abbrev pub invariant-loop-i : goal.invariant-loop-i
invariant-loop-i l = record { is : l.count ≡ open_bits l.patterns l.i; few : l.count ≤ l.i }
