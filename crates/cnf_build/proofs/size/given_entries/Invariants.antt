use Rattle.std.proofs.Common.{◌≡◌, ◌≤◌, take}
use Rattle.gate_template.specs.Counts.{defined}
use Rattle.cnf_build.proofs.size.given_entries.Given as goal

abbrev pub invariant-loop-i : goal.invariant-loop-i
invariant-loop-i l = record { is : l.count ≡ defined (take l.i l.pattern); few : l.count ≤ l.i }
