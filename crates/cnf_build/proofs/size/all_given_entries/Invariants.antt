use Rattle.std.proofs.Common.{◌≡◌, ◌≤◌, ◌*◌, take}
use Rattle.gate_template.specs.Counts.{all_defined}
use Rattle.cnf_build.proofs.size.all_given_entries.Given as goal

abbrev pub invariant-loop-s : goal.invariant-loop-s
invariant-loop-s l = record { is : l.count ≡ all_defined (take l.s l.patterns); few : l.count ≤ l.s * 8 }
