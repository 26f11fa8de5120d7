use Rattle.std.proofs.Common.{◌≡◌, ◌≤◌, ◌*◌, take}
use Rattle.gate_template.specs.Counts.{all_defined}
use Rattle.cnf_build.proofs.size.all_defined_entries.Given as goal

abbrev pub invariant-loop-c : goal.invariant-loop-c
invariant-loop-c l = record { is : l.count ≡ all_defined (take l.c l.columns); few : l.count ≤ l.c * 64 }
