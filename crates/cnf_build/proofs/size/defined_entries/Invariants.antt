use Rattle.std.proofs.Common.{◌≡◌, ◌≤◌, take}
use Rattle.gate_template.specs.Counts.{defined}
use Rattle.cnf_build.proofs.size.defined_entries.Given as goal

abbrev pub invariant-loop-s : goal.invariant-loop-s
invariant-loop-s l = record { is : l.count ≡ defined (take l.s l.column); few : l.count ≤ l.s }
