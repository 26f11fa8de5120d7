use Rattle.std.proofs.Common.{◌≡◌, take, false}
use Rattle.gate_template.specs.Families.{gives}
use Rattle.cnf_build.proofs.given.is_given_by_some.Given as goal

abbrev pub invariant-loop-k : goal.invariant-loop-k
invariant-loop-k l = gives (take l.k l.patterns) l.i ≡ false
