use Rattle.std.proofs.Common.{drop}
use Rattle.pg_normal.proofs.DenotingLemmas.{At}
use Rattle.pg_normal.proofs.denoting.scenarios_of.Given as goal

abbrev pub invariant-forms : goal.invariant-forms
invariant-forms l = At l.file (drop l.normal-index l.normals.normals) l.scenarios.items
