use Rattle.std.proofs.Common.{◌≡◌, drop}
use Rattle.std.specs.List.{flat_map}
use Rattle.pg_normal.specs.Naming.{expr_faults}
use Rattle.pg_normal.proofs.naming.+expression.Given as goal

abbrev pub invariant-check_expressions-members : goal.invariant-check_expressions-members
invariant-check_expressions-members l = flat_map (expr_faults l.line l.scope) l.members ≡ flat_map (expr_faults l.line l.scope) (drop l.member-index l.members)
