use Rattle.std.proofs.Common.{◌≡◌, drop}
use Rattle.std.specs.List.{flat_map}
use Rattle.pg_algebra.specs.Conditions.{params_of}
use Rattle.pg_normal.specs.Naming.{unknown_param}
use Rattle.pg_normal.proofs.naming.+condition.Given as goal

abbrev pub invariant-check_conditions-members : goal.invariant-check_conditions-members
invariant-check_conditions-members l =
    flat_map (unknown_param l.line l.params) (flat_map params_of l.members) ≡ flat_map (unknown_param l.line l.params)
    (flat_map params_of (drop l.member-index l.members))
