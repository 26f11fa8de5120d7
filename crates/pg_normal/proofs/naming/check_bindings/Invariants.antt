use Rattle.std.proofs.Common.{◌≡◌, [], drop}
use Rattle.pg_normal.specs.Naming.{binding_faults}
use Rattle.pg_normal.proofs.naming.check_bindings.Given as goal

abbrev pub invariant-bindings : goal.invariant-bindings
invariant-bindings l = binding_faults l.line l.params [] l.bindings ≡ binding_faults l.line l.params l.bound (drop l.name-index l.bindings)
