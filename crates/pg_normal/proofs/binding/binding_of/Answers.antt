use Rattle.std.proofs.Common.{ap, ◌||◌}
use Rattle.pg_normal.specs.Normals.{binds, binds_one}
use Rattle.pg_normal.proofs.binding.binding_of.Goals as goal

pub bindings-init : goal.bindings-init
bindings-init c = let none = c.no_binding-binding.ensures c.args.params.now in record {
  few = none.few;
  fixed = λ k. ap (λ b. b || binds c.args.params.now c.args.bindings.now k) (none.fixed k);
  values = λ k. ap (λ b. b || binds_one c.args.params.now c.args.bindings.now k) (none.values k);
}
