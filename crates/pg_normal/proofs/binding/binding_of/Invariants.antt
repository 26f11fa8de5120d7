use Rattle.std.proofs.Common.{◌≡◌, ◌<◌, ℕ, ◌||◌, drop}
use Rattle.cpog_defs.specs.Codes.{bit}
use Rattle.pg_normal.specs.Normals.{binds, binds_one}
use Rattle.pg_normal.proofs.binding.binding_of.Given as goal

abbrev pub invariant-bindings : goal.invariant-bindings
invariant-bindings l = record {
  few : (l.binding.fixed < 64) × (l.binding.values < 64);
  fixed : (k : ℕ) → (bit l.binding.fixed k || binds l.params (drop l.name-index l.bindings) k) ≡ binds l.params l.bindings k;
  values : (k : ℕ) → (bit l.binding.values k || binds_one l.params (drop l.name-index l.bindings) k) ≡ binds_one l.params l.bindings k;
}
