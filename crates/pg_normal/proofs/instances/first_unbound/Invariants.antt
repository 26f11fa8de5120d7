use Rattle.std.proofs.Common.{◌≡◌, ◌<◌, ℕ, false}
use Rattle.cpog_defs.specs.Codes.{bit}
use Rattle.pg_normal.specs.Changes.{KeepsGraph}
use Rattle.pg_normal.proofs.instances.first_unbound.Given as goal

abbrev pub invariant-parameters : goal.invariant-parameters
invariant-parameters l = (j : ℕ) → j < l.k → bit l.binding.fixed j ≡ false → KeepsGraph l.form j l.among.0
