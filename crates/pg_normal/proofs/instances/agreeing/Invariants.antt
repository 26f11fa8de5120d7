use Rattle.std.proofs.Common.{◌≡◌, ◌<◌, ◌↔◌, ℕ, true}
use Rattle.cpog_defs.specs.Codes.{bit}
use Rattle.pg_normal.proofs.instances.agreeing.Given as goal

abbrev pub invariant-parameters : goal.invariant-parameters
invariant-parameters l = (n : ℕ) → n < 64 → (bit l.all.0 n ≡ true) ↔ ((j : ℕ) → j < l.k → bit l.binding.fixed j ≡ true → bit n j ≡ bit l.binding.values j)
