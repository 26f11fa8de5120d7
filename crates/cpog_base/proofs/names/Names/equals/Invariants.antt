use Rattle.std.proofs.Common.{◌≡◌, ◌<◌, ℕ, slice_get}
use Rattle.cpog_base.proofs.names.Names.equals.Given as goal

abbrev pub invariant-names : goal.invariant-names
invariant-names l = (k : ℕ) → k < l.i → slice_get l.self k ≡ slice_get l.other k
