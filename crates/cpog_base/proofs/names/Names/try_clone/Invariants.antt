use Rattle.std.proofs.Common.{◌≡◌, take}
use Rattle.cpog_base.proofs.names.Names.try_clone.Given as goal

abbrev pub invariant-names : goal.invariant-names
invariant-names l = l.names ≡ take l.i l.self
