use Rattle.pg_normal.proofs.ListingLemmas.{no_bindings}
use Rattle.pg_normal.proofs.binding.no_binding.Goals as goal

pub returns : goal.returns
returns c params = no_bindings params
