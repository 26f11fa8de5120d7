use Rattle.std.specs.Prelude.{◌≤◌, length}
use Rattle.pg_normal.proofs.ListingLemmas.{At}
use Rattle.pg_normal.proofs.listing.forms_in.Given as goal

abbrev pub invariant-statements : goal.invariant-statements
invariant-statements l = record {
  at : At l.count l.file l.known l.i l.normals.items;
  few : length l.normals.items ≤ l.i;
}
