use Rattle.std.proofs.Common.{◌≡◌, ◌++◌, take, drop}
use Rattle.pg_normal.specs.Naming.{all_again}
use Rattle.pg_normal.proofs.naming.define_all.Given as goal

abbrev pub invariant-names : goal.invariant-names
invariant-names l = record {
  faults : all_again l.line l.fn.names l.more ≡ all_again l.line l.names (drop l.name-index l.more);
  names : l.names ≡ l.fn.names ++ take l.name-index l.more;
}
