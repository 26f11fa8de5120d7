use Rattle.std.proofs.Common.{◌≡◌, drop}
use Rattle.pg_normal.specs.Naming.{name_faults, faults_from, nothing, scope_from}
use Rattle.pg_normal.proofs.naming.scope_of.Given as goal

abbrev pub invariant-statements : goal.invariant-statements
invariant-statements l = record {
  faults : name_faults l.file ≡ faults_from l.scope (drop l.numbered-index l.file.statements);
  whole : scope_from nothing l.file.statements ≡ scope_from l.scope (drop l.numbered-index l.file.statements);
}
