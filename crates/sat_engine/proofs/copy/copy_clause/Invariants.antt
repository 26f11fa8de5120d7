use Rattle.std.proofs.Common.{take}
use Rattle.proof_check.specs.Marks.{Represent, IsTable}
use Rattle.sat_engine.specs.Copies.{IsCopy}
use Rattle.sat_engine.proofs.copy.copy_clause.Given as goal

abbrev pub invariant-loop-lit : goal.invariant-loop-lit
invariant-loop-lit l = record {
  copy : IsCopy (take l.lit-index l.clause) l.into.items l.both;
  table : IsTable l.variables l.marks.items l.stamp;
  marked : Represent l.variables l.marks.items l.stamp l.into.items;
}
