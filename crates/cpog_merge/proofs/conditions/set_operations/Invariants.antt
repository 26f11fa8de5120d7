use Rattle.std.proofs.Common.{◌≡◌, ◌<◌, ℕ, length}
use Rattle.cpog_defs.specs.declared.types.Place.TheVariants.{Op}
use Rattle.cpog_defs.specs.Graphs.{op_ref}
use Rattle.cpog_merge.specs.ByClass.{condition_at}
use Rattle.cpog_merge.proofs.conditions.set_operations.Given as goal

abbrev pub invariant-loop-v : goal.invariant-loop-v
invariant-loop-v l = record {
  count : length l.graph.ops ≡ l.list.count;
  done : (w : ℕ) → w < l.v → op_ref l.graph w ≡ condition_at l.list l.refs (Op (record { 0 = w }));
}
