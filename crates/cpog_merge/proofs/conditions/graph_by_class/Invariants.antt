use Rattle.std.proofs.Common.{◌≡◌, ◌≢◌, ◌<◌, ℕ, length}
use Rattle.cpog_defs.specs.declared.types.Place.TheVariants.{Op, Arc}
use Rattle.cpog_defs.specs.Graphs.{op_ref, arc_ref}
use Rattle.cpog_merge.specs.ByClass.{condition_at}
use Rattle.cpog_merge.proofs.conditions.graph_by_class.Given as goal

abbrev pub invariant-loop-u : goal.invariant-loop-u
invariant-loop-u l = record {
  count : length l.graph.ops ≡ l.list.count;
  ops : (w : ℕ) → w < l.list.count → op_ref l.graph w ≡ condition_at l.list l.refs (Op (record { 0 = w }));
  done : (a b : ℕ) → a < l.u → b < l.list.count → a ≢ b → arc_ref l.graph a b ≡ condition_at l.list l.refs (Arc (record { 0 = a }) (record { 0 = b }));
}
