use Rattle.std.proofs.Common.{◌≡◌, ◌≢◌, ◌<◌, ℕ, [], length, slice_index_or}
use Rattle.cpog_defs.specs.declared.types.Place.TheVariants.{Arc}
use Rattle.cpog_defs.specs.Graphs.{arc_ref}
use Rattle.cpog_merge.specs.ByClass.{condition_at}
use Rattle.cpog_merge.proofs.conditions.set_arcs_from.Given as goal

abbrev pub invariant-loop-v : goal.invariant-loop-v
invariant-loop-v l = record {
  ops : l.graph.ops ≡ l.fn.graph.ops;
  arcs : length l.graph.arcs ≡ l.list.count;
  row : length (slice_index_or l.graph.arcs l.u.0 []) ≡ l.list.count;
  done : (w : ℕ) → w < l.v → l.u.0 ≢ w → arc_ref l.graph l.u.0 w ≡ condition_at l.list l.refs (Arc l.u (record { 0 = w }));
  others : (a b : ℕ) → a ≢ l.u.0 → arc_ref l.graph a b ≡ arc_ref l.fn.graph a b;
}
