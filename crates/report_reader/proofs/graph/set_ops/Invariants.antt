use Rattle.std.proofs.Common.{◌≡◌, ℕ, ◌<◌, false, get_or, length}
use Rattle.cpog_defs.specs.declared.types.Ref.{Ref}
use Rattle.report_reader.proofs.graph.set_ops.Given as goal

abbrev pub invariant-loop-v : goal.invariant-loop-v
invariant-loop-v l = (length l.graph.ops ≡ length l.ops) × (l.graph.arcs ≡ l.initial.graph.arcs) × ((k : ℕ) (d : Ref) → k < l.v → get_or l.graph.ops k d ≡ get_or l.ops k d)
