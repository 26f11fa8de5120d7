use Rattle.std.proofs.Common.{◌≡◌, false, map, replicate}
use Rattle.cpog_defs.specs.declared.types.Ref.TheVariants.{Const}
use Rattle.gate_core.proofs.graph.ConditionalGraph.new.Given as goal

abbrev pub invariant-loop-u : goal.invariant-loop-u
invariant-loop-u l = map (λ row. row.items) l.arcs.items ≡ replicate l._u (replicate l.count (Const false))
