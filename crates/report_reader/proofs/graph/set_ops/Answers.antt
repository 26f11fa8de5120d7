use Rattle.std.proofs.Common.{◌≡◌, ℕ, ◌<◌, length, arith, List}
use Rattle.cpog_defs.specs.declared.types.Ref.{Ref}
use Rattle.std.proofs.lemmas.List.{same_lists}
use Rattle.report_reader.proofs.graph.set_ops.Goals as goal

pub returns : goal.returns
returns c =
    let ops : c.loop-v.graph.ops ≡ c.args.ops.now = same_lists c.loop-v.graph.ops c.args.ops.now c.loop-v.invariant.0 (λ k d lt. c.loop-v.invariant.2 k d (omega (arith, lt, c.loop-v.invariant.0, c.loop-v-test.false))) in
    λ i. record { ops = ops i; arcs = c.loop-v.invariant.1 i }
