use Rattle.std.proofs.Common.{◌≡◌, false, replicate, sym, ap, subst, ◌∙◌, arith}
use Rattle.cpog_defs.specs.declared.types.Ref.TheVariants.{Const}
use Rattle.gate_core.specs.Square.{IsSquare}
use Rattle.gate_core.proofs.GraphLemmas.{square_of_zeros, zero_graph}
use Rattle.gate_core.proofs.graph.ConditionalGraph.new.Goals as goal

pub invariant_of-result : goal.invariant_of-result
invariant_of-result c =
    let all : c.loop-u._u ≡ c.args.count = omega (arith, c.loop-u.auto, c.loop-u-test.false) in
    let arcs = c.loop-u.invariant ∙ ap (λ n. replicate n (replicate c.args.count (Const false))) all in
    subst IsSquare (sym (zero_graph c.args.count c.in_ok-ops.ensures arcs)) (square_of_zeros c.args.count c.requires)

pub returns : goal.returns
returns c =
    let all : c.loop-u._u ≡ c.args.count = omega (arith, c.loop-u.auto, c.loop-u-test.false) in
    zero_graph c.args.count c.in_ok-ops.ensures (c.loop-u.invariant ∙ ap (λ n. replicate n (replicate c.args.count (Const false))) all)
