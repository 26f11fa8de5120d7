use Rattle.std.proofs.Common.{length, sym, ap, ◌∙◌, ◌≡◌, ◌<◌, arith}
use Rattle.std.proofs.lemmas.List.{length-map}
use Rattle.gate_core.proofs.GraphLemmas.{row_seen}
use Rattle.gate_core.proofs.graph.ConditionalGraph.arc.Goals as goal

pub index-requires : goal.index-requires
index-requires c =
    let ops : length c.self.inside.ops.items ≡ length c.args.self.now.ops = ap (λ g. length g.ops) c.self.view_is in
    let lu : c.args.u.0 < length c.self.inside.ops.items = omega (arith, ops, c.requires.first) in
    let rows = length-map c.self.inside.arcs.items (λ row. row.items) in
    let seen = row_seen (λ row. row.items) c.self.inside.arcs.items c.args.u.0 c.index-row.result.now (omega (arith, lu, rows, c.self.invariant.arcs)) c.index-row.ensures in
    let long : length c.index-row.result.now.items ≡ length c.self.inside.ops.items = ap length (sym seen) ∙ c.self.invariant.rows c.args.u.0 lu in
    omega (arith, long, ops, c.requires.second)
