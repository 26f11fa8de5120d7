use Rattle.std.proofs.Common.{List, length, map, refl, sym, ap, subst, ◌∙◌, ◌≡◌, ◌<◌, arith}
use Rattle.std.proofs.lemmas.List.{length-map}
use Rattle.cpog_defs.specs.declared.types.Ref.{Ref}
use Rattle.std.specs.Vec.{with_item}
use Rattle.cpog_defs.specs.Graphs.{ConditionalGraph}
use Rattle.gate_core.specs.Square.{IsSquare}
use Rattle.gate_core.proofs.GraphLemmas.{row_seen, row_changed, square_with_arc, with_arc}
use Rattle.gate_core.proofs.graph.ConditionalGraph.set_arc.Goals as goal

pub index_mut-requires-2 : goal.index_mut-requires-2
index_mut-requires-2 c =
    let ops : length c.self.inside.ops.items ≡ length c.args.self.now.ops = ap (λ g. length g.ops) c.self.view_is in
    let lu : c.args.u.0 < length c.self.inside.ops.items = omega (arith, ops, c.requires.first) in
    let rows = length-map c.self.inside.arcs.items (λ row. row.items) in
    let seen = row_seen (λ row. row.items) c.self.inside.arcs.items c.args.u.0 c.index_mut.result.now (omega (arith, lu, rows, c.self.invariant.arcs)) c.index_mut.ensures.value in
    let long : length c.index_mut.result.now.items ≡ length c.self.inside.ops.items = ap length (sym seen) ∙ c.self.invariant.rows c.args.u.0 lu in
    omega (arith, long, ops, c.requires.second)

pub invariant_of-self : goal.invariant_of-self
invariant_of-self c =
    let ops : length c.self.inside.ops.items ≡ length c.args.self.now.ops = ap (λ g. length g.ops) c.self.view_is in
    let lu : c.args.u.0 < length c.self.inside.ops.items = omega (arith, ops, c.requires.first) in
    let rows = length-map c.self.inside.arcs.items (λ row. row.items) in
    let changed = row_changed (λ row. row.items) c.self.inside.arcs.items c.args.u.0 c.args.v.0 c.args.r c.index_mut.result.now (with_item c.index_mut.result.now c.args.v.0 c.args.r)
    (omega (arith, lu, rows, c.self.invariant.arcs)) c.index_mut.ensures.value refl in
    let old : ConditionalGraph = record { ops = c.self.inside.ops.items; arcs = map (λ row. row.items) c.self.inside.arcs.items } in
    subst (λ arcs. IsSquare (record { ops = c.self.inside.ops.items; arcs = arcs })) (sym changed) (square_with_arc old c.args.u.0 c.args.v.0 c.args.r c.self.invariant lu c.requires.differ)

pub returns : goal.returns
returns c =
    let ops : length c.self.inside.ops.items ≡ length c.args.self.now.ops = ap (λ g. length g.ops) c.self.view_is in
    let rows = length-map c.self.inside.arcs.items (λ row. row.items) in
    let changed = row_changed (λ row. row.items) c.self.inside.arcs.items c.args.u.0 c.args.v.0 c.args.r c.index_mut.result.now (with_item c.index_mut.result.now c.args.v.0 c.args.r)
    (omega (arith, ops, c.requires.first, rows, c.self.invariant.arcs)) c.index_mut.ensures.value refl in
    let whole : (arcs : List (List Ref)) → ConditionalGraph = λ arcs. record { ops = c.self.inside.ops.items; arcs = arcs } in
    ap whole changed ∙ ap (λ g. with_arc g c.args.u.0 c.args.v.0 c.args.r) c.self.view_is
