use Rattle.std.proofs.Common.{length, sym, ap, ◌∙◌, ◌≡◌, ◌<◌, arith}
use Rattle.std.proofs.lemmas.List.{length-map}
use Rattle.gate_core.proofs.GraphLemmas.{row_seen}
use Rattle.handshake_eqs.proofs.netlist.Netlist.arc_wire.Goals as goal

pub index-requires : goal.index-requires
index-requires c =
    let long_conditions : length c.self.inside.conditions.items ≡ length c.args.self.now.conditions = ap (λ g. length g.conditions) c.self.view_is in
    let lu : c.args.u.0 < length c.self.inside.conditions.items = omega (arith, long_conditions, c.requires.first) in
    let rows = length-map c.self.inside.wires.items (λ row. row.items) in
    let seen = row_seen (λ row. row.items) c.self.inside.wires.items c.args.u.0 c.index-row.result.now (omega (arith, lu, rows, c.self.invariant.wires)) c.index-row.ensures in
    let long : length c.index-row.result.now.items ≡ length c.self.inside.conditions.items = ap length (sym seen) ∙ c.self.invariant.rows c.args.u.0 lu in
    omega (arith, long, long_conditions, c.requires.second)
