use Rattle.std.proofs.Common.{◌≡◌, List, map, length, Option, Some, refl, sym, ap, subst, ◌∙◌, arith}
use Rattle.std.proofs.lemmas.List.{length-map}
use Rattle.std.specs.Vec.{with_item}
use Rattle.cpog_defs.specs.declared.types.Ref.{Ref}
use Rattle.cpog_defs.specs.Gates.{signal_count, IsRefOver}
use Rattle.gate_core.proofs.GraphLemmas.{row_changed}
use Rattle.handshake_eqs.specs.Netlists.{Netlist, IsNetlist}
use Rattle.handshake_eqs.proofs.PartLemmas.{with_wire, netlist-with_wire}
use Rattle.handshake_eqs.proofs.netlist.Netlist.add_wire.Goals as goal

pub invariant_of-self : goal.invariant_of-self
invariant_of-self c =
    let old : Netlist =
    record {
      gates = c.self.inside.gates;
      conditions = c.self.inside.conditions.items;
      wires = map
          (λ row. row.items) c.self.inside.wires.items;
      waits = c.self.inside.waits.items;
    } in
    let same : length old.conditions ≡ length c.args.self.now.conditions = ap (λ n. length n.conditions) c.self.view_is in
    let rows = length-map c.self.inside.wires.items (λ row. row.items) in
    let changed = row_changed (λ row. row.items) c.self.inside.wires.items c.args.u.0 c.args.v.0 (Some c.args.r) c.index_mut.result.now (with_item c.index_mut.result.now c.args.v.0 (Some c.args.r))
    (omega (arith, same, c.requires.first, rows, c.self.invariant.wires)) c.index_mut.ensures.value refl in
    let over : IsRefOver (signal_count old.gates) c.args.r = subst (λ n. IsRefOver (signal_count n.gates) c.args.r) (sym c.self.view_is) c.requires.over in
    subst (λ wires. IsNetlist (record old { wires = wires })) (sym changed)
    (netlist-with_wire old c.args.u.0 c.args.v.0 c.args.r c.self.invariant (omega (arith, same, c.requires.first)) (omega (arith, same, c.requires.second)) c.requires.differ over)

pub returns-clause-wires : goal.returns-clause-wires
returns-clause-wires c =
    let old : Netlist =
    record {
      gates = c.self.inside.gates;
      conditions = c.self.inside.conditions.items;
      wires = map
          (λ row. row.items) c.self.inside.wires.items;
      waits = c.self.inside.waits.items;
    } in
    let same : length old.conditions ≡ length c.args.self.now.conditions = ap (λ n. length n.conditions) c.self.view_is in
    let rows = length-map c.self.inside.wires.items (λ row. row.items) in
    let changed = row_changed (λ row. row.items) c.self.inside.wires.items c.args.u.0 c.args.v.0 (Some c.args.r) c.index_mut.result.now (with_item c.index_mut.result.now c.args.v.0 (Some c.args.r))
    (omega (arith, same, c.requires.first, rows, c.self.invariant.wires)) c.index_mut.ensures.value refl in
    let whole : List (List (Option Ref)) → Netlist = λ wires. record old { wires = wires } in
    ap whole changed ∙ ap (λ n. with_wire n c.args.u.0 c.args.v.0 c.args.r) c.self.view_is
