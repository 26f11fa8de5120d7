use Rattle.std.proofs.Common.{◌≡◌, ◌<◌, map, length, IsSome, slice_set, sym, ap, subst, ◌∙◌, arith}
use Rattle.std.proofs.lemmas.List.{get_or_default}
use Rattle.std.specs.FinSet as set
use Rattle.handshake_eqs.specs.Netlists.{Netlist, IsNetlist, wire_of}
use Rattle.handshake_eqs.proofs.PartLemmas.{netlist-with_wait}
use Rattle.handshake_eqs.proofs.netlist.Netlist.add_wait.Goals as goal

pub invariant_of-self : goal.invariant_of-self
invariant_of-self c =
    let old : Netlist =
    record {
      gates = c.self.inside.gates;
      conditions = c.self.inside.conditions.items;
      wires = map
          (λ row. row.items) c.self.inside.wires.items;
      waits = c.self.inside.waits.items;
    } in
    let same : length old.conditions ≡ length c.args.self.now.conditions = ap (λ n. length n.conditions) c.self.view_is in
    let lv : c.args.v.0 < length old.waits = omega (arith, same, c.requires.second, c.self.invariant.waits) in
    let before = c.index_mut.ensures.value ∙ get_or_default old.waits c.args.v.0 c.index_mut.result.now set.empty lv in
    let declared : IsSome (wire_of old c.args.u.0 c.args.v.0) = subst (λ n. IsSome (wire_of n c.args.u.0 c.args.v.0)) (sym c.self.view_is) c.requires.declared in
    subst (λ s. IsNetlist (record old { waits = slice_set old.waits c.args.v.0 s })) (sym (c.insert.ensures ∙ ap (λ s. set.insert s c.args.u.0) before))
    (netlist-with_wait old c.args.u.0 c.args.v.0 c.self.invariant (omega (arith, same, c.requires.second)) declared)
