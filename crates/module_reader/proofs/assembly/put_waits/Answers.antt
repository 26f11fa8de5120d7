use Rattle.std.proofs.Common.{◌<◌, ◌≤◌, length, subst, sym, ap, arith, ◌∙◌, IsSome, slice_set}
use Rattle.std.specs.FinSet as set
use Rattle.cpog_defs.specs.Orders.{Set}
use Rattle.handshake_eqs.specs.Netlists.{Netlist, wire_of}
use Rattle.module_reader.proofs.AssemblyLaws.{waits_step, waits_done, sets_later, places_later}
use Rattle.module_reader.proofs.assembly.put_waits.Goals as goal

pub put_waits_of-requires-clause-few : goal.put_waits_of-requires-clause-few
put_waits_of-requires-clause-few c = subst (λ (k : Netlist). length k.conditions ≤ 128) (sym c.loop-v.invariant) (omega (arith, c.requires.few, c.requires.long))

pub put_waits_of-requires-clause-below : goal.put_waits_of-requires-clause-below
put_waits_of-requires-clause-below c = subst (λ (k : Netlist). c.loop-v.v < length k.conditions) (sym c.loop-v.invariant) (omega (arith, c.loop-v-test.true, c.requires.long))

pub put_waits_of-requires-clause-long : goal.put_waits_of-requires-clause-long
put_waits_of-requires-clause-long c = places_later c.args.netlist.now c.loop-v.netlist c.loop-v.v c.args.waits.now c.loop-v.invariant ∙ c.requires.places ∙ sym (ap (λ (k : Netlist). length k.conditions) c.loop-v.invariant)

pub put_waits_of-requires-clause-none : goal.put_waits_of-requires-clause-none
put_waits_of-requires-clause-none c = sets_later c.args.netlist.now c.loop-v.netlist c.loop-v.v c.args.waits.now c.loop-v.invariant (c.requires.long ∙ sym c.requires.places) (c.requires.none c.loop-v.v)

pub put_waits_of-requires-clause-declared : goal.put_waits_of-requires-clause-declared
put_waits_of-requires-clause-declared c = λ u there.
    subst (λ (k : Netlist). (u < length k.conditions) × IsSome (wire_of k u c.loop-v.v)) (sym c.loop-v.invariant) (c.requires.declared u c.loop-v.v (ap (λ (s : Set). set.contains s u) (sym c.set_at.ensures) ∙ there))

pub loop-v-preserved : goal.loop-v-preserved
loop-v-preserved c =
    let m : Netlist = c.loop-v.netlist in
    c.put_waits_of.ensures
    ∙ ap (λ (s : Set). record m { waits = slice_set m.waits c.loop-v.v s }) c.set_at.ensures
    ∙ waits_step c.args.netlist.now m c.loop-v.v c.args.waits.now c.loop-v.invariant (omega (arith, c.loop-v-test.true)) (c.requires.long ∙ sym c.requires.places)

pub returns : goal.returns
returns c = waits_done c.args.netlist.now c.loop-v.netlist c.loop-v.v c.args.waits.now c.loop-v.invariant (omega (arith, c.loop-v-test.false, c.loop-v.auto.v-end)) (c.requires.long ∙ sym c.requires.places)
