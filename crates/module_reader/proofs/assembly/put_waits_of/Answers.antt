use Rattle.std.proofs.Common.{◌<◌, length, subst, sym, ap, arith, ◌∙◌, IsSome, Bool, cond, slice_set}
use Rattle.std.specs.FinSet as set
use Rattle.handshake_eqs.specs.Netlists.{Netlist, wire_of, waits_of}
use Rattle.module_reader.proofs.AssemblyLaws.{wait_start, wait_step, set_done}
use Rattle.module_reader.proofs.assembly.put_waits_of.Goals as goal

pub loop-u-init : goal.loop-u-init
loop-u-init c = wait_start c.args.netlist.now c.args.v c.requires.none

pub put_wait-requires-clause-first : goal.put_wait-requires-clause-first
put_wait-requires-clause-first c = subst (λ (k : Netlist). c.loop-u.u < length k.conditions) (sym c.loop-u.invariant) (omega (arith, c.loop-u-test.true, c.count-count.ensures.count))

pub put_wait-requires-clause-second : goal.put_wait-requires-clause-second
put_wait-requires-clause-second c = subst (λ (k : Netlist). c.args.v < length k.conditions) (sym c.loop-u.invariant) c.requires.below

pub put_wait-requires-clause-declared : goal.put_wait-requires-clause-declared
put_wait-requires-clause-declared c = λ there.
    subst (λ (k : Netlist). IsSome (wire_of k c.loop-u.u c.args.v)) (sym c.loop-u.invariant) (c.requires.declared c.loop-u.u (sym c.contains.ensures ∙ there)).1

pub loop-u-preserved : goal.loop-u-preserved
loop-u-preserved c =
    let m : Netlist = c.loop-u.netlist in
    c.put_wait.ensures
    ∙ ap (λ (b : Bool). record m { waits = slice_set m.waits c.args.v (cond b (set.insert (waits_of m c.args.v) c.loop-u.u) (waits_of m c.args.v)) }) c.contains.ensures
    ∙ wait_step c.args.netlist.now m c.loop-u.u c.args.v c.args.waits c.loop-u.invariant (omega (arith, c.requires.below, c.requires.long))

pub returns : goal.returns
returns c =
    set_done c.args.netlist.now c.loop-u.netlist c.loop-u.u c.args.v c.args.waits c.loop-u.invariant
    (λ a h. omega (arith, (c.requires.declared a h).0, c.loop-u-test.false, c.count-count.ensures.count))
