use Rattle.std.proofs.Common.{length, is_some, ap, ◌∙◌, arith}
use Rattle.handshake_eqs.specs.Netlists.{Netlist, wire_of}
use Rattle.module_reader.proofs.AssemblyLaws.{wired_below}
use Rattle.module_reader.proofs.assembly.netlist_of.Goals as goal

pub put_waits-requires-clause-declared : goal.put_waits-requires-clause-declared
put_waits-requires-clause-declared c = λ u v h.
    let there = c.requires.declared u v h in
    let lt = wired_below _ c.requires u v there in
    let count = ap (λ (k : Netlist). length k.conditions) c.in_ok-put_wires.ensures ∙ ap (λ (k : Netlist). length k.conditions) c.put_conditions.ensures in
    (omega (arith, lt, count), ap is_some (ap (λ (k : Netlist). wire_of k u v) c.in_ok-put_wires.ensures) ∙ there)
