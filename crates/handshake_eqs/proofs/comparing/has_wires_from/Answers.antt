use Rattle.std.proofs.Common.{refl, arith}
use Rattle.handshake_eqs.proofs.ComparingLemmas.{wires_from_below}
use Rattle.handshake_eqs.proofs.comparing.has_wires_from.Goals as goal

pub returns : goal.returns
returns c = (
  λ _. wires_from_below c.args.graph.now c.args.netlist.now c.args.u.0 c.requires.netlist c.count-v-end.ensures.square
      c.requires.count (λ v l. c.loop-v.invariant v (omega (arith, l, c.loop-v-test.false, c.count-v-end.ensures.count))),
  λ _. refl,
)
