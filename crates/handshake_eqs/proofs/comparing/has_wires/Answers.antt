use Rattle.std.proofs.Common.{refl, arith}
use Rattle.handshake_eqs.proofs.ComparingLemmas.{wires_below}
use Rattle.handshake_eqs.proofs.comparing.has_wires.Goals as goal

pub returns : goal.returns
returns c = (
  λ _. wires_below c.args.graph.now c.args.netlist.now c.requires.netlist c.count-u-end.ensures.square c.requires.count
      (λ u l. c.loop-u.invariant u (omega (arith, l, c.loop-u-test.false, c.count-u-end.ensures.count))),
  λ _. refl,
)
