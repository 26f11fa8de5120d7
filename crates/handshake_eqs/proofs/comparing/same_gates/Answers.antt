use Rattle.std.proofs.Common.{refl, arith}
use Rattle.cpog_base.proofs.NamesLemmas.{all_same}
use Rattle.handshake_eqs.proofs.comparing.same_gates.Goals as goal

pub returns : goal.returns
returns c = (
  λ _. all_same c.args.gates.now c.args.others.now (omega (arith, c.if-gates-others.false))
      (λ k l. c.loop-g.invariant k (omega (arith, l, c.loop-g-test.false))),
  λ _. refl,
)
