use Rattle.std.proofs.Common.{◌≡◌, length, refl, arith}
use Rattle.cpog_base.proofs.NamesLemmas.{all_same}
use Rattle.cpog_base.proofs.names.Names.equals.Goals as goal

pub returns : goal.returns
returns c =
    let size : length c.args.self.now ≡ length c.args.other.now = omega (arith, c.if-len.false, c.len.ensures.len, c.len-2.ensures.len) in (
      λ _. all_same c.args.self.now c.args.other.now size (λ k l. c.names.invariant k (omega (arith, l, c.names-test.false, c.len-i-end.ensures.len))),
      λ _. refl,
    )
