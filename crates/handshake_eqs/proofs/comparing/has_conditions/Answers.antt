use Rattle.std.proofs.Common.{◌≡◌, false, length, refl, arith}
use Rattle.std.proofs.lemmas.List.{ext_get_or}
use Rattle.cpog_defs.specs.declared.types.Ref.TheVariants.{Const}
use Rattle.handshake_eqs.proofs.comparing.has_conditions.Goals as goal

pub returns : goal.returns
returns c =
    let size : length c.args.netlist.now.conditions ≡ length c.args.graph.now.ops =
    omega (arith, c.if-count.false, c.count.ensures.count, c.count-2.ensures.count) in (
      λ _. ext_get_or (Const false) c.args.netlist.now.conditions c.args.graph.now.ops size
          (λ k l. c.loop-v.invariant k (omega (arith, l, size, c.loop-v-test.false, c.count-v-end.ensures.count))),
      λ _. refl,
    )
