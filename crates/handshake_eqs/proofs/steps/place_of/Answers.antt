use Rattle.std.proofs.Common.{◌≤◌, length, arith}
use Rattle.handshake_eqs.proofs.StepLemmas.{few_distinct}
use Rattle.handshake_eqs.proofs.steps.place_of.Goals as goal

pub overflow_cast-result : goal.overflow_cast-result
overflow_cast-result c = let few : length c.args.codes.now ≤ 256 =
    few_distinct 256 c.args.codes.now c.requires (λ i _. let fits = c.type_inv.codes i in omega (arith, fits)) in
    omega (arith, few, c.loop-s-test.true)
