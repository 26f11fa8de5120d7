use Rattle.std.proofs.Common.{sym, ◌∙◌, arith}
use Rattle.std.specs.FinSet as set
use Rattle.handshake_eqs.proofs.SettleLemmas.{any_found}
use Rattle.handshake_eqs.proofs.settling.any_acknowledged.Goals as goal

pub returns-then-contains : goal.returns-then-contains
returns-then-contains c = sym (any_found (set.contains c.args.acks.now) _ c.loop-v.v (omega (arith, c.loop-v-test.true, c.count-v-end.ensures.count)) (sym c.contains.ensures ∙ c.if-contains.true))
