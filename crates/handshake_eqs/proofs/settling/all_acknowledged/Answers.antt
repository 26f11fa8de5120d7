use Rattle.std.proofs.Common.{Bool, not, ◌||◌, ℕ, sym, ap, ◌∙◌, arith}
use Rattle.std.specs.FinSet as set
use Rattle.cpog_defs.specs.Gates.{ref_value}
use Rattle.handshake_eqs.specs.Agreement.{condition_value}
use Rattle.handshake_eqs.proofs.SettleLemmas.{all_fails, neither}
use Rattle.handshake_eqs.proofs.settling.all_acknowledged.Goals as goal

pub returns-then-value : goal.returns-then-value
returns-then-value c =
    let p : ℕ → Bool = λ v. set.contains c.args.acks.now v || not (condition_value c.args.netlist.now c.args.values.now v) in
    let condition = c.value.ensures ∙ ap (ref_value c.args.values.now) c.condition.ensures in
    sym (all_fails p _ c.loop-v.v (omega (arith, c.loop-v-test.true, c.count-v-end.ensures.count)) (neither _ _ (sym c.contains.ensures ∙ c.if-not-contains.true) (sym condition ∙ c.if-value.true)))
