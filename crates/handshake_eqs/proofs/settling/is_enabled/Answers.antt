use Rattle.std.proofs.Common.{Bool, not, ◌||◌, ℕ, length, sym, ap, ◌∙◌}
use Rattle.std.proofs.lemmas.Bool.{and_from, and_parts, and_right}
use Rattle.std.specs.FinSet as set
use Rattle.std.specs.Ordering.{nat_cmp}
use Rattle.cpog_defs.specs.Gates.{ref_value}
use Rattle.handshake_eqs.specs.Netlists.{waits_of}
use Rattle.handshake_eqs.specs.Agreement.{condition_value, arc_satisfied}
use Rattle.handshake_eqs.proofs.NetlistLemmas.{all_tells}
use Rattle.handshake_eqs.proofs.SettleLemmas.{all_fails, unsatisfied}
use Rattle.handshake_eqs.proofs.MissingLemmas.{missing_first, missing_next, fewer_missing, awaited_below}
use Rattle.handshake_eqs.proofs.settling.is_enabled.Goals as goal

pub missing-init : goal.missing-init
missing-init c = rw (c.difference-missing.ensures, c.waits.ensures) (missing_first c.args.netlist.now c.args.values.now c.args.acks.now c.args.v.0)

pub is_awaited-requires-clause-first : goal.is_awaited-requires-clause-first
is_awaited-requires-clause-first c =
    awaited_below c.args.netlist.now c.args.v.0 c.in-Some.u.0 c.requires.netlist (c.missing.invariant.awaited c.in-Some.u.0 c.in-Some.ensures.member)

pub returns-then-is_awaited : goal.returns-then-is_awaited
returns-then-is_awaited c =
    let n = c.args.netlist.now in
    let values = c.args.values.now in
    let u = c.in-Some.u.0 in
    let p : ℕ → Bool = λ u. not (set.contains (waits_of n c.args.v.0) u) || arc_satisfied n values c.args.acks.now c.args.v.0 u in
    let waits = c.missing.invariant.awaited u c.in-Some.ensures.member in
    let both = and_parts _ _ (sym c.is_awaited.ensures ∙ c.if-is_awaited.true) in
    sym (and_right (condition_value n values c.args.v.0) _ (all_fails p (length n.conditions) u (awaited_below n c.args.v.0 u c.requires.netlist waits)
    (unsatisfied _ _ _ _ waits (c.missing.invariant.unacknowledged u c.in-Some.ensures.member) both.0 both.1)))

pub missing-smaller : goal.missing-smaller
missing-smaller c = rw c.remove.ensures (fewer_missing c.missing.missing c.in-Some.u.0 c.in-Some.ensures.member)

pub missing-preserved : goal.missing-preserved
missing-preserved c = rw c.remove.ensures (missing_next c.args.netlist.now c.args.values.now c.args.acks.now c.args.v.0 c.missing.missing c.in-Some.u.0 c.missing.invariant
    (sym c.is_awaited.ensures ∙ c.if-is_awaited.false))

pub returns : goal.returns
returns c =
    let n = c.args.netlist.now in
    let values = c.args.values.now in
    let p : ℕ → Bool = λ u. not (set.contains (waits_of n c.args.v.0) u) || arc_satisfied n values c.args.acks.now c.args.v.0 u in
    let condition = c.value.ensures ∙ ap (ref_value values) c.condition.ensures in
    sym (and_from _ _ (sym condition ∙ c.if-not-value.false)
    ((all_tells p (length n.conditions)).1 (λ u _. c.missing.invariant.others u (ap (λ s. set.contains s u) c.in_default.ensures ∙ set.contains-empty nat_cmp u))))
