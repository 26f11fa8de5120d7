use Rattle.std.proofs.Common.{ap, ◌∙◌, sym, arith}
use Rattle.std.specs.FinSet as set
use Rattle.cpog_base.specs.Arcs.{has_arc}
use Rattle.cpog_defs.specs.Codes.{bit}
use Rattle.pg_normal.proofs.ChangeLemmas.{arc_has_ends, arc_ends_below}
use Rattle.pg_normal.proofs.ListedLemmas.{arc_added, arc_skipped, all_in_front, has_with_arc}
use Rattle.pg_normal.proofs.instances.add_arcs.Goals as goal
use Rattle.pg_normal.proofs.instances.add_arcs.Goals.{then-value_at+in_ok-add_arc, else-value_at}

pub overflow_cast-u : goal.overflow_cast-u
overflow_cast-u c =
    let below = (arc_ends_below c.args.scenario.now.count c.args.form.now c.arc_ends-u.result.0 c.arc_ends-u.result.1 c.args.n c.arcs-i-end.ensures.form c.requires.below c.requires.valuation
    (ap (λ t. bit t c.args.n) (sym c.arc_table.ensures) ∙ sym c.value_at.ensures ∙ c.if-value_at.true)).0 in
    omega (arith, below, c.requires.few)

pub overflow_cast-v : goal.overflow_cast-v
overflow_cast-v c =
    let below = (arc_ends_below c.args.scenario.now.count c.args.form.now c.arc_ends-u.result.0 c.arc_ends-u.result.1 c.args.n c.arcs-i-end.ensures.form c.requires.below c.requires.valuation
    (ap (λ t. bit t c.args.n) (sym c.arc_table.ensures) ∙ sym c.value_at.ensures ∙ c.if-value_at.true)).1 in
    omega (arith, below, c.requires.few)

pub add_arc-requires-clause-first : goal.add_arc-requires-clause-first
add_arc-requires-clause-first c = ap (λ ops. set.contains ops c.arc_ends-u.result.0) c.arcs.invariant.ops ∙ c.requires.ops c.arc_ends-u.result.0
    ∙ (arc_has_ends c.args.form.now c.arc_ends-u.result.0 c.arc_ends-u.result.1 c.args.n c.arcs-i-end.ensures.form
    c.requires.valuation (ap (λ t. bit t c.args.n) (sym c.arc_table.ensures) ∙ sym c.value_at.ensures
    ∙ c.if-value_at.true)).0

pub add_arc-requires-clause-second : goal.add_arc-requires-clause-second
add_arc-requires-clause-second c = ap (λ ops. set.contains ops c.arc_ends-u.result.1) c.arcs.invariant.ops ∙ c.requires.ops c.arc_ends-u.result.1
    ∙ (arc_has_ends c.args.form.now c.arc_ends-u.result.0 c.arc_ends-u.result.1 c.args.n c.arcs-i-end.ensures.form
    c.requires.valuation (ap (λ t. bit t c.args.n) (sym c.arc_table.ensures) ∙ sym c.value_at.ensures
    ∙ c.if-value_at.true)).1

pub arcs-preserved : goal.arcs-preserved
arcs-preserved c = elim c.if-value_at.branch [
  | then-value_at+in_ok-add_arc w ↦ record {
    size = ap (λ sc. sc.count) (w.scenario-is ∙ w.in_ok-add_arc.ensures.ok) ∙ c.arcs.invariant.size;
    ops = ap (λ sc. sc.ops) (w.scenario-is ∙ w.in_ok-add_arc.ensures.ok) ∙ c.arcs.invariant.ops;
    arcs =
        λ a b. arc_added c.args.form.now c.args.n c.arcs.i c.arc_ends-u.result.0 c.arc_ends-u.result.1 a b
        c.arc_ends-u.ensures (has_arc c.arcs.scenario.arcs a b) (has_arc c.if-value_at.scenario.arcs a b)
        (ap (λ t. bit t c.args.n) (sym c.arc_table.ensures) ∙ sym c.value_at.ensures ∙ w.if-value_at.true)
        (ap (λ sc. has_arc sc.arcs a b) (w.scenario-is ∙ w.in_ok-add_arc.ensures.ok) ∙ has_with_arc c.arcs.scenario.arcs c.arc_ends-u.result.0 c.arc_ends-u.result.1 a b)
        (c.arcs.invariant.arcs a b);
  }
  | else-value_at w ↦ record {
    size = ap (λ sc. sc.count) w.scenario-is ∙ c.arcs.invariant.size;
    ops = ap (λ sc. sc.ops) w.scenario-is ∙ c.arcs.invariant.ops;
    arcs = λ a b. ap (λ sc. has_arc sc.arcs a b) w.scenario-is
        ∙ arc_skipped c.args.form.now c.args.n c.arcs.i c.arc_ends-u.result.0 c.arc_ends-u.result.1 a b c.arc_ends-u.ensures (has_arc c.arcs.scenario.arcs a b)
        (ap (λ t. bit t c.args.n) (sym c.arc_table.ensures) ∙ sym c.value_at.ensures ∙ w.if-value_at.false) (c.arcs.invariant.arcs a b);
  }
]

pub returns-clause-arcs : goal.returns-clause-arcs
returns-clause-arcs c u v = c.arcs.invariant.arcs u v ∙ all_in_front c.args.form.now c.args.n c.arcs.i u v (omega (arith, c.arcs-i-end.ensures.len, c.arcs-test.false))
