use Rattle.std.proofs.Common.{◌≡◌, false, ◌∙◌, sym, ap, slice_index_or}
use Rattle.std.specs.FinSet as set
use Rattle.cpog_base.specs.Arcs.{has_arc}
use Rattle.cpog_base.proofs.ArcLemmas.{stored_arc}
use Rattle.cpog_base.proofs.scenario.Scenario.add_arc.Goals as goal

pub invariant_of-self-2 : goal.invariant_of-self-2
invariant_of-self-2 c =
    let stored = c.self.invariant in
    let none : has_arc c.self.inside.arcs c.args.u.0 c.args.v.0 ≡ false = sym (stored.successors c.args.u.0 c.args.v.0) ∙ ap (λ rows. set.contains (slice_index_or rows c.args.u.0 set.empty) c.args.v.0) (sym c.as_slice.ensures) ∙ sym c.is_member_at.ensures ∙ c.if-is_member_at.false in
    rw (c.in_ok-push.ensures.ok, c.insert_at.ensures) (stored_arc (record { count = c.self.inside.count; ops = c.self.inside.ops; arcs = c.self.inside.arcs }) c.self.inside.successors c.extend_to.new.rows c.args.u.0 c.args.v.0 stored (rw (← c.self.view_is) at c.requires.first) (rw (← c.self.view_is) at c.requires.second) none c.in_ok-extend_to.ensures.same c.in_ok-extend_to.ensures.room)
