use Rattle.std.proofs.Common.{◌≡◌, ℕ, ◌||◌, take}
use Rattle.cpog_base.specs.Rows.{row_has, has_arc}
use Rattle.scenario_check.proofs.rows.add_arcs.Given as goal

abbrev pub invariant-loop-u : goal.invariant-loop-u
invariant-loop-u l = (u v : ℕ) → row_has l.rows u v ≡ (row_has l.initial.rows u v || has_arc (take l.u-index l.arcs) u v)
