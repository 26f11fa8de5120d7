use Rattle.std.proofs.Common.{◌≡◌, ◌&&◌, ℕ}
use Rattle.cpog_base.specs.Arcs.{has_arc}
use Rattle.cpog_defs.specs.Codes.{bit}
use Rattle.pg_normal.specs.Forms.{arc_table}
use Rattle.pg_normal.proofs.ListedLemmas.{in_front}
use Rattle.pg_normal.proofs.instances.add_arcs.Given as goal

abbrev pub invariant-arcs : goal.invariant-arcs
invariant-arcs l = record {
  size : l.scenario.count ≡ l.fn.scenario.count;
  ops : l.scenario.ops ≡ l.fn.scenario.ops;
  arcs : (a b : ℕ) → has_arc l.scenario.arcs a b ≡ (in_front l.form.arcs l.i a b && bit (arc_table l.form a b) l.n);
}
