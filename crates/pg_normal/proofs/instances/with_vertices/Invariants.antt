use Rattle.std.proofs.Common.{◌≡◌, ◌&&◌, [], ℕ, nat_lt}
use Rattle.std.specs.FinSet as set
use Rattle.cpog_defs.specs.Codes.{bit}
use Rattle.pg_normal.specs.Forms.{vertex_table}
use Rattle.pg_normal.proofs.instances.with_vertices.Given as goal

abbrev pub invariant-vertices : goal.invariant-vertices
invariant-vertices l = record {
  size : l.scenario.count ≡ l.count;
  ops : (w : ℕ) → set.contains l.scenario.ops w ≡ (nat_lt w l.v && bit (vertex_table l.form w) l.n);
  arcs : l.scenario.arcs ≡ [];
}
