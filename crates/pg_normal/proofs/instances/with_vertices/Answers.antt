use Rattle.std.proofs.Common.{◌≡◌, ◌||◌, nat_lt, ap, ◌∙◌, sym, inl, inr, arith}
use Rattle.std.specs.Ordering.{nat_cmp}
use Rattle.std.specs.Cmp.{nat_cmp_total, unsigned_tied}
use Rattle.std.specs.FinSet as set
use Rattle.std.proofs.lemmas.Bool.{cases_lt, lt-ltb}
use Rattle.cpog_defs.specs.Codes.{bit}
use Rattle.pg_normal.specs.Forms.{vertex_table}
use Rattle.pg_normal.proofs.ChangeLemmas.{none_yet, vertex_added, vertex_skipped, vertex_past, all_there}
use Rattle.pg_normal.proofs.instances.with_vertices.Goals as goal
use Rattle.pg_normal.proofs.instances.with_vertices.Goals.{then-value_at, else-value_at}

-- whether the vertex occurs
here : (c : goal.Joined-value_at) → c.value_at.result ≡ bit (vertex_table c.args.form.now c.vertices.v) c.args.n
here c = c.value_at.ensures ∙ ap (λ t. bit t c.args.n) c.vertex_table.ensures ∙ ap (λ v. bit (vertex_table c.args.form.now v) c.args.n) c.from.ensures

pub vertices-init : goal.vertices-init
vertices-init c = record {
  size = ap (λ sc. sc.count) c.new-scenario.ensures;
  ops = λ w. ap (λ sc. set.contains sc.ops w) c.new-scenario.ensures ∙ set.contains-empty nat_cmp w ∙ sym (none_yet w (bit (vertex_table c.args.form.now w) c.args.n));
  arcs = ap (λ sc. sc.arcs) c.new-scenario.ensures;
}

pub vertices-preserved : goal.vertices-preserved
vertices-preserved c = elim c.if-value_at.branch [
  | then-value_at w ↦ record {
    size = ap (λ sc. sc.count) (w.scenario-is ∙ w.add_op.ensures) ∙ c.vertices.invariant.size;
    ops = λ v. vertex_added (λ x. bit (vertex_table c.args.form.now x) c.args.n) c.vertices.v v (set.contains c.vertices.scenario.ops v) (set.contains c.if-value_at.scenario.ops v)
        (sym (here c) ∙ w.if-value_at.true)
        (ap (λ sc. set.contains sc.ops v) (w.scenario-is ∙ w.add_op.ensures)
        ∙ set.contains-insert nat_cmp_total c.vertices.scenario.ops c.vertices.v v
        ∙ ap (λ b. b || set.contains c.vertices.scenario.ops v) (unsigned_tied v c.vertices.v))
        (c.vertices.invariant.ops v);
    arcs = ap (λ sc. sc.arcs) (w.scenario-is ∙ w.add_op.ensures) ∙ c.vertices.invariant.arcs;
  }
  | else-value_at w ↦ record {
    size = ap (λ sc. sc.count) w.scenario-is ∙ c.vertices.invariant.size;
    ops = λ v. ap (λ sc. set.contains sc.ops v) w.scenario-is
        ∙ vertex_skipped (λ x. bit (vertex_table c.args.form.now x) c.args.n) c.vertices.v v (set.contains c.vertices.scenario.ops v) (sym (here c) ∙ w.if-value_at.false) (c.vertices.invariant.ops v);
    arcs = ap (λ sc. sc.arcs) w.scenario-is ∙ c.vertices.invariant.arcs;
  }
]

pub returns-clause-ops : goal.returns-clause-ops
returns-clause-ops c v = c.vertices.invariant.ops v ∙ all_there (nat_lt v c.vertices.v) (bit (vertex_table c.args.form.now v) c.args.n) (elim (cases_lt v c.args.count) [
  | inl lt ↦ inl (lt-ltb v c.vertices.v (omega (arith, lt, c.vertices-test.false)))
  | inr past ↦ inr (vertex_past c.args.count c.args.form.now v c.args.n c.requires.below past)
])
