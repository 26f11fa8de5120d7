use Rattle.std.proofs.Common.{◌∙◌, sym, ap, subst, arith, ◌≡◌, ◌++◌, ◌∷◌, [], length, map, cond, None}
use Rattle.std.specs.List.{IsDistinct}
use Rattle.std.specs.Map.{lookup}
use Rattle.indexmap.proofs.CallerLemmas.{insert_entry-new}
use Rattle.pg_normal.specs.Forms.{IsForm, word, vertex_table, arc_table, is_arc, Implies}
use Rattle.pg_normal.proofs.EntryLemmas.{absent, with_arc, arc_pushed, length-push}
use Rattle.pg_normal.proofs.form.NormalForm.add_arc.Goals as goal

-- the form does not have it
none : (c : goal.In_ok-insert) → lookup (is_arc c.args.u c.args.v) c.self.inside.arcs.entries ≡ None
none c = absent (is_arc c.args.u c.args.v) c.self.inside.arcs.entries c.self.invariant.0.some_arc (ap (λ f. arc_table f c.args.u c.args.v) c.self.view_is ∙ c.requires.new)

-- the arcs after the call
entries : (c : goal.In_ok-insert) → c.insert.new.self.entries ≡ c.self.inside.arcs.entries ++ ((c.args.u, c.args.v), c.args.table) ∷ []
entries c = c.in_ok-insert.ensures.entries ∙ insert_entry-new _ c.self.inside.arcs (c.args.u, c.args.v) c.args.table (none c)

pub invariant_of-self-2 : goal.invariant_of-self-2
invariant_of-self-2 c = (
  subst (λ es. IsForm (record { vertices = c.self.inside.vertices.entries; arcs = es })) (sym (entries c))
      (with_arc (record { vertices = c.self.inside.vertices.entries; arcs = c.self.inside.arcs.entries }) c.args.u c.args.v c.args.table c.self.invariant.0 (c.requires.some, omega arith)
      (subst (λ f. Implies c.args.table.0 (vertex_table f c.args.u)) (sym c.self.view_is) c.requires.first)
      (subst (λ f. Implies c.args.table.0 (vertex_table f c.args.v)) (sym c.self.view_is) c.requires.second)
      (subst (λ es. IsDistinct (λ a b. is_arc a.0 a.1 b) (map (λ e. e.0) es)) (entries c) c.in_ok-insert.ensures.unique)),
  c.self.invariant.1,
  omega (arith, ap length (entries c), length-push c.self.inside.arcs.entries ((c.args.u, c.args.v), c.args.table), c.if-len.false, c.len.ensures.len),
)

pub returns-clause-ok : goal.returns-clause-ok
returns-clause-ok c =
    ap (λ es. record { vertices = c.self.inside.vertices.entries; arcs = es }) (entries c)
    ∙ ap (λ f. record { vertices = f.vertices; arcs = f.arcs ++ ((c.args.u, c.args.v), c.args.table) ∷ [] }) c.self.view_is

pub returns-clause-tables : goal.returns-clause-tables
returns-clause-tables c a b =
    ap (λ es. word (lookup (is_arc a b) es)) (entries c)
    ∙ arc_pushed (record { vertices = c.self.inside.vertices.entries; arcs = c.self.inside.arcs.entries }) c.args.u c.args.v c.args.table (none c) a b
    ∙ ap (λ f. cond (is_arc a b (c.args.u, c.args.v)) c.args.table.0 (arc_table f a b)) c.self.view_is
