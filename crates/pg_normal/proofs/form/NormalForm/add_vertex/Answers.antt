use Rattle.std.proofs.Common.{◌∙◌, sym, ap, subst, arith, ◌≡◌, ◌==◌, ◌++◌, ◌∷◌, [], length, map, cond, None}
use Rattle.std.specs.List.{IsDistinct}
use Rattle.std.specs.Map.{lookup}
use Rattle.indexmap.proofs.CallerLemmas.{insert_entry-new}
use Rattle.pg_normal.specs.Forms.{IsForm, word, vertex_table}
use Rattle.pg_normal.proofs.EntryLemmas.{absent, with_vertex, vertex_pushed, length-push}
use Rattle.pg_normal.proofs.form.NormalForm.add_vertex.Goals as goal

-- the form does not have it
none : (c : goal.In_ok-insert) → lookup (λ w. c.args.v == w) c.self.inside.vertices.entries ≡ None
none c = absent (λ w. c.args.v == w) c.self.inside.vertices.entries c.self.invariant.0.some_vertex (ap (λ f. vertex_table f c.args.v) c.self.view_is ∙ c.requires.new)

-- the vertices after the call
entries : (c : goal.In_ok-insert) → c.insert.new.self.entries ≡ c.self.inside.vertices.entries ++ (c.args.v, c.args.table) ∷ []
entries c = c.in_ok-insert.ensures.entries ∙ insert_entry-new _ c.self.inside.vertices c.args.v c.args.table (none c)

pub invariant_of-self-2 : goal.invariant_of-self-2
invariant_of-self-2 c = (
  subst (λ es. IsForm (record { vertices = es; arcs = c.self.inside.arcs.entries })) (sym (entries c))
      (with_vertex (record { vertices = c.self.inside.vertices.entries; arcs = c.self.inside.arcs.entries }) c.args.v c.args.table c.self.invariant.0 (c.requires.some, omega arith)
      (subst (λ es. IsDistinct (λ v w. v == w) (map (λ e. e.0) es)) (entries c) c.in_ok-insert.ensures.unique)),
  omega (arith, ap length (entries c), length-push c.self.inside.vertices.entries (c.args.v, c.args.table), c.if-len.false, c.len.ensures.len),
  c.self.invariant.2,
)

pub returns-clause-ok : goal.returns-clause-ok
returns-clause-ok c =
    ap (λ es. record { vertices = es; arcs = c.self.inside.arcs.entries }) (entries c)
    ∙ ap (λ f. record { vertices = f.vertices ++ (c.args.v, c.args.table) ∷ []; arcs = f.arcs }) c.self.view_is

pub returns-clause-tables : goal.returns-clause-tables
returns-clause-tables c w =
    ap (λ es. word (lookup (λ x. w == x) es)) (entries c)
    ∙ vertex_pushed (record { vertices = c.self.inside.vertices.entries; arcs = c.self.inside.arcs.entries }) c.args.v c.args.table (none c) w
    ∙ ap (λ f. cond (w == c.args.v) c.args.table.0 (vertex_table f w)) c.self.view_is
