use Rattle.std.proofs.Common.{◌==◌, ◌∙◌, ap, map}
use Rattle.std.specs.Map.{lookup}
use Rattle.cpog_defs.specs.Codes.{bit}
use Rattle.pg_normal.specs.Forms.{word, vertex_table}
use Rattle.pg_normal.proofs.MakingLemmas.{form_of_tables_is, listed_bit}
use Rattle.pg_normal.proofs.making.form_of_tables.Goals as goal

pub returns : goal.returns
returns c = form_of_tables_is c.args.tables.now c.add_arcs.new.form c.arcs-arcs.ensures.form
    (λ v n h. ap (λ vs. bit (word (lookup (λ w. v == w) vs)) n) c.in_ok-add_arcs.ensures.vertices
    ∙ listed_bit c.args.count c.args.tables.now c.requires.over v (vertex_table c.add_vertices.new.form v) n h (c.in_ok-add_vertices.ensures.tables v))
    c.in_ok-add_arcs.ensures.arcs
    (ap (map (λ e. e.0)) c.in_ok-add_arcs.ensures.vertices ∙ c.in_ok-add_vertices.ensures.vertices)
