use Rattle.std.proofs.Common.{◌∙◌, ap, ap₂, length, ◌&&◌, ◌||◌, slice_index}
use Rattle.cpog_defs.specs.Codes.{bit}
use Rattle.pg_normal.proofs.RowLemmas.{bit-unite, written_back}
use Rattle.pg_normal.proofs.row.Row.unite.Goals as goal

pub returns-clause-each : goal.returns-clause-each
returns-clause-each c k n =
    ap (λ xs. bit (slice_index xs k) n) (written_back c.unite_words.new.into c.self.inside.tables.items
    c.self.inside.tables.len (c.unite_words.auto.into
    ∙ ap length c.deref_mut.ensures.value) c.self.inside.tables.ok.0)
    ∙ ap (λ x. bit x n) (c.unite_words.ensures k)
    ∙ bit-unite (slice_index c.deref_mut.result.now k) (slice_index c.deref.result.now k) c.args.guard.0 n
    ∙ ap₂ (λ xs ys. bit (slice_index xs k) n || (bit c.args.guard.0 n && bit (slice_index ys k) n)) (c.deref_mut.ensures.value ∙ c.self.view_is) (c.deref.ensures.value ∙ c.from.view_is)
