use Rattle.std.proofs.Common.{◌∙◌, ap, ◌||◌, slice_index}
use Rattle.cpog_defs.specs.Codes.{bit}
use Rattle.pg_normal.proofs.RowLemmas.{bit-added}
use Rattle.pg_normal.proofs.row.Row.add.Goals as goal

pub returns-clause-same : goal.returns-clause-same
returns-clause-same c n =
    bit-added c.self.inside.tables.items c.args.v c.index_mut.result.now c.args.table.0 n (rw c.self.view_is c.requires) c.index_mut.ensures.value
    ∙ ap (λ xs. bit (slice_index xs c.args.v) n || bit c.args.table.0 n) c.self.view_is
