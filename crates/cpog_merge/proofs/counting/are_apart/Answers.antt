use Rattle.cpog_merge.proofs.TakenLemmas.{column_read}
use Rattle.cpog_merge.proofs.counting.are_apart.Goals as goal

pub returns : goal.returns
returns c =
    let columns = c.args.columns.now in
    let first = column_read columns c.args.t c.index-columns-t.result c.requires.first c.index-columns-t.is in
    let second = column_read columns c.args.c c.index-columns-c.result c.requires.second c.index-columns-c.is in
    rw (first, second) c.incompatible.ensures
