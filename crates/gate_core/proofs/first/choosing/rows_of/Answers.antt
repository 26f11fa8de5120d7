use Rattle.gate_core.proofs.PairLemmas.{is_table}
use Rattle.gate_core.proofs.first.choosing.rows_of.Goals as goal

pub returns : goal.returns
returns c =
    is_table c.args.word c.args.first c.args.second c.ranges.word.fits c.ranges.first.fits c.ranges.second.fits
    c.row.result c.row-2.result c.row-3.result c.row-4.result
    c.row.ensures.there c.row-2.ensures.there c.row-3.ensures.there c.row-4.ensures.there
    c.row.ensures.below c.row-2.ensures.below c.row-3.ensures.below c.row-4.ensures.below
