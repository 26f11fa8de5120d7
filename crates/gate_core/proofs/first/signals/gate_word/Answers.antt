use Rattle.gate_core.proofs.SignalLemmas.{gate_bits}
use Rattle.gate_core.proofs.first.signals.gate_word.Goals as goal

pub returns : goal.returns
returns c =
    gate_bits c.args.table c.args.first c.args.second c.row_of.result c.row_of-2.result c.row_of-3.result c.row_of-4.result c.ranges.first.fits c.ranges.second.fits
    c.row_of.ensures c.row_of-2.ensures c.row_of-3.ensures c.row_of-4.ensures
