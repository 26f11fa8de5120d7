use Rattle.netlist_verilog.proofs.FeedLemmas.{lines_free}
use Rattle.netlist_verilog.proofs.laws.lines_hold_no_feed.Goals as goal

pub returns : goal.returns
returns c = lines_free
