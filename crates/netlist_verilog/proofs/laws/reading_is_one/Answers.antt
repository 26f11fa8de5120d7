use Rattle.netlist_verilog.proofs.ReadingLemmas.{read_once}
use Rattle.netlist_verilog.proofs.laws.reading_is_one.Goals as goal

pub returns : goal.returns
returns c = read_once
