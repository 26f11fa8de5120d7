use Rattle.netlist_verilog.proofs.ValueLemmas.{settled_at, values_settle}
use Rattle.netlist_verilog.proofs.laws.equations_settle.Goals as goal

pub returns : goal.returns
returns c = λ m i is. (settled_at m.netlist i, values_settle m i is)
