use Rattle.netlist_verilog.proofs.CallingLemmas.{wires_told}
use Rattle.netlist_verilog.proofs.laws.wires_are_told.Goals as goal

pub returns : goal.returns
returns c = wires_told
