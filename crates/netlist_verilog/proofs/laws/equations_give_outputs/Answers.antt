use Rattle.netlist_verilog.proofs.ValueLemmas.{outputs_settled}
use Rattle.netlist_verilog.proofs.laws.equations_give_outputs.Goals as goal

pub returns : goal.returns
returns c = outputs_settled
