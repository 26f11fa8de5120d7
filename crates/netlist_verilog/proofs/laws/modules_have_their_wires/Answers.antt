use Rattle.netlist_verilog.proofs.OwnLemmas.{its_wires}
use Rattle.netlist_verilog.proofs.laws.modules_have_their_wires.Goals as goal

pub returns : goal.returns
returns c = its_wires
