use Rattle.netlist_verilog.proofs.DriverLemmas.{one_driver}
use Rattle.netlist_verilog.proofs.laws.wires_have_one_driver.Goals as goal

pub returns : goal.returns
returns c = one_driver
