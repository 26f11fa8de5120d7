use Rattle.netlist_verilog.proofs.LineLemmas.{equation_read}
use Rattle.netlist_verilog.proofs.laws.equations_are_read.Goals as goal

pub returns : goal.returns
returns c = equation_read
