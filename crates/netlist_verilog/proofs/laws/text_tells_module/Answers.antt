use Rattle.netlist_verilog.proofs.LawLemmas.{module_told}
use Rattle.netlist_verilog.proofs.laws.text_tells_module.Goals as goal

pub returns : goal.returns
returns c = module_told
