use Rattle.netlist_verilog.proofs.SpellingLemmas.{read_as_written}
use Rattle.netlist_verilog.proofs.laws.formulas_are_read.Goals as goal

pub returns : goal.returns
returns c = read_as_written
