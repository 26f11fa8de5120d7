use Rattle.netlist_verilog.proofs.ReadingLemmas.{assigned_once}
use Rattle.netlist_verilog.proofs.laws.assignment_is_one.Goals as goal

pub returns : goal.returns
returns c = assigned_once
