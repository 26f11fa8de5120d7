use Rattle.std.proofs.Common.{map}
use Rattle.netlist_verilog.specs.Wires.{name_of}
use Rattle.report_text.specs.Rows.{blank_names, members_below}
use Rattle.netlist_verilog.specs.Writes.{Writes}
use Rattle.report_text.proofs.writing.put_members.Given as goal

abbrev pub invariant-members : goal.invariant-members
invariant-members l = Writes l.initial.out l.out (blank_names (map (name_of l.names) (members_below l.scenario.ops l.v)))
