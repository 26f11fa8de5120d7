use Rattle.std.proofs.Common.{map, take}
use Rattle.report_text.specs.Rows.{blank_names, arc_text}
use Rattle.netlist_verilog.specs.Writes.{Writes}
use Rattle.report_text.proofs.writing.put_covers.Given as goal

abbrev pub invariant-arcs : goal.invariant-arcs
invariant-arcs l = Writes l.initial.out l.out (blank_names (map (arc_text l.names) (take l.arc-index l.arc-items)))
