use Rattle.std.proofs.Common.{map, take}
use Rattle.line_text.specs.Lines.{text_of}
use Rattle.netlist_verilog.specs.Writes.{Writes}
use Rattle.report_text.specs.Rows.{place_row}
use Rattle.report_text.proofs.known.put_places.Given as goal

abbrev pub invariant-places : goal.invariant-places
invariant-places l = Writes l.initial.out l.out (text_of (map (place_row l.names) (take l.i l.places)))
