-- What holds of the reader of modules.
use Rattle.netlist_verilog.specs.Module.{IsModule}
use Rattle.netlist_verilog.specs.Rows.{module_lines}
use Rattle.line_rows.proofs.RowLaws.{IsRows}
use Rattle.module_reader.specs.Modules.{module_at}

-- each module is read from its lines, whatever follows; what is read is a module, whose lines stood there; and the
-- fault is the first line that can't stand after those before it
abbrev pub ModulesAreRows : Type 0
ModulesAreRows = IsRows IsModule module_lines module_at
