use Rattle.std.proofs.Common.{◌++◌, string_bytes}
use Rattle.netlist_verilog.specs.Wires.{name_of}
use Rattle.netlist_verilog.proofs.WritingLemmas.{IsJoined}
use Rattle.module_reader.proofs.printed.put_names.Given as goal

abbrev pub invariant-names : goal.invariant-names
invariant-names l = IsJoined l.first l.first_left (λ v. l.prefix ++ name_of l.names v) l.v (string_bytes l.initial.out) (string_bytes l.out)
