use Rattle.std.specs.Option.{option_map}
use Rattle.std.proofs.Common.{sym, ap, ◌∙◌}
use Rattle.module_reader.specs.Values.{declared_value}
use Rattle.module_reader.proofs.WireLaws.{wires_exact}
use Rattle.module_reader.proofs.module.declared_rows.Goals as goal

pub netlist_rows-requires-clause-wires : goal.netlist_rows-requires-clause-wires
netlist_rows-requires-clause-wires c =
    ((wires_exact c.args.ports.now.inputs c.args.ports.now.names c.requires.few_names).takes c.args.line.now (declared_value c.in-Some.declared) (sym c.in-Ok.ensures ∙ ap (option_map declared_value) c.in-Some.is)).0
