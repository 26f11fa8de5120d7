use Rattle.std.specs.Option.{option_map}
use Rattle.std.proofs.Common.{sym, ap, ◌∙◌}
use Rattle.module_reader.specs.Values.{ports_value}
use Rattle.module_reader.proofs.PortLaws.{header_exact}
use Rattle.module_reader.proofs.ports.header_row.Goals as goal

pub returns-clause-ports : goal.returns-clause-ports
returns-clause-ports c = (header_exact.takes c.in_ok-line.line.now (ports_value c.in-Some.ports) (sym c.in-Ok.ensures ∙ ap (option_map ports_value) c.in-Some.is)).0
