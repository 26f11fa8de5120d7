use Rattle.module_reader.proofs.WholeLaws.{body_module}
use Rattle.module_reader.proofs.module.module_rows.Goals as goal

pub new-module-requires-clause-names : goal.new-module-requires-clause-names
new-module-requires-clause-names c = (body_module _ _ _ _ _ c.in_ok-ports.ensures.ports c.in_ok-netlist.ensures).names

pub new-module-requires-clause-one_name_each : goal.new-module-requires-clause-one_name_each
new-module-requires-clause-one_name_each c = (body_module _ _ _ _ _ c.in_ok-ports.ensures.ports c.in_ok-netlist.ensures).one_name_each

pub new-module-requires-clause-few_gates : goal.new-module-requires-clause-few_gates
new-module-requires-clause-few_gates c = (body_module _ _ _ _ _ c.in_ok-ports.ensures.ports c.in_ok-netlist.ensures).few_gates
