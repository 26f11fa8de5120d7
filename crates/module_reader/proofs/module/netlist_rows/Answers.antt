use Rattle.std.proofs.Common.{ap, map}
use Rattle.module_reader.proofs.WholeLaws.{parts_made, gates_small}
use Rattle.module_reader.specs.Values.{declared_value}
use Rattle.module_reader.proofs.module.netlist_rows.Goals as goal

pub gates_rows-requires-clause-small : goal.gates_rows-requires-clause-small
gates_rows-requires-clause-small c = gates_small c.args.ports.now.inputs c.args.declared.now.gates c.requires.wires.few

pub conditions_rows-requires : goal.conditions_rows-requires
conditions_rows-requires c = gates_small c.args.ports.now.inputs c.args.declared.now.gates c.requires.wires.few

pub netlist_of-requires : goal.netlist_of-requires
netlist_of-requires c =
    parts_made c.args.ports.now.inputs c.args.ports.now.names (declared_value c.args.declared.now) _ _ _ _ _ c.in_ok-gates.gates _ _ _ _ _ _ c.requires.ports c.requires.wires
    c.in_ok-gates.ensures.inputs c.deref.ensures.value (ap (map (λ row. row.items)) c.deref-2.ensures.value) c.deref-3.ensures.value
    c.in_ok-gates.ensures.read c.in_ok-conditions.ensures c.in_ok-wires.ensures c.in_ok-waits.ensures
