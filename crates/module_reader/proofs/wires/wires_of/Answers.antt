use Rattle.std.specs.Prelude.{IfOk}
use Rattle.std.proofs.Common.{◌≡◌, ℕ, Bool, List, Option, subst, sym}
use Rattle.std.specs.Option.{option_map}
use Rattle.module_reader.specs.Values.{declared_value}
use Rattle.module_reader.proofs.WireLaws.{wires_by}
use Rattle.module_reader.proofs.wires.wires_of.Goals as goal

pub returns : goal.returns
returns c =
    subst (λ (x : Option (ℕ × List (List Bool))). IfOk c.wires_behind.result (λ o. option_map declared_value o ≡ x))
    (wires_by c.args.ports.now.inputs c.gate_room.result c.args.ports.now.names c.args.line.now c.in-Some.rest.now (c.in_ok-gates.gates, c.in_ok-gates.rest.now) (sym c.in-Some.ensures) c.gate_room.ensures c.in_ok-gates.ensures.run) c.wires_behind.ensures
