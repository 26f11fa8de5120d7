use Rattle.std.specs.Prelude.{IfOk}
use Rattle.std.proofs.Common.{◌≡◌, ℕ, List, Option, subst, sym}
use Rattle.std.specs.Option.{option_map}
use Rattle.module_reader.specs.Values.{ports_value}
use Rattle.module_reader.proofs.PortLaws.{header_by}
use Rattle.module_reader.proofs.ports.header_of.Goals as goal

pub returns : goal.returns
returns c =
    subst (λ (x : Option (ℕ × List (List ℕ))). IfOk c.header_names.result (λ o. option_map ports_value o ≡ x))
    (header_by c.args.line.now c.in-Some.rest.now (c.in_ok-inputs.inputs, c.in_ok-inputs.rest.now) (sym c.in-Some.ensures) c.in_ok-inputs.ensures.run) c.header_names.ensures
