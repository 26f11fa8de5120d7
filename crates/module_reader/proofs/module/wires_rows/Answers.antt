use Rattle.std.proofs.Common.{ℕ, length, map, ap₂}
use Rattle.module_reader.specs.Rows.{arcs_at}
use Rattle.module_reader.specs.Modules.{is_declared}
use Rattle.module_reader.proofs.WholeLaws.{asked, gates_small, gives_at}
use Rattle.module_reader.proofs.module.wires_rows.Goals as goal

pub arcs_rows-requires-clause-small : goal.arcs_rows-requires-clause-small
arcs_rows-requires-clause-small c = gates_small c.args.ports.now.inputs c.args.declared.now.gates c.requires.wires.few

pub arcs_rows-requires-clause-few : goal.arcs_rows-requires-clause-few
arcs_rows-requires-clause-few c = (asked (λ row. row.items) (length c.args.ports.now.names) _ _ c.deref.ensures.value c.requires.wires.matrix c.requires.ports.few_names).few

pub arcs_rows-requires-clause-square : goal.arcs_rows-requires-clause-square
arcs_rows-requires-clause-square c = (asked (λ row. row.items) (length c.args.ports.now.names) _ _ c.deref.ensures.value c.requires.wires.matrix c.requires.ports.few_names).square

pub returns : goal.returns
returns c =
    let a = asked (λ row. row.items) (length c.args.ports.now.names) _ _ c.deref.ensures.value c.requires.wires.matrix c.requires.ports.few_names in
    gives_at _ _ _ _ (ap₂ (λ xs (n : ℕ). arcs_at c.args.ports.now.inputs c.args.declared.now.gates (is_declared (map (λ row. row.items) xs)) n c.args.cursor.now) c.deref.ensures.value a.total) c.arcs_rows.ensures
