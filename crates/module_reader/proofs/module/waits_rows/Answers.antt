use Rattle.std.proofs.Common.{length, map, ap, ◌∙◌, arith}
use Rattle.module_reader.specs.Modules.{requests_at}
use Rattle.module_reader.proofs.WholeLaws.{asked, gives_at}
use Rattle.module_reader.proofs.module.waits_rows.Goals as goal

pub requests_rows-requires-clause-rows : goal.requests_rows-requires-clause-rows
requests_rows-requires-clause-rows c = (asked (λ row. row.items) (length c.args.ports.now.names) _ _ c.deref.ensures.value c.requires.wires.matrix c.requires.ports.few_names).total

pub requests_rows-requires-clause-square : goal.requests_rows-requires-clause-square
requests_rows-requires-clause-square c = λ u lt.
    let a = asked (λ row. row.items) (length c.args.ports.now.names) _ _ c.deref.ensures.value c.requires.wires.matrix c.requires.ports.few_names in
    a.square u (omega (arith, lt, a.total)) ∙ a.total

pub returns : goal.returns
returns c = gives_at _ _ _ _ (ap (λ xs. requests_at c.args.ports.now.names (map (λ row. row.items) xs) c.args.cursor.now) c.deref.ensures.value) c.requests_rows.ensures
