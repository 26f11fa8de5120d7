use Rattle.std.specs.Prelude.{codes, ◌++◌}
use Rattle.std.proofs.Common.{ap, ◌∙◌}
use Rattle.pg_text.proofs.RowTexts.{four_parts, on_ok}
use Rattle.pg_normal.specs.Writing.{form_text}
use Rattle.pg_normal.proofs.lines.put_definition.Goals as goal

pub returns : goal.returns
returns c = on_ok c.put_form.result c.put_form.new.out.items _ _
    (four_parts c.args.out.now.items c.args.keyword.now c.args.name.now (codes " = ")
    (form_text c.args.form.now c.args.names.now c.args.params.now) c.put.new.out.items c.put-2.new.out.items
    c.put-3.new.out.items
    c.in_ok-put.ensures.put (c.in_ok-put-2.ensures.put ∙ ap (λ t. c.put.new.out.items ++ t) (c.as_bytes.ensures.value ∙ c.as_str.ensures)) c.in_ok-put-3.ensures.put)
    c.put_form.ensures
