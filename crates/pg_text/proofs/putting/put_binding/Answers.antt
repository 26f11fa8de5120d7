use Rattle.std.specs.Prelude.{codes, ◌++◌}
use Rattle.std.proofs.Common.{ap, ◌∙◌}
use Rattle.pg_text.specs.Writing.{bit_text}
use Rattle.pg_text.proofs.RowTexts.{three_parts, on_ok}
use Rattle.pg_text.proofs.putting.put_binding.Goals as goal

pub returns : goal.returns
returns c = on_ok c.put-3.result c.put-3.new.out.items _ _
    (ap (λ t. c.put-2.new.out.items ++ t) c.text_of_bit.ensures
    ∙ three_parts c.args.out.now.items c.args.binding.now.0 (codes " = ") (bit_text c.args.binding.now.1) c.put.new.out.items c.put-2.new.out.items
    (c.in_ok-put.ensures.put ∙ ap (λ t. c.args.out.now.items ++ t) (c.as_bytes.ensures.value ∙ c.as_str.ensures)) c.in_ok-put-2.ensures.put)
    c.put-3.ensures.put
