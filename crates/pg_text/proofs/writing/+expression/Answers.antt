use Rattle.std.specs.Prelude.{codes, map, ◌++◌}
use Rattle.std.proofs.Common.{sym, ap, ap₂, ◌∙◌}
use Rattle.pg_text.specs.declared.position.Position.TheVariants as position
use Rattle.pg_text.specs.Grammar.{product, sum}
use Rattle.pg_text.specs.Writing.{needs, placed, row_text, cond_text, expr_text}
use Rattle.pg_text.proofs.RowTexts.{four_parts, text-When, text-Overlay, text-Sequence, put_more, put_placed, on_ok}
use Rattle.pg_text.proofs.writing.+expression.Goals as goal

pub put_expressions-expressions-preserved : goal.put_expressions-expressions-preserved
put_expressions-expressions-preserved bound c =
    put_more (expr_text c.args.names.now c.args.position) c.args.sign.now c.args.exprs.now c.expressions.i c.index-exprs-i.result _ c.args.out.now.items c.expressions.out.items c.put_if.new.out.items c.put_expression.new.out.items
    c.expressions-test.true c.index-exprs-i.is c.expressions.invariant c.in_ok-put_if.ensures.put c.in_ok-put_expression.ensures

pub put_expression-returns-in_ok-put_expressions-in-Overlay : goal.put_expression-returns-in_ok-put_expressions-in-Overlay
put_expression-returns-in_ok-put_expressions-in-Overlay bound c =
    let whole = ap (λ l. placed c.args.position sum (row_text (codes " + ") (map (expr_text c.args.names.now position.Product) l))) c.members.ensures ∙ sym (text-Overlay c.args.names.now c.args.position c.in-Overlay.list.members) ∙ ap (expr_text c.args.names.now c.args.position) (sym c.in-Overlay.is) in
    on_ok c.put_if-in-Overlay.result c.put_if-in-Overlay.new.out.items _ _
    (put_placed c.args.out.now.items (row_text (codes " + ") (map (expr_text c.args.names.now position.Product) c.members.result.now)) c.put_if.new.out.items c.put_expressions.new.out.items c.encloses_sum.result c.encloses_sum-in-Overlay.result (needs c.args.position sum) (codes "(") (codes ")")
    c.in_ok-put_if-in-Overlay.ensures.put c.in_ok-put_expressions-in-Overlay.ensures c.encloses_sum.ensures c.encloses_sum-in-Overlay.ensures
    ∙ ap (λ t. c.args.out.now.items ++ t) whole)
    c.put_if-in-Overlay.ensures.put

pub put_expression-returns-in_ok-put_expressions-in-Sequence : goal.put_expression-returns-in_ok-put_expressions-in-Sequence
put_expression-returns-in_ok-put_expressions-in-Sequence bound c =
    let whole = ap (λ l. placed c.args.position product (row_text (codes " -> ") (map (expr_text c.args.names.now position.Factor) l))) c.members-in-Sequence.ensures ∙ sym (text-Sequence c.args.names.now c.args.position c.in-Sequence.list.members) ∙ ap (expr_text c.args.names.now c.args.position) (sym c.in-Sequence.is) in
    on_ok c.put_if-in-Sequence-2.result c.put_if-in-Sequence-2.new.out.items _ _
    (put_placed c.args.out.now.items (row_text (codes " -> ") (map (expr_text c.args.names.now position.Factor) c.members-in-Sequence.result.now)) c.put_if-in-Sequence.new.out.items c.put_expressions-in-Sequence.new.out.items c.encloses_product.result c.encloses_product-in-Sequence.result (needs c.args.position product) (codes "(") (codes ")")
    c.in_ok-put_if-in-Sequence.ensures.put c.in_ok-put_expressions-in-Sequence.ensures c.encloses_product.ensures c.encloses_product-in-Sequence.ensures
    ∙ ap (λ t. c.args.out.now.items ++ t) whole)
    c.put_if-in-Sequence-2.ensures.put

pub put_expression-returns-in_ok-put-in-When-2 : goal.put_expression-returns-in_ok-put-in-When-2
put_expression-returns-in_ok-put-in-When-2 bound c = on_ok c.put_expression.result c.put_expression.new.out.items _ _
    (four_parts c.args.out.now.items (codes "[") (cond_text position.Sum c.get.result.now) (codes "] ") (expr_text c.args.names.now position.Factor c.get-in-When.result.now)
    c.put-in-When.new.out.items c.put_condition.new.out.items c.put-in-When-2.new.out.items c.in_ok-put-in-When.ensures.put c.in_ok-put_condition-in-When.ensures c.in_ok-put-in-When-2.ensures.put
    ∙ ap (λ t. c.args.out.now.items ++ t)
    (ap₂ (λ g e. codes "[" ++ (cond_text position.Sum g ++ (codes "] " ++ expr_text c.args.names.now position.Factor e))) c.get.ensures c.get-in-When.ensures
    ∙ sym (text-When c.args.names.now c.args.position c.in-When.condition c.in-When.governed) ∙ ap (expr_text c.args.names.now c.args.position) (sym c.in-When.is)))
    c.put_expression.ensures
