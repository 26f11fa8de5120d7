use Rattle.std.specs.Prelude.{codes, map, ◌++◌}
use Rattle.std.proofs.Common.{sym, ap, ◌∙◌, append_assoc}
use Rattle.pg_text.specs.declared.position.Position.TheVariants as position
use Rattle.pg_text.specs.Grammar.{product, sum}
use Rattle.pg_text.specs.Writing.{needs, placed, row_text, cond_text}
use Rattle.pg_text.proofs.RowTexts.{text-Not, text-And, text-Or, put_more, put_placed, on_ok}
use Rattle.pg_text.proofs.writing.+condition.Goals as goal

pub put_conditions-conditions-preserved : goal.put_conditions-conditions-preserved
put_conditions-conditions-preserved bound c =
    put_more (cond_text c.args.position) c.args.sign.now c.args.conditions.now c.conditions.i c.index-conditions-i.result _ c.args.out.now.items c.conditions.out.items c.put_if.new.out.items c.put_condition.new.out.items
    c.conditions-test.true c.index-conditions-i.is c.conditions.invariant c.in_ok-put_if.ensures.put c.in_ok-put_condition.ensures

pub put_condition-returns-in_ok-put_conditions-in-And : goal.put_condition-returns-in_ok-put_conditions-in-And
put_condition-returns-in_ok-put_conditions-in-And bound c =
    let whole = ap (λ l. placed c.args.position product (row_text (codes " & ") (map (cond_text position.Factor) l))) c.members.ensures ∙ sym (text-And c.args.position c.in-And.list.members) ∙ ap (cond_text c.args.position) (sym c.in-And.is) in
    on_ok c.put_if-in-And.result c.put_if-in-And.new.out.items _ _
    (put_placed c.args.out.now.items (row_text (codes " & ") (map (cond_text position.Factor) c.members.result.now)) c.put_if.new.out.items c.put_conditions.new.out.items c.encloses_product.result c.encloses_product-in-And.result (needs c.args.position product) (codes "(") (codes ")")
    c.in_ok-put_if-in-And.ensures.put c.in_ok-put_conditions-in-And.ensures c.encloses_product.ensures c.encloses_product-in-And.ensures
    ∙ ap (λ t. c.args.out.now.items ++ t) whole)
    c.put_if-in-And.ensures.put

pub put_condition-returns-in_ok-put_conditions-in-Or : goal.put_condition-returns-in_ok-put_conditions-in-Or
put_condition-returns-in_ok-put_conditions-in-Or bound c =
    let whole = ap (λ l. placed c.args.position sum (row_text (codes " | ") (map (cond_text position.Product) l))) c.members-in-Or.ensures ∙ sym (text-Or c.args.position c.in-Or.list.members) ∙ ap (cond_text c.args.position) (sym c.in-Or.is) in
    on_ok c.put_if-in-Or-2.result c.put_if-in-Or-2.new.out.items _ _
    (put_placed c.args.out.now.items (row_text (codes " | ") (map (cond_text position.Product) c.members-in-Or.result.now)) c.put_if-in-Or.new.out.items c.put_conditions-in-Or.new.out.items c.encloses_sum.result c.encloses_sum-in-Or.result (needs c.args.position sum) (codes "(") (codes ")")
    c.in_ok-put_if-in-Or.ensures.put c.in_ok-put_conditions-in-Or.ensures c.encloses_sum.ensures c.encloses_sum-in-Or.ensures
    ∙ ap (λ t. c.args.out.now.items ++ t) whole)
    c.put_if-in-Or-2.ensures.put

pub put_condition-returns-in_ok-put-in-Not : goal.put_condition-returns-in_ok-put-in-Not
put_condition-returns-in_ok-put-in-Not bound c = on_ok c.put_condition.result c.put_condition.new.out.items _ _
    (ap (λ o. o ++ cond_text position.Factor c.get.result.now) c.in_ok-put-in-Not.ensures.put ∙ append_assoc c.args.out.now.items (codes "!") (cond_text position.Factor c.get.result.now)
    ∙ ap (λ t. c.args.out.now.items ++ t) (ap (λ x. codes "!" ++ cond_text position.Factor x) c.get.ensures ∙ sym (text-Not c.args.position c.in-Not.negated) ∙ ap (cond_text c.args.position) (sym c.in-Not.is)))
    c.put_condition.ensures
