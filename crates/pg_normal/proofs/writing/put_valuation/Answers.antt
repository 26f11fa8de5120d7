use Rattle.std.specs.Prelude.{codes, refl}
use Rattle.std.proofs.Common.{get_or}
use Rattle.pg_normal.specs.Writing.{literal_text}
use Rattle.pg_text.proofs.RowTexts.{put_more}
use Rattle.pg_normal.proofs.writing.put_valuation.Goals as goal

pub parameters-preserved : goal.parameters-preserved
parameters-preserved c =
    put_more (literal_text c.args.params.now c.args.n) (codes " & ") c.args.numbers.now c.parameters.i
    (get_or c.args.numbers.now c.parameters.i 0) 0 c.args.out.now.items c.parameters.out.items
    c.put_if.new.out.items c.put_literal.new.out.items
    c.parameters-test.true refl c.parameters.invariant c.in_ok-put_if.ensures.put c.in_ok-put_literal.ensures
