use Rattle.std.specs.Prelude.{codes, refl}
use Rattle.std.proofs.Common.{get_or}
use Rattle.pg_normal.specs.Writing.{valuation_text}
use Rattle.pg_text.proofs.RowTexts.{put_more}
use Rattle.pg_normal.proofs.writing.put_valuations.Goals as goal

pub valuations-preserved : goal.valuations-preserved
valuations-preserved c =
    put_more (valuation_text c.args.params.now c.args.numbers.now) (codes " | ") c.args.valuations.now c.valuations.i
    (get_or c.args.valuations.now c.valuations.i 0) 0 c.args.out.now.items c.valuations.out.items
    c.put_if.new.out.items c.put_valuation.new.out.items
    c.valuations-test.true refl c.valuations.invariant c.in_ok-put_if.ensures.put c.in_ok-put_valuation.ensures
