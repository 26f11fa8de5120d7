use Rattle.std.specs.Prelude.{codes, ◌++◌, []}
use Rattle.std.proofs.Common.{ap, ◌∙◌, arith}
use Rattle.pg_text.proofs.RowTexts.{put_more}
use Rattle.pg_normal.proofs.lines.put_names.Goals as goal

pub names-preserved : goal.names-preserved
names-preserved c =
    put_more (λ w. w) (codes ", ") c.args.names.now c.names.i c.name_of.result.now [] c.args.out.now.items c.names.out.items c.put_if.new.out.items c.put.new.out.items
    (omega (arith, c.names-test.true, c.len-i-end.ensures.len)) c.name_of.ensures c.names.invariant
    c.in_ok-put_if.ensures.put (c.in_ok-put.ensures.put
    ∙ ap (λ t. c.put_if.new.out.items ++ t) c.as_bytes.ensures.value)
