use Rattle.std.specs.Prelude.{codes}
use Rattle.pg_text.specs.Writing.{bind_text}
use Rattle.pg_text.proofs.RowTexts.{put_more}
use Rattle.pg_text.proofs.putting.put_bindings.Goals as goal

pub bindings-preserved : goal.bindings-preserved
bindings-preserved c =
    put_more bind_text (codes ", ") c.args.bindings.now c.bindings.i c.index-bindings-i.result _ c.args.out.now.items c.bindings.out.items c.put_if.new.out.items c.put_binding.new.out.items
    c.bindings-test.true c.index-bindings-i.is c.bindings.invariant c.in_ok-put_if.ensures.put c.in_ok-put_binding.ensures
