use Rattle.std.proofs.Common.{arith}
use Rattle.cpog_merge.proofs.TakenLemmas.{not_apart_from, apart_more, apart_from}
use Rattle.cpog_merge.proofs.counting.is_apart_from.Goals as goal

pub returns-then-not-are_apart : goal.returns-then-not-are_apart
returns-then-not-are_apart c = not_apart_from c.args.columns.now c.args.taken.now c.args.c c.loop-k.k c.are_apart.result (omega arith) c.are_apart.ensures c.if-not-are_apart.true

pub loop-k-preserved : goal.loop-k-preserved
loop-k-preserved c = apart_more c.args.columns.now c.args.taken.now c.args.c c.loop-k.k c.are_apart.result c.loop-k.invariant c.are_apart.ensures c.if-not-are_apart.false

pub returns : goal.returns
returns c = apart_from c.args.columns.now c.args.taken.now c.args.c (λ i l. c.loop-k.invariant i (omega arith))
