use Rattle.std.proofs.Common.{arith}
use Rattle.text_rows.specs.Words.{tokens}
use Rattle.dimacs_text.proofs.EntryLemmas.{ids_stop, same_first}
use Rattle.dimacs_text.proofs.log.read_ids.Goals as goal

pub returns-then-n : goal.returns-then-n
returns-then-n c ns ws hn e =
    let f = c.in-Some.ensures.words in
    ids_stop (tokens c.args.words.now) c.loop-n.ids.items (tokens c.loop-n.rest.now) c.loop-n.invariant.read
    (λ m t lm g. let same = same_first c.in-Some.n m (tokens c.in-Some.after.now) t (tokens c.loop-n.rest.now) f.0 lm f.1 g in ((λ z. c.if-n-eq0.false (omega (arith, same, z))), (λ small. omega (arith, same, small, c.if-n.true)))) ns ws hn e

pub returns : goal.returns
returns c ns ws hn e =
    ids_stop (tokens c.args.words.now) c.loop-n.ids.items (tokens c.loop-n.rest.now) c.loop-n.invariant.read
    (λ m t lm g. absurd (c.in_default.ensures.words m t lm g)) ns ws hn e
