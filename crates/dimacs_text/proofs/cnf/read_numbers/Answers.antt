use Rattle.std.proofs.Common.{arith, ◌∙◌, ◌<◌, length}
use Rattle.text_rows.specs.Words.{tokens}
use Rattle.dimacs_text.specs.Streams.{with_clause, with_literal}
use Rattle.dimacs_text.proofs.EntryLemmas.{same_signed}
use Rattle.dimacs_text.proofs.StreamLemmas.{word_bad, end_taken, not_nothing, holds_count, stands_step, words_step}
use Rattle.dimacs_text.proofs.cnf.read_numbers.Goals as goal

pub returns-then-n-header-clause-taken : goal.returns-then-n-header-clause-taken
returns-then-n-header-clause-taken c =
    let f = c.in-Some.ensures.words in
    let rest = tokens c.loop-negated.rest.now in
    word_bad c.args.header.variables c.args.header.clauses c.requires.small c.args.body.now c.loop-negated.body (tokens c.args.line.now) rest c.loop-negated.invariant.read (not_nothing _ _ rest f.2)
    (λ lt p m t lm some g. let same = same_signed c.in-Some.negated p c.in-Some.n m _ t rest f.0 lm f.2 g in ((λ z. omega (arith, same, z, c.if-n-header.true)), (λ le. omega (arith, same, le, c.if-n-header.true))))

pub returns-then-count-header-clause-taken : goal.returns-then-count-header-clause-taken
returns-then-count-header-clause-taken c =
    let f = c.in-Some.ensures.words in
    let rest = tokens c.loop-negated.rest.now in
    word_bad c.args.header.variables c.args.header.clauses c.requires.small c.args.body.now c.loop-negated.body (tokens c.args.line.now) rest c.loop-negated.invariant.read (not_nothing _ _ rest f.2)
    (λ lt p m t lm some g. absurd (omega (arith, lt, c.if-count-header.true, c.count.ensures)))

pub loop-negated-preserved : goal.loop-negated-preserved
loop-negated-preserved c =
    let i = c.loop-negated.invariant in
    let f = c.in-Some.ensures.words in
    let n = c.in-Some.n in
    let p = c.in-Some.negated in
    record {
      kind = c.in_ok-take.ensures.kind c.args.header.variables i.kind;
      read = λ ds os s.
          let r = i.read ds os s in
          let lt : length r.0 < c.args.header.clauses = omega (arith, c.if-count-header.false, c.count.ensures, holds_count c.loop-negated.body r.0 r.1 r.2.holds) in (
            with_clause n r.0 r.1,
            with_literal n p r.1,
            stands_step c.args.header.variables c.args.header.clauses n p c.loop-negated.body c.take.new.self r.0 r.1 r.2 lt (omega (arith, c.if-n-header.false)) (c.in_ok-take.ensures.taken r.0 r.1 r.2.holds),
            words_step n p r.0 r.1 (tokens c.loop-negated.rest.now) (tokens c.in-Some.after.now) f.1 f.2 ∙ r.3,
          );
    }

pub returns-clause-taken : goal.returns-clause-taken
returns-clause-taken c =
    end_taken c.args.header.variables c.args.header.clauses c.requires.small c.args.body.now c.loop-negated.body (tokens c.args.line.now) (tokens c.loop-negated.rest.now) c.is_blank.result c.is_blank.ensures c.loop-negated.invariant.read c.in_default.ensures.words
