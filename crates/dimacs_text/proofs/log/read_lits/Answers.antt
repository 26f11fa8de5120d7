use Rattle.std.proofs.Common.{arith, refl, ◌++◌, ◌∷◌, []}
use Rattle.text_rows.specs.Words.{tokens}
use Rattle.dimacs_text.specs.Logs.{IsLitWithin, lit_word}
use Rattle.dimacs_text.proofs.EntryLemmas.{read_start, read_more, lits_stop, same_signed}
use Rattle.dimacs_text.proofs.log.read_lits.Goals as goal

pub loop-negated-init : goal.loop-negated-init
loop-negated-init c = record {
  kind = c.clear.ensures.kind c.args.variables c.requires.kind;
  kept = c.clear.ensures.kept;
  read = ([], c.clear.ensures.holds, read_start lit_word (IsLitWithin c.args.variables) (tokens c.args.words.now) (tokens c.args.words.now) refl);
}

pub loop-negated-preserved : goal.loop-negated-preserved
loop-negated-preserved c =
    let i = c.loop-negated.invariant in
    let r = i.read in
    let f = c.in-Some.ensures.words in
    record {
      kind = c.in_ok-take.ensures.kind c.args.variables i.kind;
      kept = λ k. c.in_ok-take.ensures.kept (i.kept k);
      read = (
        r.0 ++ record { var = c.in-Some.n; negated = c.in-Some.negated } ∷ [],
        c.in_ok-take.ensures.holds r.0 r.1,
        read_more lit_word (IsLitWithin c.args.variables) (tokens c.args.words.now) r.0 (record { var = c.in-Some.n; negated = c.in-Some.negated }) (tokens c.loop-negated.rest.now) (tokens c.in-Some.after.now) r.2 f.2 (omega (arith, c.if-n-eq0.false), omega (arith, c.if-n-variables.false)),
      );
    }

pub returns-then-n-variables-clause-read : goal.returns-then-n-variables-clause-read
returns-then-n-variables-clause-read c ns ws hn e =
    let f = c.in-Some.ensures.words in
    let r = c.loop-negated.invariant.read in
    lits_stop c.args.variables c.requires.small (tokens c.args.words.now) r.0 (tokens c.loop-negated.rest.now) r.2
    (λ p m t lm some g. let same = same_signed c.in-Some.negated p c.in-Some.n m (tokens c.in-Some.after.now) t (tokens c.loop-negated.rest.now) f.0 lm f.2 g in ((λ z. c.if-n-eq0.false (omega (arith, same, z))), (λ small. omega (arith, same, small, c.if-n-variables.true)))) ns ws hn e

pub returns-clause-read : goal.returns-clause-read
returns-clause-read c ns ws hn e =
    let r = c.loop-negated.invariant.read in
    lits_stop c.args.variables c.requires.small (tokens c.args.words.now) r.0 (tokens c.loop-negated.rest.now) r.2
    (λ p m t lm some g. absurd (c.in_default.ensures.words p m t lm some g)) ns ws hn e
