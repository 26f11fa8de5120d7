use Rattle.std.proofs.Common.{arith, ap, sym, ◌∙◌, ◌<◌, ◌≡◌, ◌++◌, string_bytes, length, take, subst, ℕ, List}
use Rattle.std.specs.List.{AllByRecursion}
use Rattle.std.proofs.lemmas.List.{take_all}
use Rattle.line_text.specs.Lines.{text_of}
use Rattle.proof_check.specs.Lines.{Line, last_id}
use Rattle.dimacs_text.specs.Logs.{id_after}
use Rattle.dimacs_text.specs.Writing.{written_lines, LineFits, LinesWithin}
use Rattle.proof_check.specs.Refs.{line_of_ref}
use Rattle.dimacs_text.proofs.LogTextLemmas.{last_push}
use Rattle.dimacs_text.proofs.WritingLemmas.{lines_more, one_more, fit_more, within_more}
use Rattle.dimacs_text.proofs.writing.put_lines.Goals as goal

pub lines-preserved : goal.lines-preserved
lines-preserved c =
    let i = c.lines.invariant in
    let lines = c.args.log.now.lines in
    let l = line_of_ref c.line.result in
    let lt : c.lines.i < length lines = omega (arith, c.lines-test.true, c.len-i-end.ensures.len) in
    record {
      text = lines_more lines c.lines.i c.lines.last l _ _ _ lt c.line.ensures.is i.last i.text c.in_ok-last.ensures.text;
      last = c.in_ok-last.ensures.last ∙ sym (ap (last_id 1) (one_more lines c.lines.i l lt c.line.ensures.is) ∙ (last_push 1 (take c.lines.i lines) l ∙ ap (λ (k : ℕ). id_after k l) (sym i.last)));
      fit = fit_more lines c.lines.i l lt c.line.ensures.is i.fit c.in_ok-last.ensures.fits;
      within = within_more lines c.lines.i l lt c.line.ensures.is i.within c.in_ok-last.ensures.within;
    }

pub returns-clause-text : goal.returns-clause-text
returns-clause-text c =
    let i = c.lines.invariant in
    let lines = c.args.log.now.lines in
    let all : take c.lines.i lines ≡ lines = take_all c.lines.i lines (omega (arith, c.lines-test.false, c.len-i-end.ensures.len)) in
    i.text ∙ ap (λ (ls : List Line). string_bytes c.args.out.now ++ text_of (written_lines 1 ls)) all

pub returns-clause-fits : goal.returns-clause-fits
returns-clause-fits c =
    let all = take_all c.lines.i c.args.log.now.lines (omega (arith, c.lines-test.false, c.len-i-end.ensures.len)) in
    subst (AllByRecursion LineFits) all c.lines.invariant.fit

pub returns-clause-within : goal.returns-clause-within
returns-clause-within c =
    let all = take_all c.lines.i c.args.log.now.lines (omega (arith, c.lines-test.false, c.len-i-end.ensures.len)) in
    subst (LinesWithin 2147483647) all c.lines.invariant.within
