use Rattle.std.proofs.Common.{◌≡◌, ◌++◌, ap, ◌∙◌, ℕ, Vec, Global, List}
use Rattle.line_text.specs.Lines.{text_of}
use Rattle.dimacs_text.specs.Writing.{log_lines}
use Rattle.dimacs_text.proofs.WritingLemmas.{text_lines, text_spelled}
use Rattle.dimacs_text.proofs.writing.write_log.Goals as goal

pub returns-clause-text : goal.returns-clause-text
returns-clause-text c = ap (λ (v : Vec ℕ Global). v.items) c.into_bytes.ensures.value ∙ (c.in_ok-text.ensures.text ∙ ap (λ (t : List ℕ). t ++ text_of (log_lines c.args.log.now.lines)) c.new.ensures.bytes)

pub returns-clause-lines : goal.returns-clause-lines
returns-clause-lines c =
    text_lines _ c.args.log.now.lines
    (ap (λ (v : Vec ℕ Global). v.items) c.into_bytes.ensures.value ∙ (c.in_ok-text.ensures.text ∙ ap (λ (t : List ℕ). t ++ text_of (log_lines c.args.log.now.lines)) c.new.ensures.bytes))
    c.in_ok-text.ensures.fits c.in_ok-text.ensures.within

pub returns-clause-spells : goal.returns-clause-spells
returns-clause-spells c variables small within =
    text_spelled variables c.args.log.now.first _ c.args.log.now.lines
    (ap (λ (v : Vec ℕ Global). v.items) c.into_bytes.ensures.value ∙ (c.in_ok-text.ensures.text ∙ ap (λ (t : List ℕ). t ++ text_of (log_lines c.args.log.now.lines)) c.new.ensures.bytes))
    small c.in_ok-text.ensures.log.rise c.in_ok-text.ensures.log.positive c.in_ok-text.ensures.fits within
