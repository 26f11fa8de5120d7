use Rattle.std.proofs.Common.{inl}
use Rattle.cpog_base.specs.declared.status.Status.TheVariants as status
use Rattle.dimacs_text.specs.Texts.{IsJoinedText}
use Rattle.text_rows.specs.FirstBad.{IsFirstBad}
use Rattle.text_rows.specs.Lines.{free_lines}
use Rattle.refusal_lines.specs.declared.refusal.Refusal.TheVariants as refusal
use Rattle.formula_answers.specs.Judged.{IsJoinedRefusal}
use Rattle.refusal_lines.specs.Refusal.{Tells}
use Rattle.refusal_lines.proofs.StopLemmas.{stop_map}
use Rattle.formula_answers.proofs.lrat.joined_of.Goals as goal

pub returns-in-Err-BadLine-clause-err : goal.returns-in-Err-BadLine-clause-err
returns-in-Err-BadLine-clause-err c =
    let bytes = c.args.bytes.now in
    let line = c.in-Err-BadLine.line in
    let first : IsFirstBad IsJoinedText (free_lines bytes) line = rw c.in-Err-BadLine.field-0-is at c.in-Err-BadLine.ensures in
    stop_map (Tells status.Text (refusal.Text line)) (IsJoinedRefusal bytes) (λ s x k. inl (k.0, record { line = line; first = first; output_is = k.1 }))
    c.refuse.result (rw c.in-Err-BadLine.line-is at c.refuse.ensures)
