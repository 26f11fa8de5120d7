use Rattle.std.proofs.Common.{inl}
use Rattle.cpog_base.specs.declared.status.Status.TheVariants as status
use Rattle.pg_text.specs.Lines.{graph_lines, IsFirstBad}
use Rattle.pg_text.specs.Text.{IsGoodLine}
use Rattle.refusal_lines.specs.declared.refusal.Refusal.TheVariants as refusal
use Rattle.refusal_lines.specs.Refusal.{Tells}
use Rattle.graph_answers.specs.Refusals.{IsTextRefusal}
use Rattle.refusal_lines.proofs.StopLemmas.{stop_map}
use Rattle.graph_answers.proofs.graph_text.file_of.Goals as goal

pub returns-in-Err-BadLine-clause-err : goal.returns-in-Err-BadLine-clause-err
returns-in-Err-BadLine-clause-err c =
    let bytes = c.args.bytes.now in
    let line = c.in-Err-BadLine.line in
    let first : IsFirstBad IsGoodLine (graph_lines bytes) line = rw c.in-Err-BadLine.field-0-is at c.in-Err-BadLine.ensures.err in
    stop_map (Tells status.Text (refusal.Text line)) (IsTextRefusal bytes) (λ s x h. inl (h.0, record { line = line; first = first; output_is = h.1 })) c.refuse.result (rw c.in-Err-BadLine.line-is at c.refuse.ensures)
