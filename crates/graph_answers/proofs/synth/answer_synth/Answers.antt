use Rattle.std.proofs.Common.{subst, inl, inr}
use Rattle.std.proofs.lemmas.Result.{err_from_is_err_and}
use Rattle.graph_answers.specs.Answers.{IsGraphTextAnswer, IsSynthAnswer}
use Rattle.graph_answers.specs.Bits.{synth_length}
use Rattle.graph_answers.specs.Refusals.{IsEncodingRefusal}
use Rattle.graph_answers.specs.Synthesis.{IsSynthesis}
use Rattle.graph_answers.proofs.PrintedLemmas.{synth_answers}
use Rattle.refusal_lines.proofs.StopLemmas.{stop_map}
use Rattle.graph_answers.proofs.synth.answer_synth.Goals as goal

pub returns-in_err-encodable-clause-err : goal.returns-in_err-encodable-clause-err
returns-in_err-encodable-clause-err c =
    let f = c.in_ok-file.file in
    let p = err_from_is_err_and c.from_residual-in_err-encodable.result c.from_residual-in_err-encodable.ensures.1 in
    rw (p.1, p.2) (stop_map (IsEncodingRefusal (synth_length c.args.options) f) (IsGraphTextAnswer (IsSynthAnswer c.args.options) c.args.bytes.now)
    (λ s x k. inr (record { file = f; is_file = c.in_ok-file.ensures.ok; answer = inl k })) c.in_err-encodable.field-0.0 c.in_err-encodable.ensures.err)

pub returns-in_err-output-clause-err : goal.returns-in_err-output-clause-err
returns-in_err-output-clause-err c =
    let p = err_from_is_err_and c.from_residual-in_err-output.result c.from_residual-in_err-output.ensures.1 in
    rw (p.1, p.2) tt

pub returns-clause-ok : goal.returns-clause-ok
returns-clause-ok c =
    let f = c.in_ok-file.file in
    let r = c.in_ok-report.report in
    let synthesis : IsSynthesis c.args.options f r = subst (λ file. IsSynthesis c.args.options file r) c.in_ok-encodable.ensures.ok.file c.in_ok-report.ensures in
    inr (record { file = f; is_file = c.in_ok-file.ensures.ok; answer = rw (c.report_status-status.ensures, c.bound.ensures) (synth_answers c.args.options f r c.in_ok-output.output.items synthesis c.in_ok-output.ensures.fits c.in_ok-output.ensures.text) })
