use Rattle.std.proofs.Common.{◌++◌, ap, sym, ◌∙◌, string_bytes}
use Rattle.std.specs.Prelude.{codes}
use Rattle.line_text.specs.Lines.{text_of}
use Rattle.cnf_build.specs.declared.evidence.Evidence.{Evidence}
use Rattle.cnf_build.specs.Evidence.{evidence_of}
use Rattle.report_text.specs.Rows.{evidence_lines}
use Rattle.report_text.proofs.WritingLemmas.{count_written, log_written, if_ok}
use Rattle.report_text.proofs.known.append_evidence.Goals as goal

pub returns-in_ok-put_places-in-Count-clause-text : goal.returns-in_ok-put_places-in-Count-clause-text
returns-in_ok-put_places-in-Count-clause-text c =
    count_written c.args.names.now c.in-Count.places.items c.deref.result.now _ _ _ c.deref.ensures.value
    c.in_ok-push_str-in-Count.ensures.bytes c.in_ok-put_places-in-Count.ensures
    ∙ ap (λ (z : Evidence). string_bytes c.args.text ++ text_of (evidence_lines c.args.names.now (evidence_of z))) (sym c.in-Count.is)

pub returns-in_ok-write-in-Refutation-clause-text : goal.returns-in_ok-write-in-Refutation-clause-text
returns-in_ok-write-in-Refutation-clause-text c =
    let r = c.in-Refutation in
    if_ok c.append_closed_log.result _ _ (λ _ e.
    log_written (codes "evidence refutation ") r.template r.gates c.template_number-number.result r.log.lines _ _ _
    c.template_number-number.ensures c.in_ok-write-in-Refutation.ensures.bytes e
    ∙ ap (λ (z : Evidence). string_bytes c.args.text ++ text_of (evidence_lines c.args.names.now (evidence_of z))) (sym r.is)) c.append_closed_log.ensures.text
