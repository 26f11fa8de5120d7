use Rattle.std.proofs.Common.{◌∙◌, ap}
use Rattle.report_text.specs.Versions.{version_number}
use Rattle.report_text.proofs.WritingLemmas.{head_written}
use Rattle.report_text.proofs.writing.put_head.Goals as goal

pub returns : goal.returns
returns c =
    head_written c.args.report.now c.number.result c.bits.result c.budget.result c.names.result.now _ _ _ _
    (c.number.ensures ∙ ap version_number c.version.ensures.version) c.bits.ensures.bits
    c.budget.ensures c.names.ensures c.in_ok-write.ensures.bytes c.in_ok-put_names.ensures
    c.in_ok-push_str.ensures.bytes
