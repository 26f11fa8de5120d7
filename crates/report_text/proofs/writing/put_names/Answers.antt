use Rattle.std.proofs.Common.{◌∙◌}
use Rattle.report_text.proofs.WritingLemmas.{names_more}
use Rattle.report_text.proofs.writing.put_names.Goals as goal

pub names-preserved : goal.names-preserved
names-preserved c = c.in_ok-write.ensures.bytes ∙ names_more c.args.names.now c.names.v c.get.result.now _ _ c.names.invariant c.get.ensures
