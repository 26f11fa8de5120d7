use Rattle.report_text.proofs.WritingLemmas.{gate_written}
use Rattle.report_text.proofs.writing.put_gate.Goals as goal

pub returns : goal.returns
returns c = gate_written _ _ _ _ _ _ _ _ c.in_ok-write.ensures.bytes c.in_ok-put_digits.ensures c.in_ok-push_str.ensures.bytes
