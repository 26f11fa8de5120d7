use Rattle.std.proofs.Common.{◌∙◌}
use Rattle.report_text.proofs.WritingLemmas.{members_more}
use Rattle.report_text.proofs.writing.put_members.Goals as goal

pub members-preserved : goal.members-preserved
members-preserved c = c.in_ok-put_member.ensures ∙ members_more c.args.names.now c.args.scenario.now.ops c.ops-members.result c.members.v _ _ c.ops-members.ensures c.members.invariant
