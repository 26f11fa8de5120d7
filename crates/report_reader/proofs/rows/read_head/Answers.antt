use Rattle.report_reader.proofs.HeadRows.{is_found, is_only, is_first}
use Rattle.report_reader.proofs.rows.read_head.Goals as goal

pub returns-clause-found : goal.returns-clause-found
returns-clause-found c = is_found _ c.all.result c.all.ensures

pub returns-clause-only : goal.returns-clause-only
returns-clause-only c d fits same = is_only _ c.all.result c.all.ensures d fits same

pub returns-clause-bad : goal.returns-clause-bad
returns-clause-bad c = is_first _ c.all.result c.all.ensures
