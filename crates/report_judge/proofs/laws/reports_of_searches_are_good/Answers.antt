use Rattle.report_judge.proofs.SearchedLemmas.{report_of_search_is_good}
use Rattle.report_judge.proofs.laws.reports_of_searches_are_good.Goals as goal

pub returns : goal.returns
returns c = report_of_search_is_good
