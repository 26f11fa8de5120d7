use Rattle.std.proofs.Common.{ap, length, arith}
use Rattle.report_judge.proofs.ReportLemmas.{orders_length}
use Rattle.report_judge.proofs.judging.check_scenarios.Goals as goal

pub first_equal-requires : goal.first_equal-requires
first_equal-requires c =
    let same = orders_length c.scenarios.result.now c.in-Ok.orders.items c.in-Ok.ensures.orders in
    omega (arith, ap length c.deref.ensures.value, same, ap length c.scenarios.ensures, c.version-version.ensures.report.few_scenarios)
