use Rattle.std.proofs.Common.{[], slice_get, Some, ◌≡◌, sym, subst}
use Rattle.std.proofs.lemmas.Option.{get_or_from_slice_get}
use Rattle.report_text.proofs.writing.scenario_name.Goals as goal

pub returns : goal.returns
returns c =
    let names = c.args.report.now.scenario_names in
    sym (get_or_from_slice_get names c.args.s c.get.result.now [] (subst (λ ns. slice_get ns c.args.s ≡ Some c.get.result.now) c.scenario_names-names.ensures c.get.ensures))
