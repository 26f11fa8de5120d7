use Rattle.cpog_merge.proofs.ScenarioLemmas.{fits_is_fitting_scenarios_lem}
use Rattle.cpog_merge.proofs.laws.fits_is_fitting_scenarios.Goals as goal

pub returns : goal.returns
returns c = fits_is_fitting_scenarios_lem
