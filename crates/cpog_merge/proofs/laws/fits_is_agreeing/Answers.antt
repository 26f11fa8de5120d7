use Rattle.cpog_merge.proofs.FitLemmas.{fits_is_agreeing_lem}
use Rattle.cpog_merge.proofs.laws.fits_is_agreeing.Goals as goal

pub returns : goal.returns
returns c = fits_is_agreeing_lem
