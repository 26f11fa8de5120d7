use Rattle.cpog_merge.proofs.SameLemmas.{same_classes}
use Rattle.cpog_merge.proofs.laws.same_columns_same_classes.Goals as goal

pub returns : goal.returns
returns c = same_classes
