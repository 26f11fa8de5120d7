use Rattle.cpog_merge.proofs.ListedLemmas.{open_class_columns}
use Rattle.cpog_merge.proofs.laws.classes_are_open.Goals as goal

pub returns : goal.returns
returns c = open_class_columns
