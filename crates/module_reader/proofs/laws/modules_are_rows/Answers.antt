use Rattle.module_reader.proofs.WholeLaws.{module_law}
use Rattle.module_reader.proofs.laws.modules_are_rows.Goals as goal

pub returns : goal.returns
returns c = module_law
