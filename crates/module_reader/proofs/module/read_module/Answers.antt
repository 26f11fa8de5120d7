use Rattle.module_reader.proofs.WholeLaws.{is_found, fault_first}
use Rattle.module_reader.proofs.module.read_module.Goals as goal

pub returns-in-Ok-clause-found : goal.returns-in-Ok-clause-found
returns-in-Ok-clause-found c = is_found _ _ c.in-Ok.ensures

pub returns-in-Err-BadLine-clause-bad : goal.returns-in-Err-BadLine-clause-bad
returns-in-Err-BadLine-clause-bad c = fault_first _ c.in-Err-BadLine.field-0 _ c.in-Err-BadLine.field-0-is c.in-Err-BadLine.ensures
