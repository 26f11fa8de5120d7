use Rattle.opcode_assign.proofs.BitLemmas.{least_from}
use Rattle.opcode_assign.proofs.bits.default_bits.Goals as goal

pub returns-clause-least : goal.returns-clause-least
returns-clause-least c = least_from c.args.least c.args.scenarios c.fewest_bits.result c.max.result c.fewest_bits.ensures.least c.max.ensures
