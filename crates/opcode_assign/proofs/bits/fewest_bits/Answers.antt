use Rattle.std.proofs.Common.{rules}
use Rattle.opcode_assign.proofs.BitLemmas.{least_bits}
use Rattle.opcode_assign.proofs.bits.fewest_bits.Goals as goal

pub returns-in-3-to-4-clause-least : goal.returns-in-3-to-4-clause-least
returns-in-3-to-4-clause-least c = least_bits c.args.scenarios 1 (search rules) (search rules)

pub returns-in-5-to-8-clause-least : goal.returns-in-5-to-8-clause-least
returns-in-5-to-8-clause-least c = least_bits c.args.scenarios 2 (search rules) (search rules)

pub returns-in-9-to-16-clause-least : goal.returns-in-9-to-16-clause-least
returns-in-9-to-16-clause-least c = least_bits c.args.scenarios 3 (search rules) (search rules)

pub returns-in-17-to-32-clause-least : goal.returns-in-17-to-32-clause-least
returns-in-17-to-32-clause-least c = least_bits c.args.scenarios 4 (search rules) (search rules)

pub returns-in_default-clause-least : goal.returns-in_default-clause-least
returns-in_default-clause-least c = least_bits c.args.scenarios 5 (search rules) (search rules)
