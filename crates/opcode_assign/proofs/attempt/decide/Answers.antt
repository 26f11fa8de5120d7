use Rattle.std.proofs.Common.{arith}
use Rattle.gate_template.proofs.CountedLemmas.{variables_few}
use Rattle.cnf_build.proofs.BoundLemmas.{clauses_bound, is_shape}
use Rattle.opcode_assign.proofs.attempt.decide.Goals as goal

pub decision_blocks-requires-clause-shape : goal.decision_blocks-requires-clause-shape
decision_blocks-requires-clause-shape c = is_shape c.args.kind c.args.given.now c.args.classes.now.columns c.args.bits c.args.gates c.requires.asked c.requires.size

pub solve_in_blocks-requires-clause-variables_few : goal.solve_in_blocks-requires-clause-variables_few
solve_in_blocks-requires-clause-variables_few c =
    omega (arith, c.in_ok-cnf.ensures.variables, c.requires.size, variables_few c.args.kind c.args.given.now c.args.classes.now.columns c.args.bits c.args.gates c.requires.two c.requires.asked.some_bits c.requires.asked.patterns_fit c.requires.open_columns)

pub solve_in_blocks-requires-clause-size : goal.solve_in_blocks-requires-clause-size
solve_in_blocks-requires-clause-size c =
    rw c.in_ok-cnf.ensures.clauses (omega (arith, c.requires.size, clauses_bound c.args.kind c.args.given.now c.args.classes.now.columns c.args.bits c.args.gates c.requires.asked))
