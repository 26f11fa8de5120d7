use Rattle.std.proofs.Common.{◌≤◌, length, subst, arith}
use Rattle.cpog_base.specs.declared.limits.TheConstants.{VARIABLE_LIMIT}
use Rattle.clause_arena.specs.Arenas.{literals}
use Rattle.gate_template.specs.Variables.{variables}
use Rattle.gate_template.specs.Templates.{shape_of, template}
use Rattle.gate_template.proofs.CountedLemmas.{variables_few}
use Rattle.sat_engine.specs.Outcomes.{IsOutcomeOf}
use Rattle.opcode_assign.proofs.LogLemmas.{refutation_written, progress_written}
use Rattle.opcode_assign.proofs.attempt.try_template.Goals as goal

pub returns-in-Refuted : goal.returns-in-Refuted
returns-in-Refuted c =
    let t = template c.args.kind c.args.given.now c.args.bits c.args.gates c.args.classes.now.columns in
    let n = length (variables (shape_of c.args.given.now c.args.bits c.args.gates c.args.classes.now.columns)) in
    let size : literals t ≤ 16777216 = omega (arith, c.template_size-size.ensures.literals, c.if-size-from.false, c.from.ensures) in
    let few : n ≤ VARIABLE_LIMIT = omega (arith, size, variables_few c.args.kind c.args.given.now c.args.classes.now.columns c.args.bits c.args.gates c.requires.two c.requires.asked.some_bits c.requires.asked.patterns_fit c.requires.open_columns) in
    let found = subst (IsOutcomeOf n t c.args.budget) c.in-Refuted.is c.in_ok-values.ensures in
    record {
      size = size;
      refutes = found.1;
      below = found.2;
      written = refutation_written n c.in-Refuted.log.first t c.in-Refuted.log.lines few c.read_log.ensures.log.rise c.read_log.ensures.log.positive c.read_log.ensures.variables found.1;
    }

pub returns-in-Open : goal.returns-in-Open
returns-in-Open c =
    let t = template c.args.kind c.args.given.now c.args.bits c.args.gates c.args.classes.now.columns in
    let n = length (variables (shape_of c.args.given.now c.args.bits c.args.gates c.args.classes.now.columns)) in
    let size : literals t ≤ 16777216 = omega (arith, c.template_size-size.ensures.literals, c.if-size-from.false, c.from.ensures) in
    let few : n ≤ VARIABLE_LIMIT = omega (arith, size, variables_few c.args.kind c.args.given.now c.args.classes.now.columns c.args.bits c.args.gates c.requires.two c.requires.asked.some_bits c.requires.asked.patterns_fit c.requires.open_columns) in
    let found = subst (IsOutcomeOf n t c.args.budget) c.in-Open.is c.in_ok-values.ensures in
    record {
      size = size;
      progress = found.1;
      spends = found.2;
      written = progress_written n c.in-Open.log.first t c.in-Open.log.lines few c.read_log-in-Open.ensures.log.rise c.read_log-in-Open.ensures.log.positive c.read_log-in-Open.ensures.variables found.1;
    }
