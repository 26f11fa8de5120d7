use Rattle.std.proofs.Common.{subst}
use Rattle.gate_core.specs.First.{HasFewGates}
use Rattle.opcode_assign.proofs.minimum.first_parts.Goals as goal

pub returns-clause-few_gates : goal.returns-clause-few_gates
returns-clause-few_gates c =
    subst (λ columns. HasFewGates c.args.codes.now c.args.bits columns (record { codes = c.in_ok-codes.field-0.codes.items; gates = c.in_ok-codes.field-0.gates; refs = c.in_ok-codes.field-0.refs.items })) c.columns.ensures.columns c.in_ok-codes.ensures.few_gates
