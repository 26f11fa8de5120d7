use Rattle.pg_text.proofs.GraphSteps.{no_reference, reference_read}
use Rattle.pg_text.proofs.expressions.reference_at.Goals as goal

pub returns-in_default-name_at-clause-err : goal.returns-in_default-name_at-clause-err
returns-in_default-name_at-clause-err c = no_reference c.args.bytes.now c.in-Some.after.now c.in-Some.ensures.cases c.in_default-name_at.ensures.cases

pub returns-clause-found : goal.returns-clause-found
returns-clause-found c = reference_read c.args.bytes.now c.in-Some.after.now c.in-Some-name_at.rest.now c.in-Some-name_at.name.now c.in_ok-name.name c.in-Some.ensures.cases c.in-Some-name_at.ensures.cases c.in_ok-name.ensures
