use Rattle.pg_text.specs.Sentences.{name_tokens}
use Rattle.pg_text.proofs.CommaSteps.{found_more, only_more, commas_end, no_commas}
use Rattle.pg_text.proofs.LineSteps.{name_item, no_name_item}
use Rattle.pg_text.proofs.SentenceLaws.{same_name}
use Rattle.pg_text.proofs.statements.names_at.Goals as goal

pub names-preserved : goal.names-preserved
names-preserved c = record {
  found = found_more name_tokens same_name c.args.bytes.now c.names.left.now c.in-Some.after.now c.names.names.items c.push.new.self.items c.in_ok-new.field-0 c.names.invariant.found c.names.invariant.only (name_item c.names.left.now c.in-Some.after.now c.in-Some.name.now c.in_ok-new.field-0 c.in-Some.ensures.cases c.in_ok-new.ensures) c.in_ok-push.ensures.items c.in-Some-after_sign.rest.now c.in-Some-after_sign.ensures.cases;
  only = only_more name_tokens same_name c.args.bytes.now c.names.left.now c.in-Some.after.now c.names.names.items c.push.new.self.items c.in_ok-new.field-0 c.names.invariant.found c.names.invariant.only (name_item c.names.left.now c.in-Some.after.now c.in-Some.name.now c.in_ok-new.field-0 c.in-Some.ensures.cases c.in_ok-new.ensures) c.in_ok-push.ensures.items c.in-Some-after_sign.rest.now c.in-Some-after_sign.ensures.cases;
}

pub returns-in-None-clause-found : goal.returns-in-None-clause-found
returns-in-None-clause-found c = commas_end name_tokens same_name c.args.bytes.now c.names.left.now c.in-Some.after.now c.names.names.items c.push.new.self.items c.in_ok-new.field-0 c.names.invariant.found c.names.invariant.only (name_item c.names.left.now c.in-Some.after.now c.in-Some.name.now c.in_ok-new.field-0 c.in-Some.ensures.cases c.in_ok-new.ensures) c.in_ok-push.ensures.items c.in-None.ensures.cases

pub returns-in_default-clause-err : goal.returns-in_default-clause-err
returns-in_default-clause-err c = no_commas name_tokens same_name c.args.bytes.now c.names.left.now c.names.invariant.only (no_name_item c.names.left.now c.in_default.ensures.cases)
