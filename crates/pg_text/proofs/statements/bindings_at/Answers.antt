use Rattle.pg_text.specs.Sentences.{bind_tokens}
use Rattle.pg_text.proofs.CommaSteps.{found_more, only_more, commas_end, no_commas}
use Rattle.pg_text.proofs.LineSteps.{binding_item, no_binding}
use Rattle.pg_text.proofs.SentenceLaws.{same_binding}
use Rattle.pg_text.proofs.statements.bindings_at.Goals as goal

pub bindings-preserved : goal.bindings-preserved
bindings-preserved c = record {
  found = found_more bind_tokens same_binding c.args.bytes.now c.bindings.left.now c.in-Some.after.now c.bindings.bindings.items c.push.new.self.items (c.in_ok-name.name, c.in-Some.bit) c.bindings.invariant.found c.bindings.invariant.only (binding_item c.bindings.left.now c.in-Some.after.now c.in-Some.name.now c.in_ok-name.name c.in-Some.bit c.in-Some.ensures.cases c.in_ok-name.ensures) c.in_ok-push.ensures.items c.in-Some-after_sign.rest.now c.in-Some-after_sign.ensures.cases;
  only = only_more bind_tokens same_binding c.args.bytes.now c.bindings.left.now c.in-Some.after.now c.bindings.bindings.items c.push.new.self.items (c.in_ok-name.name, c.in-Some.bit) c.bindings.invariant.found c.bindings.invariant.only (binding_item c.bindings.left.now c.in-Some.after.now c.in-Some.name.now c.in_ok-name.name c.in-Some.bit c.in-Some.ensures.cases c.in_ok-name.ensures) c.in_ok-push.ensures.items c.in-Some-after_sign.rest.now c.in-Some-after_sign.ensures.cases;
}

pub returns-in-None-clause-found : goal.returns-in-None-clause-found
returns-in-None-clause-found c = commas_end bind_tokens same_binding c.args.bytes.now c.bindings.left.now c.in-Some.after.now c.bindings.bindings.items c.push.new.self.items (c.in_ok-name.name, c.in-Some.bit) c.bindings.invariant.found c.bindings.invariant.only (binding_item c.bindings.left.now c.in-Some.after.now c.in-Some.name.now c.in_ok-name.name c.in-Some.bit c.in-Some.ensures.cases c.in_ok-name.ensures) c.in_ok-push.ensures.items c.in-None.ensures.cases

pub returns-in_default-clause-err : goal.returns-in_default-clause-err
returns-in_default-clause-err c = no_commas bind_tokens same_binding c.args.bytes.now c.bindings.left.now c.bindings.invariant.only (no_binding c.bindings.left.now c.in_default.ensures.cases)
