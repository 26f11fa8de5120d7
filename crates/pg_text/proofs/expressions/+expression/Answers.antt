use Rattle.std.proofs.Common.{ap, arith, length}
use Rattle.std.proofs.lemmas.Result.{err_from_is_err_and}
use Rattle.pg_text.specs.Grammar.{graph, product, sum}
use Rattle.pg_text.proofs.RowSteps.{only_at_first, found_more, only_more, row_ends, no_row, alone, with_others, no_others}
use Rattle.pg_text.proofs.FactorSteps.{group_too_deep, no_inside, no_close, group_read}
use Rattle.pg_text.proofs.GraphSteps.{guard_too_deep, no_guard, no_square, no_governed, guard_read, operation_read, empty_read, no_graph}
use Rattle.pg_text.proofs.expressions.+expression.Goals as goal

pub more_sequences_at-members-preserved : goal.more_sequences_at-members-preserved
more_sequences_at-members-preserved bound c = record {
  found = found_more graph sum c.args.room c.args.first c.args.operations.now c.members.operations c.sequence_at.new.operations c.args.bytes.now c.members.left.now c.in_ok-member.after.now c.members.members.items c.push-in-members.new.self.items c.in_ok-member.member c.members.invariant.found c.members.invariant.only c.in_ok-member.ensures.found c.in_ok-push-2.ensures.items c.in-Some.rest.now c.in-Some.ensures.cases;
  only = only_more graph sum c.args.room c.args.first c.args.operations.now c.members.operations c.sequence_at.new.operations c.args.bytes.now c.members.left.now c.in_ok-member.after.now c.members.members.items c.push-in-members.new.self.items c.in_ok-member.member c.members.invariant.found c.members.invariant.only c.in_ok-member.ensures.found c.in_ok-push-2.ensures.items c.in-Some.rest.now c.in-Some.ensures.cases;
  some = (let is = ap length c.in_ok-push-2.ensures.items in omega (arith, is));
  shorter = omega (arith, c.members.invariant.shorter, c.in_ok-member.ensures.shorter, c.in-Some.ensures.shorter);
  numbers = omega (arith, c.members.invariant.numbers, c.in_ok-member.ensures.numbers, c.in-Some.ensures.shorter);
}

pub more_sequences_at-returns-in-None-clause-found : goal.more_sequences_at-returns-in-None-clause-found
more_sequences_at-returns-in-None-clause-found bound c = row_ends graph sum c.args.room c.args.first c.args.operations.now c.members.operations c.sequence_at.new.operations c.args.bytes.now c.members.left.now c.in_ok-member.after.now c.members.members.items c.push-in-members.new.self.items c.in_ok-member.member c.members.invariant.found c.members.invariant.only c.in_ok-member.ensures.found c.in_ok-push-2.ensures.items c.overlay_of.result c.overlay_of.ensures c.in-None.ensures.cases

pub more_sequences_at-returns-in_err-member-clause-err : goal.more_sequences_at-returns-in_err-member-clause-err
more_sequences_at-returns-in_err-member-clause-err bound c =
    let p = err_from_is_err_and c.from_residual-in_err-member.result c.from_residual-in_err-member.ensures.1 in
    rw (p.1, p.2) (no_row graph sum c.args.room c.args.bytes.now c.members.left.now c.members.invariant.only c.in_err-member.field-0.0 c.in_err-member.ensures.err)

pub expression_at-returns-in_err-first-clause-err : goal.expression_at-returns-in_err-first-clause-err
expression_at-returns-in_err-first-clause-err bound c =
    let p = err_from_is_err_and c.from_residual.result c.from_residual.ensures.1 in
    rw (p.1, p.2) (no_row graph sum c.args.room c.args.bytes.now c.args.bytes.now (only_at_first graph sum c.args.room c.args.bytes.now) c.in_err-first.field-0.0 c.in_err-first.ensures.err)

pub expression_at-returns-in_default-clause-found : goal.expression_at-returns-in_default-clause-found
expression_at-returns-in_default-clause-found bound c = alone graph sum c.args.room c.args.operations.now c.sequence_at.new.operations c.args.bytes.now c.in_ok-first.after.now c.in_ok-first.first c.in_ok-first.ensures.found c.in_default.ensures.cases

pub expression_at-returns-in_err-whole-clause-err : goal.expression_at-returns-in_err-whole-clause-err
expression_at-returns-in_err-whole-clause-err bound c =
    let p = err_from_is_err_and c.from_residual-in_err-whole.result c.from_residual-in_err-whole.ensures.1 in
    rw (p.1, p.2) (no_others graph sum c.args.room c.args.operations.now c.sequence_at.new.operations c.args.bytes.now c.in_ok-first.after.now c.in_ok-first.first c.in_ok-first.ensures.found c.in-Some.others.now c.in-Some.ensures.cases c.in_err-whole.field-0.0 c.in_err-whole.ensures.err)

pub expression_at-returns-clause-found : goal.expression_at-returns-clause-found
expression_at-returns-clause-found bound c = with_others graph sum c.args.room c.args.operations.now c.sequence_at.new.operations c.args.bytes.now c.in_ok-first.after.now c.in_ok-first.first c.in_ok-first.ensures.found c.in-Some.others.now c.in-Some.ensures.cases c.in_ok-whole.whole c.more_sequences_at.new.operations c.in_ok-whole.rest.now c.in_ok-whole.ensures.found

pub more_factors_at-members-preserved : goal.more_factors_at-members-preserved
more_factors_at-members-preserved bound c = record {
  found = found_more graph product c.args.room c.args.first c.args.operations.now c.members.operations c.factor_at.new.operations c.args.bytes.now c.members.left.now c.in_ok-member.after.now c.members.members.items c.push-in-members.new.self.items c.in_ok-member.member c.members.invariant.found c.members.invariant.only c.in_ok-member.ensures.found c.in_ok-push-2.ensures.items c.in-Some.rest.now c.in-Some.ensures.cases;
  only = only_more graph product c.args.room c.args.first c.args.operations.now c.members.operations c.factor_at.new.operations c.args.bytes.now c.members.left.now c.in_ok-member.after.now c.members.members.items c.push-in-members.new.self.items c.in_ok-member.member c.members.invariant.found c.members.invariant.only c.in_ok-member.ensures.found c.in_ok-push-2.ensures.items c.in-Some.rest.now c.in-Some.ensures.cases;
  some = (let is = ap length c.in_ok-push-2.ensures.items in omega (arith, is));
  shorter = omega (arith, c.members.invariant.shorter, c.in_ok-member.ensures.shorter, c.in-Some.ensures.shorter);
  numbers = omega (arith, c.members.invariant.numbers, c.in_ok-member.ensures.numbers, c.in-Some.ensures.shorter);
}

pub more_factors_at-returns-in-None-clause-found : goal.more_factors_at-returns-in-None-clause-found
more_factors_at-returns-in-None-clause-found bound c = row_ends graph product c.args.room c.args.first c.args.operations.now c.members.operations c.factor_at.new.operations c.args.bytes.now c.members.left.now c.in_ok-member.after.now c.members.members.items c.push-in-members.new.self.items c.in_ok-member.member c.members.invariant.found c.members.invariant.only c.in_ok-member.ensures.found c.in_ok-push-2.ensures.items c.sequence_of.result c.sequence_of.ensures c.in-None.ensures.cases

pub more_factors_at-returns-in_err-member-clause-err : goal.more_factors_at-returns-in_err-member-clause-err
more_factors_at-returns-in_err-member-clause-err bound c =
    let p = err_from_is_err_and c.from_residual-in_err-member.result c.from_residual-in_err-member.ensures.1 in
    rw (p.1, p.2) (no_row graph product c.args.room c.args.bytes.now c.members.left.now c.members.invariant.only c.in_err-member.field-0.0 c.in_err-member.ensures.err)

pub sequence_at-returns-in_err-first-clause-err : goal.sequence_at-returns-in_err-first-clause-err
sequence_at-returns-in_err-first-clause-err bound c =
    let p = err_from_is_err_and c.from_residual.result c.from_residual.ensures.1 in
    rw (p.1, p.2) (no_row graph product c.args.room c.args.bytes.now c.args.bytes.now (only_at_first graph product c.args.room c.args.bytes.now) c.in_err-first.field-0.0 c.in_err-first.ensures.err)

pub sequence_at-returns-in_default-clause-found : goal.sequence_at-returns-in_default-clause-found
sequence_at-returns-in_default-clause-found bound c = alone graph product c.args.room c.args.operations.now c.factor_at.new.operations c.args.bytes.now c.in_ok-first.after.now c.in_ok-first.first c.in_ok-first.ensures.found c.in_default.ensures.cases

pub sequence_at-returns-in_err-whole-clause-err : goal.sequence_at-returns-in_err-whole-clause-err
sequence_at-returns-in_err-whole-clause-err bound c =
    let p = err_from_is_err_and c.from_residual-in_err-whole.result c.from_residual-in_err-whole.ensures.1 in
    rw (p.1, p.2) (no_others graph product c.args.room c.args.operations.now c.factor_at.new.operations c.args.bytes.now c.in_ok-first.after.now c.in_ok-first.first c.in_ok-first.ensures.found c.in-Some.others.now c.in-Some.ensures.cases c.in_err-whole.field-0.0 c.in_err-whole.ensures.err)

pub sequence_at-returns-clause-found : goal.sequence_at-returns-clause-found
sequence_at-returns-clause-found bound c = with_others graph product c.args.room c.args.operations.now c.factor_at.new.operations c.args.bytes.now c.in_ok-first.after.now c.in_ok-first.first c.in_ok-first.ensures.found c.in-Some.others.now c.in-Some.ensures.cases c.in_ok-whole.whole c.more_factors_at.new.operations c.in_ok-whole.rest.now c.in_ok-whole.ensures.found

pub group_at-returns-then-room-eq0-clause-err : goal.group_at-returns-then-room-eq0-clause-err
group_at-returns-then-room-eq0-clause-err bound c = group_too_deep graph c.args.room c.args.bytes.now c.in-Some.after.now c.in-Some.ensures.cases c.if-room-eq0.true

pub group_at-returns-in_err-inside-clause-err : goal.group_at-returns-in_err-inside-clause-err
group_at-returns-in_err-inside-clause-err bound c =
    let p = err_from_is_err_and c.from_residual.result c.from_residual.ensures.1 in
    rw (p.1, p.2) (no_inside graph c.args.room c.args.bytes.now c.in-Some.after.now c.in-Some.ensures.cases c.in_err-inside.field-0.0 c.in_err-inside.ensures.err)

pub group_at-returns-in_default-after_sign-clause-err : goal.group_at-returns-in_default-after_sign-clause-err
group_at-returns-in_default-after_sign-clause-err bound c = no_close graph c.args.room c.args.bytes.now c.in-Some.after.now c.in-Some.ensures.cases c.args.operations.now c.expression_at.new.operations c.in_ok-inside.inside c.in_ok-inside.left.now c.in_ok-inside.ensures.found c.in_default-after_sign.ensures.cases

pub group_at-returns-clause-found : goal.group_at-returns-clause-found
group_at-returns-clause-found bound c = group_read graph c.args.room c.args.bytes.now c.in-Some.after.now c.in-Some.ensures.cases c.args.operations.now c.expression_at.new.operations c.in_ok-inside.inside c.in_ok-inside.left.now c.in_ok-inside.ensures.found c.in-Some-after_sign.rest.now (let d = c.if-room-eq0.false in omega arith) c.in-Some-after_sign.ensures.cases

pub guard_at-returns-then-room-eq0-clause-err : goal.guard_at-returns-then-room-eq0-clause-err
guard_at-returns-then-room-eq0-clause-err bound c = guard_too_deep c.args.room c.args.bytes.now c.in-Some.after.now c.in-Some.ensures.cases c.if-room-eq0.true

pub guard_at-returns-in_err-condition-clause-err : goal.guard_at-returns-in_err-condition-clause-err
guard_at-returns-in_err-condition-clause-err bound c =
    let p = err_from_is_err_and c.from_residual.result c.from_residual.ensures.1 in
    rw (p.1, p.2) (no_guard c.args.room c.args.bytes.now c.in-Some.after.now c.in-Some.ensures.cases c.in_err-condition.field-0.0 c.in_err-condition.ensures.err)

pub guard_at-returns-in_default-after_sign-clause-err : goal.guard_at-returns-in_default-after_sign-clause-err
guard_at-returns-in_default-after_sign-clause-err bound c = no_square c.args.room c.args.bytes.now c.in-Some.after.now c.in-Some.ensures.cases c.in_ok-condition.condition c.in_ok-condition.left.now c.in_ok-condition.ensures.found c.in_default-after_sign.ensures.cases

pub guard_at-returns-in_err-governed-clause-err : goal.guard_at-returns-in_err-governed-clause-err
guard_at-returns-in_err-governed-clause-err bound c =
    let p = err_from_is_err_and c.from_residual-in_err-governed.result c.from_residual-in_err-governed.ensures.1 in
    rw (p.1, p.2) (no_governed c.args.room c.args.bytes.now c.in-Some.after.now c.in-Some.ensures.cases c.in_ok-condition.condition c.in_ok-condition.left.now c.in_ok-condition.ensures.found c.in-Some-after_sign.next.now c.in-Some-after_sign.ensures.cases c.in_err-governed.field-0.0 c.in_err-governed.ensures.err)

pub guard_at-returns-clause-found : goal.guard_at-returns-clause-found
guard_at-returns-clause-found bound c = rw (c.in_ok-condition-2.ensures, c.in_ok-governed-2.ensures) (guard_read c.args.room c.args.bytes.now c.in-Some.after.now c.in-Some.ensures.cases c.in_ok-condition.condition c.in_ok-condition.left.now c.in_ok-condition.ensures.found c.in-Some-after_sign.next.now c.in-Some-after_sign.ensures.cases c.args.operations.now c.factor_at.new.operations c.in_ok-governed.governed c.in_ok-governed.rest.now (let d = c.if-room-eq0.false in omega arith) c.in_ok-governed.ensures.found)

pub factor_at-returns-in-Some-clause-found : goal.factor_at-returns-in-Some-clause-found
factor_at-returns-in-Some-clause-found bound c = operation_read c.args.room c.args.operations.now c.number_of.new.operations c.args.bytes.now c.in-Some.rest.now c.in-Some.name.now c.in_ok-number.number c.in-Some.ensures.cases c.in_ok-number.ensures.number c.in_ok-number.ensures.operations

pub factor_at-returns-in-Some-after_word-clause-found : goal.factor_at-returns-in-Some-after_word-clause-found
factor_at-returns-in-Some-after_word-clause-found bound c = empty_read c.args.room c.args.operations.now c.args.bytes.now c.in-Some-after_word.rest.now c.in-Some-after_word.ensures.cases

pub factor_at-returns-clause-err : goal.factor_at-returns-clause-err
factor_at-returns-clause-err bound c =
    no_graph c.args.room c.args.bytes.now c.in_default.ensures.cases c.in_default-after_word.ensures.cases (rw c.in_default-2.is at c.in_ok-reference.ensures.found)
    (rw c.in_default-3.is at c.in_ok-group.ensures.found).0 (rw c.in_default-4.is at c.in_ok-guard.ensures.found).0
