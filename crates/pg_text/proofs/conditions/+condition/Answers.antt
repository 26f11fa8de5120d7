use Rattle.std.specs.Prelude.{[], length}
use Rattle.std.proofs.Common.{ap, arith}
use Rattle.std.proofs.lemmas.Result.{err_from_is_err_and}
use Rattle.pg_text.specs.Grammar.{condition, product, sum}
use Rattle.pg_text.proofs.RowSteps.{only_at_first, found_more, only_more, row_ends, no_row, alone, with_others, no_others}
use Rattle.pg_text.proofs.FactorSteps.{group_too_deep, no_inside, no_close, group_read, negation_too_deep, no_operand, negation_read, parameter_read, bit_read, no_condition}
use Rattle.pg_text.proofs.conditions.+condition.Goals as goal

pub more_conjunctions_at-members-preserved : goal.more_conjunctions_at-members-preserved
more_conjunctions_at-members-preserved bound c = record {
  found = found_more condition sum c.args.room c.args.first [] [] [] c.args.bytes.now c.members.left.now c.in_ok-member.after.now c.members.members.items c.push-in-members.new.self.items c.in_ok-member.member c.members.invariant.found c.members.invariant.only c.in_ok-member.ensures.found c.in_ok-push-2.ensures.items c.in-Some.rest.now c.in-Some.ensures.cases;
  only = only_more condition sum c.args.room c.args.first [] [] [] c.args.bytes.now c.members.left.now c.in_ok-member.after.now c.members.members.items c.push-in-members.new.self.items c.in_ok-member.member c.members.invariant.found c.members.invariant.only c.in_ok-member.ensures.found c.in_ok-push-2.ensures.items c.in-Some.rest.now c.in-Some.ensures.cases;
  some = (let is = ap length c.in_ok-push-2.ensures.items in omega (arith, is));
  shorter = omega (arith, c.members.invariant.shorter, c.in_ok-member.ensures.shorter, c.in-Some.ensures.shorter);
}

pub more_conjunctions_at-returns-in-None-clause-found : goal.more_conjunctions_at-returns-in-None-clause-found
more_conjunctions_at-returns-in-None-clause-found bound c = row_ends condition sum c.args.room c.args.first [] [] [] c.args.bytes.now c.members.left.now c.in_ok-member.after.now c.members.members.items c.push-in-members.new.self.items c.in_ok-member.member c.members.invariant.found c.members.invariant.only c.in_ok-member.ensures.found c.in_ok-push-2.ensures.items c.any_of.result c.any_of.ensures c.in-None.ensures.cases

pub more_conjunctions_at-returns-in_err-member-clause-err : goal.more_conjunctions_at-returns-in_err-member-clause-err
more_conjunctions_at-returns-in_err-member-clause-err bound c =
    let p = err_from_is_err_and c.from_residual-in_err-member.result c.from_residual-in_err-member.ensures.1 in
    rw (p.1, p.2) (no_row condition sum c.args.room c.args.bytes.now c.members.left.now c.members.invariant.only c.in_err-member.field-0.0 c.in_err-member.ensures.err)

pub condition_at-returns-in_err-first-clause-err : goal.condition_at-returns-in_err-first-clause-err
condition_at-returns-in_err-first-clause-err bound c =
    let p = err_from_is_err_and c.from_residual.result c.from_residual.ensures.1 in
    rw (p.1, p.2) (no_row condition sum c.args.room c.args.bytes.now c.args.bytes.now (only_at_first condition sum c.args.room c.args.bytes.now) c.in_err-first.field-0.0 c.in_err-first.ensures.err)

pub condition_at-returns-in_default-clause-found : goal.condition_at-returns-in_default-clause-found
condition_at-returns-in_default-clause-found bound c = alone condition sum c.args.room [] [] c.args.bytes.now c.in_ok-first.after.now c.in_ok-first.first c.in_ok-first.ensures.found c.in_default.ensures.cases

pub condition_at-returns-in_err-whole-clause-err : goal.condition_at-returns-in_err-whole-clause-err
condition_at-returns-in_err-whole-clause-err bound c =
    let p = err_from_is_err_and c.from_residual-in_err-whole.result c.from_residual-in_err-whole.ensures.1 in
    rw (p.1, p.2) (no_others condition sum c.args.room [] [] c.args.bytes.now c.in_ok-first.after.now c.in_ok-first.first c.in_ok-first.ensures.found c.in-Some.others.now c.in-Some.ensures.cases c.in_err-whole.field-0.0 c.in_err-whole.ensures.err)

pub condition_at-returns-clause-found : goal.condition_at-returns-clause-found
condition_at-returns-clause-found bound c = with_others condition sum c.args.room [] [] c.args.bytes.now c.in_ok-first.after.now c.in_ok-first.first c.in_ok-first.ensures.found c.in-Some.others.now c.in-Some.ensures.cases c.in_ok-whole.whole [] c.in_ok-whole.rest.now c.in_ok-whole.ensures.found

pub more_operands_at-members-preserved : goal.more_operands_at-members-preserved
more_operands_at-members-preserved bound c = record {
  found = found_more condition product c.args.room c.args.first [] [] [] c.args.bytes.now c.members.left.now c.in_ok-member.after.now c.members.members.items c.push-in-members.new.self.items c.in_ok-member.member c.members.invariant.found c.members.invariant.only c.in_ok-member.ensures.found c.in_ok-push-2.ensures.items c.in-Some.rest.now c.in-Some.ensures.cases;
  only = only_more condition product c.args.room c.args.first [] [] [] c.args.bytes.now c.members.left.now c.in_ok-member.after.now c.members.members.items c.push-in-members.new.self.items c.in_ok-member.member c.members.invariant.found c.members.invariant.only c.in_ok-member.ensures.found c.in_ok-push-2.ensures.items c.in-Some.rest.now c.in-Some.ensures.cases;
  some = (let is = ap length c.in_ok-push-2.ensures.items in omega (arith, is));
  shorter = omega (arith, c.members.invariant.shorter, c.in_ok-member.ensures.shorter, c.in-Some.ensures.shorter);
}

pub more_operands_at-returns-in-None-clause-found : goal.more_operands_at-returns-in-None-clause-found
more_operands_at-returns-in-None-clause-found bound c = row_ends condition product c.args.room c.args.first [] [] [] c.args.bytes.now c.members.left.now c.in_ok-member.after.now c.members.members.items c.push-in-members.new.self.items c.in_ok-member.member c.members.invariant.found c.members.invariant.only c.in_ok-member.ensures.found c.in_ok-push-2.ensures.items c.all_of.result c.all_of.ensures c.in-None.ensures.cases

pub more_operands_at-returns-in_err-member-clause-err : goal.more_operands_at-returns-in_err-member-clause-err
more_operands_at-returns-in_err-member-clause-err bound c =
    let p = err_from_is_err_and c.from_residual-in_err-member.result c.from_residual-in_err-member.ensures.1 in
    rw (p.1, p.2) (no_row condition product c.args.room c.args.bytes.now c.members.left.now c.members.invariant.only c.in_err-member.field-0.0 c.in_err-member.ensures.err)

pub conjunction_at-returns-in_err-first-clause-err : goal.conjunction_at-returns-in_err-first-clause-err
conjunction_at-returns-in_err-first-clause-err bound c =
    let p = err_from_is_err_and c.from_residual.result c.from_residual.ensures.1 in
    rw (p.1, p.2) (no_row condition product c.args.room c.args.bytes.now c.args.bytes.now (only_at_first condition product c.args.room c.args.bytes.now) c.in_err-first.field-0.0 c.in_err-first.ensures.err)

pub conjunction_at-returns-in_default-clause-found : goal.conjunction_at-returns-in_default-clause-found
conjunction_at-returns-in_default-clause-found bound c = alone condition product c.args.room [] [] c.args.bytes.now c.in_ok-first.after.now c.in_ok-first.first c.in_ok-first.ensures.found c.in_default.ensures.cases

pub conjunction_at-returns-in_err-whole-clause-err : goal.conjunction_at-returns-in_err-whole-clause-err
conjunction_at-returns-in_err-whole-clause-err bound c =
    let p = err_from_is_err_and c.from_residual-in_err-whole.result c.from_residual-in_err-whole.ensures.1 in
    rw (p.1, p.2) (no_others condition product c.args.room [] [] c.args.bytes.now c.in_ok-first.after.now c.in_ok-first.first c.in_ok-first.ensures.found c.in-Some.others.now c.in-Some.ensures.cases c.in_err-whole.field-0.0 c.in_err-whole.ensures.err)

pub conjunction_at-returns-clause-found : goal.conjunction_at-returns-clause-found
conjunction_at-returns-clause-found bound c = with_others condition product c.args.room [] [] c.args.bytes.now c.in_ok-first.after.now c.in_ok-first.first c.in_ok-first.ensures.found c.in-Some.others.now c.in-Some.ensures.cases c.in_ok-whole.whole [] c.in_ok-whole.rest.now c.in_ok-whole.ensures.found

pub group_at-returns-then-room-eq0-clause-err : goal.group_at-returns-then-room-eq0-clause-err
group_at-returns-then-room-eq0-clause-err bound c = group_too_deep condition c.args.room c.args.bytes.now c.in-Some.after.now c.in-Some.ensures.cases c.if-room-eq0.true

pub group_at-returns-in_err-inside-clause-err : goal.group_at-returns-in_err-inside-clause-err
group_at-returns-in_err-inside-clause-err bound c =
    let p = err_from_is_err_and c.from_residual.result c.from_residual.ensures.1 in
    rw (p.1, p.2) (no_inside condition c.args.room c.args.bytes.now c.in-Some.after.now c.in-Some.ensures.cases c.in_err-inside.field-0.0 c.in_err-inside.ensures.err)

pub group_at-returns-in_default-after_sign-clause-err : goal.group_at-returns-in_default-after_sign-clause-err
group_at-returns-in_default-after_sign-clause-err bound c =
    no_close condition c.args.room c.args.bytes.now c.in-Some.after.now c.in-Some.ensures.cases [] [] c.in_ok-inside.inside c.in_ok-inside.left.now c.in_ok-inside.ensures.found c.in_default-after_sign.ensures.cases

pub group_at-returns-clause-found : goal.group_at-returns-clause-found
group_at-returns-clause-found bound c =
    group_read condition c.args.room c.args.bytes.now c.in-Some.after.now c.in-Some.ensures.cases [] [] c.in_ok-inside.inside c.in_ok-inside.left.now c.in_ok-inside.ensures.found
    c.in-Some-after_sign.rest.now (let d = c.if-room-eq0.false in omega arith) c.in-Some-after_sign.ensures.cases

pub negation_at-returns-then-room-eq0-clause-err : goal.negation_at-returns-then-room-eq0-clause-err
negation_at-returns-then-room-eq0-clause-err bound c = negation_too_deep c.args.room c.args.bytes.now c.in-Some.after.now c.in-Some.ensures.cases c.if-room-eq0.true

pub negation_at-returns-in_err-operand-clause-err : goal.negation_at-returns-in_err-operand-clause-err
negation_at-returns-in_err-operand-clause-err bound c =
    let p = err_from_is_err_and c.from_residual.result c.from_residual.ensures.1 in
    rw (p.1, p.2) (no_operand c.args.room c.args.bytes.now c.in-Some.after.now c.in-Some.ensures.cases c.in_err-operand.field-0.0 c.in_err-operand.ensures.err)

pub negation_at-returns-clause-found : goal.negation_at-returns-clause-found
negation_at-returns-clause-found bound c =
    rw c.in_ok-negated.ensures (negation_read c.args.room c.args.bytes.now c.in-Some.after.now c.in-Some.ensures.cases c.in_ok-operand.operand c.in_ok-operand.rest.now (let d = c.if-room-eq0.false in omega arith) c.in_ok-operand.ensures.found)

pub operand_at-returns-in-Some-clause-found : goal.operand_at-returns-in-Some-clause-found
operand_at-returns-in-Some-clause-found bound c = parameter_read c.args.room c.args.bytes.now c.in-Some.rest.now c.in-Some.name.now c.in_ok-name.name c.in-Some.ensures.cases c.in_ok-name.ensures

pub operand_at-returns-in-Some-bit_at-clause-found : goal.operand_at-returns-in-Some-bit_at-clause-found
operand_at-returns-in-Some-bit_at-clause-found bound c = bit_read c.args.room c.args.bytes.now c.in-Some-bit_at.rest.now c.in-Some-bit_at.bit c.in-Some-bit_at.ensures.cases

pub operand_at-returns-clause-err : goal.operand_at-returns-clause-err
operand_at-returns-clause-err bound c =
    no_condition c.args.room c.args.bytes.now c.in_default.ensures.cases c.in_default-bit_at.ensures.cases (rw c.in_default-2.is at c.in_ok-negation.ensures.found) (rw c.in_default-3.is at c.in_ok-group.ensures.found)
