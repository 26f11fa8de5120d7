use Rattle.std.proofs.Common.{arith, ◌≡◌, ◌<◌, ◌+◌, length, ap}
use Rattle.proof_check.specs.Lines.{last_id}
use Rattle.proof_check.proofs.LogLemmas.{pushed_add, stored_add}
use Rattle.proof_check.proofs.log.Log.push_add_reserved.Goals as goal

pub overflow_cast-lits_end : goal.overflow_cast-lits_end
overflow_cast-lits_end c =
    let a = c.self.inside in
    omega (arith, c.self.invariant.few_numbers, a.literals.ok.0, a.hints.ok.0, c.requires.room_numbers, ap (λ v. v.spare_numbers) c.self.view_is, c.append.ensures.len)

pub overflow_cast-hints_end : goal.overflow_cast-hints_end
overflow_cast-hints_end c =
    let a = c.self.inside in
    omega (arith, c.self.invariant.few_numbers, a.literals.ok.0, a.hints.ok.0, c.requires.room_numbers, ap (λ v. v.spare_numbers) c.self.view_is, c.append-2.ensures.len)

pub invariant_of-self : goal.invariant_of-self
invariant_of-self c =
    let a = c.self.inside in
    let first = ap (λ v. v.first) c.self.view_is in
    let above : last_id a.clauses c.args.self.now.lines < c.args.id = rw first c.requires.above in
    let el : c.len-lits_end.result ≡ length a.literals.items + length c.args.lits.now = omega (arith, c.append.ensures.len) in
    let eh : c.len-hints_end.result ≡ length a.hints.items + length c.args.hints.now = omega (arith, c.append-2.ensures.len) in
    rw (c.push_reserved.ensures.items, c.append.ensures.items, c.append-2.ensures.items)
    (stored_add a.clauses a.literals.items c.args.lits.now a.hints.items c.args.hints.now a.records.items _ c.args.self.now.lines c.self.invariant (ap (λ v. v.lines) c.self.view_is) above el eh c.requires.positive (omega (arith, a.records.ok.0, c.requires.room_lines, ap (λ v. v.spare_lines) c.self.view_is)) (omega (arith, a.literals.ok.0, a.hints.ok.0, c.requires.room_numbers, ap (λ v. v.spare_numbers) c.self.view_is)))

pub returns-clause-pushed : goal.returns-clause-pushed
returns-clause-pushed c =
    let a = c.self.inside in
    let first = ap (λ v. v.first) c.self.view_is in
    let above : last_id a.clauses c.args.self.now.lines < c.args.id = rw first c.requires.above in
    let el : c.len-lits_end.result ≡ length a.literals.items + length c.args.lits.now = omega (arith, c.append.ensures.len) in
    let eh : c.len-hints_end.result ≡ length a.hints.items + length c.args.hints.now = omega (arith, c.append-2.ensures.len) in
    rw (c.push_reserved.ensures.items, c.append.ensures.items, c.append-2.ensures.items)
    (pushed_add a.clauses a.literals.items c.args.lits.now a.hints.items c.args.hints.now a.records.items _ c.args.self.now.lines c.self.invariant (ap (λ v. v.lines) c.self.view_is) above el eh)
