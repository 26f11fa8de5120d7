use Rattle.std.proofs.Common.{arith, ◌≡◌, ◌+◌, length, ap, ◌∙◌}
use Rattle.proof_check.specs.declared.record.Record.{Record}
use Rattle.proof_check.specs.Records.{start, last_record}
use Rattle.proof_check.proofs.LogLemmas.{pushed_del, stored_del, last_is_before}
use Rattle.proof_check.proofs.log.Log.push_del.Goals as goal

pub overflow_cast-hints_end : goal.overflow_cast-hints_end
overflow_cast-hints_end c =
    let a = c.self.inside in
    omega (arith, a.literals.ok.0, a.hints.ok.0, c.in_ok-extend_from_slice.ensures.len)

pub invariant_of-self-2 : goal.invariant_of-self-2
invariant_of-self-2 c =
    let a = c.self.inside in
    let eh : c.len-hints_end.result ≡ length a.hints.items + length c.args.ids.now = omega (arith, c.in_ok-extend_from_slice.ensures.len) in
    let all : c.deref.result.now ≡ a.records.items = c.deref.ensures.value ∙ c.reserve.ensures.items in
    let n : c.len-count.result ≡ length a.records.items = omega (arith, c.len-count.ensures, a.records.ok.0) in
    let b : c.before-before.result ≡ last_record (start a.clauses) a.records.items = c.before-before.ensures ∙ rw (all, n) (last_is_before (start a.clauses) a.records.items) in
    rw (c.push_reserved.ensures.items, c.reserve.ensures.items, c.in_ok-extend_from_slice.ensures.items)
    (stored_del a.clauses a.literals.items a.hints.items c.args.ids.now a.records.items _ c.args.self.now.lines c.self.invariant (ap (λ v. v.lines) c.self.view_is) (ap (λ (r : Record). r.id) b) (ap (λ (r : Record). r.lits_end) b) eh c.requires.positive (omega arith) (omega arith))

pub returns-clause-ok : goal.returns-clause-ok
returns-clause-ok c =
    let a = c.self.inside in
    let eh : c.len-hints_end.result ≡ length a.hints.items + length c.args.ids.now = omega (arith, c.in_ok-extend_from_slice.ensures.len) in
    let all : c.deref.result.now ≡ a.records.items = c.deref.ensures.value ∙ c.reserve.ensures.items in
    let n : c.len-count.result ≡ length a.records.items = omega (arith, c.len-count.ensures, a.records.ok.0) in
    let b : c.before-before.result ≡ last_record (start a.clauses) a.records.items = c.before-before.ensures ∙ rw (all, n) (last_is_before (start a.clauses) a.records.items) in
    rw (c.push_reserved.ensures.items, c.reserve.ensures.items, c.in_ok-extend_from_slice.ensures.items)
    (pushed_del a.clauses a.literals.items a.hints.items c.args.ids.now a.records.items _ c.args.self.now.lines c.self.invariant (ap (λ v. v.lines) c.self.view_is) (ap (λ (r : Record). r.id) b) (ap (λ (r : Record). r.lits_end) b) eh)
