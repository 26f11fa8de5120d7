use Rattle.std.proofs.Common.{arith, ap, ◌≡◌, ◌<◌, ◌∙◌, sym, length, List}
use Rattle.proof_check.specs.declared.record.Record.{Record}
use Rattle.proof_check.specs.Records.{start, record_at, record_before}
use Rattle.proof_check.proofs.LogLemmas.{stored_len, place_is, any_default}
use Rattle.proof_check.proofs.log.Log.place_near.Goals as goal

pub returns-then-before-id : goal.returns-then-before-id
returns-then-before-id c =
    let a = c.self.inside in
    let n : c.args.guess < length a.records.items = omega (arith, c.if-i-len.true, c.len.ensures) in
    let e : c.index.result.now ≡ record_at a.records.items c.args.guess = c.index.ensures ∙ any_default a.records.items c.args.guess c.index.result.now (start 0) n in
    let b : c.before-then-index-id.result ≡ record_before (start a.clauses) a.records.items c.args.guess = c.before-then-index-id.ensures ∙ ap (λ (rs : List Record). record_before (start a.clauses) rs c.args.guess) c.deref.ensures.value in (
      omega (arith, n, stored_len a.clauses a.literals.items a.hints.items a.records.items c.args.self.now.lines (ap (λ v. v.lines) c.self.view_is)),
      place_is a.clauses a.literals.items a.hints.items a.records.items c.args.self.now.lines c.args.id c.args.guess (ap (λ v. v.lines) c.self.view_is) n (rw (← ap (λ (r : Record). r.id) b) c.if-before-id.true) (ap (λ (r : Record). r.id) (sym e) ∙ c.if-index-id.true),
    )
