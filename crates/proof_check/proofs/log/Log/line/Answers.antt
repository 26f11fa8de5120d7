use Rattle.std.proofs.Common.{arith, ap, ◌∙◌, List}
use Rattle.std.proofs.lemmas.Bool.{lt-ltb, le-ltb}
use Rattle.proof_check.specs.declared.record.Record.{Record}
use Rattle.proof_check.specs.Records.{start, record_before}
use Rattle.proof_check.proofs.LogLemmas.{line_facts, stored_len, stored_log, length_range}
use Rattle.proof_check.proofs.log.Log.line.Goals as goal

pub before-before-requires : goal.before-before-requires
before-before-requires c =
    let a = c.self.inside in
    let n = stored_len a.clauses a.literals.items a.hints.items a.records.items c.args.self.now.lines (ap (λ v. v.lines) c.self.view_is) in
    omega (arith, n, c.requires, c.deref.ensures.len)

pub index-here-requires : goal.index-here-requires
index-here-requires c =
    let a = c.self.inside in
    let n = stored_len a.clauses a.literals.items a.hints.items a.records.items c.args.self.now.lines (ap (λ v. v.lines) c.self.view_is) in
    omega (arith, n, c.requires)

pub slice_bounds-hints-count : goal.slice_bounds-hints-count
slice_bounds-hints-count c =
    let a = c.self.inside in
    let f = line_facts a.clauses a.literals.items a.hints.items a.records.items c.args.self.now.lines c.args.i c.before-before.result c.index-here.result.now c.self.invariant (ap (λ v. v.lines) c.self.view_is) c.requires (c.before-before.ensures ∙ ap (λ (rs : List Record). record_before (start a.clauses) rs c.args.i) c.deref.ensures.value) c.index-here.ensures in
    omega (arith, f.step.hints)

pub slice_bounds-hints-start : goal.slice_bounds-hints-start
slice_bounds-hints-start c =
    let a = c.self.inside in
    let f = line_facts a.clauses a.literals.items a.hints.items a.records.items c.args.self.now.lines c.args.i c.before-before.result c.index-here.result.now c.self.invariant (ap (λ v. v.lines) c.self.view_is) c.requires (c.before-before.ensures ∙ ap (λ (rs : List Record). record_before (start a.clauses) rs c.args.i) c.deref.ensures.value) c.index-here.ensures in
    omega (arith, f.step.hints, f.in_hints, c.deref-2.ensures.len)

pub slice_bounds-hints-end : goal.slice_bounds-hints-end
slice_bounds-hints-end c =
    let a = c.self.inside in
    let f = line_facts a.clauses a.literals.items a.hints.items a.records.items c.args.self.now.lines c.args.i c.before-before.result c.index-here.result.now c.self.invariant (ap (λ v. v.lines) c.self.view_is) c.requires (c.before-before.ensures ∙ ap (λ (rs : List Record). record_before (start a.clauses) rs c.args.i) c.deref.ensures.value) c.index-here.ensures in
    omega (arith, f.in_hints, c.deref-2.ensures.len)

pub slice_bounds-result-count : goal.slice_bounds-result-count
slice_bounds-result-count c =
    let a = c.self.inside in
    let f = line_facts a.clauses a.literals.items a.hints.items a.records.items c.args.self.now.lines c.args.i c.before-before.result c.index-here.result.now c.self.invariant (ap (λ v. v.lines) c.self.view_is) c.requires (c.before-before.ensures ∙ ap (λ (rs : List Record). record_before (start a.clauses) rs c.args.i) c.deref.ensures.value) c.index-here.ensures in
    omega (arith, f.step.lits)

pub slice_bounds-result-start : goal.slice_bounds-result-start
slice_bounds-result-start c =
    let a = c.self.inside in
    let f = line_facts a.clauses a.literals.items a.hints.items a.records.items c.args.self.now.lines c.args.i c.before-before.result c.index-here.result.now c.self.invariant (ap (λ v. v.lines) c.self.view_is) c.requires (c.before-before.ensures ∙ ap (λ (rs : List Record). record_before (start a.clauses) rs c.args.i) c.deref.ensures.value) c.index-here.ensures in
    omega (arith, f.step.lits, f.in_lits, c.deref-then-before-here.ensures.len)

pub slice_bounds-result-end : goal.slice_bounds-result-end
slice_bounds-result-end c =
    let a = c.self.inside in
    let f = line_facts a.clauses a.literals.items a.hints.items a.records.items c.args.self.now.lines c.args.i c.before-before.result c.index-here.result.now c.self.invariant (ap (λ v. v.lines) c.self.view_is) c.requires (c.before-before.ensures ∙ ap (λ (rs : List Record). record_before (start a.clauses) rs c.args.i) c.deref.ensures.value) c.index-here.ensures in
    omega (arith, f.in_lits, c.deref-then-before-here.ensures.len)

pub returns-then-before-here-clause-is : goal.returns-then-before-here-clause-is
returns-then-before-here-clause-is c =
    let a = c.self.inside in
    let f = line_facts a.clauses a.literals.items a.hints.items a.records.items c.args.self.now.lines c.args.i c.before-before.result c.index-here.result.now c.self.invariant (ap (λ v. v.lines) c.self.view_is) c.requires (c.before-before.ensures ∙ ap (λ (rs : List Record). record_before (start a.clauses) rs c.args.i) c.deref.ensures.value) c.index-here.ensures in
    rw (c.deref-2.ensures.value, c.deref-then-before-here.ensures.value) (rw (lt-ltb _ _ c.if-before-here.true) at f.is)

pub returns-else-before-here-clause-is : goal.returns-else-before-here-clause-is
returns-else-before-here-clause-is c =
    let a = c.self.inside in
    let f = line_facts a.clauses a.literals.items a.hints.items a.records.items c.args.self.now.lines c.args.i c.before-before.result c.index-here.result.now c.self.invariant (ap (λ v. v.lines) c.self.view_is) c.requires (c.before-before.ensures ∙ ap (λ (rs : List Record). record_before (start a.clauses) rs c.args.i) c.deref.ensures.value) c.index-here.ensures in
    rw (c.deref-2.ensures.value) (rw (le-ltb _ _ c.if-before-here.false) at f.is)

pub returns-then-before-here-clause-few : goal.returns-then-before-here-clause-few
returns-then-before-here-clause-few c =
    let a = c.self.inside in
    let f = line_facts a.clauses a.literals.items a.hints.items a.records.items c.args.self.now.lines c.args.i c.before-before.result c.index-here.result.now c.self.invariant (ap (λ v. v.lines) c.self.view_is) c.requires (c.before-before.ensures ∙ ap (λ (rs : List Record). record_before (start a.clauses) rs c.args.i) c.deref.ensures.value) c.index-here.ensures in
    rw (c.deref-2.ensures.value, c.deref-then-before-here.ensures.value)
    (omega (arith, length_range a.hints.items c.before-before.result.hints_end c.index-here.result.now.hints_end f.step.hints f.in_hints, length_range a.literals.items c.before-before.result.lits_end c.index-here.result.now.lits_end f.step.lits f.in_lits, f.in_lits, f.in_hints, c.self.invariant.few_numbers))

pub returns-then-before-here-clause-log : goal.returns-then-before-here-clause-log
returns-then-before-here-clause-log c = let a = c.self.inside in stored_log a.clauses a.literals.items a.hints.items a.records.items c.args.self.now c.self.invariant (ap (λ v. v.lines) c.self.view_is) (ap (λ v. v.first) c.self.view_is)

pub returns-else-before-here-clause-few : goal.returns-else-before-here-clause-few
returns-else-before-here-clause-few c =
    let a = c.self.inside in
    let f = line_facts a.clauses a.literals.items a.hints.items a.records.items c.args.self.now.lines c.args.i c.before-before.result c.index-here.result.now c.self.invariant (ap (λ v. v.lines) c.self.view_is) c.requires (c.before-before.ensures ∙ ap (λ (rs : List Record). record_before (start a.clauses) rs c.args.i) c.deref.ensures.value) c.index-here.ensures in
    rw (c.deref-2.ensures.value)
    (omega (arith, length_range a.hints.items c.before-before.result.hints_end c.index-here.result.now.hints_end f.step.hints f.in_hints, length_range a.literals.items c.before-before.result.lits_end c.index-here.result.now.lits_end f.step.lits f.in_lits, f.in_lits, f.in_hints, c.self.invariant.few_numbers))

pub returns-else-before-here-clause-log : goal.returns-else-before-here-clause-log
returns-else-before-here-clause-log c = let a = c.self.inside in stored_log a.clauses a.literals.items a.hints.items a.records.items c.args.self.now c.self.invariant (ap (λ v. v.lines) c.self.view_is) (ap (λ v. v.first) c.self.view_is)
