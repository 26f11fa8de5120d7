use Rattle.std.proofs.Common.{arith, ◌-◌, ◌∙◌, sym, ap, Some, Bool}
use Rattle.proof_check.specs.Lines.{Line, line_at}
use Rattle.proof_check.specs.Lives.{line_within}
use Rattle.proof_check.proofs.LiveLemmas.{formula_within, live_no_line, live_at_line, flagged, clause_of}
use Rattle.proof_check.proofs.live.live_clause.Goals as goal

pub returns-then-id-len-clause-within : goal.returns-then-id-len-clause-within
returns-then-id-len-clause-within c = rw c.clause.ensures (formula_within c.args.formula.now.variables c.args.formula.now.clauses.clauses (c.args.id - 1) c.args.formula.now.within (omega (arith, c.if-id-len.true, c.len.ensures.len, c.if-id-eq0.false)))

pub returns-in_default-clause-live : goal.returns-in_default-clause-live
returns-in_default-clause-live c = sym (live_no_line c.args.formula.now.clauses.clauses c.args.log.now.lines c.args.clauses_live.now c.args.lines_live.now c.args.id c.in_default.ensures (omega (arith, c.if-id-len.false, c.len.ensures.len)))

pub returns-then-not-lines_live-place-clause-live : goal.returns-then-not-lines_live-place-clause-live
returns-then-not-lines_live-place-clause-live c =
    let at = c.in-Some.ensures in
    sym (live_at_line c.args.log.now.first c.args.formula.now.clauses.clauses c.args.log.now.lines c.args.clauses_live.now c.args.lines_live.now c.in-Some.place c.args.id c.requires.log.rise c.requires.lines at.0 at.1 (omega (arith, c.if-id-len.false, c.len.ensures.len))
    ∙ ap (λ (b : Bool). flagged b (clause_of (line_at c.args.log.now.lines c.in-Some.place))) c.if-not-lines_live-place.true)

pub returns-in-Add-clause-live : goal.returns-in-Add-clause-live
returns-in-Add-clause-live c =
    let at = c.in-Some.ensures in
    sym (live_at_line c.args.log.now.first c.args.formula.now.clauses.clauses c.args.log.now.lines c.args.clauses_live.now c.args.lines_live.now c.in-Some.place c.args.id c.requires.log.rise c.requires.lines at.0 at.1 (omega (arith, c.if-id-len.false, c.len.ensures.len))
    ∙ ap (λ (b : Bool). flagged b (clause_of (line_at c.args.log.now.lines c.in-Some.place))) c.if-not-lines_live-place.false
    ∙ ap (λ (l : Line). Some (clause_of l)) (sym c.in-Add.ensures.is))

pub returns-in-Add-clause-within : goal.returns-in-Add-clause-within
returns-in-Add-clause-within c =
    let h : line_within c.args.formula.now.variables (line_at c.args.log.now.lines c.in-Some.place) = c.requires.within c.in-Some.place c.if-not-lines_live-place.false in
    rw (← c.in-Add.ensures.is) at h
