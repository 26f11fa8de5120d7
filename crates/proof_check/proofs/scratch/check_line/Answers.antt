use Rattle.std.proofs.Common.{◌≡◌, sym, subst, length}
use Rattle.proof_check.specs.Lines.{Line, line_at}
use Rattle.proof_check.specs.Following.{Breaks, IsProper, HintsLead, LineFollows}
use Rattle.proof_check.specs.Lives.{Fits, ScratchState, FlaggedWithin, live_by}
use Rattle.proof_check.specs.Verdicts.{live_at}
use Rattle.proof_check.proofs.LiveLemmas.{fits_within}
use Rattle.proof_check.proofs.RefuteLemmas.{add_follows, add_breaks, add_fits, del_fits, del_follows}
use Rattle.proof_check.proofs.scratch.check_line.Goals as goal

pub add_break-requires-clause-within : goal.add_break-requires-clause-within
add_break-requires-clause-within c =
    let v = c.args.formula.now.variables in
    let f = c.args.formula.now.clauses.clauses in
    let lines = c.args.log.now.lines in
    let index = c.args.index in
    let a = c.scratch.inside in
    let s : ScratchState = record { variables = a.variables; done = a.done; clauses_live = a.clauses_live.items; lines_live = a.lines_live.items } in
    let fits : Fits v f lines s index = subst (λ (t : ScratchState). Fits v f lines t index) (sym c.scratch.view_is) c.requires.fits in
    let w : FlaggedWithin v lines a.lines_live.items = fits_within v f lines s index fits in
    rw c.deref-in-Add.ensures.value w

pub returns-in-Del : goal.returns-in-Del
returns-in-Del c =
    let v = c.args.formula.now.variables in
    let f = c.args.formula.now.clauses.clauses in
    let lines = c.args.log.now.lines in
    let index = c.args.index in
    let a = c.scratch.inside in
    let s : ScratchState = record { variables = a.variables; done = a.done; clauses_live = a.clauses_live.items; lines_live = a.lines_live.items } in
    let fits : Fits v f lines s index = subst (λ (t : ScratchState). Fits v f lines t index) (sym c.scratch.view_is) c.requires.fits in
    let is : line_at lines index ≡ Line.Del c.in-Del.ids.now = sym c.in-Del.ensures.is in
    let r = c.remove.ensures in
    (del_follows v f lines index c.in-Del.ids.now is, del_fits v f lines s index c.in-Del.ids.now c.remove.new.clauses_live.items c.remove.new.lines_live.items c.requires.inside fits is r.clauses r.lines r.later r.live)

pub returns-in-Some : goal.returns-in-Some
returns-in-Some c =
    let v = c.args.formula.now.variables in
    let f = c.args.formula.now.clauses.clauses in
    let lines = c.args.log.now.lines in
    let index = c.args.index in
    let a = c.scratch.inside in
    let s : ScratchState = record { variables = a.variables; done = a.done; clauses_live = a.clauses_live.items; lines_live = a.lines_live.items } in
    let fits : Fits v f lines s index = subst (λ (t : ScratchState). Fits v f lines t index) (sym c.scratch.view_is) c.requires.fits in
    let line = Line.Add c.in-Add.id c.in-Add.lits.now c.in-Add.hints.now in
    let is : line_at lines index ≡ line = sym c.in-Add.ensures.is in
    let b : Breaks v (length f) (live_by f lines a.clauses_live.items a.lines_live.items) line c.in-Some.hint = rw (c.deref.ensures.value, c.deref-in-Add.ensures.value) at c.in-Some.ensures.verdict in
    (add_breaks v f lines s index c.in-Some.hint line fits is b, fits)

pub returns-in-None : goal.returns-in-None
returns-in-None c =
    let v = c.args.formula.now.variables in
    let f = c.args.formula.now.clauses.clauses in
    let lines = c.args.log.now.lines in
    let index = c.args.index in
    let a = c.scratch.inside in
    let s : ScratchState = record { variables = a.variables; done = a.done; clauses_live = a.clauses_live.items; lines_live = a.lines_live.items } in
    let fits : Fits v f lines s index = subst (λ (t : ScratchState). Fits v f lines t index) (sym c.scratch.view_is) c.requires.fits in
    let id = c.in-Add.id in
    let lits = c.in-Add.lits.now in
    let hints = c.in-Add.hints.now in
    let is : line_at lines index ≡ Line.Add id lits hints = sym c.in-Add.ensures.is in
    let b : IsProper v (length f) id lits hints × HintsLead (live_by f lines a.clauses_live.items a.lines_live.items) lits hints = rw (c.deref.ensures.value, c.deref-in-Add.ensures.value) at c.in-None.ensures.verdict in
    let follows : LineFollows v (length f) (live_at f lines index) (line_at lines index) = add_follows v f lines s index id lits hints fits is b.0 b.1 in
    (follows, add_fits v c.args.log.now.first f lines s index id lits hints c.in-Add.ensures.log.rise c.requires.inside fits is follows)
