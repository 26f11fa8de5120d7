use Rattle.std.proofs.Common.{◌≡◌, ◌++◌, ◌∷◌, [], refl, sym, ap, ap₂, ◌∙◌, subst, arith, List, ℕ}
use Rattle.cpog_base.specs.declared.limits.TheConstants.{VARIABLE_LIMIT}
use Rattle.clause_arena.specs.Clauses.{Clause}
use Rattle.proof_check.specs.Lines.{Line, ArePositive}
use Rattle.evidence_reader.proofs.LogLineLaws.{log_line_not_single, log_line_none, ids_positive}
use Rattle.evidence_reader.proofs.LogSteps.{pushed}
use Rattle.evidence_reader.proofs.log.push_line.Goals as goal

pub returns-then-not-is_single_spaced-clause-step :
    goal.returns-then-not-is_single_spaced-clause-step
returns-then-not-is_single_spaced-clause-step c = log_line_not_single VARIABLE_LIMIT (omega arith) c.args.last c.args.line.now c.if-not-is_single_spaced.ensures

pub push_add-requires-clause-positive : goal.push_add-requires-clause-positive
push_add-requires-clause-positive c =
    let e = rw c.in-Add.is at c.in_ok-read_entry.ensures.entry in
    subst ArePositive (sym c.deref.ensures.value) (ids_positive c.read_entry.new.hints.items e.2.3)

pub push_del-requires : goal.push_del-requires
push_del-requires c =
    let e = rw c.in-Del.is at c.in_ok-read_entry.ensures.entry in
    record { positive = subst ArePositive (sym c.deref-in-Del.ensures.value) (ids_positive c.read_entry.new.hints.items e.0) }

pub returns-in-Bad-clause-step : goal.returns-in-Bad-clause-step
returns-in-Bad-clause-step c =
    let e = rw c.in-Bad.is at c.in_ok-read_entry.ensures.entry in
    log_line_none VARIABLE_LIMIT (omega arith) c.args.last c.args.line.now e

pub returns-in_ok-push_add-in-Add-clause-step : goal.returns-in_ok-push_add-in-Add-clause-step
returns-in_ok-push_add-in-Add-clause-step c =
    let e = rw c.in-Add.is at c.in_ok-read_entry.ensures.entry in
    let old = c.args.log.now.lines in
    let slice : c.as_slice.result.now ≡ e.0 = c.as_slice.ensures e.0 (c.in_ok-read_entry.ensures.kept c.requires.kept) e.1 in
    let is : c.push_add.new.self.lines ≡ old ++ Line.Add c.in-Add.id e.0 c.read_entry.new.hints.items ∷ [] =
    c.in_ok-push_add-in-Add.ensures.ok ∙ ap₂ (λ (ls : Clause) (hs : List ℕ). old ++ Line.Add c.in-Add.id ls hs ∷ []) slice c.deref.ensures.value in
    pushed c.args.last c.args.log.now.first c.push_add.new.self.first c.in-Add.id c.args.line.now old c.push_add.new.self.lines (Line.Add c.in-Add.id e.0 c.read_entry.new.hints.items)
    c.if-not-is_single_spaced.ensures e.2 c.in_ok-push_add-in-Add.ensures.first c.requires.last is refl

pub returns-in_ok-push_del-in-Del-clause-step : goal.returns-in_ok-push_del-in-Del-clause-step
returns-in_ok-push_del-in-Del-clause-step c =
    let e = rw c.in-Del.is at c.in_ok-read_entry.ensures.entry in
    let old = c.args.log.now.lines in
    let is : c.push_del.new.self.lines ≡ old ++ Line.Del c.read_entry.new.hints.items ∷ [] =
    c.in_ok-push_del-in-Del.ensures.ok ∙ ap (λ (hs : List ℕ). old ++ Line.Del hs ∷ []) c.deref-in-Del.ensures.value in
    pushed c.args.last c.args.log.now.first c.push_del.new.self.first c.args.last c.args.line.now old c.push_del.new.self.lines (Line.Del c.read_entry.new.hints.items)
    c.if-not-is_single_spaced.ensures e c.in_ok-push_del-in-Del.ensures.first c.requires.last is refl
