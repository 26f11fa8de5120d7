use Rattle.std.proofs.Common.{ap, ap₂, sym, ◌∙◌, ◌≡◌, ◌++◌, ◌∷◌, [], List, ℕ}
use Rattle.clause_arena.specs.Clauses.{Clause}
use Rattle.proof_check.specs.Lines.{Line}
use Rattle.dimacs_text.proofs.LogTextLemmas.{push_step}
use Rattle.dimacs_text.proofs.log.read_line.Goals as goal

pub returns-in_ok-push_add-in-Add-clause-step : goal.returns-in_ok-push_add-in-Add-clause-step
returns-in_ok-push_add-in-Add-clause-step c =
    let e = rw c.in-Add.is at c.in_ok-read_entry.ensures.entry in
    let old = c.args.log.now.lines in
    let slice : c.as_slice.result.now ≡ e.0 = c.as_slice.ensures e.0 (c.in_ok-read_entry.ensures.kept c.requires.kept) e.1 in
    let is : c.push_add.new.self.lines ≡ old ++ Line.Add c.in-Add.id e.0 c.read_entry.new.hints.items ∷ [] =
    c.in_ok-push_add-in-Add.ensures.ok ∙ ap₂ (λ (ls : Clause) (hs : List ℕ). old ++ Line.Add c.in-Add.id ls hs ∷ []) slice c.deref.ensures.value in
    push_step c.args.variables c.args.last c.args.log.now.first c.push_add.new.self.first c.args.line.now old c.push_add.new.self.lines (Line.Add c.in-Add.id e.0 c.read_entry.new.hints.items)
    (sym c.if-is_passed.ensures) e.2 c.in_ok-push_add-in-Add.ensures.first c.requires.last is

pub returns-in_ok-push_del-in-Del-clause-step : goal.returns-in_ok-push_del-in-Del-clause-step
returns-in_ok-push_del-in-Del-clause-step c =
    let e = rw c.in-Del.is at c.in_ok-read_entry.ensures.entry in
    let old = c.args.log.now.lines in
    let is : c.push_del.new.self.lines ≡ old ++ Line.Del c.read_entry.new.hints.items ∷ [] =
    c.in_ok-push_del-in-Del.ensures.ok ∙ ap (λ (hs : List ℕ). old ++ Line.Del hs ∷ []) c.deref-in-Del.ensures.value in
    push_step c.args.variables c.args.last c.args.log.now.first c.push_del.new.self.first c.args.line.now old c.push_del.new.self.lines (Line.Del c.read_entry.new.hints.items)
    (sym c.if-is_passed.ensures) e c.in_ok-push_del-in-Del.ensures.first c.requires.last is
