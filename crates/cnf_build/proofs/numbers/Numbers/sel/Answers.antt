use Rattle.std.proofs.Common.{◌≡◌, ◌+◌, ◌<◌, ◌^◌, false, ap₂, ◌∙◌, arith}
use Rattle.clause_arena.specs.Clauses.{Lit}
use Rattle.gate_template.specs.Counts.{rows, selections}
use Rattle.cnf_build.proofs.NumberedLemmas.{sel_is, sel_fits}
use Rattle.cnf_build.proofs.numbers.Numbers.sel.Goals as goal

fits : (c : goal.After-from-5) → c.from-4.result + (c.selections_of-before.result + (c.pairs_of_first-row.result + c.from-5.result)) + 1 < 2 ^ 31
fits c =
    let n = c.self.inside in
    let row : c.pairs_of_first-row.result ≡ rows (n.shape.bits + c.args.g) c.args.j = c.pairs_of_first-row.ensures ∙ ap₂ (λ a b. rows a b) (ap₂ (λ a b. a + b) c.from-bits.ensures c.from-2.ensures) c.from-3.ensures in
    let before : c.selections_of-before.result ≡ selections n.shape.bits c.args.g = c.selections_of-before.ensures.count ∙ ap₂ selections c.from-bits.ensures c.from.ensures in
    let h = sel_fits n.shape c.args.self.now c.self.view_is n.d n.sel n.t n.v n.o n.p c.self.invariant c.args.g c.args.j c.args.k c.pairs_of_first-row.result c.selections_of-before.result c.requires.gate c.requires.lower c.requires.earlier row before in
    omega (arith, h, c.from-4.ensures, c.from-5.ensures)

pub overflow_add-place : goal.overflow_add-place
overflow_add-place c = omega (arith, fits c)

pub overflow_add-place-2 : goal.overflow_add-place-2
overflow_add-place-2 c = omega (arith, fits c)

pub overflow_add-place-3 : goal.overflow_add-place-3
overflow_add-place-3 c = omega (arith, fits c)

pub overflow_add-place-4 : goal.overflow_add-place-4
overflow_add-place-4 c = omega (arith, fits c)

pub overflow_cast-place : goal.overflow_cast-place
overflow_cast-place c = omega (arith, fits c)

pub from_var-requires-clause-fits : goal.from_var-requires-clause-fits
from_var-requires-clause-fits c = fits c

pub returns : goal.returns
returns c =
    let n = c.self.inside in
    let row : c.pairs_of_first-row.result ≡ rows (n.shape.bits + c.args.g) c.args.j = c.pairs_of_first-row.ensures ∙ ap₂ (λ a b. rows a b) (ap₂ (λ a b. a + b) c.from-bits.ensures c.from-2.ensures) c.from-3.ensures in
    let before : c.selections_of-before.result ≡ selections n.shape.bits c.args.g = c.selections_of-before.ensures.count ∙ ap₂ selections c.from-bits.ensures c.from.ensures in
    sel_is n.shape c.args.self.now c.self.view_is n.d n.sel n.t n.v n.o n.p c.self.invariant c.args.g c.args.j c.args.k c.pairs_of_first-row.result c.selections_of-before.result c.from_var.result c.requires.gate c.requires.lower c.requires.earlier row before
    (c.from_var.ensures ∙ ap₂ (λ a b. let made : Lit = record { var = a + (c.selections_of-before.result + (c.pairs_of_first-row.result + b)) + 1; negated = false } in made) c.from-4.ensures c.from-5.ensures)
