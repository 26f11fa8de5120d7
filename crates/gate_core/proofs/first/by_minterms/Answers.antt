use Rattle.std.proofs.Common.{length, sym, ap, ap₂, subst, ◌∙◌, arith}
use Rattle.cpog_defs.specs.declared.types.Ref.TheVariants.{Signal}
use Rattle.gate_core.specs.First.{smaller_codes, sum_of_minterms}
use Rattle.gate_core.specs.Minterms.{AllDiffer}
use Rattle.gate_core.proofs.TakeLemmas.{smaller_is}
use Rattle.gate_core.proofs.first.by_minterms.Goals as goal

pub smaller_set-requires : goal.smaller_set-requires
smaller_set-requires c = c.requires.encodable.is_open.entries ∙ ap length (sym c.codes.ensures)

pub sum_of_minterms-requires-clause-some : goal.sum_of_minterms-requires-clause-some
sum_of_minterms-requires-clause-some c =
    let h = smaller_is c.args.signals.now.codes c.args.signals.now.list.inputs c.args.column.now c.requires.encodable in
    omega (arith, h.some, ap length (c.as_slice.ensures.value ∙ c.in_ok-codes.ensures.codes ∙ ap (λ codes. smaller_codes codes c.args.column.now) c.codes.ensures))

pub sum_of_minterms-requires-clause-few : goal.sum_of_minterms-requires-clause-few
sum_of_minterms-requires-clause-few c =
    let h = smaller_is c.args.signals.now.codes c.args.signals.now.list.inputs c.args.column.now c.requires.encodable in
    omega (arith, h.few, ap length (c.as_slice.ensures.value ∙ c.in_ok-codes.ensures.codes ∙ ap (λ codes. smaller_codes codes c.args.column.now) c.codes.ensures))

pub sum_of_minterms-requires-clause-differ : goal.sum_of_minterms-requires-clause-differ
sum_of_minterms-requires-clause-differ c =
    let h = smaller_is c.args.signals.now.codes c.args.signals.now.list.inputs c.args.column.now c.requires.encodable in
    subst (AllDiffer c.args.signals.now.list.inputs) (sym (c.as_slice.ensures.value ∙ c.in_ok-codes.ensures.codes ∙ ap (λ codes. smaller_codes codes c.args.column.now) c.codes.ensures)) h.differ

pub returns-clause-minterms : goal.returns-clause-minterms
returns-clause-minterms c =
    let e =
    ap (sum_of_minterms c.args.signals.now.list)
    (sym (c.as_slice.ensures.value ∙ c.in_ok-codes.ensures.codes
    ∙ ap (λ codes. smaller_codes codes c.args.column.now) c.codes.ensures)) ∙ c.in_ok-number.ensures.sum in
    (sym (ap (λ r. r.gates) e), ap₂ (λ n b. Signal n b) (sym (ap (λ r. r.signal) e)) c.in_ok-codes.ensures.zeros)
