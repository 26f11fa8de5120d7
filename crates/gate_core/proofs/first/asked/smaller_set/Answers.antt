use Rattle.std.proofs.Common.{◌≡◌, if◌then◌else◌, length, sym, ap, ◌∙◌, arith}
use Rattle.std.specs.List.{count_by}
use Rattle.std.proofs.lemmas.Bool.{lt-ltb, le-ltb}
use Rattle.cpog_base.specs.Column.{is_one, is_zero}
use Rattle.gate_core.specs.First.{codes_where}
use Rattle.gate_core.proofs.TakeLemmas.{length-codes}
use Rattle.gate_core.proofs.first.asked.smaller_set.Goals as goal

pub returns-then-len-clause-zeros : goal.returns-then-len-clause-zeros
returns-then-len-clause-zeros c =
    let zeros : length c.in_ok-zeros.zeros.items ≡ count_by is_zero c.args.column.now = ap length c.in_ok-zeros.ensures ∙ length-codes is_zero c.args.codes.now c.args.column.now in
    let ones : length c.in_ok-ones.ones.items ≡ count_by is_one c.args.column.now = ap length c.in_ok-ones.ensures ∙ length-codes is_one c.args.codes.now c.args.column.now in
    sym (lt-ltb (count_by is_zero c.args.column.now) (count_by is_one c.args.column.now) (omega (arith, c.if-len.true, c.len.ensures, c.len-2.ensures, zeros, ones)))

pub returns-else-len-clause-zeros : goal.returns-else-len-clause-zeros
returns-else-len-clause-zeros c =
    let zeros : length c.in_ok-zeros.zeros.items ≡ count_by is_zero c.args.column.now = ap length c.in_ok-zeros.ensures ∙ length-codes is_zero c.args.codes.now c.args.column.now in
    let ones : length c.in_ok-ones.ones.items ≡ count_by is_one c.args.column.now = ap length c.in_ok-ones.ensures ∙ length-codes is_one c.args.codes.now c.args.column.now in
    sym (le-ltb (count_by is_zero c.args.column.now) (count_by is_one c.args.column.now) (omega (arith, c.if-len.false, c.len.ensures, c.len-2.ensures, zeros, ones)))

pub returns-then-len-clause-codes : goal.returns-then-len-clause-codes
returns-then-len-clause-codes c =
    c.in_ok-zeros.ensures ∙ ap (λ b. if b then codes_where is_zero c.args.codes.now c.args.column.now else codes_where is_one c.args.codes.now c.args.column.now) (returns-then-len-clause-zeros c)

pub returns-else-len-clause-codes : goal.returns-else-len-clause-codes
returns-else-len-clause-codes c =
    c.in_ok-ones.ensures ∙ ap (λ b. if b then codes_where is_zero c.args.codes.now c.args.column.now else codes_where is_one c.args.codes.now c.args.column.now) (returns-else-len-clause-zeros c)
