use Rattle.std.proofs.Common.{length, sym, ap, subst, arith}
use Rattle.text_rows.specs.Lines.{IsUnbroken}
use Rattle.graph_answers.proofs.FormulaLemmas.{comment_unbroken}
use Rattle.graph_answers.proofs.cnf.comment_of.Goals as goal

pub returns-clause-line : goal.returns-clause-line
returns-clause-line c =
    subst IsUnbroken (sym c.in_ok-text.ensures.ok) (comment_unbroken (length c.as_slice.result.now) c.args.question.now.bits c.args.gates (length c.columns.result.now)
    (omega (arith, ap length c.as_slice.ensures.value, c.requires.few)) (omega (arith, c.requires.few_bits)) (omega (arith, c.ranges.gates.fits))
    (omega (arith, ap length c.columns.ensures.columns, c.columns.ensures.list.columns_each, c.columns.ensures.list.few)))
