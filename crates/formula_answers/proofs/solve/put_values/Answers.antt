use Rattle.std.proofs.Common.{slice_index_or, false, ◌+◌, refl, arith}
use Rattle.formula_answers.proofs.SolvedLemmas.{value_written}
use Rattle.formula_answers.proofs.solve.put_values.Goals as goal

pub values-preserved : goal.values-preserved
values-preserved c =
    value_written c.args.values.now c.values.i (c.values.i + 1) (slice_index_or c.args.values.now c.values.i false) _ _ _ (omega (arith, c.values-test.true)) refl refl
    c.values.invariant c.in_ok-put_value.ensures
