use Rattle.formula_answers.proofs.SolvedLemmas.{values_written}
use Rattle.formula_answers.proofs.solve.values_text.Goals as goal

pub returns : goal.returns
returns c = rw c.into_bytes.ensures.value (values_written c.args.values.now _ _ _ c.in_ok-out.ensures.ok c.in_ok-put_values.ensures c.in_ok-push_str.ensures.bytes)
