use Rattle.gate_template.proofs.FlippedLemmas.{flipped_is_solution, flipped_has_zeros}
use Rattle.gate_template.proofs.laws.flipped_solutions_have_zeros.Goals as goal

pub returns : goal.returns
returns c = λ kind patterns columns bits mask before after some even sv takes codes ok fl. (
  flipped_is_solution kind patterns columns bits mask before after even sv takes codes ok fl,
  flipped_has_zeros kind patterns columns bits mask before after even sv takes codes ok fl some,
)
