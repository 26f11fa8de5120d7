use Rattle.std.proofs.Common.{subst, sym, arith, inl, inr}
use Rattle.std.proofs.lemmas.Bool.{cases_eq}
use Rattle.gate_core.specs.Words.{NoneWith}
use Rattle.gate_core.proofs.first.choosing.first_pair.Goals as goal

pub loop-j-preserved : goal.loop-j-preserved
loop-j-preserved c j l = elim (cases_eq j c.loop-j.j) [
  | inl same ↦ subst (NoneWith c.args.asked.ones c.args.asked.zeros c.args.inputs.now) (sym same) c.in_default.ensures
  | inr other ↦ c.loop-j.invariant j (omega arith)
]
