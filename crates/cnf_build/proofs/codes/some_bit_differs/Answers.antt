use Rattle.gate_template.specs.Variables.{D}
use Rattle.gate_template.specs.Families.{plain}
use Rattle.cnf_build.proofs.ClauseLemmas.{one_more_literal, begin_literals}
use Rattle.cnf_build.proofs.codes.some_bit_differs.Goals as goal

pub loop-i-init : goal.loop-i-init
loop-i-init c = begin_literals c.args.numbers.now c.new-lits.result.items c.new-lits.ensures.items

pub loop-i-preserved : goal.loop-i-preserved
loop-i-preserved c = one_more_literal c.args.numbers.now (λ i. plain (D c.args.s c.args.t i)) c.loop-i.i c.loop-i.lits.items _ c.d.result c.loop-i.invariant c.d.ensures c.in_ok-push.ensures.items
