use Rattle.gate_template.specs.Variables.{O}
use Rattle.gate_template.specs.Families.{plain}
use Rattle.cnf_build.proofs.ClauseLemmas.{one_more_literal, begin_literals}
use Rattle.cnf_build.proofs.classes.some_signal_taken.Goals as goal

pub loop-n-init : goal.loop-n-init
loop-n-init c = begin_literals c.args.numbers.now c.new-lits.result.items c.new-lits.ensures.items

pub loop-n-preserved : goal.loop-n-preserved
loop-n-preserved c = one_more_literal c.args.numbers.now (λ n. plain (O c.args.c n)) c.loop-n.n c.loop-n.lits.items _ c.o.result c.loop-n.invariant c.o.ensures c.in_ok-push.ensures.items
