use Rattle.std.proofs.Common.{arith}
use Rattle.gate_template.specs.Variables.{Sel}
use Rattle.gate_template.specs.Families.{plain}
use Rattle.cnf_build.proofs.ClauseLemmas.{one_more_literal_pair, begin_literal_row}
use Rattle.cnf_build.proofs.gates.push_selections_from.Goals as goal

pub loop-k-init : goal.loop-k-init
loop-k-init c = begin_literal_row c.args.numbers.now (λ j k. plain (Sel c.args.g j k)) c.args.j c.args.lits.now.items

pub loop-k-preserved : goal.loop-k-preserved
loop-k-preserved c = one_more_literal_pair c.args.numbers.now (λ j k. plain (Sel c.args.g j k)) c.args.j c.loop-k.k c.args.lits.now.items c.loop-k.lits.items _ c.sel.result (omega arith) c.loop-k.invariant c.sel.ensures c.in_ok-push.ensures.items
