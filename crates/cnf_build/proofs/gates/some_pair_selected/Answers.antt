use Rattle.std.proofs.Common.{◌+◌, [], ◌∷◌}
use Rattle.gate_template.specs.Variables.{Sel, pairs_from}
use Rattle.gate_template.specs.Families.{plain}
use Rattle.cnf_build.proofs.ClauseLemmas.{literals_behind, begin_literals}
use Rattle.cnf_build.proofs.gates.some_pair_selected.Goals as goal

pub loop-j-init : goal.loop-j-init
loop-j-init c = begin_literals c.args.numbers.now c.new-lits.result.items c.new-lits.ensures.items

pub loop-j-preserved : goal.loop-j-preserved
loop-j-preserved c = literals_behind c.args.numbers.now (pairs_from (λ j k. plain (Sel c.args.g j k) ∷ []) (c.args.numbers.now.bits + c.args.g)) c.loop-j.j c.loop-j.lits.items _ c.loop-j.invariant c.in_ok-push_selections_from.ensures
