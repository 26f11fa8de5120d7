use Rattle.std.proofs.Common.{◌≡◌, if◌then◌else◌, [], ◌∷◌}
use Rattle.cpog_defs.specs.Entries.{entry_at}
use Rattle.cpog_defs.specs.Orders.{each_below}
use Rattle.gate_core.specs.First.{code_at}
use Rattle.gate_core.specs.Words.{asks_for}
use Rattle.gate_core.proofs.first.asked.codes_asking.Given as goal

abbrev pub invariant-loop-s : goal.invariant-loop-s
invariant-loop-s l = l.asking.items ≡ each_below (λ s. if asks_for l.asked (entry_at l.column s) then code_at l.codes s ∷ [] else []) l.s
