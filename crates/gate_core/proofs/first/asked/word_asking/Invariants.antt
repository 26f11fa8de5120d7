use Rattle.cpog_defs.specs.Entries.{entry_at}
use Rattle.gate_core.specs.Words.{asks_for}
use Rattle.gate_core.proofs.WordLemmas.{IsWordTo}
use Rattle.gate_core.proofs.first.asked.word_asking.Given as goal

abbrev pub invariant-loop-s : goal.invariant-loop-s
invariant-loop-s l = IsWordTo (λ k. asks_for l.asked (entry_at l.column k)) l.s l.word
