use Rattle.cpog_defs.specs.Codes.{bit}
use Rattle.gate_core.specs.First.{code_at}
use Rattle.gate_core.proofs.WordLemmas.{IsWordTo}
use Rattle.gate_core.proofs.first.signals.input_word.Given as goal

abbrev pub invariant-loop-s : goal.invariant-loop-s
invariant-loop-s l = IsWordTo (λ k. bit (code_at l.codes k) l.i) l.s l.word
