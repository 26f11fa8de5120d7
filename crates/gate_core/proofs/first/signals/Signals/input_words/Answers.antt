use Rattle.std.proofs.Common.{take, sym, ap₂, subst}
use Rattle.gate_core.specs.Words.{Signals, AreInputWords, gates_of}
use Rattle.gate_core.proofs.ChooseLemmas.{words_of_inputs}
use Rattle.gate_core.proofs.first.signals.Signals.input_words.Goals as goal

pub returns-clause-words : goal.returns-clause-words
returns-clause-words c =
    subst (λ (v : Signals). AreInputWords v.list.inputs v.codes (take c.from.result c.deref.result.now)) c.self.view_is
    (subst (AreInputWords c.self.inside.inputs c.self.inside.codes.items)
    (sym (ap₂ take c.from.ensures c.deref.ensures.value))
    (words_of_inputs c.self.inside.codes.items
    (gates_of c.self.inside.inputs c.self.inside.gates.keys) c.self.inside.words.items c.self.invariant))
