use Rattle.std.proofs.Common.{false, refl, sym, ap, inl, inr}
use Rattle.cpog_defs.specs.declared.types.Ref.TheVariants.{Signal}
use Rattle.std.proofs.lemmas.Result.{IfOk-weaker}
use Rattle.gate_core.specs.First.{Takes}
use Rattle.gate_core.specs.Words.{IsMintermsRef}
use Rattle.gate_core.proofs.TakeLemmas.{two_inputs}
use Rattle.gate_core.proofs.ChooseLemmas.{by_signal, none_agrees, first_pair_is, no_pair_tells}
use Rattle.gate_core.proofs.first.take_column.Goals as goal

pub returns-in-Some-clause-takes : goal.returns-in-Some-clause-takes
returns-in-Some-clause-takes c =
    inl (by_signal c.args.signals.now.codes c.args.column.now c.asked_by-asked.result.ones
    c.asked_by-asked.result.zeros c.asked_by-asked.ensures c.requires.encodable.is_open.entries
    c.requires.encodable.few c.args.signals.now.list c.words.result.now c.words.ensures c.in-Some.reference
    c.in-Some.ensures)

pub returns-in-Some-first_pair-clause-takes : goal.returns-in-Some-first_pair-clause-takes
returns-in-Some-first_pair-clause-takes c = inr (inl (record {
  none = none_agrees c.args.signals.now.codes c.args.column.now c.asked_by-asked.result.ones
      c.asked_by-asked.result.zeros c.asked_by-asked.ensures c.requires.encodable.is_open.entries
      c.requires.encodable.few c.args.signals.now.list c.words.result.now c.words.ensures c.in_default.ensures;
  gate = c.in-Some-first_pair.gate;
  pair = first_pair_is c.args.signals.now.codes c.args.column.now c.asked_by-asked.result.ones
      c.asked_by-asked.result.zeros c.asked_by-asked.ensures c.requires.encodable.is_open.entries
      c.requires.encodable.few c.args.signals.now.list.inputs c.input_words.result.now c.input_words.ensures.words
      c.in-Some-first_pair.gate c.in-Some-first_pair.ensures;
  gates = sym (ap (λ r. r.gates) c.in_ok-number.ensures.gate);
  reference = ap (λ n. Signal n false) (sym (ap (λ r. r.signal) c.in_ok-number.ensures.gate));
}))

pub by_minterms-requires-clause-inputs : goal.by_minterms-requires-clause-inputs
by_minterms-requires-clause-inputs c =
    two_inputs c.args.signals.now.codes c.args.signals.now.list.inputs c.args.column.now c.requires.encodable c.args.signals.now.list refl c.words.ensures.some
    (none_agrees c.args.signals.now.codes c.args.column.now c.asked_by-asked.result.ones c.asked_by-asked.result.zeros
    c.asked_by-asked.ensures c.requires.encodable.is_open.entries c.requires.encodable.few c.args.signals.now.list
    c.words.result.now c.words.ensures c.in_default.ensures)

pub returns-clause-takes : goal.returns-clause-takes
returns-clause-takes c =
    IfOk-weaker c.by_minterms.result (IsMintermsRef c.args.signals.now.codes c.args.signals.now.list c.args.column.now
    c.by_minterms.new.signals.list) (Takes c.args.signals.now.codes c.args.signals.now.list c.args.column.now
    c.by_minterms.new.signals.list)
    (λ ref h. inr (inr (record {
      none =
          none_agrees c.args.signals.now.codes c.args.column.now c.asked_by-asked.result.ones
          c.asked_by-asked.result.zeros c.asked_by-asked.ensures c.requires.encodable.is_open.entries
          c.requires.encodable.few c.args.signals.now.list c.words.result.now c.words.ensures c.in_default.ensures;
      no_pair =
          no_pair_tells c.args.signals.now.codes c.args.column.now c.asked_by-asked.result.ones
          c.asked_by-asked.result.zeros c.asked_by-asked.ensures c.requires.encodable.is_open.entries
          c.requires.encodable.few c.args.signals.now.list.inputs c.input_words.result.now c.input_words.ensures.words
          c.in_default-first_pair.ensures;
      gates = h.0;
      reference = h.1;
    }))) c.by_minterms.ensures.minterms
