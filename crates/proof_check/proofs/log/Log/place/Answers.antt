use Rattle.std.proofs.Common.{ap, length}
use Rattle.proof_check.specs.Records.{start}
use Rattle.proof_check.proofs.LogLemmas.{ids_rise, place_match}
use Rattle.proof_check.proofs.log.Log.place.Goals as goal

pub place_of-requires-clause-rise : goal.place_of-requires-clause-rise
place_of-requires-clause-rise c j k le lt =
    let a = c.self.inside in
    rw c.deref.ensures.value (ids_rise (length a.literals.items) (length a.hints.items) (start a.clauses) a.records.items j k c.self.invariant.laid le (rw c.deref.ensures.value at lt))

pub returns : goal.returns
returns c =
    let a = c.self.inside in
    place_match a.clauses a.literals.items a.hints.items a.records.items c.deref.result.now c.args.self.now.lines c.args.id (ap (λ v. v.lines) c.self.view_is) c.deref.ensures.value c.place_of.result c.place_of.ensures
