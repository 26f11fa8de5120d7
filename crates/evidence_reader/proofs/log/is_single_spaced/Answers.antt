use Rattle.std.proofs.Common.{◌≢◌, length, sym, ◌∙◌, arith}
use Rattle.std.proofs.lemmas.Bool.{eqb-false}
use Rattle.evidence_reader.proofs.LogSteps.{single_told}
use Rattle.evidence_reader.proofs.log.is_single_spaced.Goals as goal

pub returns : goal.returns
returns c =
    let some : length c.args.line.now ≢ 0 = eqb-false (length c.args.line.now) 0 (sym c.is_empty.ensures ∙ c.if-is_empty.false) in
    single_told c.is_tight.result c.args.line.now (omega (arith, some)) c.is_tight.ensures
