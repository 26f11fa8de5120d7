use Rattle.std.proofs.Common.{◌∙◌, refl, ap, sym}
use Rattle.cnf_build.specs.Evidence.{open_of}
use Rattle.report_judge.proofs.KnownLemmas.{may_ask_open, open_fault}
use Rattle.report_judge.proofs.left_open.check_followed.Goals as goal

pub follow-requires-clause-asked : goal.follow-requires-clause-asked
follow-requires-clause-asked c =
    let is = sym c.open_part.ensures ∙ ap open_of c.in-Log.is in
    rw (c.given.ensures, c.bits.ensures.bits)
    (may_ask_open c.args.report.now c.bits.ensures.report c.args.basis.now c.requires.basis c.in-Log.template c.in-Log.gates c.in-Log.log.lines is c.requires.between)

pub returns-in-BadLine-clause-err : goal.returns-in-BadLine-clause-err
returns-in-BadLine-clause-err c =
    let is = sym c.open_part.ensures ∙ ap open_of c.in-Log.is in (
      refl,
      open_fault c.args.report.now c.bits.ensures.report c.args.basis.now c.requires.basis c.in-Log.template c.in-Log.gates c.in-Log.log.lines
          c.in-BadLine.line c.in-BadLine.hint is
          (rw (c.in-BadLine.is, c.given.ensures, c.bits.ensures.bits) at c.in_ok-verdict-in-Log.ensures),
    )
