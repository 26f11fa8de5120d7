use Rattle.std.proofs.Common.{◌∙◌, ◌<◌, List, refl, ap, length, subst, sym}
use Rattle.std.specs.List.{All}
use Rattle.cpog_defs.specs.declared.types.Place.{Place}
use Rattle.cpog_defs.specs.Graphs.{IsPlace}
use Rattle.cpog_merge.specs.Columns.{count_of}
use Rattle.cnf_build.specs.Evidence.{evidence_of}
use Rattle.report_judge.specs.Known.{IsFirstNoMember}
use Rattle.report_judge.proofs.KnownLemmas.{are_places, places_few, member_fault, count_shown, empty_fault, line_fault}
use Rattle.report_judge.proofs.evidence.check_shown.Goals as goal

pub first_no_member-requires-clause-places : goal.first_no_member-requires-clause-places
first_no_member-requires-clause-places c =
    let is = sym c.evidence.ensures ∙ ap evidence_of c.in-Count.is in
    subst (All (IsPlace (count_of c.args.basis.now.orders.items))) (sym c.deref.ensures.value)
    (are_places c.args.report.now c.bits-bits.ensures.report c.args.basis.now c.requires.basis c.in-Count.places.items is)

pub first_no_member-requires-clause-few : goal.first_no_member-requires-clause-few
first_no_member-requires-clause-few c =
    let is = sym c.evidence.ensures ∙ ap evidence_of c.in-Count.is in
    subst (λ (places : List Place). length places < 4294967295) (sym c.deref.ensures.value)
    (places_few c.args.report.now c.bits-bits.ensures.report c.args.basis.now c.requires.basis c.in-Count.places.items is c.requires.speaks)

pub returns-in-Some-clause-err : goal.returns-in-Some-clause-err
returns-in-Some-clause-err c =
    let is = sym c.evidence.ensures ∙ ap evidence_of c.in-Count.is in
    let first = subst (λ (places : List Place). IsFirstNoMember c.args.basis.now.orders.items places c.in-Some.member) c.deref.ensures.value c.in-Some.ensures in
    (refl, member_fault c.args.report.now c.bits-bits.ensures.report c.args.basis.now c.requires.basis c.in-Count.places.items c.in-Some.member is first)

pub returns-in-None-clause-ok : goal.returns-in-None-clause-ok
returns-in-None-clause-ok c =
    let is = sym c.evidence.ensures ∙ ap evidence_of c.in-Count.is in
    count_shown c.args.report.now c.bits-bits.ensures.report c.args.basis.now c.requires.basis c.in-Count.places.items is
    (rw c.deref.ensures.value at c.in-None.ensures)

pub returns-in-NoEmptyClause-clause-err : goal.returns-in-NoEmptyClause-clause-err
returns-in-NoEmptyClause-clause-err c =
    let is = sym c.evidence.ensures ∙ ap evidence_of c.in-Refutation.is in (
      refl,
      empty_fault c.args.report.now c.bits-bits.ensures.report c.args.basis.now c.requires.basis c.in-Refutation.template c.in-Refutation.gates c.in-Refutation.log.lines is
          (rw (c.in-NoEmptyClause.is, c.given.ensures, c.bits-bits.ensures.bits) at c.in_ok-verdict-in-Refutation.ensures),
    )

pub returns-in-BadLine-clause-err : goal.returns-in-BadLine-clause-err
returns-in-BadLine-clause-err c =
    let is = sym c.evidence.ensures ∙ ap evidence_of c.in-Refutation.is in (
      refl,
      line_fault c.args.report.now c.bits-bits.ensures.report c.args.basis.now c.requires.basis c.in-Refutation.template c.in-Refutation.gates c.in-Refutation.log.lines
          c.in-BadLine.line c.in-BadLine.hint is
          (rw (c.in-BadLine.is, c.given.ensures, c.bits-bits.ensures.bits) at c.in_ok-verdict-in-Refutation.ensures),
    )
