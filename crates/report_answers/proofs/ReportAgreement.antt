-- A report has one answer.
use Rattle.std.proofs.Common.{◌≡◌, ℕ, List, sym, ap, ap₂, ◌∙◌, subst, inl, inr}
use Rattle.cpog_base.specs.declared.status.Status.{Status}
use Rattle.cpog_base.specs.declared.status.Status.TheVariants as status
use Rattle.line_text.specs.Lines.{lines_of}
use Rattle.refusal_lines.proofs.Causes.{Cause, IsOne, either, one_at, one_either}
use Rattle.refusal_lines.specs.declared.refusal.Refusal.TheVariants as refusal
use Rattle.refusal_lines.specs.Refusal.{refusal_text, At}
use Rattle.report_answers.specs.Checked.{IsBadReportAnswer, IsFailingAnswer, IsReportRefusal, IsGoodAnswer, IsReportsAnswer, SpellGoodReport}
use Rattle.report_answers.specs.Reasons.{refusal_of}
use Rattle.report_judge.proofs.FailLemmas.{one_first_reason, part_fails}
use Rattle.report_judge.specs.Good.{IsGood}
use Rattle.report_judge.specs.Reasons.{part_of, IsFirstFailing}
use Rattle.report_reader.specs.Reports.{IsReportText}
use Rattle.report_text.proofs.LawLemmas.{one_report}
use Rattle.report_text.specs.Report.{ReportValue}
use Rattle.report_text.specs.Spelling.{SpellsReport}
use Rattle.text_rows.proofs.WritingLemmas.{bad_lines_told}

module _ (bytes : List ℕ) where
  -- bytes that spell a report have no bad line
  not_bad : (x : List ℕ) → IsBadReportAnswer bytes x → (r : ReportValue) → SpellsReport r (lines_of bytes) → ⊥
  not_bad x h r s = (bad_lines_told IsReportText).0 (lines_of bytes) h.line h.first (r, s)

  one_bad : (x y : List ℕ) → IsBadReportAnswer bytes x → IsBadReportAnswer bytes y → x ≡ y
  one_bad x y h k =
      h.output_is ∙ ap (λ n. refusal_text (refusal.Text n)) ((bad_lines_told IsReportText).1 (lines_of bytes) h.line k.line h.first k.first) ∙ sym k.output_is

  -- the bytes spell one report
  same : (a b : ReportValue) → SpellsReport a (lines_of bytes) → SpellsReport b (lines_of bytes) → a ≡ b
  same a b h k = one_report (lines_of bytes) a b h k

  one_failing : (x y : List ℕ) → IsFailingAnswer bytes x → IsFailingAnswer bytes y → x ≡ y
  one_failing x y h k =
      let reports = same h.report k.report h.spelled k.spelled in
      let there = subst (λ r. IsFirstFailing r k.reason) (sym reports) k.first in
      h.output_is
      ∙ ap₂ (λ r reason. refusal_text (refusal_of r reason)) reports (one_first_reason h.report h.reason k.reason h.first there)
      ∙ sym k.output_is

  -- a good report has no part that fails
  not_failing : (x : List ℕ) → IsFailingAnswer bytes x → (r : ReportValue) → SpellsReport r (lines_of bytes) → IsGood r → ⊥
  not_failing x h r s good = part_fails h.report h.reason h.first.fails (subst IsGood (same r h.report s h.spelled) good (part_of h.reason))

  abbrev bad : Cause
  bad = At status.Text (IsBadReportAnswer bytes)

  abbrev failing : Cause
  failing = At status.No (IsFailingAnswer bytes)

  -- a good report is not refused
  not_refused : (s : Status) (x : List ℕ) → IsReportRefusal bytes s x → (r : ReportValue) → SpellsReport r (lines_of bytes) → IsGood r → ⊥
  not_refused s x (inl h) r spelled good = not_bad x h.1 r spelled
  not_refused s x (inr h) r spelled good = not_failing x h.1 r spelled good

  module _ (Prints : ReportValue → List ℕ) where
    abbrev yes : Cause
    yes = At status.Ok (IsGoodAnswer Prints bytes)

    one_good : (x y : List ℕ) → IsGoodAnswer Prints bytes x → IsGoodAnswer Prints bytes y → x ≡ y
    one_good x y h k = h.output_is ∙ ap Prints (same h.report k.report h.spelled k.spelled) ∙ sym k.output_is

    pub reports_answers_agree : IsOne (IsReportsAnswer Prints bytes)
    reports_answers_agree =
        one_either (either bad failing) yes
        (one_either bad failing (one_at status.Text (IsBadReportAnswer bytes) one_bad) (one_at status.No (IsFailingAnswer bytes) one_failing)
        (λ s t x y h k. not_bad x h.1 k.1.report k.1.spelled))
        (one_at status.Ok (IsGoodAnswer Prints bytes) one_good)
        (λ s t x y h k. not_refused s x h k.1.report k.1.spelled k.1.good)

    -- bytes that spell a good report are answered at status 0
    pub good_is_ok : SpellGoodReport bytes → (s : Status) (x : List ℕ) → IsReportsAnswer Prints bytes s x → s ≡ status.Ok
    good_is_ok good s x (inl h) = absurd (not_refused s x h good.report good.spelled good.good)
    good_is_ok good s x (inr h) = h.0
