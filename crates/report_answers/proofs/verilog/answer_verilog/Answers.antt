use Rattle.std.proofs.Common.{refl, ◌∙◌, ap, inr}
use Rattle.std.proofs.lemmas.Result.{err_from_is_err_and}
use Rattle.line_text.specs.Lines.{text_of}
use Rattle.netlist_verilog.specs.Module.{ModuleValue}
use Rattle.netlist_verilog.specs.Rows.{module_lines}
use Rattle.report_judge.proofs.RightLemmas.{good_is_right}
use Rattle.report_answers.proofs.verilog.answer_verilog.Goals as goal

pub returns-in_err-output-clause-err : goal.returns-in_err-output-clause-err
returns-in_err-output-clause-err c =
    let p = err_from_is_err_and c.from_residual-in_err-output.result c.from_residual-in_err-output.ensures.1 in
    rw (p.1, p.2) tt

pub returns-clause-ok : goal.returns-clause-ok
returns-clause-ok c =
    let r = c.in_ok-report in
    inr (
      refl,
      record {
        report = r.report;
        spelled = r.ensures.spelled;
        good = r.ensures.good;
        right = good_is_right r.report r.ensures.spelled.report r.ensures.good;
        output_is = c.in_ok-output.ensures ∙ ap (λ (m : ModuleValue). text_of (module_lines m)) c.design.ensures;
      },
    )
