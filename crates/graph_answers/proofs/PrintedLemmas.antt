-- The controller that stands in a printed report, and the status of its bound.
use Rattle.std.proofs.Common.{◌≡◌, ◌↔◌, ℕ, Bool, true, false, IsTrue, List, length, refl, sym, ap, subst, ◌∙◌, arith, inl, inr}
use Rattle.std.specs.List.{All}
use Rattle.std.proofs.lemmas.Bool.{false≢true}
use Rattle.cpog_defs.specs.Orders.{IsOrderOf}
use Rattle.cpog_defs.specs.Encodings.{IsEncoding}
use Rattle.handshake_eqs.specs.declared.machine.Machine.TheVariants.{Idle}
use Rattle.handshake_eqs.specs.Machines.{IsRequested, IsDone}
use Rattle.handshake_eqs.proofs.NetlistLemmas.{agrees_over_runs}
use Rattle.netlist_verilog.proofs.ValueLemmas.{outputs_settled}
use Rattle.line_text.specs.Lines.{text_of}
use Rattle.pg_text.specs.Contents.{Contents}
use Rattle.report_text.specs.declared.bound.Bound.{Bound}
use Rattle.report_text.specs.declared.bound.Bound.TheVariants.{Minimum, Between}
use Rattle.report_text.specs.Report.{ReportValue, LogsFit}
use Rattle.report_text.specs.Rows.{report_lines}
use Rattle.report_text.specs.Laws.{EndsWithModule}
use Rattle.report_text.proofs.ModuleLemmas.{module_ends}
use Rattle.command_words.specs.declared.words.SynthOptions.{SynthOptions}
use Rattle.graph_answers.specs.Synthesis.{IsSound, IsSynthesis, report_status}
use Rattle.report_judge.specs.Known.{printed_lower, Attains}
use Rattle.graph_answers.specs.Printed.{ShowsEachRun}
use Rattle.graph_answers.specs.Answers.{IsReportAnswer, IsSynthAnswer}

-- the report's netlist shows each run
shows_each_run : (f : Contents) (r : ReportValue) (is : IsSound f r) → ShowsEachRun is.orders r.encoding.codes r.design
shows_each_run f r is events m i at run inputs settled =
    let count : length r.encoding.graph.ops ≡ length r.names = is.report.encoding.graph.ops in
    let names : length r.names ≡ length f.operations = ap length is.names in
    let design : length r.design.names ≡ length r.names = ap length is.module_names ∙ sym names in
    let orders : All (IsOrderOf (length r.encoding.graph.ops)) is.orders = subst (λ n. All (IsOrderOf n) is.orders) (sym (count ∙ names)) is.one_count in
    let encoding : IsEncoding (length r.encoding.graph.ops) r.encoding = subst (λ n. IsEncoding n r.encoding) (sym count) is.report.encoding in
    let shown = agrees_over_runs r.encoding r.design.netlist encoding is.module_netlist is.orders orders is.compared.fits events m run i inputs in
    let outputs = outputs_settled r.design i at is.report.design settled in
    let operations : length r.design.netlist.conditions ≡ length r.names = ap length is.module_netlist.conditions ∙ count in
    record {
      requests = λ v l. subst (λ b. IsTrue b ↔ IsRequested is.orders m v) (sym (outputs.requests v (omega (arith, l, design, operations)))) (shown.requests v);
      done = subst (λ b. IsTrue b ↔ IsDone is.orders m) (sym outputs.done) shown.done;
      idle = subst (λ b. IsTrue b ↔ (m ≡ Idle)) (sym outputs.idle) shown.idle;
    }

-- the text of a file's report is what may be printed for it
abbrev report_answers : (options : SynthOptions) (f : Contents) (r : ReportValue) (output : List ℕ) → IsSynthesis options f r → LogsFit r → output ≡ text_of (report_lines r) → IsReportAnswer options f output
report_answers options f r output is fits e = record {
  report = r;
  synthesis = is;
  fits = fits;
  output_is = e;
  controller = record {
    design = r.design;
    is_module = is.sound.report.design;
    stands = subst (λ text. EndsWithModule text r.design) (sym e) (module_ends r is.sound.report fits);
    names_are = is.sound.module_names;
    shows = shows_each_run f r is.sound;
  };
}

-- at the status of its bound it is an answer
pub synth_answers : (options : SynthOptions) (f : Contents) (r : ReportValue) (output : List ℕ) → IsSynthesis options f r → LogsFit r → output ≡ text_of (report_lines r) → IsSynthAnswer options f (report_status options.exact r.bound) output
synth_answers options f r output is fits e = by_bound options.exact r.bound refl refl is.sound.attained
  where
    answer : IsReportAnswer options f output
    answer = report_answers options f r output is fits e

    by_bound : (exact : Bool) (b : Bound) → options.exact ≡ exact → r.bound ≡ b → Attains (length r.encoding.gates.gates) b → IsSynthAnswer options f (report_status exact b) output
    by_bound false (Minimum h) said bound attained = inr (inl (refl, record { printed = answer; closed = λ _. ap printed_lower bound ∙ sym attained }))
    by_bound true (Minimum h) said bound attained = inr (inl (refl, record { printed = answer; closed = λ _. ap printed_lower bound ∙ sym attained }))
    by_bound false (Between lo hi) said bound attained = inr (inl (refl, record { printed = answer; closed = λ t. absurd (false≢true (subst IsTrue said t)) }))
    by_bound true (Between lo hi) said bound attained =
        inr (inr (refl, record { printed = answer; exact = said; unequal = omega (arith, ap printed_lower bound, attained.0, attained.1) }))
