-- What a good report tells is so.
use Rattle.std.proofs.Common.{◌≡◌, ℕ, ◌^◌, ◌<◌, List, length, sym, ◌∙◌, subst, arith}
use Rattle.std.specs.List.{All}
use Rattle.cpog_defs.specs.declared.types.Bit3.{Bit3}
use Rattle.cpog_defs.specs.Codes.{AreCodes}
use Rattle.cpog_defs.specs.Encodings.{IsEncoding}
use Rattle.cpog_defs.specs.Scenarios.{AreOrdersOf}
use Rattle.cpog_defs.specs.Orders.{Order}
use Rattle.cpog_merge.proofs.ScenarioLemmas.{fits_is_fitting_scenarios_lem}
use Rattle.cnf_build.specs.Evidence.{EvidenceValue, IsEvidence}
use Rattle.cnf_build.proofs.EvidenceLemmas.{evidence_bounds_lem}
use Rattle.gate_core.specs.Bounds.{IsLowerBound}
use Rattle.handshake_eqs.proofs.NetlistLemmas.{agrees_over_runs}
use Rattle.handshake_eqs.proofs.StepLemmas.{few_distinct}
use Rattle.report_text.specs.Report.{ReportValue, IsReport}
use Rattle.report_judge.specs.Good.{IsGood}
use Rattle.report_judge.specs.Known.{printed_lower, SpeaksOf, IsShown, AreClassColumns}
use Rattle.report_judge.specs.Laws.{IsRight}
use Rattle.report_judge.specs.Parts.{Part}
use Rattle.report_judge.proofs.BasisLemmas.{one_orders, with_both}
use Rattle.report_judge.proofs.ReportLemmas.{orders_are_few, alike, count_is, alike_by_count}

-- evidence that speaks of a number and is shown is evidence for it
pub evidence_is : (operations : ℕ) (orders : List Order) (patterns : List (List Bit3)) (bits : ℕ) (columns : List (List Bit3)) (lo : ℕ) (evidence : EvidenceValue) →
    SpeaksOf patterns bits columns lo evidence → IsShown operations orders patterns bits columns evidence → IsEvidence operations orders patterns bits columns lo evidence
evidence_is operations orders patterns bits columns lo EvidenceValue.Zero h k = h
evidence_is operations orders patterns bits columns lo (EvidenceValue.Count places) h k = (h, k)
evidence_is operations orders patterns bits columns lo (EvidenceValue.Refutation kind gates log) h k =
    record { one_fewer = h.one_fewer; some_bits = h.some_bits; size = h.size; refutes = k }

module _ (r : ReportValue) (is : IsReport r) where
  bounded_by : (orders : List Order) (columns : List (List Bit3)) → AreClassColumns r.scenarios orders columns →
      SpeaksOf r.patterns r.bits columns (printed_lower r.bound) r.evidence → IsShown (length r.names) orders r.patterns r.bits columns r.evidence →
      IsLowerBound (length r.names) orders r.patterns r.bits (printed_lower r.bound)
  bounded_by orders columns are speaks shown =
      let count = count_is r is orders are.are_orders in
      let size = orders_are_few r is orders are.are_orders in
      let by_classes = subst (λ (cs : List (List Bit3)). IsEvidence (length r.names) orders r.patterns r.bits cs (printed_lower r.bound) r.evidence) are.columns_are
      (evidence_is (length r.names) orders r.patterns r.bits columns (printed_lower r.bound) r.evidence speaks shown) in
      let by_count = subst (λ (n : ℕ). IsEvidence n orders r.patterns r.bits are.classes.columns (printed_lower r.bound) r.evidence) (sym count) by_classes in
      subst (λ (n : ℕ). IsLowerBound n orders r.patterns r.bits (printed_lower r.bound)) count
      (evidence_bounds_lem orders r.patterns are.table are.classes r.bits (printed_lower r.bound) r.evidence (alike_by_count r is orders are.are_orders) are.are_columns are.are_classes
      (omega (arith, size, is.some_scenario)) (record { one_each = is.patterns.one_each ∙ sym size; lengths = is.patterns.lengths }) by_count)

  -- no encoding has fewer gates than the lower bound of a good report
  bounded : IsGood r → (orders : List Order) → AreOrdersOf r.scenarios orders → IsLowerBound (length r.names) orders r.patterns r.bits (printed_lower r.bound)
  bounded good orders are =
      with_both r (λ os columns. SpeaksOf r.patterns r.bits columns (printed_lower r.bound) r.evidence) (λ os columns. IsShown (length r.names) os r.patterns r.bits columns r.evidence)
      (good Part.Evidence) (good Part.Shown)
      (λ os columns class_columns speaks shown.
      subst (λ (x : List Order). IsLowerBound (length r.names) x r.patterns r.bits (printed_lower r.bound)) (one_orders r.scenarios os orders class_columns.are_orders are)
      (bounded_by os columns class_columns speaks shown))

  pub good_is_right : IsGood r → IsRight r
  good_is_right good =
      let different = good Part.Different in
      let orders = different.orders in
      let size : length orders ≡ length r.scenarios = orders_are_few r is orders different.are_orders in
      let within : All (λ word. word < 2 ^ r.bits) r.encoding.codes = subst (λ (n : ℕ). All (λ word. word < 2 ^ n) r.encoding.codes) is.inputs is.encoding.codes in
      let codes : AreCodes r.bits (length orders) r.encoding.codes = record { one_each = is.one_code_each ∙ sym size; within = within; distinct = good Part.Codes } in
      record {
        orders = orders;
        are_orders = different.are_orders;
        different = different.different;
        codes = codes;
        given_kept = good Part.Given;
        fits = good Part.Fitting;
        module_names = (good Part.Netlist).0;
        module_netlist = (good Part.Netlist).1;
        agrees = agrees_over_runs r.encoding r.design.netlist (subst (λ (n : ℕ). IsEncoding n r.encoding) (sym is.encoding.graph.ops) is.encoding) (good Part.Netlist).1;
        lower_bound = bounded good orders different.are_orders;
        one_count = alike r is orders different.are_orders;
        enough_bits = omega (arith, size, is.one_code_each, few_distinct (2 ^ r.bits) r.encoding.codes (good Part.Codes) (λ i l. within i 0 l));
        compared = record {
          bits_are = is.inputs;
          codes = codes;
          given = good Part.Given;
          encoding = is.encoding;
          fits = (fits_is_fitting_scenarios_lem r.encoding r.scenarios orders different.are_orders).1 (good Part.Fitting);
        };
        attained = good Part.Count;
      }
