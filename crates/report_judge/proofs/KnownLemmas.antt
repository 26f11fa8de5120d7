-- Evidence and open parts of a report.
use Rattle.std.proofs.Common.{◌≡◌, ℕ, zero, suc, ◌+◌, ◌<◌, ◌≤◌, IsTrue, List, [], ◌∷◌, length, get_or, refl, sym, ap, ◌∙◌, subst, arith}
use Rattle.std.specs.List.{All, list_any}
use Rattle.std.proofs.lemmas.List.{length-map}
use Rattle.cpog_base.specs.Column.{is_one, is_zero}
use Rattle.cpog_defs.specs.declared.types.Gate.{Gate}
use Rattle.cpog_defs.specs.declared.types.Place.{Place}
use Rattle.cpog_defs.specs.declared.types.Place.TheVariants.{Op}
use Rattle.cpog_defs.specs.Columns.{column, entry}
use Rattle.cpog_defs.specs.Gates.{AreGatesFrom}
use Rattle.cpog_defs.specs.Graphs.{IsPlace}
use Rattle.cpog_defs.specs.Orders.{Order}
use Rattle.gate_core.specs.Columns.{IsOpenColumn}
use Rattle.cpog_merge.specs.Columns.{Columns, AreColumnsOf, column_at, count_of}
use Rattle.cpog_merge.specs.Incompatible.{AreIncompatible, IsCountEvidence}
use Rattle.gate_template.specs.declared.types.Template.{Template}
use Rattle.gate_template.specs.Templates.{template}
use Rattle.proof_check.specs.declared.verdict.LogVerdict.TheVariants as verdicts
use Rattle.proof_check.specs.Lines.{Line}
use Rattle.proof_check.specs.Verdicts.{IsLogVerdict}
use Rattle.cnf_build.specs.Evidence.{EvidenceValue, OpenValue}
use Rattle.cnf_build.specs.Sizes.{IsAsked}
use Rattle.report_text.specs.declared.bound.Bound.{Bound}
use Rattle.report_text.specs.declared.bound.Bound.TheVariants.{Minimum, Between}
use Rattle.report_text.specs.Report.{ReportValue, IsReport, IsReportEvidence, IsBound}
use Rattle.report_text.specs.declared.version.Version.{Version}
use Rattle.report_text.specs.declared.version.Version.TheVariants.{One}
use Rattle.report_text.specs.Versions.{gate_limit}
use Rattle.report_judge.specs.declared.basis.Basis.{Basis}
use Rattle.report_judge.specs.Good.{ByClasses}
use Rattle.report_judge.specs.Known.{printed_lower, template_variables, SpeaksOf, IsShown, member_column, IsMember, IsFirstNoMember, FailsAtMember, FailsAtLine, FailsWithoutEmpty, IsOpenBetween, OpenBreaks}
use Rattle.report_judge.specs.Steps.{IsBasis}
use Rattle.report_judge.proofs.ReportLemmas.{count_is}
use Rattle.report_judge.proofs.StepLemmas.{by_classes}

-- ---- members of a count

-- the column of a member is that of its place
pub member_is : (orders : List Order) (t : Columns) (places : List Place) (i : ℕ) (d : Place) → AreColumnsOf orders t → All (IsPlace (count_of orders)) places → i < length places →
    column_at t (get_or places i d) ≡ member_column orders places i
member_is orders t places i d are all l = are.columns (get_or places i d) (all i d l) ∙ ap (column orders) (same places i d l)
  where
    same : (xs : List Place) (i : ℕ) (d : Place) → i < length xs → get_or xs i d ≡ get_or xs i (Op (record { 0 = 0 }))
    same [] i d l = absurd (omega arith)
    same (x ∷ xs) zero d l = refl
    same (x ∷ xs) (suc i) d l = same xs i d (omega arith)

-- a column of scenarios that asks for both bits is open
pub is_open : (orders : List Order) (p : Place) → IsTrue (list_any is_one (column orders p)) → IsTrue (list_any is_zero (column orders p)) → IsOpenColumn (length orders) (column orders p)
is_open orders p ones zeros = record { entries = length-map orders (entry p); some_one = ones; some_zero = zeros }

-- places each of which is a member are a count
pub members_count : (operations : ℕ) (orders : List Order) (places : List Place) → All (IsPlace operations) places → ((i : ℕ) → i < length places → IsMember orders places i) → IsCountEvidence operations orders places
members_count operations orders places are members = record {
  places_are = are;
  open_columns = λ k d l. subst (λ (p : Place). IsOpenColumn (length orders) (column orders p)) (same places k d l) (members k l).is_open;
  apart = λ i j d l m.
      subst (λ (p : Place). AreIncompatible (column orders (get_or places i d)) (column orders p)) (same places j d m)
      (subst (λ (p : Place). AreIncompatible (column orders p) (member_column orders places j)) (same places i d (omega (arith, l, m))) ((members j m).apart i l));
}
  where
    same : (xs : List Place) (i : ℕ) (d : Place) → i < length xs → get_or xs i (Op (record { 0 = 0 })) ≡ get_or xs i d
    same [] i d l = absurd (omega arith)
    same (x ∷ xs) zero d l = refl
    same (x ∷ xs) (suc i) d l = same xs i d (omega arith)

-- ---- numbers of a report

limit_few : (version : Version) → gate_limit version ≤ 65536
limit_few One = omega arith

bound_below : (limit : ℕ) (bound : Bound) → IsBound limit bound → printed_lower bound < limit
bound_below limit (Minimum h) b = b
bound_below limit (Between lo hi) b = b.0

module _ (r : ReportValue) (is : IsReport r) where
  pub lower_below : printed_lower r.bound < gate_limit r.version
  lower_below = bound_below (gate_limit r.version) r.bound is.bound

  -- a gate reads two inputs
  pub two_bits : 0 < length r.encoding.gates.gates → 2 ≤ r.bits
  two_bits l = subst (λ (n : ℕ). 2 ≤ n) is.inputs (from r.encoding.gates.inputs r.encoding.gates.gates l is.encoding.gates)
    where
      from : (n : ℕ) (gates : List Gate) → 0 < length gates → AreGatesFrom n gates → 2 ≤ n
      from n [] l h = absurd (omega arith)
      from n (g ∷ gates) l h = omega (arith, h.0, h.1)

  module _ (b : Basis) (basis : IsBasis r.scenarios b) where
    -- templates of the report may be asked for
    pub may_ask : (gates : ℕ) → gates ≤ 65535 → 2 ≤ r.bits → IsAsked r.patterns r.bits gates b.classes.columns
    may_ask gates few bits = record {
      some = omega (arith, is.patterns.one_each, is.some_scenario);
      few = omega (arith, is.patterns.one_each, is.few_scenarios);
      some_bits = bits;
      few_bits = is.few_bits;
      few_gates = few;
      patterns_fit = is.patterns.lengths;
      columns_fit = λ k d l. basis.entries k d l ∙ sym is.patterns.one_each;
    }

    -- the places of a count are places of the scenarios
    pub are_places : (places : List Place) → r.evidence ≡ EvidenceValue.Count places → All (IsPlace (count_of b.orders.items)) places
    are_places places e =
        subst (λ (n : ℕ). All (IsPlace n) places) (sym (count_is r is b.orders.items basis.are_orders))
        (subst (IsReportEvidence (length r.names) (gate_limit r.version)) e is.evidence)

    -- and they are few
    pub places_few : (places : List Place) → r.evidence ≡ EvidenceValue.Count places → SpeaksOf r.patterns r.bits b.classes.columns (printed_lower r.bound) r.evidence → length places < 4294967295
    places_few places e speaks =
        let size : length places ≡ printed_lower r.bound + r.bits = subst (SpeaksOf r.patterns r.bits b.classes.columns (printed_lower r.bound)) e speaks in
        omega (arith, size, limit_few r.version, lower_below, is.few_bits)

    -- ---- what a fault of the evidence says

    pub member_fault : (places : List Place) (i : ℕ) → r.evidence ≡ EvidenceValue.Count places → IsFirstNoMember b.orders.items places i →
        ByClasses r (λ orders columns. FailsAtMember orders r.evidence i)
    member_fault places i e h = by_classes r b basis (λ orders columns. FailsAtMember orders r.evidence i) (subst (λ (x : EvidenceValue). FailsAtMember b.orders.items x i) (sym e) h)

    pub count_shown : (places : List Place) → r.evidence ≡ EvidenceValue.Count places → ((i : ℕ) → i < length places → IsMember b.orders.items places i) →
        IsShown (length r.names) b.orders.items r.patterns r.bits b.classes.columns r.evidence
    count_shown places e members =
        subst (IsShown (length r.names) b.orders.items r.patterns r.bits b.classes.columns) (sym e)
        (members_count (length r.names) b.orders.items places (subst (IsReportEvidence (length r.names) (gate_limit r.version)) e is.evidence) members)

    module _ (kind : Template) (gates : ℕ) (log : List Line) where
      -- what a check of the log says
      abbrev Says : verdicts.the_data → Type 0
      Says v = IsLogVerdict (template_variables r.patterns r.bits gates b.classes.columns) (template kind r.patterns r.bits gates b.classes.columns) log v

      pub empty_fault : r.evidence ≡ EvidenceValue.Refutation kind gates log → Says verdicts.NoEmptyClause → ByClasses r (λ orders columns. FailsWithoutEmpty r.patterns r.bits columns r.evidence)
      empty_fault e h = by_classes r b basis (λ orders columns. FailsWithoutEmpty r.patterns r.bits columns r.evidence) (subst (FailsWithoutEmpty r.patterns r.bits b.classes.columns) (sym e) h)

      pub line_fault : (line hint : ℕ) → r.evidence ≡ EvidenceValue.Refutation kind gates log → Says (verdicts.BadLine line hint) → ByClasses r (λ orders columns. FailsAtLine r.patterns r.bits columns r.evidence line hint)
      line_fault line hint e h = by_classes r b basis (λ orders columns. FailsAtLine r.patterns r.bits columns r.evidence line hint)
          (subst (λ (x : EvidenceValue). FailsAtLine r.patterns r.bits b.classes.columns x line hint) (sym e) h)

      -- ---- and one of the open part

      pub open_fault : (line hint : ℕ) → r.open_part ≡ OpenValue.Log kind gates log → Says (verdicts.BadLine line hint) → ByClasses r (λ orders columns. OpenBreaks r.patterns r.bits columns r.open_part line hint)
      open_fault line hint e h = by_classes r b basis (λ orders columns. OpenBreaks r.patterns r.bits columns r.open_part line hint)
          (subst (λ (x : OpenValue). OpenBreaks r.patterns r.bits b.classes.columns x line hint) (sym e) h)

    -- a template between the bounds may be asked for
    pub may_ask_between : (gates : ℕ) → printed_lower r.bound < length r.encoding.gates.gates → gates ≡ printed_lower r.bound → IsAsked r.patterns r.bits gates b.classes.columns
    may_ask_between gates less same = may_ask gates (omega (arith, same, limit_few r.version, lower_below)) (two_bits (omega (arith, less)))

    pub may_ask_open : (kind : Template) (gates : ℕ) (log : List Line) → r.open_part ≡ OpenValue.Log kind gates log →
        IsOpenBetween r.patterns r.bits b.classes.columns (printed_lower r.bound) (length r.encoding.gates.gates) r.open_part → IsAsked r.patterns r.bits gates b.classes.columns
    may_ask_open kind gates log e h =
        let between = subst (IsOpenBetween r.patterns r.bits b.classes.columns (printed_lower r.bound) (length r.encoding.gates.gates)) e h in
        may_ask_between gates between.0 between.1
