-- What is proved of good reports and of reasons.
use Rattle.std.specs.Prelude.{◌≡◌, ◌≤◌, ◌^◌, List, length, map}
use Rattle.std.specs.List.{All}
use Rattle.cpog_defs.specs.Orders.{Order, IsOrderOf}
use Rattle.cpog_defs.specs.Scenarios.{AreOrdersOf}
use Rattle.cpog_defs.specs.Codes.{AreCodes, KeepGivenBits}
use Rattle.cpog_defs.specs.Encodings.{FitsScenarios, Encodes}
use Rattle.scenario_check.specs.Equals.{AreDifferent}
use Rattle.order_reduce.specs.Scenarios.{covering_scenario}
use Rattle.gate_core.specs.Bounds.{IsLowerBound}
use Rattle.cpog_merge.specs.Columns.{Columns, AreColumnsOf}
use Rattle.cpog_merge.specs.Classes.{Classes, AreClassesOf}
use Rattle.cnf_build.specs.Evidence.{IsEvidence, IsOpenPart}
use Rattle.handshake_eqs.specs.Netlists.{IsNetlistOf}
use Rattle.handshake_eqs.specs.Agreement.{AgreesOverRuns}
use Rattle.report_text.specs.Report.{ReportValue, IsReport}
use Rattle.report_judge.specs.declared.reason.Reason.{Reason}
use Rattle.report_judge.specs.Known.{printed_lower, Attains}
use Rattle.report_judge.specs.Good.{IsGood}
use Rattle.report_judge.specs.Reasons.{Fails, IsFirstFailing}

-- What a good report tells of its scenarios: each sentence has its field.
pub record IsRight (r : ReportValue) : Type 0 where
  -- the orders of its scenarios, no two of which are equal
  pub orders : List Order
  pub are_orders : AreOrdersOf r.scenarios orders
  pub different : AreDifferent orders
  -- its codes are distinct and keep the given bits
  pub codes : AreCodes r.bits (length orders) r.encoding.codes
  pub given_kept : KeepGivenBits r.patterns r.encoding.codes
  -- under each code its conditions leave exactly that scenario
  pub fits : FitsScenarios r.encoding r.scenarios
  -- its module is the netlist of its encoding, with its names, and requests over every lawful run what is ready
  pub module_names : r.design.names ≡ r.names
  pub module_netlist : IsNetlistOf r.encoding r.design.netlist
  pub agrees : AgreesOverRuns r.encoding r.design.netlist
  -- No encoding of as many bits that keeps the given bits has fewer gates than its lower bound. The scenarios are of one
  -- count of operations and have enough codes, and its own encoding is one of those that are compared.
  pub lower_bound : IsLowerBound (length r.names) orders r.patterns r.bits (printed_lower r.bound)
  pub one_count : All (IsOrderOf (length r.names)) orders
  pub enough_bits : length orders ≤ 2 ^ r.bits
  pub compared : Encodes (length r.names) orders r.patterns r.bits r.encoding
  -- a printed minimum is its number of gates, and a greater bound is where it isn't the lower one
  pub attained : Attains (length r.encoding.gates.gates) r.bound

-- what a good report tells is so
abbrev pub GoodReportsAreRight : Type 0
GoodReportsAreRight = (r : ReportValue) → IsReport r → IsGood r → IsRight r

-- no part of a good report fails
abbrev pub GoodOrFailing : Type 0
GoodOrFailing = (r : ReportValue) (reason : Reason) → IsGood r → Fails r reason → ⊥

-- a report has one first reason
abbrev pub OneVerdict : Type 0
OneVerdict = (r : ReportValue) (a b : Reason) → IsFirstFailing r a → IsFirstFailing r b → a ≡ b

-- What a search says of its report: the scenarios are the covering pairs of orders no two of which are equal; the encoding
-- is one of them, the module its netlist, and the bound fits its gates; there is evidence for the lower bound, and an open
-- part between the bounds.
pub record IsReportOfSearch (r : ReportValue) : Type 0 where
  pub orders : List Order
  pub one_count : All (IsOrderOf (length r.names)) orders
  pub scenarios : r.scenarios ≡ map covering_scenario orders
  pub different : AreDifferent orders
  pub encodes : Encodes (length r.names) orders r.patterns r.bits r.encoding
  pub module_names : r.design.names ≡ r.names
  pub module_netlist : IsNetlistOf r.encoding r.design.netlist
  pub attained : Attains (length r.encoding.gates.gates) r.bound
  pub columns : Columns
  pub are_columns : AreColumnsOf orders columns
  pub classes : Classes
  pub are_classes : AreClassesOf columns classes
  pub evidence : IsEvidence (length r.names) orders r.patterns r.bits classes.columns (printed_lower r.bound) r.evidence
  pub open_part : IsOpenPart r.patterns r.bits classes.columns (printed_lower r.bound) (length r.encoding.gates.gates) r.budget r.open_part

-- the report of a search is good
abbrev pub ReportsOfSearchesAreGood : Type 0
ReportsOfSearchesAreGood = (r : ReportValue) → IsReportOfSearch r → IsGood r
