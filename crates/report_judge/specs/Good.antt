-- When a report is good.
use Rattle.std.specs.Prelude.{◌≡◌, ◌≢◌, List, length}
use Rattle.std.specs.List.{AllPairs}
use Rattle.cpog_defs.specs.declared.types.Bit3.{Bit3}
use Rattle.cpog_defs.specs.Orders.{Order}
use Rattle.cpog_defs.specs.Scenarios.{AreOrdersOf}
use Rattle.cpog_defs.specs.Codes.{KeepGivenBits}
use Rattle.cpog_defs.specs.Encodings.{FitsScenarios}
use Rattle.scenario_check.specs.Equals.{AreDifferent}
use Rattle.handshake_eqs.specs.Netlists.{IsNetlistOf}
use Rattle.report_text.specs.Report.{ReportValue}
use Rattle.report_judge.specs.Parts.{Part}
use Rattle.report_judge.specs.Known.{printed_lower, Attains, AreClassColumns, SpeaksOf, IsShown, IsOpenBetween, OpenFollows, ReachesBudget}

-- the scenarios have orders, no two of which are equal
pub record HaveDifferentOrders (r : ReportValue) : Type 0 where
  pub orders : List Order
  pub are_orders : AreOrdersOf r.scenarios orders
  pub different : AreDifferent orders

-- so it is by the orders of the scenarios and the columns of their classes
pub record ByClasses (r : ReportValue) (P : List Order → List (List Bit3) → Type 0) : Type 0 where
  pub orders : List Order
  pub columns : List (List Bit3)
  pub are_columns : AreClassColumns r.scenarios orders columns
  pub holds : P orders columns

-- What each part says: no scenario is cyclic; no two are equal; no two codes are; each code has the given bits; under
-- each code exactly its scenario is left; the module is that of the names, gates and conditions; the bounds fit the number
-- of gates; the evidence speaks of the lower bound; it shows it; the open part is one between the bounds; the lines of its
-- log follow; and they spend the budget.
abbrev pub Holds : ReportValue → Part → Type 0
Holds r Part.Acyclic = (orders : List Order) × AreOrdersOf r.scenarios orders
Holds r Part.Different = HaveDifferentOrders r
Holds r Part.Codes = AllPairs (λ a b. a ≢ b) r.encoding.codes
Holds r Part.Given = KeepGivenBits r.patterns r.encoding.codes
Holds r Part.Fitting = FitsScenarios r.encoding r.scenarios
Holds r Part.Netlist = (r.design.names ≡ r.names) × IsNetlistOf r.encoding r.design.netlist
Holds r Part.Count = Attains (length r.encoding.gates.gates) r.bound
Holds r Part.Evidence = ByClasses r (λ orders columns. SpeaksOf r.patterns r.bits columns (printed_lower r.bound) r.evidence)
Holds r Part.Shown = ByClasses r (λ orders columns. IsShown (length r.names) orders r.patterns r.bits columns r.evidence)
Holds r Part.Open = ByClasses r (λ orders columns.
    IsOpenBetween r.patterns r.bits columns (printed_lower r.bound) (length r.encoding.gates.gates) r.open_part)
Holds r Part.Followed = ByClasses r (λ orders columns. OpenFollows r.patterns r.bits columns r.open_part)
Holds r Part.Long = ReachesBudget r.budget r.open_part

-- a report is good where each part holds
abbrev pub IsGood : ReportValue → Type 0
IsGood r = (part : Part) → Holds r part
