-- What a reason says of a report, and which is the first.
use Rattle.std.specs.Prelude.{ℕ, ◌<◌, List, length}
use Rattle.cpog_defs.specs.Orders.{Order}
use Rattle.cpog_defs.specs.Scenarios.{AreOrdersOf}
use Rattle.scenario_check.specs.Cycles.{IsFirstCyclic}
use Rattle.scenario_check.specs.Equals.{IsFirstPair}
use Rattle.report_text.specs.Report.{ReportValue}
use Rattle.report_judge.specs.declared.reason.Reason.{Reason}
use Rattle.report_judge.specs.declared.reason.Reason.TheVariants as reasons
use Rattle.report_judge.specs.declared.reason.Verdict.{Verdict}
use Rattle.report_judge.specs.declared.reason.Verdict.TheVariants as verdicts
use Rattle.report_judge.specs.Parts.{Part, place}
use Rattle.report_judge.specs.Codes.{IsFirstSame, IsFirstLost}
use Rattle.report_judge.specs.Fitting.{IsFirstWrongOperation, IsFirstWrongPair}
use Rattle.report_judge.specs.Known.{printed_lower, SpeaksOf, FailsAtMember, FailsAtLine, FailsWithoutEmpty, IsOpenBetween, OpenBreaks}
use Rattle.report_judge.specs.Good.{ByClasses, Holds, IsGood}

-- the scenarios have orders, and this is the first equal pair
pub record HaveFirstEqual (r : ReportValue) (later earlier : ℕ) : Type 0 where
  pub orders : List Order
  pub are_orders : AreOrdersOf r.scenarios orders
  pub first : IsFirstPair orders later earlier

-- the part that fails by a reason
abbrev pub part_of : Reason → Part
part_of (reasons.Cyclic s v) = Part.Acyclic
part_of (reasons.Equal later earlier) = Part.Different
part_of (reasons.Codes later earlier) = Part.Codes
part_of (reasons.Given s) = Part.Given
part_of (reasons.Operation s v) = Part.Fitting
part_of (reasons.Order s u v) = Part.Fitting
part_of reasons.Netlist = Part.Netlist
part_of reasons.Count = Part.Count
part_of reasons.Evidence = Part.Evidence
part_of (reasons.EvidenceCondition member) = Part.Shown
part_of (reasons.RefutationLine line hint) = Part.Shown
part_of reasons.RefutationNoEmptyClause = Part.Shown
part_of reasons.Open = Part.Open
part_of (reasons.OpenLine line hint) = Part.Followed
part_of reasons.OpenShort = Part.Long

-- the reason says how its part fails: with the first scenario, operation, pair, member or line where it does
abbrev pub Fails : ReportValue → Reason → Type 0
Fails r (reasons.Cyclic s v) = IsFirstCyclic r.scenarios s.0 v.0
Fails r (reasons.Equal later earlier) = HaveFirstEqual r later.0 earlier.0
Fails r (reasons.Codes later earlier) = IsFirstSame r.encoding.codes later.0 earlier.0
Fails r (reasons.Given s) = IsFirstLost r.patterns r.encoding.codes s.0
Fails r (reasons.Operation s v) = IsFirstWrongOperation r.encoding r.scenarios s.0 v.0
Fails r (reasons.Order s u v) = IsFirstWrongPair r.encoding r.scenarios s.0 u.0 v.0
Fails r reasons.Netlist = Holds r Part.Netlist → ⊥
Fails r reasons.Count = Holds r Part.Count → ⊥
Fails r reasons.Evidence = ByClasses r (λ orders columns. SpeaksOf r.patterns r.bits columns (printed_lower r.bound) r.evidence → ⊥)
Fails r (reasons.EvidenceCondition member) = ByClasses r (λ orders columns. FailsAtMember orders r.evidence member)
Fails r (reasons.RefutationLine line hint) = ByClasses r (λ orders columns. FailsAtLine r.patterns r.bits columns r.evidence line hint)
Fails r reasons.RefutationNoEmptyClause = ByClasses r (λ orders columns. FailsWithoutEmpty r.patterns r.bits columns r.evidence)
Fails r reasons.Open = ByClasses r (λ orders columns.
    IsOpenBetween r.patterns r.bits columns (printed_lower r.bound) (length r.encoding.gates.gates) r.open_part → ⊥)
Fails r (reasons.OpenLine line hint) = ByClasses r (λ orders columns. OpenBreaks r.patterns r.bits columns r.open_part line hint)
Fails r reasons.OpenShort = Holds r Part.Long → ⊥

-- each part before this place holds
abbrev pub HoldBelow : ReportValue → ℕ → Type 0
HoldBelow r n = (part : Part) → place part < n → Holds r part

-- the reason says how its part fails, and each part before holds
pub record IsFirstFailing (r : ReportValue) (reason : Reason) : Type 0 where
  pub fails : Fails r reason
  pub earlier : HoldBelow r (place (part_of reason))

-- yes for a good report, and no with the first reason
abbrev pub IsVerdict : ReportValue → Verdict → Type 0
IsVerdict r verdicts.Yes = IsGood r
IsVerdict r (verdicts.No reason) = IsFirstFailing r reason
