-- The refusal of a report that isn't good, by the reason.
use Rattle.netlist_verilog.specs.Wires.{name_of}
use Rattle.refusal_lines.specs.declared.refusal.Refusal.{Refusal}
use Rattle.refusal_lines.specs.declared.refusal.Refusal.TheVariants as refusal
use Rattle.report_judge.specs.declared.reason.Reason.{Reason}
use Rattle.report_judge.specs.declared.reason.Reason.TheVariants as reasons
use Rattle.report_text.specs.Report.{ReportValue}

-- it names the scenarios and operations that the reason speaks of
abbrev pub refusal_of : ReportValue → Reason → Refusal
refusal_of r (reasons.Cyclic s v) = refusal.NoCyclic (name_of r.scenario_names s.0) (name_of r.names v.0)
refusal_of r (reasons.Equal later earlier) = refusal.NoEqual (name_of r.scenario_names later.0) (name_of r.scenario_names earlier.0)
refusal_of r (reasons.Codes later earlier) = refusal.NoCodes (name_of r.scenario_names later.0) (name_of r.scenario_names earlier.0)
refusal_of r (reasons.Given s) = refusal.NoGiven (name_of r.scenario_names s.0)
refusal_of r (reasons.Operation s v) = refusal.NoOperation (name_of r.scenario_names s.0) (name_of r.names v.0)
refusal_of r (reasons.Order s u v) = refusal.NoOrder (name_of r.scenario_names s.0) (name_of r.names u.0) (name_of r.names v.0)
refusal_of r reasons.Netlist = refusal.NoNetlist
refusal_of r reasons.Count = refusal.NoCount
refusal_of r reasons.Evidence = refusal.NoEvidence
refusal_of r (reasons.EvidenceCondition member) = refusal.NoEvidenceCondition member
refusal_of r (reasons.RefutationLine line hint) = refusal.NoRefutationLine line hint
refusal_of r reasons.RefutationNoEmptyClause = refusal.NoRefutationEmpty
refusal_of r reasons.Open = refusal.NoOpen
refusal_of r (reasons.OpenLine line hint) = refusal.NoOpenLine line hint
refusal_of r reasons.OpenShort = refusal.NoOpenShort
