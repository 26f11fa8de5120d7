-- The report that its parts make.
use Rattle.cnf_build.specs.Evidence.{evidence_of, open_of}
use Rattle.report_text.specs.declared.parts.ReportParts.{ReportParts}
use Rattle.report_text.specs.declared.version.Version.TheVariants.{One}
use Rattle.report_text.specs.Report.{ReportValue}

-- the report of version 1 that these parts make
abbrev pub value_of : ReportParts → ReportValue
value_of p = record {
  version = One;
  bits = p.bits;
  budget = p.budget;
  names = p.names;
  scenario_names = p.scenario_names;
  patterns = p.given.items;
  scenarios = p.scenarios.items;
  encoding = p.encoding;
  bound = p.bound;
  evidence = evidence_of p.evidence;
  open_part = open_of p.open_part;
  design = p.design;
}
