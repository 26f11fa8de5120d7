-- The report that rows say.
use Rattle.report_text.specs.declared.version.Version.TheVariants as versions
use Rattle.report_text.specs.Report.{ReportValue}
use Rattle.evidence_reader.specs.Shown.{shown_value}
use Rattle.report_reader.specs.declared.whole.Rows.{Rows}
use Rattle.report_reader.specs.Heads.{value_of}
use Rattle.report_reader.specs.Columns.{columns_of}

-- the report that the rows say, as clauses see it
abbrev pub report_of_rows : Rows → ReportValue
report_of_rows r = record {
  version = versions.One;
  bits = r.head.bits;
  budget = r.head.budget;
  names = r.head.names;
  scenario_names = r.scenarios.names;
  patterns = r.scenarios.given.items;
  scenarios = r.scenarios.scenarios.items;
  encoding = record { codes = r.scenarios.codes.items; gates = r.gates; graph = r.graph };
  bound = r.bound;
  evidence = (shown_value r.shown).0;
  open_part = (shown_value r.shown).1;
  design = r.design;
}
