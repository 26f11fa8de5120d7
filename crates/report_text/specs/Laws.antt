-- What is proved of reports.
use Rattle.std.specs.Prelude.{◌≡◌, ◌≢◌, ℕ, List, ◌++◌, codes}
use Rattle.std.specs.List.{AllByRecursion}
use Rattle.line_text.specs.Lines.{lines_of, text_of}
use Rattle.proof_check.specs.Lines.{Line}
use Rattle.cnf_build.specs.Evidence.{IsWrittenLog}
use Rattle.dimacs_text.specs.Writing.{log_lines}
use Rattle.netlist_verilog.specs.Module.{ModuleValue}
use Rattle.report_text.specs.Report.{ReportValue, IsReport, LinesFit, LogsFit}
use Rattle.report_text.specs.Rows.{netlist_lines, report_lines}
use Rattle.report_text.specs.Spelling.{SpellsToEnd, SpellsReport}

-- two reports with the same text are one
abbrev pub TextTellsReport : Type 0
TextTellsReport =
    (a b : ReportValue) → IsReport a → IsReport b → LogsFit a → LogsFit b →
    text_of (report_lines a) ≡ text_of (report_lines b) → a ≡ b

-- the lines from the first that is `netlist` on are that line and the module's
pub record EndsWithModule (text : List ℕ) (m : ModuleValue) : Type 0 where
  pub front : List (List ℕ)
  pub before : AllByRecursion (λ line. line ≢ codes "netlist") front
  pub whole : lines_of text ≡ front ++ netlist_lines m

-- a report's text ends with its module
abbrev pub ModuleEndsReport : Type 0
ModuleEndsReport = (r : ReportValue) → IsReport r → LogsFit r → EndsWithModule (text_of (report_lines r)) r.design

-- no line of a log is the line that ends it
abbrev pub EndClosesLog : Type 0
EndClosesLog = (log : List Line) → IsWrittenLog log → LinesFit log → AllByRecursion (λ line. line ≢ codes "end") (log_lines log)

-- what is written spells the report
abbrev pub WrittenIsSpelled : Type 0
WrittenIsSpelled = (r : ReportValue) → IsReport r → LogsFit r → SpellsReport r (report_lines r)

-- lines up to an end spell one log
abbrev pub SpellingTellsLog : Type 0
SpellingTellsLog = (last : ℕ) (lines : List (List ℕ)) (a b : List Line) → SpellsToEnd last a lines → SpellsToEnd last b lines → a ≡ b

-- lines spell one report
abbrev pub SpellingTellsReport : Type 0
SpellingTellsReport = (lines : List (List ℕ)) (a b : ReportValue) → SpellsReport a lines → SpellsReport b lines → a ≡ b
