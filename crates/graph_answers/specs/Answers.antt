-- What each command prints for a graph text: the text or its file is refused, or this is the answer.
use Rattle.std.specs.Prelude.{◌≡◌, ◌⊎◌, List, ℕ, ◌<◌, IsTrue, length}
use Rattle.cpog_base.specs.declared.status.Status.{Status}
use Rattle.cpog_base.specs.declared.status.Status.TheVariants as status
use Rattle.line_text.specs.Lines.{text_of}
use Rattle.pg_text.specs.Contents.{Contents}
use Rattle.pg_text.specs.Text.{IsFileOf}
use Rattle.pg_normal.specs.declared.normal.Normal.{Normal}
use Rattle.pg_normal.specs.Normals.{AreNormalsOf}
use Rattle.pg_normal.specs.Listing.{normal_text}
use Rattle.report_text.specs.Report.{ReportValue, LogsFit}
use Rattle.report_text.specs.Rows.{report_lines}
use Rattle.command_words.specs.declared.words.CnfOptions.{CnfOptions}
use Rattle.command_words.specs.declared.words.SynthOptions.{SynthOptions}
use Rattle.graph_answers.specs.Bits.{synth_length, cnf_length}
use Rattle.graph_answers.specs.Formula.{IsLargeAnswer, IsFormulaAnswer}
use Rattle.refusal_lines.specs.Refusal.{At}
use Rattle.graph_answers.specs.Refusals.{IsTextRefusal, IsNamesRefusal, IsEncodingRefusal}
use Rattle.graph_answers.specs.Synthesis.{IsSynthesis}
use Rattle.report_judge.specs.Known.{printed_lower}
use Rattle.graph_answers.specs.Printed.{PrintsController}

-- ---- what is printed for a graph text

-- the answer to the file that the text spells
pub record IsAnswerOfFile (OfFile : Contents → Status → List ℕ → Type 0) (bytes : List ℕ) (s : Status) (output : List ℕ) : Type 0 where
  pub file : Contents
  pub is_file : IsFileOf bytes file
  pub answer : OfFile file s output

-- the answers to a graph text, out of those to its file
abbrev pub IsGraphTextAnswer : (Contents → Status → List ℕ → Type 0) → List ℕ → Status → List ℕ → Type 0
IsGraphTextAnswer OfFile bytes s output = IsTextRefusal bytes s output ⊎ IsAnswerOfFile OfFile bytes s output

-- ---- `normal`

-- the text of the file's normal forms
pub record IsFormsAnswer (f : Contents) (output : List ℕ) : Type 0 where
  pub normals : List Normal
  pub of_file : AreNormalsOf f normals
  pub output_is : output ≡ normal_text f normals

-- the answers to `normal`: names are refused, or the forms
abbrev pub IsNormalAnswer : Contents → Status → List ℕ → Type 0
IsNormalAnswer f s output = IsNamesRefusal f s output ⊎ At status.Ok (IsFormsAnswer f) s output

-- ---- `synth`

-- the text of its report, which tells it, as the numbers of its logs are words of 32 bits, and ends with a controller of its
-- scenarios under the printed codes
pub record IsReportAnswer (options : SynthOptions) (f : Contents) (output : List ℕ) : Type 0 where
  pub report : ReportValue
  pub synthesis : IsSynthesis options f report
  pub fits : LogsFit report
  pub output_is : output ≡ text_of (report_lines report)
  pub controller : PrintsController f.operations synthesis.sound.orders report.encoding.codes output

-- the statuses at which a report is printed: 0, and 10 too where `--exact` stands
abbrev pub IsReportStatus : SynthOptions → Status → Type 0
IsReportStatus options s = (s ≡ status.Ok) ⊎ (IsTrue options.exact × (s ≡ status.Budget))

-- the report, whose bounds are equal where `--exact` stands
pub record IsClosedReport (options : SynthOptions) (f : Contents) (output : List ℕ) : Type 0 where
  pub printed : IsReportAnswer options f output
  pub closed : IsTrue options.exact → printed_lower printed.report.bound ≡ length printed.report.encoding.gates.gates

-- `--exact` stands, and the report, whose lower bound is less than its number of gates
pub record IsOpenReport (options : SynthOptions) (f : Contents) (output : List ℕ) : Type 0 where
  pub exact : IsTrue options.exact
  pub printed : IsReportAnswer options f output
  pub unequal : printed_lower printed.report.bound < length printed.report.encoding.gates.gates

-- the answers to `synth`: its scenarios are refused, or the report, at 10 where `--exact` stands and its bounds aren't equal
abbrev pub IsSynthAnswer : SynthOptions → Contents → Status → List ℕ → Type 0
IsSynthAnswer options f s output =
    IsEncodingRefusal (synth_length options) f s output
    ⊎ (At status.Ok (IsClosedReport options f) s output ⊎ At status.Budget (IsOpenReport options f) s output)

-- ---- `cnf`

-- the formula that asks for an encoding of its scenarios, where it isn't too large
abbrev pub IsCnfAnswer : CnfOptions → Contents → Status → List ℕ → Type 0
IsCnfAnswer options f s output =
    IsEncodingRefusal (cnf_length options) f s output
    ⊎ (At status.Limit (IsLargeAnswer options f) s output ⊎ At status.Ok (IsFormulaAnswer options f) s output)
