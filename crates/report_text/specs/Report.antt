-- What a report says.
use Rattle.std.specs.Prelude.{◌≡◌, ℕ, ◌<◌, ◌≤◌, ◌⊎◌, List, length}
use Rattle.std.specs.List.{All, AllByRecursion, AllPairs}
use Rattle.cpog_base.specs.Names.{AreDistinct}
use Rattle.cpog_base.specs.declared.limits.TheConstants.{BIT_LIMIT, BUDGET_LIMIT, SCENARIO_LIMIT}
use Rattle.cpog_defs.specs.declared.types.Bit3.{Bit3}
use Rattle.cpog_defs.specs.declared.types.OpId.{OpId}
use Rattle.cpog_defs.specs.Scenarios.{Scenario, IsScenario}
use Rattle.cpog_defs.specs.Graphs.{IsPlace}
use Rattle.cpog_defs.specs.Encodings.{Encoding, IsEncoding}
use Rattle.proof_check.specs.Lines.{Line}
use Rattle.dimacs_text.specs.Writing.{LineFits}
use Rattle.gate_template.specs.Templates.{ArePatterns}
use Rattle.cnf_build.specs.Evidence.{EvidenceValue, OpenValue, IsWrittenLog}
use Rattle.netlist_verilog.specs.Module.{ModuleValue, AreNames, IsModule}
use Rattle.report_text.specs.declared.bound.Bound.{Bound}
use Rattle.report_text.specs.declared.bound.Bound.TheVariants.{Minimum, Between}
use Rattle.report_text.specs.declared.version.Version.{Version}
use Rattle.report_text.specs.Versions.{operation_limit, gate_limit}

-- the scenarios with their names and given bits, an encoding of them, what is known of the least number of gates and what
-- shows it, and a module
pub record ReportValue : Type 0 where
  pub version : Version
  pub bits : ℕ
  pub budget : ℕ
  pub names : List (List ℕ)
  pub scenario_names : List (List ℕ)
  pub patterns : List (List Bit3)
  pub scenarios : List Scenario
  pub encoding : Encoding
  pub bound : Bound
  pub evidence : EvidenceValue
  pub open_part : OpenValue
  pub design : ModuleValue

-- an arc comes before another: by their first ends, and then by their second
abbrev pub IsArcBefore : (OpId × OpId) → (OpId × OpId) → Type 0
IsArcBefore a b = (a.0.0 < b.0.0) ⊎ ((a.0.0 ≡ b.0.0) × (a.1.0 < b.1.0))

-- a scenario of so many operations, whose arcs ascend
pub record IsReported (count : ℕ) (sc : Scenario) : Type 0 where
  pub count_is : sc.count ≡ count
  pub scenario : IsScenario sc
  pub ascending : AllPairs IsArcBefore sc.arcs

-- the numbers of a bound are below the limit
abbrev pub IsBound : ℕ → Bound → Type 0
IsBound limit (Minimum h) = h < limit
IsBound limit (Between lo hi) = (lo < limit) × (hi < limit)

-- places of so many operations, and a number of gates below the limit with a log that may be written
abbrev pub IsReportEvidence : ℕ → ℕ → EvidenceValue → Type 0
IsReportEvidence count limit EvidenceValue.Zero = Unit {0}
IsReportEvidence count limit (EvidenceValue.Count places) = All (IsPlace count) places
IsReportEvidence count limit (EvidenceValue.Refutation kind gates log) = (gates < limit) × IsWrittenLog log

-- the same of what is left open
abbrev pub IsReportOpen : ℕ → OpenValue → Type 0
IsReportOpen limit OpenValue.Closed = Unit {0}
IsReportOpen limit (OpenValue.Log kind gates log) = (gates < limit) × IsWrittenLog log
IsReportOpen limit (OpenValue.Size kind gates) = gates < limit

-- 1 to 8 bits, a budget that may be said, few operations, 1 to 64 scenarios with a name, a pattern and a code each, few
-- gates, and numbers that a report may say. Whether any of it is right, is asked elsewhere.
pub record IsReport (r : ReportValue) : Type 0 where
  pub some_bit : 1 ≤ r.bits
  pub few_bits : r.bits ≤ BIT_LIMIT
  pub some_budget : 1 ≤ r.budget
  pub few_budget : r.budget ≤ BUDGET_LIMIT
  pub few_names : length r.names ≤ operation_limit r.version
  pub names : AreNames r.names
  pub distinct : AreDistinct r.names
  pub some_scenario : 1 ≤ length r.scenarios
  pub few_scenarios : length r.scenarios ≤ SCENARIO_LIMIT
  pub one_name_each : length r.scenario_names ≡ length r.scenarios
  pub scenario_names : AreNames r.scenario_names
  pub distinct_scenarios : AreDistinct r.scenario_names
  pub patterns : ArePatterns r.bits (length r.scenarios) r.patterns
  pub scenarios : All (IsReported (length r.names)) r.scenarios
  pub inputs : r.encoding.gates.inputs ≡ r.bits
  pub one_code_each : length r.encoding.codes ≡ length r.scenarios
  pub few_gates : length r.encoding.gates.gates < gate_limit r.version
  pub encoding : IsEncoding (length r.names) r.encoding
  pub bound : IsBound (gate_limit r.version) r.bound
  pub evidence : IsReportEvidence (length r.names) (gate_limit r.version) r.evidence
  pub open_part : IsReportOpen (gate_limit r.version) r.open_part
  pub design : IsModule r.design

-- ids, hints and deleted ids are words of 32 bits
abbrev pub LinesFit : List Line → Type 0
LinesFit lines = AllByRecursion LineFits lines

-- those of its log are
abbrev pub EvidenceFits : EvidenceValue → Type 0
EvidenceFits EvidenceValue.Zero = Unit {0}
EvidenceFits (EvidenceValue.Count places) = Unit {0}
EvidenceFits (EvidenceValue.Refutation kind gates log) = LinesFit log

-- those of its log are
abbrev pub OpenFits : OpenValue → Type 0
OpenFits OpenValue.Closed = Unit {0}
OpenFits (OpenValue.Log kind gates log) = LinesFit log
OpenFits (OpenValue.Size kind gates) = Unit {0}

-- those of both logs are, as in all that a program holds
abbrev pub LogsFit : ReportValue → Type 0
LogsFit r = EvidenceFits r.evidence × OpenFits r.open_part
