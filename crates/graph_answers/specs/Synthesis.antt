-- What a report says of the file that was read.
use Rattle.std.specs.Prelude.{◌≡◌, ℕ, ◌+◌, ◌<◌, ◌≤◌, ◌^◌, Bool, true, List, map, length, replicate}
use Rattle.std.specs.List.{All}
use Rattle.cpog_base.specs.declared.status.Status.{Status}
use Rattle.cpog_base.specs.declared.status.Status.TheVariants as status
use Rattle.cpog_defs.specs.declared.types.Bit3.{Bit3}
use Rattle.cpog_defs.specs.declared.types.Bit3.TheVariants.{Free}
use Rattle.cpog_defs.specs.declared.types.Ref.{Ref}
use Rattle.cpog_defs.specs.Orders.{Order, IsOrderOf}
use Rattle.cpog_defs.specs.Codes.{AreCodes, KeepGivenBits}
use Rattle.cpog_defs.specs.Encodings.{FitsScenarios, Encodes}
use Rattle.scenario_check.specs.Equals.{AreDifferent}
use Rattle.gate_core.specs.Bounds.{IsLowerBound}
use Rattle.gate_core.specs.Serving.{ReferencesServe}
use Rattle.cpog_merge.specs.ByClass.{IsGraphByClass}
use Rattle.cpog_merge.specs.Classes.{Classes, AreClassesOf}
use Rattle.cpog_merge.specs.Columns.{Columns, AreColumnsOf}
use Rattle.cpog_merge.specs.Incompatible.{IsIncompatibleSet}
use Rattle.cnf_build.specs.Evidence.{IsEvidence, IsOpenPart}
use Rattle.handshake_eqs.specs.Netlists.{IsNetlistOf}
use Rattle.opcode_assign.specs.Assignments.{IsFirstAssignment, IsFirstOrFewer, most_gates}
use Rattle.opcode_assign.specs.Searches.{IsShownBy}
use Rattle.pg_text.specs.Contents.{Contents}
use Rattle.report_text.specs.declared.bound.Bound.{Bound}
use Rattle.report_text.specs.declared.bound.Bound.TheVariants.{Between}
use Rattle.report_judge.specs.Good.{IsGood}
use Rattle.report_judge.specs.Known.{printed_lower, Attains}
use Rattle.report_text.specs.Report.{ReportValue, IsReport}
use Rattle.command_words.specs.declared.words.SynthOptions.{SynthOptions}
use Rattle.graph_answers.specs.Bits.{synth_length, IsBits}
use Rattle.pg_normal.specs.Denoting.{scenario_names_of}
use Rattle.graph_answers.specs.Ordered.{AreOrdersIn}
use Rattle.order_reduce.specs.Scenarios.{covering_scenario}

-- codes of so many bits of which none is given
abbrev pub free_patterns : ℕ → ℕ → List (List Bit3)
free_patterns n bits = replicate n (replicate bits Free)

-- A report is sound for a file, whoever made it: what each sentence of the headline says of it has its field.
pub record IsSound (f : Contents) (r : ReportValue) : Type 0 where
  -- it keeps the ranges of its format
  pub report : IsReport r
  -- each part of it that a judge tests holds
  pub good : IsGood r
  -- its scenarios are the file's, in their order, with their covering pairs; no two of them are equal
  pub names : r.names ≡ f.operations
  pub scenario_names : r.scenario_names ≡ scenario_names_of f
  pub orders : List Order
  pub of_file : AreOrdersIn f orders
  pub different : AreDifferent orders
  pub scenarios : r.scenarios ≡ map covering_scenario orders
  -- its codes are distinct and keep the given bits, of which there are none
  pub codes : AreCodes r.bits (length orders) r.encoding.codes
  pub given : r.patterns ≡ free_patterns (length orders) r.bits
  pub given_kept : KeepGivenBits r.patterns r.encoding.codes
  -- under each code its conditions leave exactly that scenario
  pub fits : FitsScenarios r.encoding of_file.scenarios
  -- its module is the netlist of its encoding, with the file's names
  pub module_names : r.design.names ≡ f.operations
  pub module_netlist : IsNetlistOf r.encoding r.design.netlist
  -- No encoding of as many bits that keeps the given bits has fewer gates than its lower bound. The scenarios are of one
  -- count of operations and have enough codes, and its own encoding is one of those that are compared.
  pub lower_bound : IsLowerBound (length f.operations) orders r.patterns r.bits (printed_lower r.bound)
  pub one_count : All (IsOrderOf (length f.operations)) orders
  pub enough_bits : length orders ≤ 2 ^ r.bits
  pub compared : Encodes (length f.operations) orders r.patterns r.bits r.encoding
  -- a printed minimum is its number of gates, and a greater bound is where it isn't the lower one
  pub attained : Attains (length r.encoding.gates.gates) r.bound
  pub few_gates : length r.encoding.gates.gates ≤ most_gates
  -- its evidence shows the lower bound, which is no less than what counting gives
  pub columns : Columns
  pub are_columns : AreColumnsOf orders columns
  pub classes : Classes
  pub are_classes : AreClassesOf columns classes
  pub evidence : IsEvidence (length f.operations) orders r.patterns r.bits classes.columns (printed_lower r.bound) r.evidence
  pub taken : List ℕ
  pub counting_set : IsIncompatibleSet classes.columns taken
  pub counting_bound : length taken ≤ printed_lower r.bound + r.bits
  -- The evidence is the count where that gives the lower bound, with a place for each class that is counted. Else it is a
  -- refutation of the template that a search asks, and its log stays below the budget.
  pub shown_by : IsShownBy classes r.patterns r.bits r.budget taken (printed_lower r.bound) r.evidence
  -- between its bounds there is the open part; where they are equal there is none
  pub open_part : IsOpenPart r.patterns r.bits classes.columns (printed_lower r.bound) (length r.encoding.gates.gates) r.budget r.open_part
  -- its conditions are those of the classes, and its encoding is the first one where the bounds aren't equal
  pub refs : List Ref
  pub serve : ReferencesServe classes.columns r.encoding.codes r.encoding.gates refs
  pub conditions : IsGraphByClass (length f.operations) classes refs r.encoding.graph
  pub first : printed_lower r.bound < length r.encoding.gates.gates →
      IsFirstAssignment (length f.operations) orders r.patterns r.bits r.encoding
  -- where they are equal too, only an encoding with fewer gates takes the place of the first one
  pub first_or_fewer : IsFirstOrFewer (length f.operations) orders r.patterns r.bits r.encoding

-- a sound report of the file over the said bits, with the said budget
pub record IsSynthesis (options : SynthOptions) (f : Contents) (r : ReportValue) : Type 0 where
  pub sound : IsSound f r
  pub bits : IsBits (synth_length options) (length sound.orders) r.bits
  pub budget : r.budget ≡ options.budget

-- the status of a report: 10 where `--exact` stands and its bounds aren't equal
abbrev pub report_status : Bool → Bound → Status
report_status true (Between lo hi) = status.Budget
report_status exact bound = status.Ok
