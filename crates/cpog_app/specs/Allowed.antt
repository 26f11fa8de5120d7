-- What a run may print, by its status.
use Rattle.std.specs.Prelude.{◌≡◌, ◌⊎◌, List, ℕ, ◌≤◌, length, Bool, IsTrue, Option, Some, None}
use Rattle.std.specs.Io.KnownBytes.{Appends, Keeps}
use Rattle.cpog_base.specs.declared.limits.TheConstants.{INPUT_LIMIT, LONG_INPUT_LIMIT}
use Rattle.cpog_base.specs.declared.limits.Counted.TheVariants as counted
use Rattle.cpog_base.specs.declared.status.Status.{Status}
use Rattle.cpog_base.specs.declared.status.Status.TheVariants as status
use Rattle.cpog_outside.specs.Causes.{Rose}
use Rattle.cpog_outside.specs.Room.{HasRoom}
use Rattle.cpog_outside.specs.Told.{IsAllOf, IsLonger, TakesFront}
use Rattle.refusal_lines.specs.declared.refusal.Refusal.TheVariants as refusal
use Rattle.command_words.specs.declared.words.Command.{Command}
use Rattle.command_words.specs.declared.words.Command.TheVariants as command
use Rattle.command_words.specs.Words.{command_of}
use Rattle.refusal_lines.specs.Refusal.{refusal_text, At}
use Rattle.graph_answers.specs.Answers.{IsGraphTextAnswer, IsSynthAnswer, IsNormalAnswer, IsCnfAnswer}
use Rattle.formula_answers.specs.Judged.{IsLratAnswer}
use Rattle.formula_answers.specs.Solved.{IsSolveAnswer}
use Rattle.report_answers.specs.Checked.{IsCheckAnswer, IsVerilogAnswer}

-- ---- what is printed for words and a source

-- the source before and after, as far as it tells its bytes, its count of faults, and whether it was steady
pub record Input : Type 0 where
  pub left : Option (List ℕ)
  pub left_after : Option (List ℕ)
  pub faults : ℕ
  pub faults_after : ℕ
  pub steady : Bool

-- all was read, within the limit, and this is the answer to it
pub record IsAnswerToAll (limit : ℕ) (OfBytes : List ℕ → Status → List ℕ → Type 0) (input : Input) (s : Status) (output : List ℕ) : Type 0 where
  pub bytes : List ℕ
  pub all : IsAllOf input.left input.left_after bytes
  pub within : length bytes ≤ limit
  pub answer : OfBytes bytes s output

-- more was there than the limit
pub record IsLongAnswer (limit : ℕ) (input : Input) (output : List ℕ) : Type 0 where
  pub longer : IsLonger limit input.left
  pub output_is : output ≡ refusal_text (refusal.Limit counted.Input limit)

-- the source, which wasn't steady, failed
pub record IsFaultAnswer (input : Input) (output : List ℕ) : Type 0 where
  pub rose : Rose input.faults input.faults_after
  pub unsteady : ¬ IsTrue input.steady
  pub output_is : output ≡ refusal_text refusal.ReadFault

-- the refusals of a source of which at most so many bytes are read
abbrev pub IsReadRefusal : ℕ → Input → Status → List ℕ → Type 0
IsReadRefusal limit input s output = At status.ReadFault (IsFaultAnswer input) s output ⊎ At status.Limit (IsLongAnswer limit input) s output

-- the answers to a source of which at most so many bytes are read, out of those to its bytes
abbrev pub IsReadingAnswer : ℕ → (List ℕ → Status → List ℕ → Type 0) → Input → Status → List ℕ → Type 0
IsReadingAnswer limit OfBytes input s output = IsReadRefusal limit input s output ⊎ IsAnswerToAll limit OfBytes input s output

-- the words name no command, and nothing was read
pub record IsUsageAnswer (input : Input) (output : List ℕ) : Type 0 where
  pub unread : Keeps input.left input.left_after
  pub quiet : input.faults_after ≡ input.faults
  pub output_is : output ≡ refusal_text refusal.Usage

-- the answers of each command: how much it reads, as what, and what it prints for that
abbrev pub IsCommandAnswer : Command → Input → Status → List ℕ → Type 0
IsCommandAnswer (command.Synth options) = IsReadingAnswer INPUT_LIMIT (IsGraphTextAnswer (IsSynthAnswer options))
IsCommandAnswer command.Normal = IsReadingAnswer INPUT_LIMIT (IsGraphTextAnswer IsNormalAnswer)
IsCommandAnswer (command.Cnf options) = IsReadingAnswer INPUT_LIMIT (IsGraphTextAnswer (IsCnfAnswer options))
IsCommandAnswer command.Lrat = IsReadingAnswer LONG_INPUT_LIMIT IsLratAnswer
IsCommandAnswer (command.Solve budget) = IsReadingAnswer LONG_INPUT_LIMIT (IsSolveAnswer budget)
IsCommandAnswer command.Check = IsReadingAnswer LONG_INPUT_LIMIT IsCheckAnswer
IsCommandAnswer command.Verilog = IsReadingAnswer LONG_INPUT_LIMIT IsVerilogAnswer

-- the answers to words: those of the command that they name, or the usage line
abbrev pub IsWordsAnswer : Option Command → Input → Status → List ℕ → Type 0
IsWordsAnswer None input = At status.Usage (IsUsageAnswer input)
IsWordsAnswer (Some command) input = IsCommandAnswer command input

-- what the words and the input allow, by the status
abbrev pub IsAllowed : List (List ℕ) → Input → Status → List ℕ → Type 0
IsAllowed words input s output = IsWordsAnswer (command_of words) input s output

-- ---- how a run ends

-- the sink before and after, as far as it tells its bytes, its count of faults, and its room before
pub record Outlet : Type 0 where
  pub taken : Option (List ℕ)
  pub taken_after : Option (List ℕ)
  pub faults : ℕ
  pub faults_after : ℕ
  pub room : Option ℕ

-- nothing was written, and no fault came
pub record IsUnwritten (outlet : Outlet) : Type 0 where
  pub keeps : Keeps outlet.taken outlet.taken_after
  pub quiet : outlet.faults_after ≡ outlet.faults

-- an allowed output was taken whole, and where the sink had room for it no fault came
pub record IsPrinted (words : List (List ℕ)) (input : Input) (outlet : Outlet) (s : Status) : Type 0 where
  pub output : List ℕ
  pub allowed : IsAllowed words input s output
  pub whole : Appends outlet.taken outlet.taken_after output
  pub quiet : HasRoom outlet.room (length output) → outlet.faults_after ≡ outlet.faults

-- a front of an allowed output was taken before the sink failed, which had no room for all of it
pub record IsCutShort (words : List (List ℕ)) (input : Input) (outlet : Outlet) : Type 0 where
  pub status : Status
  pub output : List ℕ
  pub allowed : IsAllowed words input status output
  pub front : TakesFront outlet.taken outlet.taken_after output
  pub no_room : ¬ HasRoom outlet.room (length output)

-- how a run ends, by its status: nothing was written, a front was, or all
abbrev pub Ends : List (List ℕ) → Input → Outlet → Status → Type 0
Ends words input outlet status.Memory = IsUnwritten outlet
Ends words input outlet status.WriteFault = IsCutShort words input outlet
Ends words input outlet other = IsPrinted words input outlet other
