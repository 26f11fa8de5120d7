-- Runs that are refused for no cause, and in which no end fails.
use Rattle.std.specs.Prelude.{◌≡◌, ◌≢◌, ◌⊎◌, List, [], ℕ, Option, Some}
use Rattle.cpog_base.specs.declared.status.Status.{Status}
use Rattle.cpog_base.specs.declared.status.Status.TheVariants as status
use Rattle.pg_normal.specs.Naming.{name_faults}
use Rattle.command_words.specs.declared.words.Command.{Command}
use Rattle.command_words.specs.declared.words.Command.TheVariants as command
use Rattle.command_words.specs.Words.{command_of}
use Rattle.graph_answers.specs.Bits.{synth_length}
use Rattle.graph_answers.specs.Answers.{IsReportStatus}
use Rattle.graph_answers.specs.Good.{SpellFile, CanBeEncoded, CanBeAsked}
use Rattle.formula_answers.specs.Judged.{SpellRefutation}
use Rattle.formula_answers.specs.Solved.{SpellFormula}
use Rattle.report_answers.specs.Checked.{SpellGoodReport}
use Rattle.cpog_app.specs.Allowed.{Input, Outlet, Ends}

-- bytes that a command refuses for no cause
abbrev pub AreGoodFor : Command → List ℕ → Type 0
AreGoodFor (command.Synth options) = SpellFile (CanBeEncoded (synth_length options))
AreGoodFor command.Normal = SpellFile (λ f. name_faults f ≡ [])
AreGoodFor (command.Cnf options) = SpellFile (CanBeAsked options)
AreGoodFor command.Lrat = SpellRefutation
AreGoodFor (command.Solve budget) = SpellFormula
AreGoodFor command.Check = SpellGoodReport
AreGoodFor command.Verilog = SpellGoodReport

-- the words name a command, which refuses the bytes for no cause
pub record IsGoodRun (words : List (List ℕ)) (bytes : List ℕ) : Type 0 where
  pub command : Command
  pub named : command_of words ≡ Some command
  pub good : AreGoodFor command bytes

-- the statuses at which words are answered whole: 0, and those of a report
abbrev pub IsAnswered : Option Command → Status → Type 0
IsAnswered (Some (command.Synth options)) s = IsReportStatus options s
IsAnswered other s = s ≡ status.Ok

-- a good run in which no end fails is ended by its whole output, or by want of memory
abbrev pub RunsAreComplete : Type 0
RunsAreComplete = (words : List (List ℕ)) (told : List ℕ) (input : Input) (outlet : Outlet) (s : Status) →
    input.left ≡ Some told → IsGoodRun words told → Ends words input outlet s →
    s ≢ status.ReadFault → s ≢ status.WriteFault → IsAnswered (command_of words) s ⊎ (s ≡ status.Memory)
