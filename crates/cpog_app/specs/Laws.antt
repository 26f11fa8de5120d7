-- Laws of what a run may print.
use Rattle.std.specs.Prelude.{◌≡◌, ◌≢◌, ℕ, List, Option, Some}
use Rattle.cpog_base.specs.declared.status.Status.{Status}
use Rattle.cpog_base.specs.declared.status.Status.TheVariants as status
use Rattle.command_words.specs.declared.words.Command.{Command}
use Rattle.command_words.specs.declared.words.Command.TheVariants as command
use Rattle.command_words.specs.Words.{command_of}
use Rattle.refusal_lines.specs.Alike.{AreOneOrFound}
use Rattle.graph_answers.specs.Answers.{IsReportStatus}
use Rattle.cpog_app.specs.Allowed.{Input, IsAllowed}

-- the statuses at which words print what a search found
abbrev pub IsFind : Option Command → Status → Type 0
IsFind (Some (command.Synth options)) s = IsReportStatus options s
IsFind (Some (command.Solve budget)) s = s ≡ status.Ok
IsFind other s = ⊥

-- two answers have one status and one output; or each is what its search found
abbrev pub AreAlike : Option Command → Status → List ℕ → Status → List ℕ → Type 0
AreAlike words = AreOneOrFound (IsFind words)

-- two answers to the same words and told bytes that are no read fault are alike
abbrev pub AllowedAgree : Type 0
AllowedAgree = (words : List (List ℕ)) (told : List ℕ) (a b : Input) (s t : Status) (x y : List ℕ) →
    a.left ≡ Some told → b.left ≡ Some told → IsAllowed words a s x → IsAllowed words b t y →
    s ≢ status.ReadFault → t ≢ status.ReadFault → AreAlike (command_of words) s x t y
