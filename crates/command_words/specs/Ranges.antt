-- What the options of a command may be.
use Rattle.std.specs.Prelude.{◌≤◌, ℕ, Option, Some, None}
use Rattle.cpog_base.specs.declared.limits.TheConstants.{BIT_LIMIT, BUDGET_LIMIT}
use Rattle.command_words.specs.declared.words.TheConstants.{CNF_GATE_LIMIT}
use Rattle.command_words.specs.declared.words.CnfOptions.{CnfOptions}
use Rattle.command_words.specs.declared.words.SynthOptions.{SynthOptions}
use Rattle.command_words.specs.declared.words.Command.{Command}
use Rattle.command_words.specs.declared.words.Command.TheVariants as command

-- where a number of bits is said it is one from a least number to 8
abbrev pub MayBeSaid : ℕ → Option ℕ → Type 0
MayBeSaid least None = Unit {0}
MayBeSaid least (Some bits) = (least ≤ bits) × (bits ≤ BIT_LIMIT)

-- options say 1 to 8 bits, or none, and a budget from 1 to 8388608
pub record MayBeAsked (options : SynthOptions) : Type 0 where
  pub bits : MayBeSaid 1 options.bits
  pub some_budget : 1 ≤ options.budget
  pub few_budget : options.budget ≤ BUDGET_LIMIT

-- a formula is asked for with at most 4096 gates, and 2 to 8 bits, or none
pub record MayBeFormula (options : CnfOptions) : Type 0 where
  pub few_gates : options.gates ≤ CNF_GATE_LIMIT
  pub bits : MayBeSaid 2 options.bits

-- the options of a command may be asked for
abbrev pub MayBeNamed : Command → Type 0
MayBeNamed (command.Synth options) = MayBeAsked options
MayBeNamed command.Normal = Unit {0}
MayBeNamed (command.Cnf options) = MayBeFormula options
MayBeNamed command.Lrat = Unit {0}
MayBeNamed (command.Solve budget) = (1 ≤ budget) × (budget ≤ BUDGET_LIMIT)
MayBeNamed command.Check = Unit {0}
MayBeNamed command.Verilog = Unit {0}
