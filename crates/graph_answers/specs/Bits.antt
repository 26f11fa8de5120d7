-- How many bits the codes of scenarios have.
use Rattle.std.specs.Prelude.{◌≡◌, ◌≤◌, ℕ, Option, Some, None}
use Rattle.opcode_assign.specs.Bits.{IsLeastBits}
use Rattle.cpog_base.specs.declared.limits.TheConstants.{BIT_LIMIT}
use Rattle.graph_answers.specs.declared.encodable.CodeLength.{CodeLength}
use Rattle.command_words.specs.declared.words.CnfOptions.{CnfOptions}
use Rattle.command_words.specs.declared.words.SynthOptions.{SynthOptions}
use Rattle.command_words.specs.Ranges.{MayBeSaid}

-- the length of codes that a report has: the bits that are said, or else 1 at least
abbrev pub synth_length : SynthOptions → CodeLength
synth_length options = record { least = 1; said = options.bits }

-- the length of codes that a formula has: the bits that are said, or else 2 at least
abbrev pub cnf_length : CnfOptions → CodeLength
cnf_length options = record { least = 2; said = options.bits }

-- the least length is 1 to 8, and what is said lies between it and 8
pub record MayBeLength (asked : CodeLength) : Type 0 where
  pub some : 1 ≤ asked.least
  pub few : asked.least ≤ BIT_LIMIT
  pub said : MayBeSaid asked.least asked.said

-- as many bits as are said, or else the least number, from the least one on, that have a code for each of so many scenarios
abbrev pub IsSaidOrLeast : ℕ → Option ℕ → ℕ → ℕ → Type 0
IsSaidOrLeast least (Some said) scenarios bits = bits ≡ said
IsSaidOrLeast least None scenarios bits = IsLeastBits least scenarios bits

-- the length of the codes of so many scenarios
abbrev pub IsBits : CodeLength → ℕ → ℕ → Type 0
IsBits asked = IsSaidOrLeast asked.least asked.said
