-- The words of the command line, and the command that they name.
use Rattle.std.specs.Prelude.{List, [], ◌∷◌, ℕ, suc, zero, ◌&&◌, nat_le, Bool, true, false, Option, Some, None, if◌then◌else◌, option_and_then, option_map, unwrap_or, codes}
use Rattle.std.specs.Fmt.{decimal}
use Rattle.std.specs.Str.{bytes_eq}
use Rattle.std.specs.Str.Parse.{digits_value}
use Rattle.cpog_base.specs.declared.limits.TheConstants.{BIT_LIMIT, BUDGET_LIMIT, DEFAULT_BUDGET}
use Rattle.command_words.specs.declared.words.TheConstants.{CNF_GATE_LIMIT}
use Rattle.command_words.specs.declared.words.SaidOptions.{SaidOptions}
use Rattle.command_words.specs.declared.words.Command.{Command}
use Rattle.command_words.specs.declared.words.Command.TheVariants as command

-- ---- numbers

-- the word is the decimal digits of its value, which lies between these
abbrev pub is_number_within : ℕ → ℕ → List ℕ → Bool
is_number_within least most word = bytes_eq word (decimal (digits_value 10 word)) && (nat_le least (digits_value 10 word) && nat_le (digits_value 10 word) most)

-- the number that a word says, where it lies between these
abbrev pub number_within : ℕ → ℕ → List ℕ → Option ℕ
number_within least most word = if is_number_within least most word then Some (digits_value 10 word) else None

-- a number of bits, from 1 to 8
abbrev pub bits_in : List ℕ → Option ℕ
bits_in = number_within 1 BIT_LIMIT

-- a budget, from 1 to 8388608
abbrev pub budget_in : List ℕ → Option ℕ
budget_in = number_within 1 BUDGET_LIMIT

-- ---- options

-- what one of two says, where they don't both say something
abbrev pub either_said : Option ℕ → Option ℕ → Option (Option ℕ)
either_said None other = Some other
either_said (Some n) None = Some (Some n)
either_said (Some n) (Some m) = None

-- whether one of two says it, where they don't both
abbrev pub once_said : Bool → Bool → Option Bool
once_said false other = Some other
once_said true false = Some true
once_said true true = None

-- these bits, this budget and whether `--exact` is said, where there are all three
abbrev pub all_said : Option (Option ℕ) → Option (Option ℕ) → Option Bool → Option SaidOptions
all_said bits budget exact = option_and_then (λ d. option_and_then (λ n. option_map (λ x. record { bits = d; budget = n; exact = x }) exact) budget) bits

-- the options of both, where neither says what the other says
abbrev pub joined : SaidOptions → SaidOptions → Option SaidOptions
joined a b = all_said (either_said a.bits b.bits) (either_said a.budget b.budget) (once_said a.exact b.exact)

-- no option
abbrev pub unsaid : SaidOptions
unsaid = record { bits = None; budget = None; exact = false }

-- a number of code bits alone
abbrev pub bits_alone : ℕ → SaidOptions
bits_alone bits = record { bits = Some bits; budget = None; exact = false }

-- a budget alone
abbrev pub budget_alone : ℕ → SaidOptions
budget_alone budget = record { bits = None; budget = Some budget; exact = false }

-- `--exact` alone
abbrev pub exact_alone : SaidOptions
exact_alone = record { bits = None; budget = None; exact = true }

-- what an option and its value say: `--bits` and a number from 1 to 8, or `--budget` and one from 1 to 8388608
abbrev pub option_in : List ℕ → List ℕ → Option SaidOptions
option_in name value =
    if bytes_eq name (codes "--bits") then option_map bits_alone (bits_in value)
    else (if bytes_eq name (codes "--budget") then option_map budget_alone (budget_in value) else None)

-- an option and those behind it, where neither says what the other says
abbrev pub before : Option SaidOptions → Option SaidOptions → Option SaidOptions
before one others = option_and_then (λ a. option_and_then (joined a) others) one

-- the word `--exact`, which has no value
abbrev pub is_exact : List ℕ → Bool
is_exact word = bytes_eq word (codes "--exact")

-- the options that words say, each at most once: the word `--exact`, or a name and its value
abbrev pub options_in : List (List ℕ) → Option SaidOptions
options_in [] = Some unsaid
options_in (word ∷ []) = if is_exact word then Some exact_alone else None
options_in (word ∷ value ∷ words) = if is_exact word then before (Some exact_alone) (options_in (value ∷ words)) else before (option_in word value) (options_in words)

-- ---- commands

-- a command, where this option isn't said
abbrev pub without : Option ℕ → Option Command → Option Command
without None command = command
without (Some said) command = None

-- a command, where `--exact` isn't said
abbrev pub without_exact : Bool → Option Command → Option Command
without_exact exact command = if exact then None else command

-- `synth` by its options
abbrev pub synth_of : SaidOptions → Command
synth_of said = command.Synth (record { bits = said.bits; budget = unwrap_or said.budget DEFAULT_BUDGET; exact = said.exact })

-- the words behind `synth`
abbrev pub synth_in : List (List ℕ) → Option Command
synth_in words = option_map synth_of (options_in words)

-- a command, where no words stand behind its own
abbrev pub alone : Command → List (List ℕ) → Option Command
alone c [] = Some c
alone c words = None

-- `cnf` over so many gates, with two bits at least where they are said
abbrev pub cnf_over : ℕ → Option ℕ → Option Command
cnf_over gates None = Some (command.Cnf (record { gates = gates; bits = None }))
cnf_over gates (Some (suc zero)) = None
cnf_over gates (Some bits) = Some (command.Cnf (record { gates = gates; bits = Some bits }))

-- the same by the options, which say bits alone
abbrev pub cnf_of : ℕ → SaidOptions → Option Command
cnf_of gates said = without_exact said.exact (without said.budget (cnf_over gates said.bits))

-- `cnf`, a number of gates from 0 to 4096, and its options
abbrev pub cnf_in : List (List ℕ) → Option Command
cnf_in [] = None
cnf_in (gates ∷ words) = option_and_then (λ g. option_and_then (cnf_of g) (options_in words)) (number_within 0 CNF_GATE_LIMIT gates)

-- `solve` by its options, which say a budget alone
abbrev pub solve_of : SaidOptions → Option Command
solve_of said = without_exact said.exact (without said.bits (Some (command.Solve (unwrap_or said.budget DEFAULT_BUDGET))))

-- the words behind `solve`
abbrev pub solve_in : List (List ℕ) → Option Command
solve_in words = option_and_then solve_of (options_in words)

-- the command that the words name
abbrev pub command_of : List (List ℕ) → Option Command
command_of [] = None
command_of (word ∷ words) =
    if bytes_eq word (codes "synth") then synth_in words
    else (if bytes_eq word (codes "normal") then alone command.Normal words
    else (if bytes_eq word (codes "cnf") then cnf_in words
    else (if bytes_eq word (codes "lrat") then alone command.Lrat words
    else (if bytes_eq word (codes "solve") then solve_in words
    else (if bytes_eq word (codes "check") then alone command.Check words
    else (if bytes_eq word (codes "verilog") then alone command.Verilog words else None))))))
