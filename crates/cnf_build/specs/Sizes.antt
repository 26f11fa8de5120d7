-- What a template is asked for with.
use Rattle.std.specs.Prelude.{◌≡◌, ℕ, ◌≤◌, List, length}
use Rattle.std.specs.List.{All}
use Rattle.cpog_defs.specs.declared.types.Bit3.{Bit3}
use Rattle.cpog_base.specs.declared.limits.TheConstants.{BIT_LIMIT, SCENARIO_LIMIT}
use Rattle.cnf_build.specs.declared.size.TheConstants.{GATE_LIMIT}

-- a pattern of 2 to 8 bits for each of 1 to 64 scenarios, at most 65535 gates, and columns with an entry for each scenario
pub record IsAsked (patterns : List (List Bit3)) (bits gates : ℕ) (columns : List (List Bit3)) : Type 0 where
  pub some : 1 ≤ length patterns
  pub few : length patterns ≤ SCENARIO_LIMIT
  pub some_bits : 2 ≤ bits
  pub few_bits : bits ≤ BIT_LIMIT
  pub few_gates : gates ≤ GATE_LIMIT
  pub patterns_fit : All (λ pattern. length pattern ≡ bits) patterns
  pub columns_fit : All (λ column. length column ≡ length patterns) columns
