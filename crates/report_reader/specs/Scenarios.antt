-- How the scenarios of a report are read, up to the number of gates.
use Rattle.std.specs.Prelude.{◌≡◌, true, ℕ, ◌<◌, ◌^◌, ◌==◌, Bool, List, [], ◌∷◌, ◌++◌, length, map, Option, Some, None, is_some, Result, Ok, Err, codes, if◌then◌else◌}
use Rattle.std.specs.FinSet as set
use Rattle.cpog_defs.specs.declared.types.Bit3.{Bit3}
use Rattle.cpog_defs.specs.declared.types.OpId.{OpId}
use Rattle.cpog_defs.specs.Orders.{Set}
use Rattle.cpog_defs.specs.Scenarios.{Scenario}
use Rattle.line_rows.specs.Words.{◌>>=?◌, number_in, behind, behind_of, pair_of}
use Rattle.line_rows.specs.Position.{Position}
use Rattle.line_rows.specs.Reading.{◌>>=◌, line_at, read_or_fault, row, then_of, view_of}
use Rattle.line_rows.specs.Either.{until_of}
use Rattle.report_text.specs.Report.{IsReported}
use Rattle.report_text.specs.Rows.{scenario_row, has_row, arcs_row, gates_row}
use Rattle.report_reader.specs.Reading.{is_next}
use Rattle.report_reader.specs.Codes.{digits_in, given_in, split_of}
use Rattle.report_reader.specs.Operations.{has_in, arcs_in}

-- the name of a scenario, which comes behind those of the others
abbrev pub name_in : List (List ℕ) → List ℕ → Option (List ℕ)
name_in done word = if is_next 64 done word then Some word else None

-- a code, and what is given of it
unfoldable pub code_in : ℕ → List ℕ → Option (ℕ × List Bit3)
code_in bits = split_of bits (digits_in bits) (given_in bits)

-- the first line of a scenario
unfoldable pub label_in : ℕ → List (List ℕ) → List ℕ → Option (List ℕ × (ℕ × List Bit3))
label_in bits done = behind_of (codes "scenario ") (pair_of (name_in done) (λ _. code_in bits))

-- what the three lines of a scenario say
pub record Block : Type 0 where
  pub name : List ℕ
  pub code : ℕ
  pub pattern : List Bit3
  pub scenario : Scenario

abbrev pub block_of : ℕ → List ℕ × (ℕ × List Bit3) → Set → List (OpId × OpId) → Block
block_of count label ops arcs = record { name = label.0; code = label.1.0; pattern = label.1.1; scenario = record { count = count; ops = ops; arcs = arcs } }

-- a scenario whose first line is this one
unfoldable pub block_behind : ℕ → List (List ℕ) → List (List ℕ) → List ℕ → Position → Result (Block × Position) ℕ
block_behind bits names done line p =
    read_or_fault (label_in bits done line) p >>= λ x. row (has_in names) x.1 >>= λ y. row (arcs_in names y.0) y.1 >>= λ z. Ok (block_of (length names) x.0 y.0 z.0, z.1)

abbrev pub block_at : ℕ → List (List ℕ) → List (List ℕ) → Position → Result (Block × Position) ℕ
block_at bits names done p = line_at p >>= λ l. block_behind bits names done l.0 l.1

-- the line begins a scenario
abbrev pub is_label : List ℕ → Bool
is_label line = is_some (behind (codes "scenario ") line)

-- there is no gate over one input
abbrev pub gate_bound : ℕ → ℕ
gate_bound bits = if bits == 1 then 1 else 65536

-- how many gates there are
unfoldable pub gates_in : ℕ → List ℕ → Option ℕ
gates_in bits = behind_of (codes "gates ") (number_in (gate_bound bits))

abbrev pub with_name : List (List ℕ) → Block → List (List ℕ)
with_name done b = done ++ b.name ∷ []

-- at most so many scenarios, and then the number of gates
abbrev pub blocks_at : ℕ → List (List ℕ) → ℕ → List (List ℕ) → Position → Result ((List Block × ℕ) × Position) ℕ
blocks_at bits names = until_of is_label (block_at bits names) with_name (row (gates_in bits))

-- one scenario, others, and the number of gates
abbrev pub scenarios_at : ℕ → List (List ℕ) → Position → Result ((Block × (List Block × ℕ)) × Position) ℕ
scenarios_at bits names = then_of (block_at bits names []) (λ b. blocks_at bits names 63 (b.name ∷ []))

-- what they say, each kind for itself
pub record Columns : Type 0 where
  pub names : List (List ℕ)
  pub codes : List ℕ
  pub patterns : List (List Bit3)
  pub scenarios : List Scenario

abbrev pub with_block : Columns → Block → Columns
with_block c b = record { names = c.names ++ b.name ∷ []; codes = c.codes ++ b.code ∷ []; patterns = c.patterns ++ b.pattern ∷ []; scenarios = c.scenarios ++ b.scenario ∷ [] }

abbrev pub all_blocks : Columns → List Block → Columns
all_blocks c [] = c
all_blocks c (b ∷ bs) = all_blocks (with_block c b) bs

abbrev pub no_columns : Columns
no_columns = record { names = []; codes = []; patterns = []; scenarios = [] }

-- behind those that were read
abbrev pub behind_columns : Columns → (List Block × ℕ) → Columns × ℕ
behind_columns c x = (all_blocks c x.0, x.1)

abbrev pub columns_from : Block × (List Block × ℕ) → Columns × ℕ
columns_from x = (all_blocks no_columns (x.0 ∷ x.1.0), x.1.1)

-- ---- what is read

pub record FitsBlock (bits : ℕ) (names : List (List ℕ)) (done : List (List ℕ)) (b : Block) : Type 0 where
  pub next : is_next 64 done b.name ≡ true
  pub code : b.code < 2 ^ bits
  pub pattern : length b.pattern ≡ bits
  pub scenario : IsReported (length names) b.scenario

-- the lines of a scenario
abbrev pub block_lines : ℕ → List (List ℕ) → Block → List (List ℕ)
block_lines bits names b = scenario_row bits b.name b.code b.pattern ∷ has_row names b.scenario ∷ arcs_row names b.scenario ∷ []

-- ---- as it is read

-- the first line of a scenario behind others, with its name behind theirs
unfoldable pub named_label : ℕ → List (List ℕ) → List ℕ → Option (List (List ℕ) × (ℕ × List Bit3))
named_label bits done line = label_in bits done line >>=? λ x. Some (done ++ x.0 ∷ [], x.1)

abbrev pub with_parts : ℕ → Columns → List (List ℕ) × (ℕ × List Bit3) → Set → List (OpId × OpId) → Columns
with_parts count c label ops arcs = record { names = label.0; codes = c.codes ++ label.1.0 ∷ []; patterns = c.patterns ++ label.1.1 ∷ []; scenarios = c.scenarios ++ record { count = count; ops = ops; arcs = arcs } ∷ [] }

-- one more scenario, whose first line is this one
unfoldable pub add_at : ℕ → List (List ℕ) → Columns → List ℕ → Position → Result (Columns × Position) ℕ
add_at bits names c line p =
    read_or_fault (named_label bits c.names line) p >>= λ x. row (has_in names) x.1 >>= λ y. row (arcs_in names y.0) y.1 >>= λ z. Ok (with_parts (length names) c x.0 y.0 z.0, z.1)

-- the other scenarios, behind those that were read, and the number of gates
unfoldable pub others_at : ℕ → List (List ℕ) → Columns → ℕ → Position → Result ((Columns × ℕ) × Position) ℕ
others_at bits names c n p = blocks_at bits names n c.names p >>= λ x. Ok (behind_columns c x.0, x.1)

-- the number of gates, behind scenarios
abbrev pub count_at : ℕ → Columns → List ℕ → Position → Result ((Columns × ℕ) × Position) ℕ
count_at bits c line p = read_or_fault (gates_in bits line) p >>= λ x. Ok ((c, x.0), x.1)

-- the number alone
abbrev pub count_in : ℕ → List ℕ → Position → Result ℕ ℕ
count_in bits line p = read_or_fault (gates_in bits line) p >>= λ x. Ok x.0

-- the scenarios, and the number of gates
unfoldable pub columns_at : ℕ → List (List ℕ) → Position → Result ((Columns × ℕ) × Position) ℕ
columns_at bits names p = line_at p >>= λ l. add_at bits names no_columns l.0 l.1 >>= λ c. others_at bits names c.0 63 c.1
