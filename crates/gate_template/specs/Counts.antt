-- How many variables, clauses and literals a template has.
use Rattle.std.specs.Prelude.{◌≡◌, ℕ, zero, suc, ◌+◌, ◌-◌, ◌*◌, if◌then◌else◌, List, [], ◌∷◌, length}
use Rattle.std.specs.List.{sum_by, count_by}
use Rattle.cpog_defs.specs.declared.types.Bit3.{Bit3}
use Rattle.cpog_defs.specs.Orders.{each_below}
use Rattle.cpog_base.specs.Pattern.{is_given}
use Rattle.clause_arena.specs.Arenas.{literals}
use Rattle.gate_template.specs.declared.types.Shape.{Shape}
use Rattle.gate_template.specs.declared.types.Template.{Template}
use Rattle.gate_template.specs.declared.types.Template.TheVariants.{First, Second, Third}
use Rattle.gate_template.specs.Variables.{variables}
use Rattle.gate_template.specs.Families.{gives}
use Rattle.gate_template.specs.Templates.{shape_of, template}

-- ---- pairs

-- how many pairs of numbers below n have their first below j
unfoldable pub rows : ℕ → ℕ → ℕ
rows n zero = 0
rows n (suc j) = rows n j + (n - (j + 1))

-- how many pairs of numbers below n there are
abbrev pub pairs : ℕ → ℕ
pairs n = rows n n

-- how many pairs of signals before them the first g gates have
unfoldable pub selections : ℕ → ℕ → ℕ
selections l zero = 0
selections l (suc g) = selections l g + pairs (l + g)

-- ---- how many variables stand before each block

-- those before D: the bits of all codes
abbrev pub before_d : Shape → ℕ
before_d z = z.scenarios * z.bits

-- those before Sel: also one for each pair of scenarios and bit
abbrev pub before_sel : Shape → ℕ
before_sel z = before_d z + pairs z.scenarios * z.bits

-- those before T: also one for each gate and pair of signals before it
abbrev pub before_t : Shape → ℕ
before_t z = before_sel z + selections z.bits z.gates

-- those before V: also three rows of a table for each gate
abbrev pub before_v : Shape → ℕ
before_v z = before_t z + z.gates * 3

-- those before O: also one for each gate and scenario
abbrev pub before_o : Shape → ℕ
before_o z = before_v z + z.gates * z.scenarios

-- those before P: also one for each class and signal
abbrev pub before_p : Shape → ℕ
before_p z = before_o z + z.classes * (z.bits + z.gates)

-- all of them: also one for each class
abbrev pub variable_count : Shape → ℕ
variable_count z = before_p z + z.classes

-- ---- entries that ask for a bit

-- how many entries of a column or of a pattern ask for a bit
abbrev pub defined : List Bit3 → ℕ
defined entries = count_by is_given entries

-- how many entries of all columns or patterns do
abbrev pub all_defined : List (List Bit3) → ℕ
all_defined lists = sum_by defined lists

-- how many of the first n bits no pattern gives
abbrev pub open_bits : List (List Bit3) → ℕ → ℕ
open_bits patterns n = length (each_below (λ i. if gives patterns i then [] else i ∷ []) n)

-- ---- clauses and literals

-- how many clauses of one literal a template adds to the first
unfoldable pub further_count : Template → ℕ → List (List Bit3) → ℕ
further_count First bits patterns = 0
further_count Second bits patterns = bits
further_count Third bits patterns = all_defined patterns + open_bits patterns bits

-- how many clauses a template has
abbrev pub clause_count : Template → Shape → List (List Bit3) → List (List Bit3) → ℕ
clause_count kind z patterns columns =
    pairs z.scenarios * (2 * z.bits + 1) + z.gates + 7 * z.scenarios * selections z.bits z.gates
    + z.classes + 2 * (z.bits + z.gates) * all_defined columns + further_count kind z.bits patterns

-- how many literals its clauses have together
abbrev pub literal_count : Template → Shape → List (List Bit3) → List (List Bit3) → ℕ
literal_count kind z patterns columns =
    7 * z.bits * pairs z.scenarios + (34 * z.scenarios + 1) * selections z.bits z.gates
    + z.classes * (z.bits + z.gates) + 6 * (z.bits + z.gates) * all_defined columns + further_count kind z.bits patterns

-- a template has so many variables, clauses and literals
pub record IsCounted (kind : Template) (patterns : List (List Bit3)) (bits gates : ℕ) (columns : List (List Bit3)) : Type 0 where
  pub variables_are :
      length (variables (shape_of patterns bits gates columns)) ≡ variable_count (shape_of patterns bits gates columns)
  pub clauses_are :
      length (template kind patterns bits gates columns) ≡ clause_count kind (shape_of patterns bits gates columns) patterns columns
  pub literals_are :
      literals (template kind patterns bits gates columns) ≡ literal_count kind (shape_of patterns bits gates columns) patterns columns
