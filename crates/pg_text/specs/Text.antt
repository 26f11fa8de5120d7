-- A whole text: the file that it spells, and why it spells none.
use Rattle.std.specs.Prelude.{◌≡◌, ℕ, ◌+◌, ◌<◌, ◌≤◌, List, [], ◌∷◌, length, sum_by, Option, Some, None}
use Rattle.cpog_base.specs.declared.limits.TheConstants.{PARAM_LIMIT, GRAPH_LIMIT, SCENARIO_LIMIT, OPERATION_LIMIT}
use Rattle.cpog_base.specs.declared.limits.Counted.{Counted}
use Rattle.cpog_base.specs.declared.limits.Counted.TheVariants as counted
use Rattle.pg_text.specs.declared.statement.Statement.{Statement}
use Rattle.pg_text.specs.declared.statement.Statement.TheVariants as statement
use Rattle.pg_text.specs.declared.statement.Numbered.{Numbered}
use Rattle.pg_text.specs.declared.fault.FileFault.{FileFault}
use Rattle.pg_text.specs.declared.fault.FileFault.TheVariants as fault
use Rattle.pg_text.specs.Lines.{graph_lines, IsFirstBad}
use Rattle.pg_text.specs.Sentences.{Sentence, IsLine, line_tree, names_after_line}
use Rattle.pg_text.specs.Contents.{Contents}

-- a blank line, a comment or a statement
abbrev pub IsGoodLine : List ℕ → Type 0
IsGoodLine line = (x : Option Sentence) × IsLine x line

-- each line is what stands there
abbrev pub AreSpelled : List (Option Sentence) → List (List ℕ) → Type 0
AreSpelled [] [] = Unit {0}
AreSpelled [] (line ∷ lines) = ⊥
AreSpelled (x ∷ xs) [] = ⊥
AreSpelled (x ∷ xs) (line ∷ lines) = IsLine x line × AreSpelled xs lines

-- the statement, if the line has one, with the line's number
abbrev pub put_statement : ℕ → Option Statement → List Numbered → List Numbered
put_statement n None rest = rest
put_statement n (Some s) rest = record { line = n; statement = s } ∷ rest

-- the statements of lines from line n on, with the names before them
abbrev pub statements_from : ℕ → List (List ℕ) → List (Option Sentence) → List Numbered
statements_from n names [] = []
statements_from n names (x ∷ xs) = put_statement n (line_tree names x) (statements_from (n + 1) (names_after_line names x) xs)

-- the operation names after the lines, in the order of their first occurrence
abbrev pub names_after : List (List ℕ) → List (Option Sentence) → List (List ℕ)
names_after names [] = names
names_after names (x ∷ xs) = names_after (names_after_line names x) xs

-- every line is good, and these are the statements and the operation names
pub record IsReadAs (bytes : List ℕ) (f : Contents) : Type 0 where
  pub sentences : List (Option Sentence)
  pub spelled : AreSpelled sentences (graph_lines bytes)
  pub statements : f.statements ≡ statements_from 1 [] sentences
  pub operations : f.operations ≡ names_after [] sentences

-- ---- counts

-- how many of a thing a statement states: a parameter counts as often as it is stated
abbrev pub count_in : Counted → Statement → ℕ
count_in counted.Params (statement.Params names) = length names
count_in counted.Graphs (statement.Graph name e) = 1
count_in counted.Scenarios (statement.Scenario name e bindings) = 1
count_in what s = 0

-- how many parameters, graphs or scenarios a file has
abbrev pub count_of : Counted → List Numbered → ℕ
count_of what statements = sum_by (λ s. count_in what s.statement) statements

-- the text spells the file, and its counts are within the limits
pub record IsFileOf (bytes : List ℕ) (f : Contents) : Type 0 where
  pub reads : IsReadAs bytes f
  pub few_params : count_of counted.Params f.statements ≤ PARAM_LIMIT
  pub few_graphs : count_of counted.Graphs f.statements ≤ GRAPH_LIMIT
  pub few_scenarios : count_of counted.Scenarios f.statements ≤ SCENARIO_LIMIT
  pub few_operations : length f.operations ≤ OPERATION_LIMIT

-- a file that some text spells
abbrev pub IsFile : Contents → Type 0
IsFile f = (bytes : List ℕ) × IsFileOf bytes f

-- ---- faults

-- the count that is the first to pass its limit, and that limit
abbrev pub IsFirstPassed : Contents → Counted → ℕ → Type 0
IsFirstPassed f counted.Params limit = (PARAM_LIMIT < count_of counted.Params f.statements) × (limit ≡ PARAM_LIMIT)
IsFirstPassed f counted.Graphs limit = (count_of counted.Params f.statements ≤ PARAM_LIMIT) × (GRAPH_LIMIT < count_of counted.Graphs f.statements) × (limit ≡ GRAPH_LIMIT)
IsFirstPassed f counted.Scenarios limit =
    (count_of counted.Params f.statements ≤ PARAM_LIMIT) × (count_of counted.Graphs f.statements ≤ GRAPH_LIMIT) × (SCENARIO_LIMIT < count_of counted.Scenarios f.statements) × (limit ≡ SCENARIO_LIMIT)
IsFirstPassed f counted.Operations limit =
    (count_of counted.Params f.statements ≤ PARAM_LIMIT) × (count_of counted.Graphs f.statements ≤ GRAPH_LIMIT) × (count_of counted.Scenarios f.statements ≤ SCENARIO_LIMIT) × (OPERATION_LIMIT < length f.operations) × (limit ≡ OPERATION_LIMIT)
IsFirstPassed f counted.Input limit = ⊥
IsFirstPassed f counted.Bits limit = ⊥
IsFirstPassed f counted.Template limit = ⊥
IsFirstPassed f counted.Variables limit = ⊥

-- every line is good, and this count passes its limit first
pub record IsPassed (bytes : List ℕ) (what : Counted) (limit : ℕ) : Type 0 where
  pub file : Contents
  pub reads : IsReadAs bytes file
  pub passes : IsFirstPassed file what limit

-- when each fault is answered: the number of the first bad line; the first count that passes its limit; want of memory
abbrev pub IsFileFault : List ℕ → FileFault → Type 0
IsFileFault bytes (fault.BadLine n) = IsFirstBad IsGoodLine (graph_lines bytes) n
IsFileFault bytes (fault.Limit what limit) = IsPassed bytes what limit
IsFileFault bytes fault.Memory = Unit {0}
