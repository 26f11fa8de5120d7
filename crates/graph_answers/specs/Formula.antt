-- The formula that asks whether the scenarios of a file have an encoding with so many gates.
use Rattle.std.specs.Prelude.{◌≡◌, ◌↔◌, ℕ, ◌<◌, ◌≤◌, ◌^◌, ◌++◌, List, codes, length}
use Rattle.std.specs.Fmt.{decimal}
use Rattle.cpog_base.specs.declared.limits.Counted.TheVariants as counted
use Rattle.std.specs.List.{All}
use Rattle.cpog_base.specs.declared.limits.TheConstants.{BIT_LIMIT, SCENARIO_LIMIT, TEMPLATE_LIMIT}
use Rattle.gate_core.specs.Columns.{IsOpenColumn}
use Rattle.graph_answers.specs.declared.cnf.Question.{Question}
use Rattle.cpog_defs.specs.Codes.{open_patterns}
use Rattle.cpog_defs.specs.Orders.{Order}
use Rattle.cpog_merge.specs.Columns.{Columns, count_of, AreColumnsOf}
use Rattle.cpog_merge.specs.Classes.{Classes, AreClassesOf}
use Rattle.clause_arena.specs.Arenas.{literals}
use Rattle.clause_arena.specs.Clauses.{Clause, IsSatisfiable}
use Rattle.gate_template.specs.declared.types.Template.TheVariants.{Second}
use Rattle.gate_template.specs.Laws.{HasEncodingWithin}
use Rattle.gate_template.specs.Templates.{shape_of, template}
use Rattle.gate_template.specs.Variables.{variables}
use Rattle.dimacs_text.specs.Writing.{formula_lines}
use Rattle.line_text.specs.Lines.{text_of}
use Rattle.pg_text.specs.Contents.{Contents}
use Rattle.scenario_check.specs.Equals.{AreDifferent}
use Rattle.refusal_lines.specs.declared.refusal.Refusal.TheVariants as refusal
use Rattle.command_words.specs.declared.words.CnfOptions.{CnfOptions}
use Rattle.graph_answers.specs.Bits.{cnf_length, IsBits}
use Rattle.graph_answers.specs.Ordered.{AreOrdersIn}
use Rattle.refusal_lines.specs.Refusal.{refusal_text}
use Rattle.graph_answers.specs.Synthesis.{free_patterns}

-- these are the classes of the file's scenarios, of which there are so many and no two are equal, and there are codes of so many bits
pub record AreClassesIn (options : CnfOptions) (f : Contents) (scenarios bits : ℕ) (classes : Classes) : Type 0 where
  pub orders : List Order
  pub of_file : AreOrdersIn f orders
  pub some : 1 ≤ length orders
  pub different : AreDifferent orders
  pub number : scenarios ≡ length orders
  pub bits_are : IsBits (cnf_length options) (length orders) bits
  pub enough : length orders ≤ 2 ^ bits
  pub columns : Columns
  pub are_columns : AreColumnsOf orders columns
  pub are_classes : AreClassesOf columns classes

-- what a formula is made of: a pattern of 2 to 8 open bits for each of 1 to 64 scenarios, and open columns of classes
pub record IsQuestion (q : Question) : Type 0 where
  pub given : q.given.items ≡ free_patterns (length q.given.items) q.bits
  pub some : 1 ≤ length q.given.items
  pub few : length q.given.items ≤ SCENARIO_LIMIT
  pub some_bits : 2 ≤ q.bits
  pub few_bits : q.bits ≤ BIT_LIMIT
  pub open_columns : All (IsOpenColumn (length q.given.items)) q.classes.columns

-- the second template, in which no code bit is given
abbrev pub open_template : ℕ → ℕ → ℕ → Classes → List Clause
open_template scenarios bits gates classes = template Second (free_patterns scenarios bits) bits gates classes.columns

-- how many variables it has
abbrev pub open_variables : ℕ → ℕ → ℕ → Classes → ℕ
open_variables scenarios bits gates classes = length (variables (shape_of (free_patterns scenarios bits) bits gates classes.columns))

-- the comment that says what the formula asks for
abbrev pub comment_text : ℕ → ℕ → ℕ → ℕ → List ℕ
comment_text scenarios bits gates classes =
    codes "cpog template 2 scenarios " ++ (decimal scenarios ++ (codes " bits " ++ (decimal bits ++ (codes " gates " ++ (decimal gates ++ (codes " classes " ++ decimal classes))))))

-- the template has too many literals
pub record IsLargeAnswer (options : CnfOptions) (f : Contents) (output : List ℕ) : Type 0 where
  pub scenarios : ℕ
  pub bits : ℕ
  pub classes : Classes
  pub in_file : AreClassesIn options f scenarios bits classes
  pub large : TEMPLATE_LIMIT < literals (open_template scenarios bits options.gates classes)
  pub output_is : output ≡ refusal_text (refusal.Limit counted.Template TEMPLATE_LIMIT)

-- the text of the template, which is satisfiable exactly where the scenarios have an encoding of so many bits with at most so many gates
pub record IsFormulaAnswer (options : CnfOptions) (f : Contents) (output : List ℕ) : Type 0 where
  pub scenarios : ℕ
  pub bits : ℕ
  pub classes : Classes
  pub in_file : AreClassesIn options f scenarios bits classes
  pub few : literals (open_template scenarios bits options.gates classes) ≤ TEMPLATE_LIMIT
  pub asks : IsSatisfiable (open_template scenarios bits options.gates classes)
      ↔ HasEncodingWithin (count_of in_file.orders) in_file.orders (open_patterns scenarios) bits options.gates
  pub output_is : output ≡ text_of (formula_lines (comment_text scenarios bits options.gates (length classes.columns))
      (open_variables scenarios bits options.gates classes) (open_template scenarios bits options.gates classes))
