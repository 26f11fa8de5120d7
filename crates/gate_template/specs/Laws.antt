-- What is proved of templates.
use Rattle.std.specs.Prelude.{◌≡◌, ◌↔◌, ℕ, ◌+◌, ◌≤◌, IsTrue, List, length, map, bit_xor}
use Rattle.std.specs.List.{All}
use Rattle.cpog_defs.specs.declared.types.Bit3.{Bit3}
use Rattle.cpog_defs.specs.Codes.{open_patterns}
use Rattle.cpog_defs.specs.Orders.{Order, IsOrderOf}
use Rattle.cpog_defs.specs.Gates.{IsGateList}
use Rattle.cpog_defs.specs.Encodings.{HasEncoding}
use Rattle.gate_forms.specs.Forms.{IsFlipped}
use Rattle.cpog_merge.specs.Columns.{Columns, count_of, AreColumnsOf}
use Rattle.cpog_merge.specs.Classes.{Classes, AreClassesOf}
use Rattle.clause_arena.specs.Clauses.{IsSatisfiable, HaveNoSolution}
use Rattle.clause_arena.specs.Formulas.{are_within}
use Rattle.clause_arena.specs.Arenas.{literals}
use Rattle.gate_core.specs.Columns.{IsOpenColumn}
use Rattle.gate_core.specs.Bounds.{IsLowerBound}
use Rattle.gate_template.specs.Variables.{variables}
use Rattle.gate_template.specs.declared.types.Template.{Template}
use Rattle.gate_template.specs.declared.types.Template.TheVariants.{Second, Third}
use Rattle.gate_template.specs.Templates.{shape_of, template, kept_patterns, ArePatterns}
use Rattle.gate_template.specs.Counts.{IsCounted}
use Rattle.gate_template.specs.Values.{Parts, IsSolution, HasZeros, TakesOpenBits}

-- the scenarios have an encoding of so many bits at this cost or a lower one
pub record HasEncodingWithin (count : ℕ) (orders : List Order) (patterns : List (List Bit3)) (bits gates : ℕ) : Type 0 where
  pub cost : ℕ
  pub within : cost ≤ gates
  pub encoding : HasEncoding count orders patterns bits cost

-- Whatever the scenarios and their patterns: each template is satisfiable exactly where they have an encoding of at most
-- so many gates, which keeps the given bits that the template keeps.
abbrev pub TemplateLifts : Type 0
TemplateLifts =
    (kind : Template) (orders : List Order) (patterns : List (List Bit3)) (t : Columns) (list : Classes) (bits gates : ℕ) →
    All (IsOrderOf (count_of orders)) orders → AreColumnsOf orders t → AreClassesOf t list → 1 ≤ length orders →
    2 ≤ bits → ArePatterns bits (length orders) patterns →
    IsSatisfiable (template kind patterns bits gates list.columns)
    ↔ HasEncodingWithin (count_of orders) orders (kept_patterns kind patterns) bits gates

-- Where no assignment satisfies a template, no encoding that keeps the given bits has as few gates as it asks for.
abbrev pub RefutedTemplatesBound : Type 0
RefutedTemplatesBound =
    (kind : Template) (orders : List Order) (patterns : List (List Bit3)) (t : Columns) (list : Classes) (bits gates : ℕ) →
    All (IsOrderOf (count_of orders)) orders → AreColumnsOf orders t → AreClassesOf t list → 1 ≤ length orders →
    2 ≤ bits → ArePatterns bits (length orders) patterns →
    HaveNoSolution (template kind patterns bits gates list.columns) → IsLowerBound (count_of orders) orders patterns bits (gates + 1)

-- A solution whose codes are combined with such a mask, and whose gates and references are flipped by it, is a solution with
-- the zeros that the template asks for.
abbrev pub FlippedSolutionsHaveZeros : Type 0
FlippedSolutionsHaveZeros =
    (kind : Template) (patterns columns : List (List Bit3)) (bits mask : ℕ) (before after : Parts) → 1 ≤ length patterns →
    All (λ pattern. length pattern ≡ bits) patterns → IsSolution kind patterns bits columns before →
    TakesOpenBits kind patterns bits mask before → after.codes ≡ map (bit_xor mask) before.codes → IsGateList after.gates →
    IsFlipped mask before.gates before.refs after.gates after.refs →
    IsSolution kind patterns bits columns after × HasZeros kind patterns bits after.codes

-- the second template is the third one with every bit open
abbrev pub SecondIsThirdWithOpenBits : Type 0
SecondIsThirdWithOpenBits =
    (n bits gates : ℕ) (columns : List (List Bit3)) →
    template Second (open_patterns n) bits gates columns ≡ template Third (open_patterns n) bits gates columns

-- the variable of each literal of a template is one of the template's
abbrev pub TemplateIsWithin : Type 0
TemplateIsWithin =
    (kind : Template) (patterns columns : List (List Bit3)) (bits gates : ℕ) → 1 ≤ length patterns →
    IsTrue (are_within (length (variables (shape_of patterns bits gates columns))) (template kind patterns bits gates columns))

-- a template has as many variables, clauses and literals as the products say
abbrev pub TemplateIsCounted : Type 0
TemplateIsCounted =
    (kind : Template) (patterns columns : List (List Bit3)) (bits gates : ℕ) →
    All (λ pattern. length pattern ≡ bits) patterns → All (λ column. length column ≡ length patterns) columns →
    IsCounted kind patterns bits gates columns

-- where there are two scenarios or more and each column is open, a template has no more variables than literals
abbrev pub VariablesAreFew : Type 0
VariablesAreFew =
    (kind : Template) (patterns columns : List (List Bit3)) (bits gates : ℕ) → 2 ≤ length patterns → 2 ≤ bits →
    All (λ pattern. length pattern ≡ bits) patterns → All (IsOpenColumn (length patterns)) columns →
    length (variables (shape_of patterns bits gates columns)) ≤ literals (template kind patterns bits gates columns)
