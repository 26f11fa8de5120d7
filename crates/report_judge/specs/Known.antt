-- What is known of the least number of gates, by the columns of the classes of the scenarios.
use Rattle.std.specs.Prelude.{◌≡◌, ℕ, zero, suc, ◌+◌, ◌<◌, ◌≤◌, List, length, slice_index_or}
use Rattle.cpog_base.specs.declared.limits.TheConstants.{TEMPLATE_LIMIT}
use Rattle.cpog_defs.specs.declared.types.Bit3.{Bit3}
use Rattle.cpog_defs.specs.declared.types.Place.{Place}
use Rattle.cpog_defs.specs.declared.types.Place.TheVariants.{Op}
use Rattle.cpog_defs.specs.Orders.{Order}
use Rattle.cpog_defs.specs.Columns.{column}
use Rattle.cpog_defs.specs.Scenarios.{Scenario, AreOrdersOf}
use Rattle.clause_arena.specs.Arenas.{literals}
use Rattle.gate_core.specs.Columns.{IsOpenColumn}
use Rattle.cpog_merge.specs.Columns.{Columns, AreColumnsOf}
use Rattle.cpog_merge.specs.Classes.{Classes, AreClassesOf}
use Rattle.cpog_merge.specs.Incompatible.{AreIncompatible, IsCountEvidence}
use Rattle.gate_template.specs.declared.types.Template.{Template}
use Rattle.gate_template.specs.Variables.{variables}
use Rattle.gate_template.specs.Templates.{shape_of, template}
use Rattle.cnf_build.specs.Evidence.{EvidenceValue, OpenValue}
use Rattle.proof_check.specs.Lines.{Line, numbers}
use Rattle.proof_check.specs.Following.{first_live, AllFollow, HasEmpty, Refutes, IsFirstBreak}
use Rattle.report_text.specs.declared.bound.Bound.{Bound}
use Rattle.report_text.specs.declared.bound.Bound.TheVariants.{Minimum, Between}

-- the lower bound that is printed
abbrev pub printed_lower : Bound → ℕ
printed_lower (Minimum h) = h
printed_lower (Between lo hi) = lo

-- so many gates are a printed minimum; where two bounds are printed they are the higher one, and the lower one is less
abbrev pub Attains : ℕ → Bound → Type 0
Attains gates (Minimum h) = gates ≡ h
Attains gates (Between lo hi) = (gates ≡ hi) × (lo < hi)

-- scenarios have these orders, and the classes of the orders' columns have these columns
pub record AreClassColumns (scenarios : List Scenario) (orders : List Order) (columns : List (List Bit3)) : Type 0 where
  pub are_orders : AreOrdersOf scenarios orders
  pub table : Columns
  pub are_columns : AreColumnsOf orders table
  pub classes : Classes
  pub are_classes : AreClassesOf table classes
  pub columns_are : columns ≡ classes.columns

-- ---- a template that a log is about

-- how many variables the template has
abbrev pub template_variables : List (List Bit3) → ℕ → ℕ → List (List Bit3) → ℕ
template_variables patterns bits gates columns = length (variables (shape_of patterns bits gates columns))

-- each line of the log follows the template
abbrev pub FollowsTemplate : List (List Bit3) → ℕ → List (List Bit3) → Template → ℕ → List Line → Type 0
FollowsTemplate patterns bits columns kind gates log =
    AllFollow (template_variables patterns bits gates columns) (length (template kind patterns bits gates columns))
    (first_live (template kind patterns bits gates columns)) log

-- the log refutes the template
abbrev pub RefutesTemplate : List (List Bit3) → ℕ → List (List Bit3) → Template → ℕ → List Line → Type 0
RefutesTemplate patterns bits columns kind gates log =
    Refutes (template_variables patterns bits gates columns) (template kind patterns bits gates columns) log

-- the line of this number is the first that doesn't follow the template, and this is its hint
abbrev pub BreaksTemplate : List (List Bit3) → ℕ → List (List Bit3) → Template → ℕ → List Line → ℕ → ℕ → Type 0
BreaksTemplate patterns bits columns kind gates log line hint =
    IsFirstBreak (template_variables patterns bits gates columns) (template kind patterns bits gates columns) log line hint

-- ---- evidence

-- a refutation for a number is about a template with one gate fewer, of 2 bits at least, which is not too large
pub record IsAboutFewer (patterns : List (List Bit3)) (bits : ℕ) (columns : List (List Bit3)) (lo : ℕ) (kind : Template)
    (gates : ℕ) : Type 0 where
  pub one_fewer : gates + 1 ≡ lo
  pub some_bits : 2 ≤ bits
  pub size : literals (template kind patterns bits gates columns) ≤ TEMPLATE_LIMIT

-- the evidence speaks of the number: it is 0; or there are so many places, and one for each bit of a code; or a template
-- with one gate fewer is refuted
abbrev pub SpeaksOf : List (List Bit3) → ℕ → List (List Bit3) → ℕ → EvidenceValue → Type 0
SpeaksOf patterns bits columns lo EvidenceValue.Zero = lo ≡ 0
SpeaksOf patterns bits columns lo (EvidenceValue.Count places) = length places ≡ lo + bits
SpeaksOf patterns bits columns lo (EvidenceValue.Refutation kind gates log) = IsAboutFewer patterns bits columns lo kind gates

-- the places are such as count, and the log refutes the template
abbrev pub IsShown : ℕ → List Order → List (List Bit3) → ℕ → List (List Bit3) → EvidenceValue → Type 0
IsShown operations orders patterns bits columns EvidenceValue.Zero = Unit {0}
IsShown operations orders patterns bits columns (EvidenceValue.Count places) = IsCountEvidence operations orders places
IsShown operations orders patterns bits columns (EvidenceValue.Refutation kind gates log) =
    RefutesTemplate patterns bits columns kind gates log

-- the column of the member at a place of a count
abbrev pub member_column : List Order → List Place → ℕ → List Bit3
member_column orders places i = column orders (slice_index_or places i (Op (record { 0 = 0 })))

-- the column of a member asks for a 1 and for a 0, and is incompatible with that of each earlier one
pub record IsMember (orders : List Order) (places : List Place) (i : ℕ) : Type 0 where
  pub is_open : IsOpenColumn (length orders) (member_column orders places i)
  pub apart : (j : ℕ) → j < i → AreIncompatible (member_column orders places j) (member_column orders places i)

-- the member of this number, from 1, is the first that isn't such a one
abbrev pub IsFirstNoMember : List Order → List Place → ℕ → Type 0
IsFirstNoMember orders places zero = ⊥
IsFirstNoMember orders places (suc i) =
    (i < length places) × (IsMember orders places i → ⊥) × ((j : ℕ) → j < i → IsMember orders places j)

-- the evidence is a count, and this is its first member that isn't such a one
abbrev pub FailsAtMember : List Order → EvidenceValue → ℕ → Type 0
FailsAtMember orders EvidenceValue.Zero i = ⊥
FailsAtMember orders (EvidenceValue.Count places) i = IsFirstNoMember orders places i
FailsAtMember orders (EvidenceValue.Refutation kind gates log) i = ⊥

-- the evidence is a refutation, and its log breaks at this line and hint
abbrev pub FailsAtLine : List (List Bit3) → ℕ → List (List Bit3) → EvidenceValue → ℕ → ℕ → Type 0
FailsAtLine patterns bits columns EvidenceValue.Zero line hint = ⊥
FailsAtLine patterns bits columns (EvidenceValue.Count places) line hint = ⊥
FailsAtLine patterns bits columns (EvidenceValue.Refutation kind gates log) line hint =
    BreaksTemplate patterns bits columns kind gates log line hint

-- the evidence is a refutation whose lines all follow, and none is empty
abbrev pub FailsWithoutEmpty : List (List Bit3) → ℕ → List (List Bit3) → EvidenceValue → Type 0
FailsWithoutEmpty patterns bits columns EvidenceValue.Zero = ⊥
FailsWithoutEmpty patterns bits columns (EvidenceValue.Count places) = ⊥
FailsWithoutEmpty patterns bits columns (EvidenceValue.Refutation kind gates log) =
    FollowsTemplate patterns bits columns kind gates log × (HasEmpty log → ⊥)

-- ---- what is left open

-- nothing is open where the bounds are equal; else it is a log about the template with so many gates as the lower bound
-- says, which is not too large, or that template is too large
abbrev pub IsOpenBetween : List (List Bit3) → ℕ → List (List Bit3) → ℕ → ℕ → OpenValue → Type 0
IsOpenBetween patterns bits columns lo hi OpenValue.Closed = lo ≡ hi
IsOpenBetween patterns bits columns lo hi (OpenValue.Log kind gates log) =
    (lo < hi) × (gates ≡ lo) × (literals (template kind patterns bits gates columns) ≤ TEMPLATE_LIMIT)
IsOpenBetween patterns bits columns lo hi (OpenValue.Size kind gates) =
    (lo < hi) × (gates ≡ lo) × (TEMPLATE_LIMIT < literals (template kind patterns bits gates columns))

-- the lines of an open log follow
abbrev pub OpenFollows : List (List Bit3) → ℕ → List (List Bit3) → OpenValue → Type 0
OpenFollows patterns bits columns OpenValue.Closed = Unit {0}
OpenFollows patterns bits columns (OpenValue.Log kind gates log) = FollowsTemplate patterns bits columns kind gates log
OpenFollows patterns bits columns (OpenValue.Size kind gates) = Unit {0}

-- there is an open log, and it breaks at this line and hint
abbrev pub OpenBreaks : List (List Bit3) → ℕ → List (List Bit3) → OpenValue → ℕ → ℕ → Type 0
OpenBreaks patterns bits columns OpenValue.Closed line hint = ⊥
OpenBreaks patterns bits columns (OpenValue.Log kind gates log) line hint =
    BreaksTemplate patterns bits columns kind gates log line hint
OpenBreaks patterns bits columns (OpenValue.Size kind gates) line hint = ⊥

-- the numbers of an open log are at least the budget
abbrev pub ReachesBudget : ℕ → OpenValue → Type 0
ReachesBudget budget OpenValue.Closed = Unit {0}
ReachesBudget budget (OpenValue.Log kind gates log) = budget ≤ numbers log
ReachesBudget budget (OpenValue.Size kind gates) = Unit {0}
