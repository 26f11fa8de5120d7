-- What the steps of a verdict say.
use Rattle.std.specs.Prelude.{◌≡◌, ℕ, ◌≤◌, Bool, if◌then◌else◌, List, [], ◌∷◌, length, Option, None, Some}
use Rattle.std.specs.List.{All}
use Rattle.cpog_base.specs.declared.limits.TheConstants.{BIT_LIMIT, SCENARIO_LIMIT}
use Rattle.cpog_base.specs.Rows.{row_has}
use Rattle.cpog_defs.specs.declared.types.Bit3.{Bit3}
use Rattle.cpog_defs.specs.declared.types.OpId.{OpId}
use Rattle.cpog_defs.specs.Orders.{Set, each_below, arc_of}
use Rattle.cpog_defs.specs.Scenarios.{Scenario, AreOrdersOf}
use Rattle.cpog_defs.specs.Graphs.{ConditionalGraph, keeps_arc}
use Rattle.cpog_defs.specs.Encodings.{Encoding}
use Rattle.cpog_merge.specs.Columns.{AreColumnsOf}
use Rattle.cpog_merge.specs.Classes.{AreClassesOf}
use Rattle.report_text.specs.Report.{ReportValue}
use Rattle.report_judge.specs.declared.basis.Basis.{Basis}
use Rattle.report_judge.specs.declared.fault.Fault.{Fault}
use Rattle.report_judge.specs.declared.fault.Fault.TheVariants as faults
use Rattle.report_judge.specs.declared.fitting.Misfit.{Misfit}
use Rattle.report_judge.specs.declared.fitting.Misfit.TheVariants as misfits
use Rattle.report_judge.specs.Parts.{Part}
use Rattle.report_judge.specs.Fitting.{values_at, scenario_at, IsLeft, IsFirstOther, IsPairBefore, IsFirstDisordered}
use Rattle.report_judge.specs.Reasons.{part_of, Fails, IsFirstFailing}

-- ---- what is left

-- the pairs that are left from an operation to those below n
abbrev pub kept_from : ConditionalGraph → List Bool → ℕ → ℕ → List (OpId × OpId)
kept_from graph values n u = each_below (λ v. if keeps_arc graph values u v then arc_of u v ∷ [] else []) n

-- those among the operations below n
abbrev pub kept_pairs : ConditionalGraph → List Bool → ℕ → List (OpId × OpId)
kept_pairs graph values n = each_below (kept_from graph values n) n

-- the first pair of which two lists of rows tell otherwise
pub record IsFirstDifference (rows others : List Set) (u v : ℕ) : Type 0 where
  pub differ : row_has rows u v ≡ row_has others u v → ⊥
  pub earlier : (a b : ℕ) → IsPairBefore a b u v → row_has rows a b ≡ row_has others a b

-- exactly the scenario is left, or this is the first operation or pair that tells otherwise
abbrev pub IsMisfit : ConditionalGraph → List Bool → Scenario → Option Misfit → Type 0
IsMisfit graph values sc None = IsLeft graph values sc
IsMisfit graph values sc (Some (misfits.Operation v)) = IsFirstOther graph values sc v.0
IsMisfit graph values sc (Some (misfits.Pair u v)) = IsFirstDisordered graph values sc u.0 v.0

-- the same of the scenario and the code at a place
abbrev pub IsMisfitAt : Encoding → List Scenario → ℕ → Option Misfit → Type 0
IsMisfitAt e scenarios s found = IsMisfit e.graph (values_at e s) (scenario_at scenarios s) found

-- ---- what evidence is judged by

-- the orders of the scenarios, their columns, and the classes of these, whose columns have an entry for each scenario
pub record IsBasis (scenarios : List Scenario) (b : Basis) : Type 0 where
  pub are_orders : AreOrdersOf scenarios b.orders.items
  pub are_columns : AreColumnsOf b.orders.items b.table
  pub are_classes : AreClassesOf b.table b.classes
  pub entries : All (λ column. length column ≡ length scenarios) b.classes.columns

-- what a template of these patterns and columns may be asked for with, but for its bits and gates
pub record CanAsk (patterns : List (List Bit3)) (bits : ℕ) (columns : List (List Bit3)) : Type 0 where
  pub some : 1 ≤ length patterns
  pub few : length patterns ≤ SCENARIO_LIMIT
  pub few_bits : bits ≤ BIT_LIMIT
  pub patterns_fit : All (λ pattern. length pattern ≡ bits) patterns
  pub columns_fit : All (λ column. length column ≡ length patterns) columns

-- ---- faults

-- this part fails by the reason; or no memory was left
abbrev pub IsFaultAt : ReportValue → Part → Fault → Type 0
IsFaultAt r part (faults.Fails reason) = (part_of reason ≡ part) × Fails r reason
IsFaultAt r part faults.Memory = Unit {0}

-- the reason is the first; or no memory was left
abbrev pub IsFirstFault : ReportValue → Fault → Type 0
IsFirstFault r (faults.Fails reason) = IsFirstFailing r reason
IsFirstFault r faults.Memory = Unit {0}
