-- The refusals of a graph text, of the names of its file, and of its scenarios, each in the order in which they come.
use Rattle.std.specs.Prelude.{◌≡◌, ◌⊎◌, List, [], ℕ, ◌<◌, ◌^◌, length, slice_get, Some}
use Rattle.cpog_base.specs.declared.limits.Counted.{Counted}
use Rattle.cpog_base.specs.declared.limits.Counted.TheVariants as counted
use Rattle.cpog_base.specs.declared.status.Status.{Status}
use Rattle.cpog_base.specs.declared.status.Status.TheVariants as status
use Rattle.cpog_defs.specs.Orders.{Order}
use Rattle.cpog_defs.specs.Scenarios.{Scenario}
use Rattle.pg_text.specs.Contents.{Contents}
use Rattle.pg_text.specs.Lines.{graph_lines, IsFirstBad}
use Rattle.pg_text.specs.Text.{IsGoodLine, IsPassed}
use Rattle.pg_normal.specs.declared.naming.NameFault.{NameFault}
use Rattle.pg_normal.specs.declared.naming.NameFault.TheVariants as fault
use Rattle.pg_normal.specs.Naming.{name_faults, IsNameFault}
use Rattle.pg_normal.specs.Normals.{params_in}
use Rattle.scenario_check.specs.Equals.{IsFirstPair, AreDifferent}
use Rattle.refusal_lines.specs.declared.refusal.Refusal.TheVariants as refusal
use Rattle.graph_answers.specs.declared.encodable.CodeLength.{CodeLength}
use Rattle.graph_answers.specs.Bits.{IsBits}
use Rattle.refusal_lines.specs.Refusal.{refusal_text, At}
use Rattle.pg_normal.specs.Denoting.{stated_in, scenario_names_of, AreScenariosOf, IsFirstUnbound}
use Rattle.graph_answers.specs.Ordered.{AreOrdersIn}
use Rattle.scenario_check.specs.Cycles.{IsFirstCyclic}

-- ---- of a graph text

-- the first line that is outside the grammar
pub record IsBadLineAnswer (bytes : List ℕ) (output : List ℕ) : Type 0 where
  pub line : ℕ
  pub first : IsFirstBad IsGoodLine (graph_lines bytes) line
  pub output_is : output ≡ refusal_text (refusal.Text line)

-- the first count that passes its limit
pub record IsPassedAnswer (bytes : List ℕ) (output : List ℕ) : Type 0 where
  pub what : Counted
  pub limit : ℕ
  pub passed : IsPassed bytes what limit
  pub output_is : output ≡ refusal_text (refusal.Limit what limit)

-- one of these, in this order
abbrev pub IsTextRefusal : List ℕ → Status → List ℕ → Type 0
IsTextRefusal bytes s output = At status.Text (IsBadLineAnswer bytes) s output ⊎ At status.Limit (IsPassedAnswer bytes) s output

-- ---- of the names of a file

-- the line that tells a fault of names
abbrev pub IsNamesLine : NameFault → List ℕ → Type 0
IsNamesLine (fault.Duplicate line name) output = output ≡ refusal_text (refusal.Duplicate line name)
IsNamesLine (fault.UnknownGraph line name) output = output ≡ refusal_text (refusal.UnknownGraph line name)
IsNamesLine (fault.UnknownParam line name) output = output ≡ refusal_text (refusal.UnknownParam line name)
IsNamesLine fault.Memory output = ⊥

-- the first fault of its names
pub record IsNameFaultAnswer (f : Contents) (output : List ℕ) : Type 0 where
  pub fault : NameFault
  pub first : IsNameFault f fault
  pub output_is : IsNamesLine fault output

-- at their status
abbrev pub IsNamesRefusal : Contents → Status → List ℕ → Type 0
IsNamesRefusal f = At status.Names (IsNameFaultAnswer f)

-- ---- of the scenarios of a file, where they are to be encoded

-- names are in order, and there is no scenario
pub record IsEmptyAnswer (f : Contents) (output : List ℕ) : Type 0 where
  pub named : name_faults f ≡ []
  pub none : stated_in f ≡ []
  pub output_is : output ≡ refusal_text refusal.NoScenario

-- names are in order; the line of the first scenario that leaves a parameter open, and its least such parameter
pub record IsUnboundAnswer (f : Contents) (output : List ℕ) : Type 0 where
  pub named : name_faults f ≡ []
  pub line : ℕ
  pub number : ℕ
  pub first : IsFirstUnbound f line number
  pub name : List ℕ
  pub name_is : slice_get (params_in f) number ≡ Some name
  pub output_is : output ≡ refusal_text (refusal.Unbound line name)

-- the first scenario that has an operation before itself, and its least such operation
pub record IsCyclicAnswer (f : Contents) (output : List ℕ) : Type 0 where
  pub named : name_faults f ≡ []
  pub scenarios : List Scenario
  pub denoted : AreScenariosOf f scenarios
  pub number : ℕ
  pub operation : ℕ
  pub first : IsFirstCyclic scenarios number operation
  pub scenario_name : List ℕ
  pub scenario_is : slice_get (scenario_names_of f) number ≡ Some scenario_name
  pub operation_name : List ℕ
  pub operation_is : slice_get f.operations operation ≡ Some operation_name
  pub output_is : output ≡ refusal_text (refusal.Cyclic scenario_name operation_name)

-- no scenario has an operation before itself; the least one that equals an earlier one, and the first that it equals
pub record IsEqualAnswer (f : Contents) (output : List ℕ) : Type 0 where
  pub orders : List Order
  pub of_file : AreOrdersIn f orders
  pub later : ℕ
  pub earlier : ℕ
  pub first : IsFirstPair orders later earlier
  pub later_name : List ℕ
  pub later_is : slice_get (scenario_names_of f) later ≡ Some later_name
  pub earlier_name : List ℕ
  pub earlier_is : slice_get (scenario_names_of f) earlier ≡ Some earlier_name
  pub output_is : output ≡ refusal_text (refusal.Equal later_name earlier_name)

-- no scenario has an operation before itself, no two are equal, and there are more of them than codes of so many bits
pub record IsManyAnswer (asked : CodeLength) (f : Contents) (output : List ℕ) : Type 0 where
  pub orders : List Order
  pub of_file : AreOrdersIn f orders
  pub different : AreDifferent orders
  pub bits : ℕ
  pub bits_are : IsBits asked (length orders) bits
  pub many : 2 ^ bits < length orders
  pub output_is : output ≡ refusal_text (refusal.Limit counted.Bits bits)

-- one of these, in this order: the file has no orders of which no two are equal
abbrev pub IsOrdersRefusal : Contents → Status → List ℕ → Type 0
IsOrdersRefusal f s output =
    At status.Names (IsEmptyAnswer f) s output
    ⊎ (At status.Names (IsUnboundAnswer f) s output
    ⊎ (At status.Cyclic (IsCyclicAnswer f) s output
    ⊎ At status.Equal (IsEqualAnswer f) s output))

-- the same, and then that there are too few codes
abbrev pub IsScenarioRefusal : CodeLength → Contents → Status → List ℕ → Type 0
IsScenarioRefusal asked f s output =
    At status.Names (IsEmptyAnswer f) s output
    ⊎ (At status.Names (IsUnboundAnswer f) s output
    ⊎ (At status.Cyclic (IsCyclicAnswer f) s output
    ⊎ (At status.Equal (IsEqualAnswer f) s output
    ⊎ At status.Limit (IsManyAnswer asked f) s output)))

-- the refusals of a file whose scenarios are to be encoded
abbrev pub IsEncodingRefusal : CodeLength → Contents → Status → List ℕ → Type 0
IsEncodingRefusal asked f s output = IsNamesRefusal f s output ⊎ IsScenarioRefusal asked f s output
