-- Encodings, what it means that they fit their scenarios, and what they cost.
use Rattle.std.specs.Prelude.{◌≡◌, ℕ, ◌^◌, ◌<◌, IsTrue, List, length, slice_get, Some}
use Rattle.std.specs.List.{All}
use Rattle.cpog_defs.specs.declared.types.Bit3.{Bit3}
use Rattle.cpog_defs.specs.declared.types.Ref.{Ref}
use Rattle.cpog_defs.specs.declared.types.Place.{Place}
use Rattle.cpog_defs.specs.Orders.{Order, is_before}
use Rattle.cpog_defs.specs.Scenarios.{Scenario, IsBefore}
use Rattle.cpog_defs.specs.Entries.{Agrees, entry_at}
use Rattle.cpog_defs.specs.Codes.{AreCodes, KeepGivenBits}
use Rattle.cpog_defs.specs.Gates.{GateList, IsGateList, signal_count, signal_values, ref_value}
use Rattle.cpog_defs.specs.Graphs.{ConditionalGraph, IsGraph, IsPlace, ref_of, ProjectsTo}
use Rattle.cpog_defs.specs.Columns.{column}

-- a code for each scenario, gates over the bits of these codes, and conditions over the gates
pub record Encoding : Type 0 where
  pub codes : List ℕ
  pub gates : GateList
  pub graph : ConditionalGraph

-- codes of as many bits as the gates have inputs, gates that read earlier signals, and conditions over their signals
pub record IsEncoding (count : ℕ) (e : Encoding) : Type 0 where
  pub codes : All (λ word. word < 2 ^ e.gates.inputs) e.codes
  pub gates : IsGateList e.gates
  pub graph : IsGraph count (signal_count e.gates) e.graph

-- there is one code for each scenario, under which exactly that scenario is left
pub record Fits (e : Encoding) (orders : List Order) : Type 0 where
  pub one_code_each : length e.codes ≡ length orders
  pub projects : (s word : ℕ) (o : Order) → slice_get e.codes s ≡ Some word → slice_get orders s ≡ Some o →
      ProjectsTo e.graph (signal_values e.gates word) o.ops (λ u v. IsTrue (is_before o u v))

-- the same of scenarios as they are written
pub record FitsScenarios (e : Encoding) (scenarios : List Scenario) : Type 0 where
  pub one_code_each : length e.codes ≡ length scenarios
  pub projects : (s word : ℕ) (sc : Scenario) → slice_get e.codes s ≡ Some word → slice_get scenarios s ≡ Some sc →
      ProjectsTo e.graph (signal_values e.gates word) sc.ops (IsBefore sc)

-- on each scenario's code the reference has the value of the column's entry, where that is defined
abbrev pub RefAgrees : GateList → List ℕ → List Bit3 → Ref → Type 0
RefAgrees gates codes column ref = (s word : ℕ) → slice_get codes s ≡ Some word → Agrees (entry_at column s) (ref_value (signal_values gates word) ref)

-- there is one code for each scenario, on which each condition has the values of its column
pub record AgreesWithColumns (e : Encoding) (count : ℕ) (orders : List Order) : Type 0 where
  pub one_code_each : length e.codes ≡ length orders
  pub agrees : (p : Place) → IsPlace count p → RefAgrees e.gates e.codes (column orders p) (ref_of e.graph p)

-- the encoding has distinct codes of so many bits, which keep the given bits, and fits the scenarios
pub record Encodes (count : ℕ) (orders : List Order) (patterns : List (List Bit3)) (bits : ℕ) (e : Encoding) : Type 0 where
  pub bits_are : e.gates.inputs ≡ bits
  pub codes : AreCodes bits (length orders) e.codes
  pub given : KeepGivenBits patterns e.codes
  pub encoding : IsEncoding count e
  pub fits : Fits e orders

-- The scenarios have an encoding of so many bits at so many gates. Inverters, constants and code bits cost nothing.
pub record HasEncoding (count : ℕ) (orders : List Order) (patterns : List (List Bit3)) (bits cost : ℕ) : Type 0 where
  pub encoding : Encoding
  pub encodes : Encodes count orders patterns bits encoding
  pub cost_is : length encoding.gates.gates ≡ cost
