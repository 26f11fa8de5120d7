-- The encoding of scenarios that is made without a search.
use Rattle.std.specs.Prelude.{◌≡◌, ℕ, ◌+◌, ◌*◌, ◌^◌, ◌<◌, ◌≤◌, ◌⊎◌, List, length}
use Rattle.std.specs.List.{All}
use Rattle.cpog_base.specs.declared.limits.TheConstants.{BIT_LIMIT, SCENARIO_LIMIT}
use Rattle.cpog_defs.specs.declared.types.Bit3.{Bit3}
use Rattle.cpog_defs.specs.declared.types.Ref.{Ref}
use Rattle.cpog_defs.specs.Orders.{Order, IsOrderOf}
use Rattle.cpog_defs.specs.Encodings.{Encoding, IsEncoding}
use Rattle.gate_core.specs.Least.{AreLeast}
use Rattle.gate_core.specs.First.{IsFirstEncoding, shared_gates}
use Rattle.cpog_merge.specs.Columns.{Columns, AreColumnsOf, count_of}
use Rattle.cpog_merge.specs.Classes.{Classes, AreClassesOf}
use Rattle.cpog_merge.specs.ByClass.{IsGraphByClass}

-- 1 to 64 scenarios of one count of operations, and 1 to 8 bits for their codes
pub record CanBeAssigned (orders : List Order) (bits : ℕ) : Type 0 where
  pub some : 1 ≤ length orders
  pub few : length orders ≤ SCENARIO_LIMIT
  pub alike : All (IsOrderOf (count_of orders)) orders
  pub some_bit : 1 ≤ bits
  pub few_bits : bits ≤ BIT_LIMIT

-- the most gates of a first assignment over 64 operations: those that columns share, and those that join minterms. The
-- smaller sets of the classes of 64 scenarios have at most 64 * 1024 members, 32 each, and a set takes one join less
-- than it
-- has members: 31 for 32, which is 2048 times 31 in all
abbrev pub most_gates : ℕ
most_gates = shared_gates + 2048 * 31

-- the gates and references of the first encoding of the classes on these codes, and for each operation and each pair
-- the
-- reference that its column takes by its class
pub record IsAssignmentOn (codes : List ℕ) (count : ℕ) (orders : List Order) (bits : ℕ) (e : Encoding) : Type 0 where
  pub encoding : IsEncoding count e
  pub table : Columns
  pub count_is : table.count ≡ count
  pub columns : AreColumnsOf orders table
  pub classes : Classes
  pub are_classes : AreClassesOf table classes
  pub refs : List Ref
  pub first : IsFirstEncoding codes bits classes.columns (record { codes = e.codes; gates = e.gates; refs = refs })
  pub conditions : IsGraphByClass count classes refs e.graph

-- the least codes that keep the given bits, and the assignment on them
pub record IsFirstAssignment (count : ℕ) (orders : List Order) (patterns : List (List Bit3)) (bits : ℕ)
    (e : Encoding) : Type 0 where
  pub codes : AreLeast patterns (2 ^ bits) e.codes
  pub assigned : IsAssignmentOn e.codes count orders bits e

-- nothing but fewer gates takes the place of the first assignment
pub record IsFirstOrFewer (count : ℕ) (orders : List Order) (patterns : List (List Bit3)) (bits : ℕ)
    (e : Encoding) : Type 0 where
  pub first : Encoding
  pub is_first : IsFirstAssignment count orders patterns bits first
  pub kept : (e ≡ first) ⊎ (length e.gates.gates < length first.gates.gates)
