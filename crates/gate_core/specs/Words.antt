-- The values of signals on the codes of all scenarios, and what a column asks for, as words with a bit for each
-- scenario.
use Rattle.std.specs.Prelude.{◌≡◌, ◌↔◌, ℕ, ◌<◌, ◌≤◌, Bool, false, not, IsTrue, List, length, map, slice_index, slice_index_or}
use Rattle.cpog_base.specs.declared.limits.TheConstants.{BIT_LIMIT, SCENARIO_LIMIT}
use Rattle.cpog_base.specs.Column.{is_one, is_zero}
use Rattle.gate_core.specs.Columns.{IsOpenColumn}
use Rattle.gate_core.specs.First.{code_at, smaller_codes, has_fewer_zeros, sum_of_minterms}
use Rattle.cpog_defs.specs.declared.types.Bit3.{Bit3}
use Rattle.cpog_defs.specs.declared.types.Bit3.TheVariants.{Zero, One, Free}
use Rattle.cpog_defs.specs.declared.types.Gate.{Gate}
use Rattle.cpog_defs.specs.declared.types.Ref.{Ref}
use Rattle.cpog_defs.specs.declared.types.Ref.TheVariants.{Signal}
use Rattle.cpog_defs.specs.Codes.{bit, AreCodes}
use Rattle.cpog_defs.specs.Entries.{entry_at}
use Rattle.cpog_defs.specs.Gates.{GateList, IsGateList, signal_count, signal_values, gate_value}

-- the gate that is kept as these three numbers
abbrev pub gate_of : ℕ × ℕ × ℕ → Gate
gate_of key = record { j = key.0; k = key.1; table = key.2 }

-- the gates over so many inputs that are kept so
abbrev pub gates_of : ℕ → List (ℕ × ℕ × ℕ) → GateList
gates_of inputs keys = record { inputs = inputs; gates = map gate_of keys }

-- the value of a signal on a word
abbrev pub value_at : GateList → ℕ → ℕ → Bool
value_at list signal word = slice_index_or (signal_values list word) signal false

-- gates, and codes of their inputs
pub record Signals : Type 0 where
  pub codes : List ℕ
  pub list : GateList

-- gates over 1 to 8 inputs, at most 64 codes, and for each signal a word of its values on these codes
pub record AreSignals (codes : List ℕ) (list : GateList) (words : List ℕ) : Type 0 where
  pub some : 1 ≤ list.inputs
  pub few : list.inputs ≤ BIT_LIMIT
  pub few_codes : length codes ≤ SCENARIO_LIMIT
  pub gates : IsGateList list
  pub one_each : length words ≡ signal_count list
  pub values : (n s : ℕ) → n < signal_count list → s < length codes →
      bit (slice_index words n) s ≡ value_at list n (code_at codes s)

-- for each of so many inputs a word of its values on the codes
pub record AreInputWords (inputs : ℕ) (codes words : List ℕ) : Type 0 where
  pub one_each : length words ≡ inputs
  pub values : (n s : ℕ) → n < inputs → s < length codes → bit (slice_index words n) s ≡ bit (code_at codes s) n

-- whether an entry asks for this bit
abbrev pub asks_for : Bit3 → Bit3 → Bool
asks_for One e = is_one e
asks_for Zero e = is_zero e
asks_for Free e = false

-- the words of the scenarios that are asked for a 1 and for a 0
pub record IsAskedBy (column : List Bit3) (ones zeros : ℕ) : Type 0 where
  pub ones_where : (s : ℕ) → bit ones s ≡ is_one (entry_at column s)
  pub zeros_where : (s : ℕ) → bit zeros s ≡ is_zero (entry_at column s)

-- at most 64 different codes over so many inputs, and an open column with an entry for each
pub record IsColumnOnCodes (codes : List ℕ) (inputs : ℕ) (column : List Bit3) : Type 0 where
  pub is_open : IsOpenColumn (length codes) column
  pub few : length codes ≤ SCENARIO_LIMIT
  pub codes_are : AreCodes inputs (length codes) codes

-- the values in a word, or their complements where negated, are as asked
abbrev pub IsMetBy : ℕ → ℕ → Bool → ℕ → Type 0
IsMetBy ones zeros negated word =
    (s : ℕ) → (IsTrue (bit ones s) → bit word s ≡ not negated) × (IsTrue (bit zeros s) → bit word s ≡ negated)

-- the first word that is as asked, complemented only where it isn't as it stands
pub record IsFirstMet (ones zeros : ℕ) (words : List ℕ) (ref : Ref) : Type 0 where
  pub number : ℕ
  pub negated : Bool
  pub is : ref ≡ Signal number negated
  pub in_range : number < length words
  pub met : IsMetBy ones zeros negated (slice_index words number)
  pub first : (k : ℕ) (sign : Bool) → k < number → IsMetBy ones zeros sign (slice_index words k) → ⊥
  pub upright_first : IsTrue negated → IsMetBy ones zeros false (slice_index words number) → ⊥

-- no scenario of one word has the bits in both further words that one of the other has
abbrev pub AreApart : ℕ → ℕ → ℕ → ℕ → Type 0
AreApart ones zeros first second =
    (s t : ℕ) → IsTrue (bit ones s) → IsTrue (bit zeros t) →
    bit first s ≡ bit first t → bit second s ≡ bit second t → ⊥

-- the table is 1 exactly at the bits in both further words that a scenario of the word has
pub record IsTableOf (table word first second : ℕ) : Type 0 where
  pub few_rows : table < 16
  pub rows : (p q : Bool) → IsTrue (gate_value table p q) ↔
      ((s : ℕ) × IsTrue (bit word s) × (bit first s ≡ p) × (bit second s ≡ q))

-- the gate of this word and the first later one that tell the scenarios apart
pub record IsFirstWith (ones zeros : ℕ) (words : List ℕ) (j : ℕ) (gate : Gate) : Type 0 where
  pub is : gate.j ≡ j
  pub lower : j < gate.k
  pub in_range : gate.k < length words
  pub apart : AreApart ones zeros (slice_index words j) (slice_index words gate.k)
  pub first : (k : ℕ) → j < k → k < gate.k → AreApart ones zeros (slice_index words j) (slice_index words k) → ⊥
  pub table : IsTableOf gate.table ones (slice_index words j) (slice_index words gate.k)

-- this word and no later one tell the scenarios apart
abbrev pub NoneWith : ℕ → ℕ → List ℕ → ℕ → Type 0
NoneWith ones zeros words j =
    (k : ℕ) → j < k → k < length words → AreApart ones zeros (slice_index words j) (slice_index words k) → ⊥

-- the gate of the first two words that tell the scenarios apart
pub record IsFirstApart (ones zeros : ℕ) (words : List ℕ) (gate : Gate) : Type 0 where
  pub gate_with : IsFirstWith ones zeros words gate.j gate
  pub first : (j : ℕ) → j < gate.j → NoneWith ones zeros words j

-- the gates have the minterms of the codes of the smaller set of a column and those that join them, and the reference
-- is to the last
abbrev pub IsMintermsRef : List ℕ → GateList → List Bit3 → GateList → Ref → Type 0
IsMintermsRef codes before column after ref =
    let sum = sum_of_minterms before (smaller_codes codes column) in
    (after ≡ sum.gates) × (ref ≡ Signal sum.signal (has_fewer_zeros column))
