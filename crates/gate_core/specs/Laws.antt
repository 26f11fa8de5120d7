-- What is proved of the values of signals, of first encodings, and of codes.
use Rattle.std.specs.Prelude.{◌≡◌, ◌↔◌, ℕ, ◌+◌, ◌^◌, ◌<◌, ◌≤◌, false, length, take, slice_index_or, slice_get, Some, List}
use Rattle.cpog_defs.specs.declared.types.Gate.{Gate}
use Rattle.cpog_defs.specs.declared.types.Bit3.{Bit3}
use Rattle.cpog_defs.specs.Codes.{bit, AreCodes, KeepGivenBits, open_patterns}
use Rattle.cpog_defs.specs.Gates.{GateList, IsGateList, signal_count, signal_values, gate_value}
use Rattle.cpog_defs.specs.Orders.{Order}
use Rattle.cpog_defs.specs.Encodings.{Encoding, Encodes}
use Rattle.gate_core.specs.Least.{Agree, AreLeast, NoneGiven, numbers}
use Rattle.gate_core.specs.First.{FirstEncoding, IsFirstEncoding}

-- the value of an input's signal is the word's bit
abbrev pub InputSignal : Type 0
InputSignal =
    (list : GateList) (word i : ℕ) → i < list.inputs → slice_index_or (signal_values list word) i false ≡ bit word i

-- the value of a gate's signal is its table's at the values of its two signals
abbrev pub GateSignal : Type 0
GateSignal =
    (list : GateList) (word g : ℕ) (gate : Gate) → IsGateList list → slice_get list.gates g ≡ Some gate →
    slice_index_or (signal_values list word) (list.inputs + g) false
    ≡ gate_value gate.table (slice_index_or (signal_values list word) gate.j false)
    (slice_index_or (signal_values list word) gate.k false)

-- there are as many values as signals
abbrev pub SignalsAreCounted : Type 0
SignalsAreCounted = (list : GateList) (word : ℕ) → length (signal_values list word) ≡ signal_count list

-- columns have one first encoding on the same codes, over so many bits
abbrev pub FirstEncodingsAgree : Type 0
FirstEncodingsAgree =
    (codes : List ℕ) (bits : ℕ) (columns : List (List Bit3)) (a b : FirstEncoding) →
    IsFirstEncoding codes bits columns a → IsFirstEncoding codes bits columns b → a ≡ b

-- distinct words below 2 to the power bits that agree with the first n patterns are codes that keep their given bits
abbrev pub AgreeingAreCodes : Type 0
AgreeingAreCodes =
    (patterns : List (List Bit3)) (bits n : ℕ) (codes : List ℕ) → n ≤ length patterns → length codes ≡ n →
    Agree patterns (2 ^ bits) n codes ↔ (AreCodes bits n codes × KeepGivenBits (take n patterns) codes)

-- patterns have one least list
abbrev pub LeastCodesAgree : Type 0
LeastCodesAgree =
    (patterns : List (List Bit3)) (top : ℕ) (a b : List ℕ) → AreLeast patterns top a → AreLeast patterns top b → a ≡ b

-- where no bit is given and there are enough words, the least codes are the numbers of the scenarios
abbrev pub OpenCodesAreNumbers : Type 0
OpenCodesAreNumbers =
    (patterns : List (List Bit3)) (top : ℕ) (codes : List ℕ) → NoneGiven patterns → length patterns ≤ top →
    AreLeast patterns top codes →
    codes ≡ numbers (length patterns)

-- an encoding that keeps given bits is an encoding
abbrev pub GivenBitsMayBeLeft : Type 0
GivenBitsMayBeLeft =
    (count bits : ℕ) (orders : List Order) (patterns : List (List Bit3)) (e : Encoding) →
    Encodes count orders patterns bits e → Encodes count orders (open_patterns (length orders)) bits e
