-- Lists of two-input gates, the values of their signals, and references to these.
use Rattle.std.specs.Prelude.{ℕ, ◌+◌, ◌*◌, ◌<◌, Bool, true, false, not, if◌then◌else◌, List, [], ◌∷◌, ◌++◌, length, slice_index_or}
use Rattle.cpog_defs.specs.declared.types.Gate.{Gate}
use Rattle.cpog_defs.specs.declared.types.Ref.{Ref}
use Rattle.cpog_defs.specs.declared.types.Ref.TheVariants.{Const, Signal}
use Rattle.cpog_defs.specs.Codes.{bit, word_bits}

-- gates over so many inputs: the inputs are the first signals, and gate g is signal inputs + g
pub record GateList : Type 0 where
  pub inputs : ℕ
  pub gates : List Gate

abbrev pub signal_count : GateList → ℕ
signal_count list = list.inputs + length list.gates

-- each gate reads two signals before it, the lower number first, and its table has four bits
abbrev pub AreGatesFrom : ℕ → List Gate → Type 0
AreGatesFrom signals [] = Unit {0}
AreGatesFrom signals (g ∷ gates) = (g.j < g.k) × (g.k < signals) × (g.table < 16) × AreGatesFrom (signals + 1) gates

abbrev pub IsGateList : GateList → Type 0
IsGateList list = AreGatesFrom list.inputs list.gates

-- bit 2p+q of the table
abbrev pub gate_value : ℕ → Bool → Bool → Bool
gate_value table p q = bit table (2 * (if p then 1 else 0) + (if q then 1 else 0))

-- each gate's value joins those of the signals before it
abbrev pub with_gates : List Gate → List Bool → List Bool
with_gates [] values = values
with_gates (g ∷ gates) values =
    with_gates gates (values ++ gate_value g.table (slice_index_or values g.j false) (slice_index_or values g.k false) ∷ [])

-- the values of all signals on a word, inputs first
abbrev pub signal_values : GateList → ℕ → List Bool
signal_values list word = with_gates list.gates (word_bits word list.inputs)

-- a constant, a signal's value, or its complement
abbrev pub ref_value : List Bool → Ref → Bool
ref_value values (Const b) = b
ref_value values (Signal n false) = slice_index_or values n false
ref_value values (Signal n true) = not (slice_index_or values n false)

-- a constant, or it speaks of one of so many signals
abbrev pub IsRefOver : ℕ → Ref → Type 0
IsRefOver signals (Const b) = Unit {0}
IsRefOver signals (Signal n negated) = n < signals
