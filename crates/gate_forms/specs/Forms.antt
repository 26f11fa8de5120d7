-- Other forms of gates with the same values: where signals are complemented, and where gates are added.
use Rattle.std.specs.Prelude.{◌≡◌, ℕ, ◌+◌, ◌-◌, ◌*◌, ◌<◌, Bool, true, false, not, if◌then◌else◌, List, [], ◌∷◌, ◌++◌, length, map, slice_index_or, replicate}
use Rattle.std.specs.List.{All}
use Rattle.cpog_defs.specs.declared.types.Gate.{Gate}
use Rattle.cpog_defs.specs.declared.types.Ref.{Ref}
use Rattle.cpog_defs.specs.declared.types.Ref.TheVariants.{Const, Signal}
use Rattle.cpog_defs.specs.Codes.{bit}
use Rattle.gate_forms.specs.declared.signs.Form.{Form}
use Rattle.gate_forms.specs.declared.signs.Form.TheVariants.{Kept, Normal}
use Rattle.cpog_defs.specs.Gates.{GateList, signal_count, signal_values, gate_value, ref_value, IsRefOver}

-- a bit, complemented where the flag is set
abbrev pub flipped : Bool → Bool → Bool
flipped flag b = if flag then not b else b

-- 1 for what holds, else 0
unfoldable pub one_if : Bool → ℕ
one_if b = if b then 1 else 0

-- the table with these values at p, q = 0, 0 and 0, 1 and 1, 0 and 1, 1
unfoldable pub table_with : Bool → Bool → Bool → Bool → ℕ
table_with a b c d = one_if a + 2 * one_if b + 4 * one_if c + 8 * one_if d

-- the flag of a signal, which isn't set past the end
abbrev pub flag_at : List Bool → ℕ → Bool
flag_at flags n = slice_index_or flags n false

-- Signals are complemented where their flags are set. A gate is kept as it is, or, where all are made normal, is
-- complemented where that makes it 0 where both of its signals are.
abbrev pub new_flag : Form → List Bool → Gate → Bool
new_flag Kept flags g = false
new_flag Normal flags g = gate_value g.table (flag_at flags g.j) (flag_at flags g.k)

-- the value of the gate over complemented signals, complemented itself by its own flag
abbrev pub new_value : Form → List Bool → Gate → Bool → Bool → Bool
new_value form flags g p q =
    flipped (new_flag form flags g) (gate_value g.table (flipped (flag_at flags g.j) p) (flipped (flag_at flags g.k) q))

-- the table of these values
unfoldable pub new_table : Form → List Bool → Gate → ℕ
new_table form flags g =
    table_with (new_value form flags g false false) (new_value form flags g false true)
    (new_value form flags g true false) (new_value form flags g true true)

-- the gate with this table, which reads the same signals
abbrev pub new_gate : Form → List Bool → Gate → Gate
new_gate form flags g = record { j = g.j; k = g.k; table = new_table form flags g }

-- the gates in order, each over the flags of the signals before it
abbrev pub new_gates : Form → List Bool → List Gate → List Gate
new_gates form flags [] = []
new_gates form flags (g ∷ gates) = new_gate form flags g ∷ new_gates form (flags ++ new_flag form flags g ∷ []) gates

-- the flags of all signals
abbrev pub new_flags : Form → List Bool → List Gate → List Bool
new_flags form flags [] = flags
new_flags form flags (g ∷ gates) = new_flags form (flags ++ new_flag form flags g ∷ []) gates

-- a reference to a complemented signal is complemented
abbrev pub new_ref : List Bool → Ref → Ref
new_ref flags (Const b) = Const b
new_ref flags (Signal n negated) = Signal n (flipped (flag_at flags n) negated)

-- a gate whose value is 0 where both of its signals are
abbrev pub IsNormal : Gate → Type 0
IsNormal g = bit g.table 0 ≡ false

-- as many gates over as many inputs, which are normal, and references with the old values on every word
pub record IsNormalForm (before : GateList) (refs : List Ref) (after : GateList) (new : List Ref) : Type 0 where
  pub inputs : after.inputs ≡ before.inputs
  pub as_many : length after.gates ≡ length before.gates
  pub normal : All IsNormal after.gates
  pub one_each : length new ≡ length refs
  pub over : All (IsRefOver (signal_count after)) new
  pub values : (word : ℕ) → map (ref_value (signal_values after word)) new ≡ map (ref_value (signal_values before word)) refs

-- a gate that is always 0
abbrev pub idle_gate : Gate
idle_gate = record { j = 0; k = 1; table = 0 }

-- so many gates, of which the last are idle
abbrev pub padded : GateList → ℕ → GateList
padded list to = record { inputs = list.inputs; gates = list.gates ++ replicate (to - length list.gates) idle_gate }

-- each reference over the old signals has the old value on every word
abbrev pub KeepsValues : GateList → GateList → Type 0
KeepsValues before after =
    (word : ℕ) (r : Ref) → IsRefOver (signal_count before) r →
    ref_value (signal_values after word) r ≡ ref_value (signal_values before word) r

-- gates that read the same signals
abbrev pub ReadTheSame : List Gate → List Gate → Type 0
ReadTheSame [] [] = Unit {0}
ReadTheSame (a ∷ gates) (b ∷ others) = (a.j ≡ b.j) × (a.k ≡ b.k) × ReadTheSame gates others
ReadTheSame gates others = ⊥

-- two words of so many bits that differ exactly where the mask is 1
abbrev pub DifferBy : ℕ → ℕ → ℕ → ℕ → Type 0
DifferBy bits mask word other = (i : ℕ) → i < bits → bit other i ≡ flipped (bit mask i) (bit word i)

-- gates that read the same signals, and gates and references whose values on each word are the old ones on the word that
-- differs by the mask
pub record IsFlipped (mask : ℕ) (before : GateList) (refs : List Ref) (after : GateList) (new : List Ref) : Type 0 where
  pub inputs : after.inputs ≡ before.inputs
  pub reads : ReadTheSame before.gates after.gates
  pub one_each : length new ≡ length refs
  pub over : All (IsRefOver (signal_count after)) new
  pub gates : (word other g : ℕ) → DifferBy before.inputs mask word other → g < length before.gates →
      slice_index_or (signal_values after other) (before.inputs + g) false
      ≡ slice_index_or (signal_values before word) (before.inputs + g) false
  pub values : (word other : ℕ) → DifferBy before.inputs mask word other →
      map (ref_value (signal_values after other)) new ≡ map (ref_value (signal_values before word)) refs
