-- The values that codes, gates and references give to the variables of a template.
use Rattle.std.specs.Prelude.{◌≡◌, ℕ, ◌+◌, ◌^◌, ◌<◌, ◌==◌, Bool, false, not, ◌&&◌, if◌then◌else◌, List, length, slice_index_or}
use Rattle.cpog_defs.specs.declared.types.Gate.{Gate}
use Rattle.cpog_defs.specs.declared.types.Ref.{Ref}
use Rattle.cpog_defs.specs.declared.types.Ref.TheVariants.{Const, Signal}
use Rattle.cpog_defs.specs.declared.types.Bit3.{Bit3}
use Rattle.cpog_defs.specs.Codes.{bit, AreCodes, KeepGivenBits}
use Rattle.cpog_defs.specs.Gates.{GateList, IsGateList, signal_values}
use Rattle.gate_core.specs.Serving.{ReferencesServe}
use Rattle.gate_template.specs.declared.types.Template.{Template}
use Rattle.gate_template.specs.declared.types.Template.TheVariants.{First, Second, Third}
use Rattle.gate_template.specs.Families.{gives}
use Rattle.gate_template.specs.Templates.{kept_patterns}
use Rattle.gate_forms.specs.Forms.{idle_gate}
use Rattle.gate_template.specs.Variables.{Var, X, D, Sel, T, V, O, P}

-- a code for each scenario, gates over its bits, and a reference for each class
pub record Parts : Type 0 where
  pub codes : List ℕ
  pub gates : GateList
  pub refs : List Ref

-- the code of a scenario
abbrev pub code_of : Parts → ℕ → ℕ
code_of e s = slice_index_or e.codes s 0

-- gate h
abbrev pub gate_of : Parts → ℕ → Gate
gate_of e h = slice_index_or e.gates.gates h idle_gate

-- the signal of which a reference speaks
abbrev pub signal_of : Ref → ℕ
signal_of (Const b) = 0
signal_of (Signal n negated) = n

-- whether a reference is to a complement
abbrev pub sign_of : Ref → Bool
sign_of (Const b) = false
sign_of (Signal n negated) = negated

-- the reference of class c
abbrev pub ref_at : Parts → ℕ → Ref
ref_at e c = slice_index_or e.refs c (Const false)

-- whether two bits differ
abbrev pub differ : Bool → Bool → Bool
differ a b = if a then not b else b

-- the value of a variable: what it stands for holds of the codes, the gates and the references
abbrev pub value_of : Parts → Var → Bool
value_of e (X s i) = bit (code_of e s) i
value_of e (D s t i) = differ (bit (code_of e s) i) (bit (code_of e t) i)
value_of e (Sel h j k) = (gate_of e h).j == j && (gate_of e h).k == k
value_of e (T h r) = bit (gate_of e h).table r
value_of e (V h s) = slice_index_or (signal_values e.gates (code_of e s)) (e.gates.inputs + h) false
value_of e (O c n) = signal_of (ref_at e c) == n
value_of e (P c) = sign_of (ref_at e c)

-- distinct codes that keep the given bits, gates over their bits, and references that serve the columns of the classes
pub record IsSolution (kind : Template) (patterns : List (List Bit3)) (bits : ℕ) (columns : List (List Bit3)) (e : Parts) : Type 0 where
  pub inputs : e.gates.inputs ≡ bits
  pub codes : AreCodes bits (length patterns) e.codes
  pub given : KeepGivenBits (kept_patterns kind patterns) e.codes
  pub gates : IsGateList e.gates
  pub references : ReferencesServe columns e.codes e.gates e.refs

-- the zeros that a template asks for in the first code
abbrev pub HasZeros : Template → List (List Bit3) → ℕ → List ℕ → Type 0
HasZeros First patterns bits codes = Unit {0}
HasZeros Second patterns bits codes = slice_index_or codes 0 0 ≡ 0
HasZeros Third patterns bits codes = (i : ℕ) → i < bits → gives patterns i ≡ false → bit (slice_index_or codes 0 0) i ≡ false

-- the mask has the bits of the first code that no kept pattern gives, and no other
pub record TakesOpenBits (kind : Template) (patterns : List (List Bit3)) (bits mask : ℕ) (e : Parts) : Type 0 where
  pub below : mask < 2 ^ bits
  pub bits_are : (i : ℕ) → i < bits → bit mask i ≡ (if gives (kept_patterns kind patterns) i then false else bit (code_of e 0) i)
