-- The first encoding of columns on codes that are handed in. Gates are appended while the columns are taken in order. A
-- column takes the first signal that agrees with it; where none does, a gate of the first two inputs that tell its
-- scenarios apart; and where no two do, the minterms of the codes of the smaller set of its scenarios, joined.
use Rattle.std.specs.Prelude.{◌≡◌, ◌↔◌, ◌⊎◌, ℕ, zero, suc, ◌+◌, ◌-◌, ◌*◌, ◌^◌, ◌<◌, ◌≤◌, ◌==◌, ◌&&◌, nat_lt, min, max, Bool, true, false, if◌then◌else◌, IsTrue, List, [], ◌∷◌, ◌++◌, length, slice_index}
use Rattle.std.specs.List.{list_any, count_by, position_or_len}
use Rattle.std.proofs.Common.{inl, inr}
use Rattle.cpog_base.specs.Column.{is_one, is_zero}
use Rattle.cpog_defs.specs.declared.types.Bit3.{Bit3}
use Rattle.cpog_defs.specs.declared.types.Bit3.TheVariants.{Zero, One}
use Rattle.cpog_defs.specs.declared.types.Gate.{Gate}
use Rattle.cpog_defs.specs.declared.types.Ref.{Ref}
use Rattle.cpog_defs.specs.declared.types.Ref.TheVariants.{Signal}
use Rattle.cpog_defs.specs.Codes.{bit}
use Rattle.cpog_defs.specs.Entries.{entry_at}
use Rattle.cpog_defs.specs.Orders.{each_below}
use Rattle.cpog_defs.specs.Gates.{GateList, signal_count, gate_value}
use Rattle.cpog_defs.specs.Encodings.{RefAgrees}
use Rattle.gate_core.specs.Columns.{smaller_set}

-- the code of a scenario
abbrev pub code_at : List ℕ → ℕ → ℕ
code_at codes s = slice_index codes s

-- ---- gates that are there are used again

-- whether two gates read the same signals with the same table
abbrev pub same_gate : Gate → Gate → Bool
same_gate a b = (a.j == b.j) && (a.k == b.k) && (a.table == b.table)

-- a list of gates, and the number of one of its signals
pub record Reached : Type 0 where
  pub gates : GateList
  pub signal : ℕ

-- the list with the gate, and the gate's signal: a gate that equals an earlier one isn't appended again
unfoldable pub with_gate : GateList → Gate → Reached
with_gate list gate = record {
  gates = record {
    inputs = list.inputs;
    gates = if list_any (same_gate gate) list.gates then list.gates else list.gates ++ gate ∷ [];
  };
  signal = list.inputs + position_or_len (same_gate gate) list.gates;
}

-- ---- a signal that agrees

-- the signal's values on the codes, or their complements where negated, are as asked
abbrev pub SignalAgrees : GateList → List ℕ → List Bit3 → ℕ → Bool → Type 0
SignalAgrees gates codes column number negated = RefAgrees gates codes column (Signal number negated)

-- no signal's values are as asked, nor are their complements
abbrev pub NoSignalAgrees : GateList → List ℕ → List Bit3 → Type 0
NoSignalAgrees gates codes column =
    (number : ℕ) (negated : Bool) → number < signal_count gates → SignalAgrees gates codes column number negated → ⊥

-- the first signal that agrees, complemented only where its values as they stand don't
pub record IsFirstSignal (gates : GateList) (codes : List ℕ) (column : List Bit3) (number : ℕ)
    (negated : Bool) : Type 0 where
  pub in_range : number < signal_count gates
  pub agrees : SignalAgrees gates codes column number negated
  pub first : (k : ℕ) (sign : Bool) → k < number → SignalAgrees gates codes column k sign → ⊥
  pub upright_first : IsTrue negated → SignalAgrees gates codes column number false → ⊥

-- ---- a gate over two inputs

-- two inputs tell the code of each scenario that is asked for a 1 from that of each that is asked for a 0
abbrev pub TellsApart : List ℕ → List Bit3 → ℕ → ℕ → Type 0
TellsApart codes column j k =
    (s t : ℕ) → entry_at column s ≡ One → entry_at column t ≡ Zero →
    bit (code_at codes s) j ≡ bit (code_at codes t) j → bit (code_at codes s) k ≡ bit (code_at codes t) k → ⊥

-- no two of so many inputs tell the scenarios apart
abbrev pub NoPairTells : ℕ → List ℕ → List Bit3 → Type 0
NoPairTells inputs codes column = (j k : ℕ) → j < k → k < inputs → TellsApart codes column j k → ⊥

-- some scenario is asked for a 1 whose code has these values of two inputs
abbrev pub IsAskedAt : List ℕ → List Bit3 → ℕ → ℕ → Bool → Bool → Type 0
IsAskedAt codes column j k p q =
    (s : ℕ) × (entry_at column s ≡ One) × (bit (code_at codes s) j ≡ p) × (bit (code_at codes s) k ≡ q)

-- the gate of the first two inputs that tell the scenarios apart, 1 exactly where a scenario is asked for a 1
pub record IsFirstPairOfInputs (inputs : ℕ) (codes : List ℕ) (column : List Bit3) (gate : Gate) : Type 0 where
  pub lower : gate.j < gate.k
  pub in_range : gate.k < inputs
  pub tells : TellsApart codes column gate.j gate.k
  pub first : (j k : ℕ) → j < k → k < inputs → (j < gate.j) ⊎ ((j ≡ gate.j) × (k < gate.k)) →
      TellsApart codes column j k → ⊥
  pub few_rows : gate.table < 16
  pub table : (p q : Bool) → IsTrue (gate_value gate.table p q) ↔ IsAskedAt codes column gate.j gate.k p q

-- ---- minterms

-- the table that is 1 only at these values
abbrev pub only_at : Bool → Bool → ℕ
only_at p q = 2 ^ (2 * (if p then 1 else 0) + (if q then 1 else 0))

-- the list with the minterm of a code over the inputs 0 to i + 1: 1 only where each of them is that bit of the code
unfoldable pub minterm : GateList → ℕ → ℕ → Reached
minterm list code zero = with_gate list (record { j = 0; k = 1; table = only_at (bit code 0) (bit code 1) })
minterm list code (suc i) =
    let before = minterm list code i in
    with_gate before.gates (record { j = i + 2; k = before.signal; table = only_at (bit code (i + 2)) true })

-- a list of gates, and the numbers of some of its signals
pub record AllReached : Type 0 where
  pub gates : GateList
  pub signals : List ℕ

-- the list with the minterms of codes over all inputs, in order
unfoldable pub minterms : GateList → List ℕ → AllReached
minterms list [] = record { gates = list; signals = [] }
minterms list (code ∷ rest) =
    let one = minterm list code (list.inputs - 2) in
    let others = minterms one.gates rest in
    record { gates = others.gates; signals = one.signal ∷ others.signals }

-- a signal joined with further ones from the first on, by gates that are 1 where either signal is, the lower number
-- first
unfoldable pub joined : Reached → List ℕ → Reached
joined one [] = one
joined one (m ∷ rest) =
    joined (with_gate one.gates (record { j = min one.signal m; k = max one.signal m; table = 14 })) rest

-- the minterms of some codes, all of them first, and then joined
unfoldable pub sum_of_minterms : GateList → List ℕ → Reached
sum_of_minterms list [] = record { gates = list; signal = 0 }
sum_of_minterms list (code ∷ rest) =
    let one = minterm list code (list.inputs - 2) in
    let others = minterms one.gates rest in
    joined (record { gates = others.gates; signal = one.signal }) others.signals

-- the codes of the scenarios at whose entries a test holds
abbrev pub codes_where : (Bit3 → Bool) → List ℕ → List Bit3 → List ℕ
codes_where p codes column =
    each_below (λ s. if p (entry_at column s) then code_at codes s ∷ [] else []) (length column)

-- whether fewer scenarios are asked for a 0 than for a 1
abbrev pub has_fewer_zeros : List Bit3 → Bool
has_fewer_zeros column = nat_lt (count_by is_zero column) (count_by is_one column)

-- the codes of the scenarios that are asked for a 1, or of those that are asked for a 0 where these are fewer
abbrev pub smaller_codes : List ℕ → List Bit3 → List ℕ
smaller_codes codes column =
    if has_fewer_zeros column then codes_where is_zero codes column else codes_where is_one codes column

-- ---- columns in order

-- the column is decided by the first signal that agrees, and no gate is appended
pub record IsBySignal (codes : List ℕ) (before : GateList) (column : List Bit3) (after : GateList)
    (ref : Ref) : Type 0 where
  pub number : ℕ
  pub negated : Bool
  pub signal : IsFirstSignal before codes column number negated
  pub gates : after ≡ before
  pub reference : ref ≡ Signal number negated

-- no signal agrees, and the column is decided by the first two inputs that tell its scenarios apart
pub record IsByPair (codes : List ℕ) (before : GateList) (column : List Bit3) (after : GateList)
    (ref : Ref) : Type 0 where
  pub none : NoSignalAgrees before codes column
  pub gate : Gate
  pub pair : IsFirstPairOfInputs before.inputs codes column gate
  pub gates : after ≡ (with_gate before gate).gates
  pub reference : ref ≡ Signal (with_gate before gate).signal false

-- no signal agrees and no two inputs tell the scenarios apart: the minterms of the smaller set decide
pub record IsByMinterms (codes : List ℕ) (before : GateList) (column : List Bit3) (after : GateList)
    (ref : Ref) : Type 0 where
  pub none : NoSignalAgrees before codes column
  pub no_pair : NoPairTells before.inputs codes column
  pub gates : after ≡ (sum_of_minterms before (smaller_codes codes column)).gates
  pub reference : ref ≡ Signal (sum_of_minterms before (smaller_codes codes column)).signal (has_fewer_zeros column)

-- what a column makes of the gates before it: the gates after it, and its reference
abbrev pub Takes : List ℕ → GateList → List Bit3 → GateList → Ref → Type 0
Takes codes before column after ref =
    IsBySignal codes before column after ref ⊎
    (IsByPair codes before column after ref ⊎ IsByMinterms codes before column after ref)

-- what columns in order make of the gates before them: the gates after them, and a reference for each
abbrev pub TakesAll : List ℕ → GateList → List (List Bit3) → GateList → List Ref → Type 0
TakesAll codes before [] after refs = (after ≡ before) × (refs ≡ [])
TakesAll codes before (column ∷ columns) after refs =
    (between : GateList) × (ref : Ref) × (rest : List Ref) × (refs ≡ ref ∷ rest) ×
    Takes codes before column between ref × TakesAll codes between columns after rest

-- how many gates at most join the minterms of a column, where it needs minterms: one less than its smaller set has
-- scenarios
abbrev pub joins_of : (codes : List ℕ) (before : GateList) (column : List Bit3) (after : GateList) (ref : Ref) →
    Takes codes before column after ref → ℕ
joins_of codes before column after ref (inl signal) = 0
joins_of codes before column after ref (inr (inl pair)) = 0
joins_of codes before column after ref (inr (inr sum)) = smaller_set column - 1

-- the same of all columns that need minterms
abbrev pub all_joins : (codes : List ℕ) (before : GateList) (columns : List (List Bit3)) (after : GateList)
    (refs : List Ref) →
    TakesAll codes before columns after refs → ℕ
all_joins codes before [] after refs taken = 0
all_joins codes before (column ∷ columns) after refs taken =
    joins_of codes before column taken.0 taken.1 taken.4 + all_joins codes taken.0 columns after taken.2 taken.5

-- a code for each scenario, gates over the bits of these codes, and a reference for each column
pub record FirstEncoding : Type 0 where
  pub codes : List ℕ
  pub gates : GateList
  pub refs : List Ref

-- the codes handed in, and exactly the gates and references that columns make on them in order, over so many bits
pub record IsFirstEncoding (codes : List ℕ) (bits : ℕ) (columns : List (List Bit3)) (e : FirstEncoding) : Type 0 where
  pub same_codes : e.codes ≡ codes
  pub refs : TakesAll codes (record { inputs = bits; gates = [] }) columns e.gates e.refs

-- the most gates that columns share: 16 tables over each of the 28 pairs of 8 inputs, and for the minterm of each of 64
-- codes the 6 gates that follow its first one, which is one of these
abbrev pub shared_gates : ℕ
shared_gates = 16 * 28 + 64 * 6

-- gates over two inputs and further ones of minterms are as many as are shared at most; the rest join minterms
abbrev pub HasFewGates : List ℕ → ℕ → List (List Bit3) → FirstEncoding → Type 0
HasFewGates codes bits columns e = (first : IsFirstEncoding codes bits columns e) →
    length e.gates.gates ≤
    shared_gates + all_joins codes (record { inputs = bits; gates = [] }) columns e.gates e.refs first.refs
