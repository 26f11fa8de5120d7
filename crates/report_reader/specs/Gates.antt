-- How the gates of a report and the conditions over them are read, up to the bound.
use Rattle.std.specs.Prelude.{ℕ, ◌+◌, ◌==◌, ◌&&◌, not, nat_lt, Bool, true, false, List, [], ◌∷◌, ◌++◌, length, Option, Some, None, is_some, Result, Ok, Err, codes, if◌then◌else◌}
use Rattle.cpog_base.specs.Names.{place_of}
use Rattle.cpog_defs.specs.declared.types.Gate.{Gate}
use Rattle.cpog_defs.specs.declared.types.Ref.{Ref}
use Rattle.cpog_defs.specs.declared.types.Ref.TheVariants.{Const, Signal}
use Rattle.cpog_defs.specs.Gates.{GateList}
use Rattle.netlist_verilog.specs.Wires.{name_of}
use Rattle.report_text.specs.declared.bound.Bound.{Bound}
use Rattle.report_text.specs.declared.bound.Bound.TheVariants.{Minimum, Between}
use Rattle.line_rows.specs.Words.{◌>>=?◌, number_in, behind, behind_of, pair_of, made_of}
use Rattle.line_rows.specs.Position.{Position}
use Rattle.line_rows.specs.Reading.{row, view_of, many_of}
use Rattle.line_rows.specs.Lined.{lined_of}
use Rattle.report_reader.specs.Codes.{digits_in}
use Rattle.report_reader.specs.References.{signal_in, condition_in}
use Rattle.report_reader.specs.Operations.{Pair, is_from}
use Rattle.report_reader.specs.declared.gates.ArcLine.{ArcLine}

-- a gate's number, its signals and its table make the gate
abbrev pub gate_from : ℕ → ℕ × (ℕ × (ℕ × ℕ)) → Option Gate
gate_from g x = if x.0 == g && nat_lt x.1.0 x.1.1.0 then Some (record { j = x.1.0; k = x.1.1.0; table = x.1.1.1 }) else None

-- gate g on its line
unfoldable pub gate_in : ℕ → ℕ → List ℕ → Option Gate
gate_in inputs g = behind_of (codes "g") (made_of (gate_from g) (pair_of (number_in (g + 1)) (λ _. pair_of (signal_in inputs g) (λ _. pair_of (signal_in inputs g) (λ _. digits_in 4)))))

-- so many gates, a line for each
abbrev pub gates_at : ℕ → ℕ → Position → Result (List Gate × Position) ℕ
gates_at inputs count = many_of (λ g. row (gate_in inputs g)) (λ g _. g + 1) count 0

abbrev pub gate_list : ℕ → List Gate → GateList
gate_list inputs gates = record { inputs = inputs; gates = gates }

-- as a list of gates over the inputs
abbrev pub gate_list_at : ℕ → ℕ → Position → Result (GateList × Position) ℕ
gate_list_at inputs count = view_of (gate_list inputs) (gates_at inputs count)

-- the condition on the line of an operation with this name
unfoldable pub op_in : ℕ → ℕ → List ℕ → List ℕ → Option Ref
op_in inputs gates name = behind_of (codes "op ") (behind_of name (behind_of (codes " ") (condition_in inputs gates)))

-- the conditions of the operations, a line for each
abbrev pub ops_at : ℕ → ℕ → List (List ℕ) → Position → Result (List Ref × Position) ℕ
ops_at inputs gates names = many_of (λ v. row (op_in inputs gates (name_of names v))) (λ v _. v + 1) (length names) 0

-- the constant 0
abbrev pub is_zero : Ref → Bool
is_zero (Const false) = true
is_zero (Const true) = false
is_zero (Signal n negated) = false

-- the condition of two different operations that may come next, and isn't the constant 0
abbrev pub entry_from : Pair → ℕ × (ℕ × Ref) → Option ArcLine
entry_from least x = if is_from least x.0 x.1.0 && (not (x.0 == x.1.0) && not (is_zero x.1.1)) then Some (record { first = x.0; second = x.1.0; condition = x.1.1 }) else None

unfoldable pub entry_in : ℕ → ℕ → List (List ℕ) → Pair → List ℕ → Option ArcLine
entry_in inputs gates names least = behind_of (codes "arc ") (made_of (entry_from least) (pair_of (place_of names) (λ _. pair_of (place_of names) (λ _. condition_in inputs gates))))

abbrev pub after_entry : Pair → ArcLine → Pair
after_entry least e = record { first = e.first; second = e.second + 1 }

-- the line is one of an arc
abbrev pub is_arc : List ℕ → Bool
is_arc line = is_some (behind (codes "arc ") line)

abbrev pub bound_from : Option (List ℕ) → Option (List ℕ) → Option Bound
bound_from (Some word) other = number_in 65536 word >>=? λ h. Some (Minimum h)
bound_from None (Some words) = pair_of (number_in 65536) (λ _. number_in 65536) words >>=? λ x. Some (Between x.0 x.1)
bound_from None None = None

-- what is known of the least number of gates
unfoldable pub bound_in : List ℕ → Option Bound
bound_in line = bound_from (behind (codes "minimum ") line) (behind (codes "between ") line)

abbrev pub first_pair : Pair
first_pair = record { first = 0; second = 0 }

-- the conditions of the arcs, and the bound behind them
abbrev pub arcs_at : ℕ → ℕ → List (List ℕ) → Position → Result ((List ArcLine × Bound) × Position) ℕ
arcs_at inputs gates names = lined_of is_arc (entry_in inputs gates names) after_entry bound_in first_pair
