-- How the rows of a module are read.
use Rattle.std.specs.Prelude.{ℕ, ◌+◌, Bool, true, false, List, [], length, Option, None, Some, Result, Ok, codes}
use Rattle.cpog_defs.specs.declared.types.Gate.{Gate}
use Rattle.cpog_defs.specs.declared.types.Ref.{Ref}
use Rattle.netlist_verilog.specs.Wires.{ArcCondition, name_of, wire_text}
use Rattle.line_rows.specs.Position.{Position}
use Rattle.line_rows.specs.Reading.{row, view_of, many_of}
use Rattle.line_rows.specs.Words.{behind_of, before_of}
use Rattle.module_reader.specs.Reading.{reference_in, condition_in}
use Rattle.module_reader.specs.Gates.{gate_in}

-- so many gates, a line for each
abbrev pub gates_at : ℕ → ℕ → Position → Result (List Gate × Position) ℕ
gates_at inputs count = many_of (λ g. row (gate_in inputs g)) (λ g _. g + 1) count 0

-- the conditions of operations with these names, a line for each
abbrev pub conditions_at : ℕ → ℕ → List (List ℕ) → Position → Result (List Ref × Position) ℕ
conditions_at inputs gates names = many_of (λ v. row (condition_in inputs gates (name_of names v))) (λ v _. v + 1) (length names) 0

-- the condition of the arc wire from u to v
unfoldable pub arc_in : ℕ → ℕ → ℕ → ℕ → List ℕ → Option Ref
arc_in inputs gates u v = behind_of (codes "  assign ") (behind_of (wire_text inputs [] (ArcCondition u v)) (behind_of (codes " = ") (before_of (codes ";") (reference_in inputs gates))))

-- a wire that is declared
abbrev pub declared_wire : Ref → Option Ref
declared_wire r = Some r

-- its line, where the wire is declared
abbrev pub arc_at : ℕ → ℕ → Bool → ℕ → ℕ → Position → Result (Option Ref × Position) ℕ
arc_at inputs gates false u v = λ p. Ok (None, p)
arc_at inputs gates true u v = view_of declared_wire (row (arc_in inputs gates u v))

-- those of one operation, and those of all
abbrev pub arcs_from_at : ℕ → ℕ → (ℕ → ℕ → Bool) → ℕ → ℕ → Position → Result (List (Option Ref) × Position) ℕ
arcs_from_at inputs gates declared count u = many_of (λ v. arc_at inputs gates (declared u v) u v) (λ v _. v + 1) count 0

-- those of all operations
abbrev pub arcs_at : ℕ → ℕ → (ℕ → ℕ → Bool) → ℕ → Position → Result (List (List (Option Ref)) × Position) ℕ
arcs_at inputs gates declared count = many_of (λ u. arcs_from_at inputs gates declared count u) (λ u _. u + 1) count 0
