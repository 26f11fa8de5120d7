-- The equations of a controller's netlist.
use Rattle.std.specs.Prelude.{ℕ, zero, suc, ◌+◌, Bool, true, false, if◌then◌else◌, List, [], ◌∷◌, ◌++◌, length, slice_index_or, Option, None, Some}
use Rattle.std.specs.FinSet as set
use Rattle.cpog_defs.specs.declared.types.Gate.{Gate}
use Rattle.cpog_defs.specs.declared.types.Ref.{Ref}
use Rattle.cpog_defs.specs.declared.types.Ref.TheVariants as references
use Rattle.cpog_defs.specs.Codes.{bit}
use Rattle.cpog_defs.specs.Gates.{GateList}
use Rattle.cpog_defs.specs.Orders.{each_below}
use Rattle.handshake_eqs.specs.Netlists.{Netlist, condition_of, wire_of, waits_of}
use Rattle.netlist_verilog.specs.Wires.{Wire, Signal, Go, Acknowledge, Request, Done, Idle, Condition, ArcCondition}
use Rattle.netlist_verilog.specs.Formulas.{Formula, Bit, Read, Not, And, Xor, Or, Equation}

-- the function of a gate at p and q, by its values where they are 00, 01, 10 and 11
abbrev pub gate_formula : Bool → Bool → Bool → Bool → Wire → Wire → Formula
gate_formula false false false false p q = Bit false
gate_formula false false false true p q = And (Read p) (Read q)
gate_formula false false true false p q = And (Read p) (Not (Read q))
gate_formula false false true true p q = Read p
gate_formula false true false false p q = And (Not (Read p)) (Read q)
gate_formula false true false true p q = Read q
gate_formula false true true false p q = Xor (Read p) (Read q)
gate_formula false true true true p q = Or (Read p) (Read q)
gate_formula true false false false p q = And (Not (Read p)) (Not (Read q))
gate_formula true false false true p q = Xor (Read p) (Not (Read q))
gate_formula true false true false p q = Not (Read q)
gate_formula true false true true p q = Or (Read p) (Not (Read q))
gate_formula true true false false p q = Not (Read p)
gate_formula true true false true p q = Or (Not (Read p)) (Read q)
gate_formula true true true false p q = Or (Not (Read p)) (Not (Read q))
gate_formula true true true true p q = Bit true

-- whether the formula of a gate reads both of its signals
abbrev pub reads_both : Formula → Bool
reads_both (Bit b) = false
reads_both (Read w) = false
reads_both (Not f) = false
reads_both (And f g) = true
reads_both (Xor f g) = true
reads_both (Or f g) = true

-- bit 2p+q of the table is the gate's value at p and q
abbrev pub table_formula : ℕ → Wire → Wire → Formula
table_formula table p q = gate_formula (bit table 0) (bit table 1) (bit table 2) (bit table 3) p q

-- the two signals, where the formula doesn't read both
abbrev pub comment_of : Formula → Wire → Wire → Option (Wire × Wire)
comment_of f p q = if reads_both f then None else Some (p, q)

-- the gate at a place
abbrev pub gate_at : GateList → ℕ → Gate
gate_at list g = slice_index_or list.gates g (record { j = 0; k = 0; table = 0 })

-- gate g; a comment names its signals where the formula doesn't read both
abbrev pub gate_equation : ℕ → ℕ → Gate → Equation
gate_equation inputs g gate = record {
  wire = Signal (inputs + g);
  formula = table_formula gate.table (Signal gate.j) (Signal gate.k);
  comment = comment_of (table_formula gate.table (Signal gate.j) (Signal gate.k)) (Signal gate.j) (Signal gate.k);
}

-- the equations of all gates, in their order
abbrev pub gate_equations : GateList → List Equation
gate_equations list = each_below (λ g. gate_equation list.inputs g (gate_at list g) ∷ []) (length list.gates)

-- a constant, a signal, or its complement
abbrev pub ref_formula : Ref → Formula
ref_formula (references.Const b) = Bit b
ref_formula (references.Signal n false) = Read (Signal n)
ref_formula (references.Signal n true) = Not (Read (Signal n))

-- the condition of an operation
abbrev pub condition_equation : ℕ → Ref → Equation
condition_equation v ref = record { wire = Condition v; formula = ref_formula ref; comment = None }

-- the condition of an arc, where its wire is declared
abbrev pub arc_equation : ℕ → ℕ → Option Ref → List Equation
arc_equation u v None = []
arc_equation u v (Some ref) = record { wire = ArcCondition u v; formula = ref_formula ref; comment = None } ∷ []

-- a formula and each of these for the numbers below n that pass
abbrev pub and_each : Formula → (ℕ → Bool) → (ℕ → Formula) → ℕ → Formula
and_each first passes each zero = first
and_each first passes each (suc n) =
    if passes n then And (and_each first passes each n) (each n) else and_each first passes each n

-- u is acknowledged, or its condition is 0
abbrev pub through_formula : ℕ → Formula
through_formula u = Or (Read (Acknowledge u)) (Not (Read (Condition u)))

-- or that of its arc to v is
abbrev pub arc_formula : ℕ → ℕ → Formula
arc_formula v u = Or (through_formula u) (Not (Read (ArcCondition u v)))

-- go, the own condition, and for each operation that v waits for what lets it through
abbrev pub request_formula : Netlist → ℕ → Formula
request_formula n v =
    and_each (And (Read Go) (Read (Condition v))) (set.contains (waits_of n v)) (arc_formula v) (length n.conditions)

-- go, and each operation is acknowledged or has the condition 0
abbrev pub done_formula : ℕ → Formula
done_formula count = and_each (Read Go) (λ _. true) through_formula count

-- no go, and no operation is acknowledged
abbrev pub idle_formula : ℕ → Formula
idle_formula count = and_each (Not (Read Go)) (λ _. true) (λ v. Not (Read (Acknowledge v))) count

-- the request of an operation
abbrev pub request_equation : Netlist → ℕ → Equation
request_equation n v = record { wire = Request v; formula = request_formula n v; comment = None }

-- the wire that says that all are done
abbrev pub done_equation : ℕ → Equation
done_equation count = record { wire = Done; formula = done_formula count; comment = None }

-- the wire that says that nothing goes on
abbrev pub idle_equation : ℕ → Equation
idle_equation count = record { wire = Idle; formula = idle_formula count; comment = None }

-- the conditions of the arcs, by their first end and then their second
abbrev pub arc_equations_from : Netlist → ℕ → ℕ → List Equation
arc_equations_from n u count = each_below (λ v. arc_equation u v (wire_of n u v)) count

-- the equations of a netlist, in the order of its module's lines
abbrev pub equations : Netlist → List Equation
equations n =
    gate_equations n.gates
    ++ (each_below (λ v. condition_equation v (condition_of n v) ∷ []) (length n.conditions)
    ++ (each_below (λ u. arc_equations_from n u (length n.conditions)) (length n.conditions)
    ++ (each_below (λ v. request_equation n v ∷ []) (length n.conditions)
    ++ (done_equation (length n.conditions) ∷ idle_equation (length n.conditions) ∷ []))))
