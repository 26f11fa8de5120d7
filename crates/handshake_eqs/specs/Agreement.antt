-- The outputs of a netlist, and what it means that they agree with a state of the handshake machine.
use Rattle.std.specs.Prelude.{◌≡◌, ◌↔◌, ℕ, Bool, true, false, not, ◌&&◌, ◌||◌, IsTrue, List, length, slice_get, Option, None, Some}
use Rattle.std.specs.List.{All}
use Rattle.std.specs.FinSet as set
use Rattle.cpog_defs.specs.declared.types.Ref.{Ref}
use Rattle.cpog_defs.specs.Orders.{Set, Order, IsOrderOf, any_below, all_below}
use Rattle.cpog_defs.specs.Gates.{ref_value, signal_values}
use Rattle.cpog_defs.specs.Encodings.{Encoding, Fits}
use Rattle.handshake_eqs.specs.declared.machine.Machine.{Machine}
use Rattle.handshake_eqs.specs.declared.machine.Machine.TheVariants.{Idle, Running, Returning}
use Rattle.handshake_eqs.specs.declared.machine.Event.{Event}
use Rattle.handshake_eqs.specs.declared.wires.Inputs.{Inputs}
use Rattle.handshake_eqs.specs.Netlists.{Netlist, condition_of, wire_of, waits_of}
use Rattle.handshake_eqs.specs.Machines.{Run, IsRequested, IsDone}

-- the value of an operation's condition
abbrev pub condition_value : Netlist → List Bool → ℕ → Bool
condition_value n values v = ref_value values (condition_of n v)

-- the value of an arc wire that is declared
abbrev pub wire_value : List Bool → Option Ref → Bool
wire_value values None = false
wire_value values (Some r) = ref_value values r

-- u is acknowledged, or its condition is 0, or that of the arc to v is
abbrev pub arc_satisfied : Netlist → List Bool → Set → ℕ → ℕ → Bool
arc_satisfied n values acks v u =
    set.contains acks u || (not (condition_value n values u) || not (wire_value values (wire_of n u v)))

-- v's condition is 1, and each that it waits for is satisfied
abbrev pub request_enabled : Netlist → List Bool → Set → ℕ → Bool
request_enabled n values acks v =
    condition_value n values v
    && all_below (λ u. not (set.contains (waits_of n v) u) || arc_satisfied n values acks v u) (length n.conditions)

-- each operation is acknowledged, or its condition is 0
abbrev pub all_acknowledged : Netlist → List Bool → Set → Bool
all_acknowledged n values acks =
    all_below (λ v. set.contains acks v || not (condition_value n values v)) (length n.conditions)

-- the request of an operation: go, and enabled
abbrev pub request : Netlist → Inputs → ℕ → Bool
request n i v = i.go && request_enabled n (signal_values n.gates i.x) i.acks v

-- go, and each operation acknowledged or not there
abbrev pub done : Netlist → Inputs → Bool
done n i = i.go && all_acknowledged n (signal_values n.gates i.x) i.acks

-- no go, and no operation acknowledged
abbrev pub idle : Netlist → Inputs → Bool
idle n i = not i.go && not (any_below (set.contains i.acks) (length n.conditions))

-- the wires of a state: the scenario's code, or any word in Idle; go in Running alone; the acknowledged operations
abbrev pub AreInputsOf : List ℕ → Machine → Inputs → Type 0
AreInputsOf codes Idle i = (i.go ≡ false) × (i.acks ≡ set.empty)
AreInputsOf codes (Running s acked) i = (slice_get codes s.0 ≡ Some i.x) × (i.go ≡ true) × (i.acks ≡ acked)
AreInputsOf codes (Returning s acked) i = (slice_get codes s.0 ≡ Some i.x) × (i.go ≡ false) × (i.acks ≡ acked)

-- on these inputs the outputs are those of the state
pub record Shows (n : Netlist) (orders : List Order) (m : Machine) (i : Inputs) : Type 0 where
  pub requests : (v : ℕ) → IsTrue (request n i v) ↔ IsRequested orders m v
  pub done : IsTrue (done n i) ↔ IsDone orders m
  pub idle : IsTrue (idle n i) ↔ (m ≡ Idle)

-- on all wires of the state
abbrev pub AgreesWithState : Netlist → List Order → List ℕ → Machine → Type 0
AgreesWithState n orders codes m = (i : Inputs) → AreInputsOf codes m i → Shows n orders m i

-- whatever orders the encoding fits: over every run of lawful events the netlist agrees with the state
abbrev pub AgreesOverRuns : Encoding → Netlist → Type 0
AgreesOverRuns e n =
    (orders : List Order) → All (IsOrderOf (length e.graph.ops)) orders → Fits e orders →
    (events : List Event) (m : Machine) → Run orders e.codes Idle events m → AgreesWithState n orders e.codes m
