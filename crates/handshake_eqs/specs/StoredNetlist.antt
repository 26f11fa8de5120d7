-- How netlists are stored.
use Rattle.std.specs.Prelude.{◌≡◌, ℕ, Bool, ◌⊎◌, List, Option, refl}
use Rattle.std.proofs.Common.{inl, inr}
use Rattle.std.specs.Coded.{Coded, code_by, coded×, coded⊎, coded_ℕ, coded_bool, coded_list, coded_option}
use Rattle.cpog_defs.specs.declared.types.Gate.{Gate}
use Rattle.cpog_defs.specs.declared.types.Ref.{Ref}
use Rattle.cpog_defs.specs.declared.types.Ref.TheVariants.{Const, Signal}
use Rattle.cpog_defs.specs.Orders.{Set}
use Rattle.cpog_defs.specs.Stored.{set_code}
use Rattle.cpog_defs.specs.Gates.{GateList}
use Rattle.handshake_eqs.specs.Netlists.{Netlist}

-- a gate as its three numbers
abbrev pub gate_code : Coded Gate
gate_code = code_by (ℕ × (ℕ × ℕ)) (coded× coded_ℕ (coded× coded_ℕ coded_ℕ))
    (λ g. (g.j, (g.k, g.table))) (λ p. record { j = p.0; k = p.1.0; table = p.1.1 }) (λ _. refl)

-- a list of gates as the number of its inputs and its gates
abbrev pub gate_list_code : Coded GateList
gate_list_code = code_by (ℕ × List Gate) (coded× coded_ℕ (coded_list gate_code))
    (λ l. (l.inputs, l.gates)) (λ p. record { inputs = p.0; gates = p.1 }) (λ _. refl)

-- a reference as a constant, or a signal with its sign
abbrev pub split_ref : Ref → Bool ⊎ (ℕ × Bool)
split_ref (Const b) = inl b
split_ref (Signal number negated) = inr (number, negated)

-- and back
abbrev pub joined_ref : Bool ⊎ (ℕ × Bool) → Ref
joined_ref (inl b) = Const b
joined_ref (inr p) = Signal p.0 p.1

pub joined_ref-split_ref : (r : Ref) → joined_ref (split_ref r) ≡ r
joined_ref-split_ref (Const b) = refl
joined_ref-split_ref (Signal number negated) = refl

-- how references are stored
abbrev pub ref_code : Coded Ref
ref_code =
    code_by (Bool ⊎ (ℕ × Bool)) (coded⊎ coded_bool (coded× coded_ℕ coded_bool))
    split_ref joined_ref joined_ref-split_ref

-- a netlist as its four parts
abbrev pub netlist_code : Coded Netlist
netlist_code = code_by (GateList × (List Ref × (List (List (Option Ref)) × List Set)))
    (coded× gate_list_code (coded× (coded_list ref_code)
    (coded× (coded_list (coded_list (coded_option ref_code))) (coded_list set_code))))
    (λ n. (n.gates, (n.conditions, (n.wires, n.waits))))
    (λ p. record { gates = p.0; conditions = p.1.0; wires = p.1.1.0; waits = p.1.1.1 }) (λ _. refl)
