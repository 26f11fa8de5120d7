-- Small orders, gates and graphs, computed from the definitions.
use Rattle.std.proofs.Common.{◌≡◌, ℕ, zero, suc, Bool, true, false, not, ◌&&◌, if◌then◌else◌, List, [], ◌∷◌, slice_index_or, refl, ap, ap₂}
use Rattle.std.proofs.Math.Path.{fun_ext}
use Rattle.std.specs.Prelude.{nat_eq}
use Rattle.std.specs.List.{list_any}
use Rattle.std.specs.FinSet.{FinSet, empty, from_list, contains-empty, contains-from_list_nat}
use Rattle.std.specs.Ordering.{nat_cmp}
use Rattle.cpog_defs.specs.declared.types.OpId.{OpId}
use Rattle.cpog_defs.specs.declared.types.Gate.{Gate}
use Rattle.cpog_defs.specs.declared.types.Bit3.{Bit3}
use Rattle.cpog_defs.specs.declared.types.Bit3.TheVariants.{Zero, One, Free}
use Rattle.cpog_defs.specs.declared.types.Ref.{Ref}
use Rattle.cpog_defs.specs.declared.types.Ref.TheVariants.{Const, Signal}
use Rattle.cpog_defs.specs.Codes.{word_bits}
use Rattle.cpog_defs.specs.Orders.{Order, has, is_before, arc_of, any_below, each_below, covering_pairs}
use Rattle.cpog_defs.specs.Columns.{op_entry, arc_entry}
use Rattle.cpog_defs.specs.Gates.{GateList, gate_value, signal_values, ref_value}
use Rattle.cpog_defs.specs.Graphs.{ConditionalGraph, keeps, keeps_arc}

-- operation 0 before 1 before 2, of four operations
abbrev chain : Order
chain = record { count = 4; ops = from_list (0 ∷ 1 ∷ 2 ∷ []); before = empty ∷ from_list (0 ∷ []) ∷ from_list (0 ∷ 1 ∷ []) ∷ empty ∷ [] }

abbrev is_one_of : List ℕ → ℕ → Bool
is_one_of ns n = list_any (λ m. nat_eq m n) ns

abbrev chain_has : ℕ → Bool
chain_has = is_one_of (0 ∷ 1 ∷ 2 ∷ [])

abbrev chain_before : ℕ → ℕ → Bool
chain_before u zero = false
chain_before u (suc zero) = is_one_of (0 ∷ []) u
chain_before u (suc (suc zero)) = is_one_of (0 ∷ 1 ∷ []) u
chain_before u (suc (suc (suc v))) = false

same_has : has chain ≡ chain_has
same_has = fun_ext (contains-from_list_nat (0 ∷ 1 ∷ 2 ∷ []))

same_before_at : (u v : ℕ) → is_before chain u v ≡ chain_before u v
same_before_at u zero = contains-empty nat_cmp u
same_before_at u (suc zero) = contains-from_list_nat (0 ∷ []) u
same_before_at u (suc (suc zero)) = contains-from_list_nat (0 ∷ 1 ∷ []) u
same_before_at u (suc (suc (suc zero))) = contains-empty nat_cmp u
same_before_at u (suc (suc (suc (suc v)))) = contains-empty nat_cmp u

same_before : is_before chain ≡ chain_before
same_before = fun_ext λ u. fun_ext λ v. same_before_at u v

abbrev covers_in : (ℕ → ℕ → Bool) → ℕ → ℕ → Bool
covers_in b u v = b u v && not (any_below (λ z. b u z && b z v) 4)

abbrev pairs_in : (ℕ → ℕ → Bool) → List (OpId × OpId)
pairs_in b = each_below (λ u. each_below (λ v. if covers_in b u v then arc_of u v ∷ [] else []) 4) 4

-- the pair from 0 to 2 is no covering pair
chain_covers : covering_pairs chain ≡ arc_of 0 1 ∷ arc_of 1 2 ∷ []
chain_covers = ap pairs_in same_before

abbrev op_entry_in : (ℕ → Bool) → ℕ → Bit3
op_entry_in h v = if h v then One else Zero

abbrev arc_entry_in : (ℕ → Bool) → (ℕ → ℕ → Bool) → ℕ → ℕ → Bit3
arc_entry_in h b u v =
    if h u && h v
    then (if covers_in b u v then One else (if b u v then Free else Zero))
    else Free

-- an operation of the scenario, and one that it has not
kept_operation : op_entry 2 chain ≡ One
kept_operation = ap (λ h. op_entry_in h 2) same_has

other_operation : op_entry 3 chain ≡ Zero
other_operation = ap (λ h. op_entry_in h 3) same_has

-- a covering pair, a transitive one, one against the order, and one with an end that the scenario has not
covering_pair : arc_entry 0 1 chain ≡ One
covering_pair = ap₂ (λ h b. arc_entry_in h b 0 1) same_has same_before

transitive_pair : arc_entry 0 2 chain ≡ Free
transitive_pair = ap₂ (λ h b. arc_entry_in h b 0 2) same_has same_before

turned_pair : arc_entry 1 0 chain ≡ Zero
turned_pair = ap₂ (λ h b. arc_entry_in h b 1 0) same_has same_before

outside_pair : arc_entry 0 3 chain ≡ Free
outside_pair = ap₂ (λ h b. arc_entry_in h b 0 3) same_has same_before

-- bit 0 has weight 1
bits_of_six : word_bits 6 4 ≡ false ∷ true ∷ true ∷ false ∷ []
bits_of_six = refl

-- table 4 is 1 at first input 1 and second input 0 alone
first_without_second : gate_value 4 true false ≡ true
first_without_second = refl

second_without_first : gate_value 4 false true ≡ false
second_without_first = refl

-- signal 2 is the exclusive or of x0 and x1, and signal 3 is the conjunction of x0 and signal 2
abbrev two_gates : GateList
two_gates = record { inputs = 2; gates = record { j = 0; k = 1; table = 6 } ∷ record { j = 0; k = 2; table = 8 } ∷ [] }

values_on_1 : signal_values two_gates 1 ≡ true ∷ false ∷ true ∷ true ∷ []
values_on_1 = refl

values_on_2 : signal_values two_gates 2 ≡ false ∷ true ∷ true ∷ false ∷ []
values_on_2 = refl

complement_on_2 : ref_value (signal_values two_gates 2) (Signal 3 true) ≡ true
complement_on_2 = refl

-- operation 0 always, operation 1 where x0 is 0, and an arc from 0 to 1 at each code
abbrev small_graph : ConditionalGraph
small_graph = record { ops = Const true ∷ Signal 0 true ∷ []; arcs = (Const false ∷ Const true ∷ []) ∷ (Const false ∷ Const false ∷ []) ∷ [] }

left_at_0 : keeps_arc small_graph (word_bits 0 1) 0 1 ≡ true
left_at_0 = refl

-- an arc counts only where both its ends are left
gone_at_1 : keeps_arc small_graph (word_bits 1 1) 0 1 ≡ false
gone_at_1 = refl

kept_at_1 : keeps small_graph (word_bits 1 1) 0 ≡ true
kept_at_1 = refl
