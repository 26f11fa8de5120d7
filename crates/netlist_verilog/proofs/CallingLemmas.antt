-- Wires of a module that are called alike are one.
use Rattle.std.proofs.Common.{◌≡◌, ℕ, ◌-◌, ◌^◌, ◌<◌, eqb, List, [], ◌∷◌, get_or, refl, ap, ap₂, sym, ◌∙◌, inl, inr, arith}
use Rattle.std.specs.Prelude.{length, if◌then◌else◌}
use Rattle.std.specs.Fmt.{decimal}
use Rattle.std.specs.Int.{IsInRange}
use Rattle.std.specs.Str.Parse.{AllDigits}
use Rattle.std.proofs.lemmas.Bool.{ne_eqb}
use Rattle.std.proofs.lemmas.Fmt.{decimal_is_IsNumeral, decimal_injective}
use Rattle.std.proofs.lemmas.Str.Parse.{digit_from_value}
use Rattle.line_text.proofs.TellingLemmas.{tails}
use Rattle.netlist_verilog.specs.Module.{ModuleValue, IsModule, IsWireOf, called}
use Rattle.netlist_verilog.specs.Wires.{Wire, Signal, Go, Acknowledge, Request, Done, Idle, Condition, ArcCondition, name_of, signal_text}
use Rattle.netlist_verilog.proofs.WordLemmas.{decimal_told, signal_cases, signal_is, name_is}

-- ---- the kind of a wire, which its first two bytes tell

abbrev kind : Wire → ℕ
kind (Signal n) = 0
kind Go = 1
kind (Acknowledge v) = 97
kind (Request v) = 114
kind Done = 100
kind Idle = 105
kind (Condition v) = 99
kind (ArcCondition u v) = 101

-- signals begin with x or g, and go with g and o
abbrev kind_at : ℕ → ℕ → ℕ
kind_at b c = if eqb b 120 then 0 else if eqb b 103 then (if eqb c 111 then 1 else 0) else b

abbrev text_kind : List ℕ → ℕ
text_kind [] = 0
text_kind (b ∷ bs) = kind_at b (get_or bs 0 0)

digits_no_o : (ds : List ℕ) → AllDigits 10 ds → kind_at 103 (get_or ds 0 0) ≡ 0
digits_no_o [] h = refl
digits_no_o (d ∷ ds) h = no_o d (digit_from_value d h.0)
  where
    no_o : (d : ℕ) → IsInRange 48 57 d → kind_at 103 d ≡ 0
    no_o d r = rw (ne_eqb d 111 (λ e. omega (arith, e, r.1))) refl

signal_kind : (inputs n : ℕ) → n < 2 ^ 64 → text_kind (signal_text inputs n) ≡ 0
signal_kind inputs n lt = elim (signal_cases inputs n) [
  | inl h ↦ ap text_kind h.1
  | inr h ↦ ap text_kind h.1 ∙ digits_no_o (decimal (n - inputs)) ((decimal_is_IsNumeral (n - inputs) (omega arith)).0.1)
]

pub signal_fits : (m : ModuleValue) (n : ℕ) → IsModule m → IsWireOf m (Signal n) → n < 2 ^ 64
signal_fits m n is lt = omega (arith, lt, is.few_inputs, is.few_gates)

kind_told : (m : ModuleValue) (w : Wire) → IsModule m → IsWireOf m w → text_kind (called m w) ≡ kind w
kind_told m (Signal n) is lt = signal_kind m.netlist.gates.inputs n (signal_fits m n is lt)
kind_told m Go is lt = refl
kind_told m (Acknowledge v) is lt = refl
kind_told m (Request v) is lt = refl
kind_told m Done is lt = refl
kind_told m Idle is lt = refl
kind_told m (Condition v) is lt = refl
kind_told m (ArcCondition u v) is lt = refl

-- ---- wires of one kind

same_name : (m : ModuleValue) (u v b : ℕ) → IsModule m → u < length m.netlist.conditions → v < length m.netlist.conditions → (b ∷ 95 ∷ name_of m.names u) ≡ (b ∷ 95 ∷ name_of m.names v) → u ≡ v
same_name m u v b is hu hv e = name_is m.names u v is.distinct (omega (arith, hu, is.one_name_each)) (omega (arith, hv, is.one_name_each)) (tails 95 95 _ _ (tails b b _ _ e))

same_pair : (m : ModuleValue) (t u v w : ℕ) → IsModule m → IsWireOf m (ArcCondition t u) →
    IsWireOf m (ArcCondition v w) → called m (ArcCondition t u) ≡ called m (ArcCondition v w) →
    ArcCondition t u ≡ ArcCondition v w
same_pair m t u v w is h k e =
    let r = decimal_told t v 95 (decimal u) (decimal w) (omega (arith, h.0, is.netlist.few)) (omega (arith, k.0, is.netlist.few)) refl (tails 101 101 _ _ e) in
    ap₂ ArcCondition r.0 (decimal_injective u w (omega (arith, h.1, is.netlist.few)) (omega (arith, k.1, is.netlist.few)) r.1)

of_one_kind : (m : ModuleValue) (w z : Wire) → IsModule m → IsWireOf m w → IsWireOf m z → kind w ≡ kind z → called m w ≡ called m z → w ≡ z
of_one_kind m (Signal n) (Signal k) is h l s e = ap Signal (signal_is m.netlist.gates.inputs n k (signal_fits m n is h) (signal_fits m k is l) e)
of_one_kind m Go Go is h l s e = refl
of_one_kind m (Acknowledge u) (Acknowledge v) is h l s e = ap Acknowledge (same_name m u v 97 is h l e)
of_one_kind m (Request u) (Request v) is h l s e = ap Request (same_name m u v 114 is h l e)
of_one_kind m Done Done is h l s e = refl
of_one_kind m Idle Idle is h l s e = refl
of_one_kind m (Condition u) (Condition v) is h l s e = ap Condition (same_name m u v 99 is h l e)
of_one_kind m (ArcCondition t u) (ArcCondition v w) is h l s e = same_pair m t u v w is h l e
of_one_kind m w z is h l s e = absurd (omega (arith, s))

pub wires_told : (m : ModuleValue) (w z : Wire) → IsModule m → IsWireOf m w → IsWireOf m z → called m w ≡ called m z → w ≡ z
wires_told m w z is h l e = of_one_kind m w z is h l (sym (kind_told m w is h) ∙ ap text_kind e ∙ kind_told m z is l) e
