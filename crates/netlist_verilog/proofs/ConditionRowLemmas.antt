-- The lines of conditions tell their references, and those of arcs tell which arcs have wires.
use Rattle.std.proofs.Common.{◌≡◌, ℕ, ◌^◌, ◌<◌, ◌≤◌, List, [], ◌++◌, length, map, refl, sym, ap, ap₂, ◌∙◌, arith, append_assoc, subst, Option, None, Some}
use Rattle.std.specs.Prelude.{codes}
use Rattle.std.specs.List.{AllByRecursion}
use Rattle.std.specs.Fmt.{decimal}
use Rattle.std.proofs.lemmas.List.{append_cancel_left}
use Rattle.cpog_defs.specs.declared.types.Ref.{Ref}
use Rattle.cpog_defs.specs.Gates.{IsRefOver}
use Rattle.handshake_eqs.specs.Netlists.{Netlist, wire_of, IsWireOver}
use Rattle.line_text.proofs.TellingLemmas.{number_told, tails}
use Rattle.netlist_verilog.specs.Wires.{Wire, ArcCondition, wire_text}
use Rattle.netlist_verilog.specs.Formulas.{Equation, equation_row}
use Rattle.netlist_verilog.specs.Equations.{ref_formula, arc_equation, arc_equations_from}
use Rattle.netlist_verilog.proofs.ValueLemmas.{part_below, parts_below, arc_part}
use Rattle.netlist_verilog.proofs.BelowLemmas.{carried}
use Rattle.netlist_verilog.proofs.WordLemmas.{ref_text, ref_told, decimal_told}

-- the equation of a reference
abbrev pub ref_equation : Wire → Ref → Equation
ref_equation w r = record { wire = w; formula = ref_formula r; comment = None }

-- of one wire's two lines
pub condition_told : (inputs : ℕ) (names : List (List ℕ)) (signals : ℕ) (w : Wire) (r s : Ref) → signals ≤ 2 ^ 64 → IsRefOver signals r → IsRefOver signals s
    → equation_row inputs names (ref_equation w r) ≡ equation_row inputs names (ref_equation w s) → r ≡ s
condition_told inputs names signals w r s fit hr hs e =
    (ref_told inputs names signals r s 59 [] [] fit hr hs refl
    (append_cancel_left (codes " = ") _ _ (append_cancel_left (wire_text inputs names w) _ _
    (append_cancel_left (codes "  assign ") _ _ e)))).0

record SameArc (u v : ℕ) (r : Ref) (u' v' : ℕ) (r' : Ref) : Type 0 where
  first : u ≡ u'
  second : v ≡ v'
  condition : r ≡ r'

arc_told : (inputs : ℕ) (names : List (List ℕ)) (signals u v u' v' : ℕ) (r s : Ref) → signals ≤ 2 ^ 64 → u < 2 ^ 64 → v < 2 ^ 64 → u' < 2 ^ 64 → v' < 2 ^ 64 → IsRefOver signals r → IsRefOver signals s
    → equation_row inputs names (ref_equation (ArcCondition u v) r) ≡ equation_row inputs names (ref_equation (ArcCondition u' v') s) → SameArc u v r u' v' s
arc_told inputs names signals u v u' v' r s fit hu hv hu' hv' hr hs e =
    let right : Ref → List ℕ = λ t. codes " = " ++ (ref_text inputs names t ++ codes ";") in
    let text = tails 101 101 _ _ (append_cancel_left (codes "  assign ") _ _ e) in
    let first =
    decimal_told u u' 95 (decimal v ++ right r) (decimal v' ++ right s) hu hu' refl
    (sym (append_assoc (decimal u) (codes "_" ++ decimal v) (right r)) ∙ text
    ∙ append_assoc (decimal u') (codes "_" ++ decimal v') (right s)) in
    let second = number_told v v' 32 _ _ hv hv' refl first.1 in
    let third = ref_told inputs names signals r s 59 [] [] fit hr hs refl (tails 32 32 _ _ (tails 61 61 _ _ second.1)) in
    record { first = first.0; second = second.0; condition = third.0 }

-- ---- all arcs

-- a line that is that of this arc tells that the netlist has it
abbrev Tells : ℕ → List (List ℕ) → Netlist → ℕ → ℕ → Ref → List ℕ → Type 0
Tells inputs names n u v r line = line ≡ equation_row inputs names (ref_equation (ArcCondition u v) r) → wire_of n u v ≡ Some r

one_tells : (inputs : ℕ) (names : List (List ℕ)) (signals : ℕ) (n : Netlist) (u v : ℕ) (r : Ref) (u' v' : ℕ)
    (w : Option Ref) → signals ≤ 2 ^ 64 → u < 2 ^ 64 → v < 2 ^ 64 → u' < 2 ^ 64 → v' < 2 ^ 64 → IsRefOver signals r →
    IsWireOver signals w → wire_of n u' v' ≡ w
    → AllByRecursion (λ e. Tells inputs names n u v r (equation_row inputs names e)) (arc_equation u' v' w)
one_tells inputs names signals n u v r u' v' None fit hu hv hu' hv' hr hw is = tt
one_tells inputs names signals n u v r u' v' (Some s) fit hu hv hu' hv' hr hw is = (
  λ e. (
      let t = arc_told inputs names signals u' v' u v s r fit hu' hv' hu hv hw hr e in
      sym (ap₂ (wire_of n) t.first t.second) ∙ is ∙ ap (λ x. Some x) t.condition),
  tt,
)

-- lines of the one netlist are lines of the other
half : (inputs : ℕ) (names : List (List ℕ)) (signals : ℕ) (m n : Netlist) (u v : ℕ) (r : Ref) → signals ≤ 2 ^ 64 →
    length m.conditions ≤ 2 ^ 64 → length n.conditions ≤ 2 ^ 64 → u < length m.conditions → v < length m.conditions
    → ((u v : ℕ) → IsWireOver signals (wire_of m u v)) → ((u v : ℕ) → IsWireOver signals (wire_of n u v)) →
    map (equation_row inputs names) (arc_part m) ≡ map (equation_row inputs names) (arc_part n) →
    wire_of m u v ≡ Some r → wire_of n u v ≡ Some r
half inputs names signals m n u v r fit few few' hu hv over_m over_n e is =
    let Q : List ℕ → Type 0 = Tells inputs names n u v r in
    let P : Equation → Type 0 = λ x. Q (equation_row inputs names x) in
    let over : IsRefOver signals r = subst (IsWireOver signals) is (over_m u v) in
    let all =
    parts_below P (λ u'. arc_equations_from n u' (length n.conditions)) (length n.conditions)
    (λ u' lu. parts_below P (λ v'. arc_equation u' v' (wire_of n u' v')) (length n.conditions) (λ v' lv.
    one_tells inputs names signals n u v r u' v' (wire_of n u' v') fit (omega (arith, hu, few))
    (omega (arith, hv, few)) (omega (arith, lu, few')) (omega (arith, lv, few')) over (over_n u' v') refl)) in
    let here =
    part_below P (λ v'. arc_equation u v' (wire_of m u v')) (length m.conditions) v hv
    (part_below P (λ u'. arc_equations_from m u' (length m.conditions)) (length m.conditions) u hu
    (carried Q (equation_row inputs names) (arc_part n) (arc_part m) (sym e) all)) in
    (subst (λ w. AllByRecursion P (arc_equation u v w)) is here).0 refl

same_option : (x y : Option Ref) → ((r : Ref) → x ≡ Some r → y ≡ Some r) → ((r : Ref) → y ≡ Some r → x ≡ Some r) → x ≡ y
same_option None None f g = refl
same_option None (Some r) f g = g r refl
same_option (Some r) y f g = sym (f r refl)

pub arcs_told : (inputs : ℕ) (names : List (List ℕ)) (signals : ℕ) (m n : Netlist) → signals ≤ 2 ^ 64 →
    length m.conditions ≤ 2 ^ 64 → length m.conditions ≡ length n.conditions →
    ((u v : ℕ) → IsWireOver signals (wire_of m u v)) → ((u v : ℕ) → IsWireOver signals (wire_of n u v))
    → map (equation_row inputs names) (arc_part m) ≡ map (equation_row inputs names) (arc_part n) → (u v : ℕ) → u < length m.conditions → v < length m.conditions → wire_of m u v ≡ wire_of n u v
arcs_told inputs names signals m n fit few same over_m over_n e u v hu hv =
    same_option (wire_of m u v) (wire_of n u v)
    (λ r. half inputs names signals m n u v r fit few (omega (arith, few, same)) hu hv over_m over_n e)
    (λ r. half inputs names signals n m u v r fit (omega (arith, few, same)) few (omega (arith, hu, same)) (omega (arith, hv, same)) over_n over_m (sym e))
