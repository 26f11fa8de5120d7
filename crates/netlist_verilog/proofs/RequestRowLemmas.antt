-- The line of a request tells which operations are waited for.
use Rattle.std.proofs.Common.{◌≡◌, ℕ, zero, suc, ◌<◌, ◌≤◌, Bool, true, false, cond, List, [], ◌∷◌, ◌++◌, length, refl, sym, ap, ap₂, ◌∙◌, arith, append_assoc, subst, None}
use Rattle.std.specs.Prelude.{codes}
use Rattle.std.specs.List.{AllByRecursion, flat_map}
use Rattle.std.specs.FinSet as set
use Rattle.std.proofs.lemmas.List.{append_cancel_left, append-nil}
use Rattle.std.proofs.lemmas.List.Concat.{flat_map-append}
use Rattle.cpog_base.specs.Names.{AreDistinct}
use Rattle.cpog_defs.specs.Orders.{Set, each_below}
use Rattle.line_text.specs.Words.{continues_name}
use Rattle.line_text.proofs.TellingLemmas.{word_told, heads, until_told}
use Rattle.netlist_verilog.specs.Module.{ModuleValue, AreNames}
use Rattle.netlist_verilog.specs.Wires.{Go, Request, Condition, ArcCondition, name_of, wire_text}
use Rattle.netlist_verilog.specs.Formulas.{Read, And, Equation, formula_text, equation_row}
use Rattle.netlist_verilog.specs.Equations.{and_each, arc_formula}
use Rattle.netlist_verilog.specs.Rows.{and_text}
use Rattle.netlist_verilog.proofs.ValueLemmas.{part_below, parts_below}
use Rattle.netlist_verilog.proofs.FeedLemmas.{names_pass, name_passes}
use Rattle.netlist_verilog.proofs.WritingLemmas.{each_text}
use Rattle.netlist_verilog.proofs.WordLemmas.{name_is}

-- the members of a set below a number
abbrev members : Set → ℕ → List ℕ
members s n = each_below (λ u. cond (set.contains s u) (u ∷ []) []) n

-- ---- one operation

-- what a request adds for an operation that it waits for
abbrev wait_text : ModuleValue → ℕ → ℕ → List ℕ
wait_text m v u = and_text m true (arc_formula v u)

opened : (name second third x : List ℕ) →
    (codes " & (" ++ ((((codes "a_" ++ name) ++ (32 ∷ second)) ++ third) ++ codes ")")) ++ x ≡ codes " & (a_" ++
    (name ++ 32 ∷ (second ++ (third ++ (codes ")" ++ x))))
opened name second third x = simp append_assoc

wait_told : (m : ModuleValue) (v a b : ℕ) (x y : List ℕ) → AreNames m.names → AreDistinct m.names →
    a < length m.names → b < length m.names → wait_text m v a ++ x ≡ wait_text m v b ++ y → (a ≡ b) × (x ≡ y)
wait_told m v a b x y are distinct ha hb e =
    let name : ℕ → List ℕ = name_of m.names in
    let second : ℕ → List ℕ = λ u. codes "| ~c_" ++ name u in
    let third : ℕ → List ℕ = λ u. codes " | ~" ++ wire_text m.netlist.gates.inputs m.names (ArcCondition u v) in
    let text = append_cancel_left (codes " & (a_") _ _ (sym (opened (name a) (second a) (third a) x) ∙ e ∙ opened (name b) (second b) (third b) y) in
    let word = word_told continues_name (name a) (name b) 32 _ _ (name_passes m.names a (names_pass m.names are)) (name_passes m.names b (names_pass m.names are)) refl text in
    let same = name_is m.names a b distinct ha hb word.0 in
    (same, append_cancel_left (wait_text m v a) x y (e ∙ ap (λ u. wait_text m v u ++ y) (sym same)))

-- ---- all of them

waits_text : (m : ModuleValue) (v : ℕ) (s : Set) (n : ℕ) → each_below (λ u. and_text m (set.contains s u) (arc_formula v u)) n ≡ flat_map (wait_text m v) (members s n)
waits_text m v s zero = refl
waits_text m v s (suc n) =
    ap₂ (λ (x y : List ℕ). x ++ y) (waits_text m v s n) (one (set.contains s n)) ∙ sym (flat_map-append (wait_text m v) (members s n) (cond (set.contains s n) (n ∷ []) []))
  where
    one : (b : Bool) → and_text m b (arc_formula v n) ≡ flat_map (wait_text m v) (cond b (n ∷ []) [])
    one true = sym (append-nil (wait_text m v n))
    one false = refl

are_members : (P : ℕ → Type 0) (s : Set) (n : ℕ) → ((u : ℕ) → u < n → set.contains s u ≡ true → P u) → AllByRecursion P (members s n)
are_members P s n h = parts_below P (λ u. cond (set.contains s u) (u ∷ []) []) n (λ u lt. one u (set.contains s u) (h u lt))
  where
    one : (u : ℕ) (b : Bool) → (b ≡ true → P u) → AllByRecursion P (cond b (u ∷ []) [])
    one u true h = (h refl, tt)
    one u false h = tt

half : (s t : Set) (n u : ℕ) → members s n ≡ members t n → u < n → set.contains t u ≡ true → set.contains s u ≡ true
half s t n u e lt h =
    let P : ℕ → Type 0 = λ k. set.contains s k ≡ true in
    let all = subst (AllByRecursion P) e (are_members P s n (λ k lt is. is)) in
    (subst (λ b. AllByRecursion P (cond b (u ∷ []) [])) h (part_below P (λ k. cond (set.contains t k) (k ∷ []) []) n u lt all)).0

pub same_bool : (a b : Bool) → (a ≡ true → b ≡ true) → (b ≡ true → a ≡ true) → a ≡ b
same_bool true b f g = sym (f refl)
same_bool false true f g = g refl
same_bool false false f g = refl

-- the request of an operation that waits for these
abbrev pub request_of : Set → ℕ → ℕ → Equation
request_of s count v = record { wire = Request v; formula = and_each (And (Read Go) (Read (Condition v))) (set.contains s) (arc_formula v) count; comment = None }

pub request_told : (m : ModuleValue) (v count : ℕ) (s t : Set) → AreNames m.names → AreDistinct m.names → count ≤ length m.names
    → equation_row m.netlist.gates.inputs m.names (request_of s count v) ≡ equation_row m.netlist.gates.inputs m.names
    (request_of t count v) → (u : ℕ) → u < count → set.contains s u ≡ set.contains t u
request_told m v count s t are distinct few e u lt =
    let first = And (Read Go) (Read (Condition v)) in
    let begin : List ℕ = formula_text m.netlist.gates.inputs m.names first in
    let formula = append_cancel_left (codes " = ") _ _ (append_cancel_left (wire_text m.netlist.gates.inputs m.names (Request v)) _ _ (append_cancel_left (codes "  assign ") _ _ e)) in
    let form : (r : Set) → formula_text m.netlist.gates.inputs m.names
    (and_each first (set.contains r) (arc_formula v) count) ++ codes ";" ≡ begin ++
    (flat_map (wait_text m v) (members r count) ++ codes ";") = λ r.
    ap (λ (x : List ℕ). x ++ codes ";") (each_text m first (set.contains r) (arc_formula v) count (λ text. refl)
    ∙ ap (λ (x : List ℕ). begin ++ x) (waits_text m v r count))
    ∙ append_assoc begin (flat_map (wait_text m v) (members r count)) (codes ";") in
    let below : (r : Set) → AllByRecursion (λ k. k < length m.names) (members r count) = λ r. are_members (λ k. k < length m.names) r count (λ k lt is. omega (arith, few, lt)) in
    let same =
    (until_told (wait_text m v) (λ k. k < length m.names) (λ x. x ≡ codes ";")
    (λ a b x y ha hb h. wait_told m v a b x y are distinct ha hb h)
    (λ a x y h h'. omega (arith, heads 32 59 _ _ (h' ∙ h)))
    (members s count) (members t count) (codes ";") (codes ";") (below s) (below t) refl refl (append_cancel_left begin _ _ (sym (form s) ∙ formula ∙ form t))).0 in
    same_bool (set.contains s u) (set.contains t u) (half t s count u (sym same) lt) (half s t count u same lt)
