-- The line of a gate is read exactly.
use Rattle.std.proofs.Common.{lit<, ◌≡◌, ℕ, zero, suc, ◌<◌, ◌+◌, ◌-◌, ◌^◌, Bool, true, false, cond, ltb, eqb, eq-eqb, List, [], ◌∷◌, ◌++◌, Some, None, refl, sym, ap, subst, ◌∙◌, arith, inl, inr, append_assoc}
use Rattle.std.specs.Prelude.{codes}
use Rattle.std.specs.Fmt.{decimal}
use Rattle.std.specs.List.{All, AllByRecursion}
use Rattle.std.specs.Str.{bytes_eq}
use Rattle.std.proofs.lemmas.Bool.{lt-ltb, le-ltb, ltb-true, eqb-true, ne_eqb}
use Rattle.std.proofs.lemmas.List.{append-nil}
use Rattle.std.proofs.lemmas.List.Elements.{All-cons, All-from_recursion}
use Rattle.std.proofs.lemmas.Slice.Eq.{bytes_eq-Decides}
use Rattle.cpog_defs.specs.declared.types.Gate.{Gate}
use Rattle.cpog_defs.specs.declared.types.Ref.{Ref}
use Rattle.cpog_defs.specs.declared.types.Ref.TheVariants.{Const, Signal}
use Rattle.cpog_defs.specs.Gates.{IsRefOver}
use Rattle.netlist_verilog.specs.Wires as wires
use Rattle.netlist_verilog.specs.Wires.{signal_text}
use Rattle.netlist_verilog.specs.Formulas.{formula_text, comment_text, equation_row}
use Rattle.netlist_verilog.specs.Equations.{table_formula, comment_of, gate_equation}
use Rattle.netlist_verilog.proofs.GateRowLemmas.{IsGateBelow}
use Rattle.line_rows.proofs.Exact.{IsExact, IsWord, is_blank, exact-behind, exact-before, exact-pair, exact-made, number_exact, decimal_word, some_is, chosen, tested}
use Rattle.module_reader.specs.declared.gate.Join.{Join}
use Rattle.module_reader.specs.declared.gate.Join.TheVariants.{And, Xor, Or, Note}
use Rattle.module_reader.specs.declared.gate.Tail.{Tail}
use Rattle.module_reader.specs.declared.gate.Tail.TheVariants.{One, Both}
use Rattle.module_reader.specs.Gates.{join_in, one_of, both_of, both_in, one_in, tail_in, ordered, noted, joined, gate_from, function_in, gate_with, gate_in}
use Rattle.module_reader.proofs.References.{reference_text, signal_exact, signal_word, reference_exact, exact-same}

-- ---- words

abbrev join_text : Join → List ℕ
join_text And = codes "&"
join_text Xor = codes "^"
join_text Or = codes "|"
join_text Note = codes "/*"

abbrev AnyJoin : Join → Type 0
AnyJoin op = Unit {0}

join_again : (op : Join) → join_in (join_text op) ≡ Some op
unfolding join_in
join_again And = refl
join_again Xor = refl
join_again Or = refl
join_again Note = refl

join_exact : IsExact AnyJoin join_text join_in
unfolding join_in
join_exact = record {
  again = λ op _. join_again op;
  takes = λ word op e.
      let P : Join → Type 0 = λ x. AnyJoin x × (word ≡ join_text x) in
      elim (chosen (bytes_eq word (codes "&")) And _ op e) [
        | inl z ↦ subst P z.1 (tt, (bytes_eq-Decides word (codes "&")).0 z.0)
        | inr z ↦ elim (chosen (bytes_eq word (codes "^")) Xor _ op z.1) [
          | inl y ↦ subst P y.1 (tt, (bytes_eq-Decides word (codes "^")).0 y.0)
          | inr y ↦ elim (chosen (bytes_eq word (codes "|")) Or _ op y.1) [
            | inl x ↦ subst P x.1 (tt, (bytes_eq-Decides word (codes "|")).0 x.0)
            | inr x ↦ let t = tested (bytes_eq word (codes "/*")) Note op x.1 in subst P t.1 (tt, (bytes_eq-Decides word (codes "/*")).0 t.0)
          ]
        ]
      ];
}

join_word : IsWord AnyJoin join_text
join_word = record { no_blank = λ op _. All-from_recursion (λ b. is_blank b ≡ false) (join_text op) (each op) }
  where
    each : (op : Join) → AllByRecursion (λ b. is_blank b ≡ false) (join_text op)
    each And = (refl, tt)
    each Xor = (refl, tt)
    each Or = (refl, tt)
    each Note = (refl, (refl, tt))

reference_word : (inputs gates : ℕ) → inputs + gates < 2 ^ 32 → IsWord (IsRefOver (inputs + gates)) (reference_text inputs)
reference_word inputs gates small = record { no_blank = λ r fits. each r fits }
  where
    each : (r : Ref) → IsRefOver (inputs + gates) r → All (λ b. is_blank b ≡ false) (reference_text inputs r)
    each (Const false) fits = All-from_recursion (λ b. is_blank b ≡ false) (codes "1'b0") (refl, (refl, (refl, (refl, tt))))
    each (Const true) fits = All-from_recursion (λ b. is_blank b ≡ false) (codes "1'b1") (refl, (refl, (refl, (refl, tt))))
    each (Signal n false) fits = (signal_word inputs gates small).no_blank n fits
    each (Signal n true) fits = All-cons (λ b. is_blank b ≡ false) 126 (signal_text inputs n) refl ((signal_word inputs gates small).no_blank n fits)

-- ---- what follows the operator

abbrev tail_text : ℕ → Tail → List ℕ
tail_text inputs (One r) = reference_text inputs r
tail_text inputs (Both p q) = signal_text inputs p ++ 32 ∷ (signal_text inputs q ++ codes " */")

abbrev FitsOne : ℕ → Tail → Type 0
FitsOne signals (One r) = IsRefOver signals r
FitsOne signals (Both p q) = ⊥

abbrev FitsBoth : ℕ → Tail → Type 0
FitsBoth signals (One r) = ⊥
FitsBoth signals (Both p q) = (p < signals) × (q < signals)

abbrev FitsTail : ℕ → Join → Tail → Type 0
FitsTail signals Note t = FitsBoth signals t
FitsTail signals And t = FitsOne signals t
FitsTail signals Xor t = FitsOne signals t
FitsTail signals Or t = FitsOne signals t

one_exact : (inputs gates : ℕ) → inputs + gates < 2 ^ 32 → IsExact (FitsOne (inputs + gates)) (tail_text inputs) (one_in inputs gates)
one_exact inputs gates small = exact-made one_of (FitsOne (inputs + gates)) (tail_text inputs) (reference_exact inputs gates small) from
    (λ r t fits e. subst (λ (y : Tail). FitsOne (inputs + gates) y × (tail_text inputs y ≡ reference_text inputs r)) (some_is (One r) t e) (fits, refl))
  where
    from : (t : Tail) → FitsOne (inputs + gates) t → (r : Ref) × IsRefOver (inputs + gates) r × (one_of r ≡ Some t) × (tail_text inputs t ≡ reference_text inputs r)
    from (One r) fits = (r, fits, refl, refl)
    from (Both p q) fits = absurd fits

abbrev both_text : ℕ → ℕ × ℕ → List ℕ
both_text inputs x = signal_text inputs x.0 ++ 32 ∷ (signal_text inputs x.1 ++ codes " */")

both_exact : (inputs gates : ℕ) → inputs + gates < 2 ^ 32 → IsExact (FitsBoth (inputs + gates)) (tail_text inputs) (both_in inputs gates)
both_exact inputs gates small =
    let signal = signal_exact inputs gates small in
    exact-made both_of (FitsBoth (inputs + gates)) (tail_text inputs) (exact-pair signal (signal_word inputs gates small) (λ _ _. exact-before (codes " */") signal)) from
    (λ x t fits e. subst (λ (y : Tail). FitsBoth (inputs + gates) y × (tail_text inputs y ≡ both_text inputs x)) (some_is (Both x.0 x.1) t e) (fits, refl))
  where
    from : (t : Tail) → FitsBoth (inputs + gates) t → (x : ℕ × ℕ) × ((x.0 < inputs + gates) × (x.1 < inputs + gates)) × (both_of x ≡ Some t) × (tail_text inputs t ≡ both_text inputs x)
    from (One r) fits = absurd fits
    from (Both p q) fits = ((p, q), fits, refl, refl)

tail_exact : (inputs gates : ℕ) (op : Join) → inputs + gates < 2 ^ 32 → IsExact (FitsTail (inputs + gates) op) (tail_text inputs) (tail_in inputs gates op)
unfolding tail_in
tail_exact inputs gates Note small = both_exact inputs gates small
tail_exact inputs gates And small = one_exact inputs gates small
tail_exact inputs gates Xor small = one_exact inputs gates small
tail_exact inputs gates Or small = one_exact inputs gates small

-- ---- the sixteen functions

abbrev Parts : Type 0
Parts = Ref × (Join × Tail)

abbrev PartsFit : ℕ → Parts → Type 0
PartsFit signals x = IsRefOver signals x.0 × (AnyJoin x.1.0 × FitsTail signals x.1.0 x.1.1)

abbrev parts_text : ℕ → Parts → List ℕ
parts_text inputs x = reference_text inputs x.0 ++ 32 ∷ (join_text x.1.0 ++ 32 ∷ tail_text inputs x.1.1)

abbrev pub function_of : ℕ → List (List ℕ) → Gate → List ℕ
function_of inputs names g = formula_text inputs names (table_formula g.table (wires.Signal g.j) (wires.Signal g.k)) ++ comment_text inputs names (comment_of (table_formula g.table (wires.Signal g.j) (wires.Signal g.k)) (wires.Signal g.j) (wires.Signal g.k))

abbrev gate_of : ℕ → ℕ → ℕ → Gate
gate_of j k t = record { j = j; k = k; table = t }

-- the parts that tell a gate
abbrev Told : ℕ → List (List ℕ) → ℕ → ℕ → ℕ → ℕ → Type 0
Told inputs names signals j k t = (x : Parts) × PartsFit signals x × (gate_from x ≡ Some (gate_of j k t)) × (function_of inputs names (gate_of j k t) ≡ parts_text inputs x)

in_order : (j k t : ℕ) → j < k → ordered j k t ≡ Some (gate_of j k t)
in_order j k t lt = rw (lt-ltb j k lt) refl

noted_first : (a : Bool) (j k : ℕ) → j < k → noted (Signal j a) j k ≡ Some (gate_of j k (cond a 3 12))
noted_first a j k lt = rw (eq-eqb j j refl, lt-ltb j k lt) refl

noted_second : (a : Bool) (j k : ℕ) → j < k → noted (Signal k a) j k ≡ Some (gate_of j k (cond a 5 10))
noted_second a j k lt = let differ : eqb k j ≡ false = ne_eqb k j (λ e. omega (arith, e)) in rw (differ, eq-eqb k k refl, lt-ltb j k lt) refl

told : (inputs : ℕ) (names : List (List ℕ)) (signals j k : ℕ) → j < k → k < signals → (t : ℕ) → t < 16 → Told inputs names signals j k t
told inputs names signals j k lower earlier = row
  where
    two : {t : ℕ} (op : Join) (a b : Bool) → FitsTail signals op (One (Signal k b)) → joined op (Signal j a) (Signal k b) ≡ Some (gate_of j k t)
        → function_of inputs names (gate_of j k t) ≡ parts_text inputs (Signal j a, (op, One (Signal k b))) ++ [] → Told inputs names signals j k t
    two op a b fits made text = ((Signal j a, (op, One (Signal k b))), (omega arith, (tt, fits)), made, text ∙ append-nil (parts_text inputs (Signal j a, (op, One (Signal k b)))))

    one : {t : ℕ} (r : Ref) → IsRefOver signals r → noted r j k ≡ Some (gate_of j k t)
        → function_of inputs names (gate_of j k t) ≡ parts_text inputs (r, (Note, Both j k)) → Told inputs names signals j k t
    one r over made text = ((r, (Note, Both j k)), (over, (tt, (omega arith, earlier))), made, text)

    row : (t : ℕ) → t < 16 → Told inputs names signals j k t
    row zero lt = one (Const false) tt (in_order j k 0 lower) refl
    row (suc zero) lt = two And true true earlier (in_order j k 1 lower) refl
    row (suc (suc zero)) lt = two And true false earlier (in_order j k 2 lower) refl
    row (suc (suc (suc zero))) lt = one (Signal j true) (omega arith) (noted_first true j k lower) refl
    row (suc (suc (suc (suc zero)))) lt = two And false true earlier (in_order j k 4 lower) refl
    row (suc (suc (suc (suc (suc zero))))) lt = one (Signal k true) earlier (noted_second true j k lower) refl
    row (suc (suc (suc (suc (suc (suc zero)))))) lt = two Xor false false earlier (in_order j k 6 lower) refl
    row (suc (suc (suc (suc (suc (suc (suc zero))))))) lt = two Or true true earlier (in_order j k 7 lower) refl
    row (suc (suc (suc (suc (suc (suc (suc (suc zero)))))))) lt = two And false false earlier (in_order j k 8 lower) refl
    row (suc (suc (suc (suc (suc (suc (suc (suc (suc zero))))))))) lt = two Xor false true earlier (in_order j k 9 lower) refl
    row (suc (suc (suc (suc (suc (suc (suc (suc (suc (suc zero)))))))))) lt = one (Signal k false) earlier (noted_second false j k lower) refl
    row (suc (suc (suc (suc (suc (suc (suc (suc (suc (suc (suc zero))))))))))) lt = two Or true false earlier (in_order j k 11 lower) refl
    row (suc (suc (suc (suc (suc (suc (suc (suc (suc (suc (suc (suc zero)))))))))))) lt = one (Signal j false) (omega arith) (noted_first false j k lower) refl
    row (suc (suc (suc (suc (suc (suc (suc (suc (suc (suc (suc (suc (suc zero))))))))))))) lt = two Or false true earlier (in_order j k 13 lower) refl
    row (suc (suc (suc (suc (suc (suc (suc (suc (suc (suc (suc (suc (suc (suc zero)))))))))))))) lt = two Or false false earlier (in_order j k 14 lower) refl
    row (suc (suc (suc (suc (suc (suc (suc (suc (suc (suc (suc (suc (suc (suc (suc zero))))))))))))))) lt = one (Const true) tt (in_order j k 15 lower) refl
    row (suc (suc (suc (suc (suc (suc (suc (suc (suc (suc (suc (suc (suc (suc (suc (suc t)))))))))))))))) lt = absurd (omega arith)

-- a gate that was made of parts
abbrev Made : ℕ → List (List ℕ) → ℕ → Parts → Gate → Type 0
Made inputs names signals x g = IsGateBelow signals g × (function_of inputs names g ≡ parts_text inputs x)

made_of_order : (inputs : ℕ) (names : List (List ℕ)) (signals : ℕ) (x : Parts) (j k t : ℕ) (g : Gate) → k < signals → t < 16 → function_of inputs names (gate_of j k t) ≡ parts_text inputs x → ordered j k t ≡ Some g → Made inputs names signals x g
made_of_order inputs names signals x j k t g earlier small text e =
    let h = tested (ltb j k) (gate_of j k t) g e in
    subst (Made inputs names signals x) h.1 (record { lower = ltb-true j k h.0; earlier = earlier; table = small }, text)

made_joined : (inputs : ℕ) (names : List (List ℕ)) (signals : ℕ) (op : Join) (j k : ℕ) (a b : Bool) (g : Gate) → k < signals → joined op (Signal j a) (Signal k b) ≡ Some g → Made inputs names signals (Signal j a, (op, One (Signal k b))) g
made_joined inputs names signals And j k false false g lt e = made_of_order inputs names signals (Signal j false, (And, One (Signal k false))) j k 8 g lt (lit< tt) (append-nil (parts_text inputs (Signal j false, (And, One (Signal k false))))) e
made_joined inputs names signals And j k false true g lt e = made_of_order inputs names signals (Signal j false, (And, One (Signal k true))) j k 4 g lt (lit< tt) (append-nil (parts_text inputs (Signal j false, (And, One (Signal k true))))) e
made_joined inputs names signals And j k true false g lt e = made_of_order inputs names signals (Signal j true, (And, One (Signal k false))) j k 2 g lt (lit< tt) (append-nil (parts_text inputs (Signal j true, (And, One (Signal k false))))) e
made_joined inputs names signals And j k true true g lt e = made_of_order inputs names signals (Signal j true, (And, One (Signal k true))) j k 1 g lt (lit< tt) (append-nil (parts_text inputs (Signal j true, (And, One (Signal k true))))) e
made_joined inputs names signals Xor j k false false g lt e = made_of_order inputs names signals (Signal j false, (Xor, One (Signal k false))) j k 6 g lt (lit< tt) (append-nil (parts_text inputs (Signal j false, (Xor, One (Signal k false))))) e
made_joined inputs names signals Xor j k false true g lt e = made_of_order inputs names signals (Signal j false, (Xor, One (Signal k true))) j k 9 g lt (lit< tt) (append-nil (parts_text inputs (Signal j false, (Xor, One (Signal k true))))) e
made_joined inputs names signals Xor j k true b g lt e = absurd cc
made_joined inputs names signals Or j k false false g lt e = made_of_order inputs names signals (Signal j false, (Or, One (Signal k false))) j k 14 g lt (lit< tt) (append-nil (parts_text inputs (Signal j false, (Or, One (Signal k false))))) e
made_joined inputs names signals Or j k false true g lt e = made_of_order inputs names signals (Signal j false, (Or, One (Signal k true))) j k 13 g lt (lit< tt) (append-nil (parts_text inputs (Signal j false, (Or, One (Signal k true))))) e
made_joined inputs names signals Or j k true false g lt e = made_of_order inputs names signals (Signal j true, (Or, One (Signal k false))) j k 11 g lt (lit< tt) (append-nil (parts_text inputs (Signal j true, (Or, One (Signal k false))))) e
made_joined inputs names signals Or j k true true g lt e = made_of_order inputs names signals (Signal j true, (Or, One (Signal k true))) j k 7 g lt (lit< tt) (append-nil (parts_text inputs (Signal j true, (Or, One (Signal k true))))) e
made_joined inputs names signals Note j k a b g lt e = absurd cc

made_noted : (inputs : ℕ) (names : List (List ℕ)) (signals : ℕ) (r : Ref) (p q : ℕ) (g : Gate) → q < signals → noted r p q ≡ Some g → Made inputs names signals (r, (Note, Both p q)) g
made_noted inputs names signals (Const false) p q g lt e = made_of_order inputs names signals (Const false, (Note, Both p q)) p q 0 g lt (lit< tt) refl e
made_noted inputs names signals (Const true) p q g lt e = made_of_order inputs names signals (Const true, (Note, Both p q)) p q 15 g lt (lit< tt) refl e
made_noted inputs names signals (Signal n a) p q g lt e = either (eqb n p) refl (eqb n q) refl a e
  where
    M : ℕ → Bool → Type 0
    M m a = Made inputs names signals (Signal m a, (Note, Both p q)) g

    either : (b : Bool) → b ≡ eqb n p → (c : Bool) → c ≡ eqb n q → (a : Bool) → cond b (ordered p q (cond a 3 12)) (cond c (ordered p q (cond a 5 10)) None) ≡ Some g → M n a
    either true first c second true h = subst (λ (m : ℕ). M m true) (sym (eqb-true n p (sym first))) (made_of_order inputs names signals (Signal p true, (Note, Both p q)) p q 3 g lt (lit< tt) refl h)
    either true first c second false h = subst (λ (m : ℕ). M m false) (sym (eqb-true n p (sym first))) (made_of_order inputs names signals (Signal p false, (Note, Both p q)) p q 12 g lt (lit< tt) refl h)
    either false first true second true h = subst (λ (m : ℕ). M m true) (sym (eqb-true n q (sym second))) (made_of_order inputs names signals (Signal q true, (Note, Both p q)) p q 5 g lt (lit< tt) refl h)
    either false first true second false h = subst (λ (m : ℕ). M m false) (sym (eqb-true n q (sym second))) (made_of_order inputs names signals (Signal q false, (Note, Both p q)) p q 10 g lt (lit< tt) refl h)
    either false first false second a h = absurd cc

made : (inputs : ℕ) (names : List (List ℕ)) (signals : ℕ) (r : Ref) (op : Join) (t : Tail) (g : Gate) → PartsFit signals (r, (op, t)) → gate_from (r, (op, t)) ≡ Some g → Made inputs names signals (r, (op, t)) g
made inputs names signals r Note (Both p q) g fits e = made_noted inputs names signals r p q g fits.1.1.1 e
made inputs names signals r Note (One s) g fits e = absurd fits.1.1
made inputs names signals r And (Both p q) g fits e = absurd fits.1.1
made inputs names signals r Xor (Both p q) g fits e = absurd fits.1.1
made inputs names signals r Or (Both p q) g fits e = absurd fits.1.1
made inputs names signals (Const a) And (One s) g fits e = absurd cc
made inputs names signals (Const a) Xor (One s) g fits e = absurd cc
made inputs names signals (Const a) Or (One s) g fits e = absurd cc
made inputs names signals (Signal j a) And (One (Const b)) g fits e = absurd cc
made inputs names signals (Signal j a) Xor (One (Const b)) g fits e = absurd cc
made inputs names signals (Signal j a) Or (One (Const b)) g fits e = absurd cc
made inputs names signals (Signal j a) And (One (Signal k b)) g fits e = made_joined inputs names signals And j k a b g fits.1.1 e
made inputs names signals (Signal j a) Xor (One (Signal k b)) g fits e = made_joined inputs names signals Xor j k a b g fits.1.1 e
made inputs names signals (Signal j a) Or (One (Signal k b)) g fits e = made_joined inputs names signals Or j k a b g fits.1.1 e

pub function_exact : (inputs gates : ℕ) (names : List (List ℕ)) → inputs + gates < 2 ^ 32 → IsExact (IsGateBelow (inputs + gates)) (function_of inputs names) (function_in inputs gates)
unfolding function_in
function_exact inputs gates names small =
    exact-made gate_from (IsGateBelow (inputs + gates)) (function_of inputs names)
    (exact-pair (reference_exact inputs gates small) (reference_word inputs gates small) (λ _ _. exact-pair join_exact join_word (λ op _. tail_exact inputs gates op small)))
    (λ g fits. told inputs names (inputs + gates) g.j g.k fits.lower fits.earlier g.table fits.table)
    (λ x g fits e. made inputs names (inputs + gates) x.0 x.1.0 x.1.1 g fits e)

-- ---- the line

abbrev pub gate_text : ℕ → List (List ℕ) → ℕ → Gate → List ℕ
gate_text inputs names g gate = equation_row inputs names (gate_equation inputs g gate)

abbrev line_text : ℕ → List (List ℕ) → ℕ × Gate → List ℕ
line_text inputs names x = decimal x.0 ++ 32 ∷ (codes "= " ++ (function_of inputs names x.1 ++ codes ";"))

gate_wire : (inputs g : ℕ) → signal_text inputs (inputs + g) ≡ codes "g" ++ decimal g
gate_wire inputs g =
    let t : ltb (inputs + g) inputs ≡ false = le-ltb (inputs + g) inputs (omega arith) in
    let d : (inputs + g) - inputs ≡ g = omega arith in
    rw (t, d) refl

gate_same : (inputs : ℕ) (names : List (List ℕ)) (g : ℕ) (gate : Gate) → codes "  assign g" ++ line_text inputs names (g, gate) ≡ gate_text inputs names g gate
gate_same inputs names g gate =
    ap (λ (z : List ℕ). codes "  assign g" ++ (decimal g ++ (codes " = " ++ z))) (append_assoc (formula_text inputs names (gate_equation inputs g gate).formula) (comment_text inputs names (gate_equation inputs g gate).comment) (codes ";"))
    ∙ ap (λ (w : List ℕ). codes "  assign " ++ (w ++ (codes " = " ++ (formula_text inputs names (gate_equation inputs g gate).formula ++ (comment_text inputs names (gate_equation inputs g gate).comment ++ codes ";"))))) (sym (gate_wire inputs g))

pub gate_exact : (inputs g : ℕ) (names : List (List ℕ)) → inputs + g < 2 ^ 31 → IsExact (IsGateBelow (inputs + g)) (gate_text inputs names g) (gate_in inputs g)
unfolding gate_in
gate_exact inputs g names small =
    exact-same (gate_text inputs names g) (λ gate _. gate_same inputs names g gate)
    (exact-behind (codes "  assign g")
    (exact-made (gate_with g) (IsGateBelow (inputs + g)) (λ gate. line_text inputs names (g, gate))
    (exact-pair (number_exact (g + 1) (omega arith)) (decimal_word (g + 1) (omega arith)) (λ _ _. exact-behind (codes "= ") (exact-before (codes ";") (function_exact inputs g names (omega arith)))))
    (λ gate fits. ((g, gate), (omega arith, fits), rw (eq-eqb g g refl) refl, refl))
    (λ x gate fits e.
    let h = tested (eqb x.0 g) x.1 gate e in
    subst (λ (y : Gate). IsGateBelow (inputs + g) y × (line_text inputs names (g, y) ≡ line_text inputs names x)) h.1
    (fits.1, ap (λ (n : ℕ). line_text inputs names (n, x.1)) (sym (eqb-true x.0 g h.0))))))
