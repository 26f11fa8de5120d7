-- The line of a gate tells its table and its two signals.
use Rattle.std.proofs.Common.{◌≡◌, ℕ, zero, suc, ◌+◌, ◌^◌, ◌<◌, ◌≤◌, Bool, true, false, cond, eqb, eq-eqb, Some, not, ◌&&◌, ◌||◌, List, ◌∷◌, ◌++◌, refl, sym, ap, ◌∙◌, arith, append_assoc}
use Rattle.std.specs.Prelude.{codes}
use Rattle.std.proofs.lemmas.Bool.{ne_eqb}
use Rattle.std.proofs.lemmas.List.{append_cancel_left}
use Rattle.std.proofs.lemmas.Nat.Bits.{same_from_bits_below, bit_at-lt}
use Rattle.cpog_defs.specs.declared.types.Gate.{Gate}
use Rattle.cpog_defs.specs.declared.types.Ref.{Ref}
use Rattle.cpog_defs.specs.declared.types.Ref.TheVariants as references
use Rattle.cpog_defs.specs.declared.types.Ref.TheVariants.{Const}
use Rattle.cpog_defs.specs.Codes.{bit}
use Rattle.cpog_defs.specs.Gates.{IsRefOver}
use Rattle.gate_core.proofs.GateLemmas.{gate_by_parts}
use Rattle.line_text.proofs.TellingLemmas.{apart, heads, tails}
use Rattle.netlist_verilog.specs.Wires.{Signal, signal_text, wire_text}
use Rattle.netlist_verilog.specs.Formulas.{Formula, formula_text, comment_text, equation_row}
use Rattle.netlist_verilog.specs.Equations.{gate_formula, comment_of, gate_equation}
use Rattle.netlist_verilog.proofs.WordLemmas.{ref_text, ref_told, signal_told}

-- the right side of a gate: a reference with a comment of both signals, or two references with an operator between them
data Shape : Type 0 where
  Alone : Ref → ℕ → ℕ → Shape
  Joined : ℕ → Ref → Ref → Shape

abbrev shape_text : ℕ → List (List ℕ) → Shape → List ℕ
shape_text inputs names (Alone r p q) = ref_text inputs names r ++ (codes " /* " ++ (signal_text inputs p ++ (codes " " ++ (signal_text inputs q ++ codes " */;"))))
shape_text inputs names (Joined op r s) = ref_text inputs names r ++ (32 ∷ op ∷ 32 ∷ (ref_text inputs names s ++ codes ";"))

-- no operator is the slash (47) with which a comment begins
abbrev FitsShape : ℕ → Shape → Type 0
FitsShape signals (Alone r p q) = IsRefOver signals r × (p < signals) × (q < signals)
FitsShape signals (Joined op r s) = (eqb op 47 ≡ false) × IsRefOver signals r × IsRefOver signals s

no_operator : (op : ℕ) → eqb op 47 ≡ false → op ≡ 47 → ⊥
no_operator op h e = apart (eqb op 47) (eqb op 47) (eq-eqb op 47 e) h refl

same_alone : (r s : Ref) (p q m n : ℕ) → r ≡ s → p ≡ m → q ≡ n → Alone r p q ≡ Alone s m n
same_alone r s p q m n a b c = λ i. Alone (a i) (b i) (c i)

same_joined : (o p : ℕ) (r s t u : Ref) → o ≡ p → r ≡ t → s ≡ u → Joined o r s ≡ Joined p t u
same_joined o p r s t u a b c = λ i. Joined (a i) (b i) (c i)

shape_told : (inputs : ℕ) (names : List (List ℕ)) (signals : ℕ) (s t : Shape) → signals ≤ 2 ^ 64 →
    FitsShape signals s → FitsShape signals t → shape_text inputs names s ≡ shape_text inputs names t → s ≡ t
shape_told inputs names signals (Alone r p q) (Alone s m n) fit hs ht e =
    let first = ref_told inputs names signals r s 32 _ _ fit hs.0 ht.0 refl e in
    let second = signal_told inputs p m 32 _ _ (omega (arith, hs.1, fit)) (omega (arith, ht.1, fit)) refl (tails 32 32 _ _ (tails 42 42 _ _ (tails 47 47 _ _ first.1))) in
    let third = signal_told inputs q n 32 _ _ (omega (arith, hs.2, fit)) (omega (arith, ht.2, fit)) refl second.1 in
    same_alone r s p q m n first.0 second.0 third.0
shape_told inputs names signals (Alone r p q) (Joined op t u) fit hs ht e = absurd (no_operator op ht.0 (sym (heads 47 op _ _ ((ref_told inputs names signals r t 32 _ _ fit hs.0 ht.1 refl e).1))))
shape_told inputs names signals (Joined op r s) (Alone t m n) fit hs ht e = absurd (no_operator op hs.0 (heads op 47 _ _ ((ref_told inputs names signals r t 32 _ _ fit hs.1 ht.0 refl e).1)))
shape_told inputs names signals (Joined op r s) (Joined op' t u) fit hs ht e =
    let first = ref_told inputs names signals r t 32 _ _ fit hs.1 ht.1 refl e in
    let second = ref_told inputs names signals s u 59 _ _ fit hs.2 ht.2 refl (tails 32 32 _ _ (tails op op' _ _ first.1)) in
    same_joined op op' r s t u (heads op op' _ _ first.1) first.0 second.0

-- ---- what a shape stands for

-- the values of a gate at 00, 01, 10 and 11, and its two signals
abbrev Parts : Type 0
Parts = Bool × Bool × Bool × Bool × ℕ × ℕ

-- of one of the two signals, the first or the second
abbrev one_parts : Bool → Bool → ℕ → ℕ → Parts
one_parts true a p q = (a, a, not a, not a, p, q)
one_parts false a p q = (a, not a, a, not a, p, q)

-- & is 38, ^ is 94, and | is 124
abbrev operate : ℕ → Bool → Bool → Bool
operate op x y = cond (eqb op 38) (x && y) (cond (eqb op 94) (cond x (not y) y) (x || y))

abbrev two_parts : ℕ → Ref → Ref → Parts
two_parts op (references.Signal p a) (references.Signal q b) = (operate op a b, operate op a (not b), operate op (not a) b, operate op (not a) (not b), p, q)
two_parts op (references.Signal p a) (Const b) = (b, b, b, b, p, p)
two_parts op (Const a) s = (a, a, a, a, 0, 0)

abbrev parts_of : Shape → Parts
parts_of (Alone (Const b) p q) = (b, b, b, b, p, q)
parts_of (Alone (references.Signal n a) p q) = one_parts (eqb n p) a p q
parts_of (Joined op r s) = two_parts op r s

-- ---- the shape of each function

abbrev shown : ℕ → List (List ℕ) → Formula → ℕ → ℕ → List ℕ
shown inputs names f j k = formula_text inputs names f ++ (comment_text inputs names (comment_of f (Signal j) (Signal k)) ++ codes ";")

record IsShaped (inputs : ℕ) (names : List (List ℕ)) (signals : ℕ) (b0 b1 b2 b3 : Bool) (j k : ℕ) : Type 0 where
  shape : Shape
  fits : FitsShape signals shape
  text : shown inputs names (gate_formula b0 b1 b2 b3 (Signal j) (Signal k)) j k ≡ shape_text inputs names shape
  parts : parts_of shape ≡ (b0, b1, b2, b3, j, k)

alone_text : (r p q : List ℕ) → r ++ ((codes " /* " ++ (p ++ (codes " " ++ (q ++ codes " */")))) ++ codes ";") ≡ r ++ (codes " /* " ++ (p ++ (codes " " ++ (q ++ codes " */;"))))
alone_text r p q = ap (λ z. r ++ (codes " /* " ++ z)) (append_assoc p (codes " " ++ (q ++ codes " */")) (codes ";") ∙ ap (λ z. p ++ (codes " " ++ z)) (append_assoc q (codes " */") (codes ";")))

first_alone : (a : Bool) (j k : ℕ) → parts_of (Alone (references.Signal j a) j k) ≡ (a, a, not a, not a, j, k)
first_alone a j k = ap (λ t. one_parts t a j k) (eq-eqb j j refl)

second_alone : (a : Bool) (j k : ℕ) → j < k → parts_of (Alone (references.Signal k a) j k) ≡ (a, not a, a, not a, j, k)
second_alone a j k lower = ap (λ t. one_parts t a j k) (ne_eqb k j (λ e. omega (arith, e)))

shaped : (inputs : ℕ) (names : List (List ℕ)) (signals : ℕ) (b0 b1 b2 b3 : Bool) (j k : ℕ) → j < k → k < signals → IsShaped inputs names signals b0 b1 b2 b3 j k
shaped inputs names signals b0 b1 b2 b3 j k lower earlier = row b0 b1 b2 b3
  where
    one : {b0 b1 b2 b3 : Bool} (r : Ref) → IsRefOver signals r → parts_of (Alone r j k) ≡ (b0, b1, b2, b3, j, k)
        → shown inputs names (gate_formula b0 b1 b2 b3 (Signal j) (Signal k)) j k ≡ ref_text inputs names r ++
        (comment_text inputs names (Some (Signal j, Signal k)) ++ codes ";") →
        IsShaped inputs names signals b0 b1 b2 b3 j k
    one r over parts text =
        record { shape = Alone r j k; fits = (over, omega arith, earlier); text = text ∙ alone_text (ref_text inputs names r) (signal_text inputs j) (signal_text inputs k); parts = parts }

    two : {b0 b1 b2 b3 : Bool} (op : ℕ) (a b : Bool) → eqb op 47 ≡ false → two_parts op (references.Signal j a) (references.Signal k b) ≡ (b0, b1, b2, b3, j, k)
        → shown inputs names (gate_formula b0 b1 b2 b3 (Signal j) (Signal k)) j k ≡
        (ref_text inputs names (references.Signal j a) ++
        (32 ∷ op ∷ 32 ∷ ref_text inputs names (references.Signal k b))) ++ codes ";" →
        IsShaped inputs names signals b0 b1 b2 b3 j k
    two op a b not_comment parts text = record {
      shape = Joined op (references.Signal j a) (references.Signal k b);
      fits = (not_comment, omega arith, earlier);
      text = text ∙ append_assoc (ref_text inputs names (references.Signal j a)) (32 ∷ op ∷ 32 ∷ ref_text inputs names (references.Signal k b)) (codes ";");
      parts = parts;
    }

    row : (b0 b1 b2 b3 : Bool) → IsShaped inputs names signals b0 b1 b2 b3 j k
    row false false false false = one (Const false) tt refl refl
    row false false false true = two 38 false false refl refl refl
    row false false true false = two 38 false true refl refl refl
    row false false true true = one (references.Signal j false) (omega arith) (first_alone false j k) refl
    row false true false false = two 38 true false refl refl refl
    row false true false true = one (references.Signal k false) earlier (second_alone false j k lower) refl
    row false true true false = two 94 false false refl refl refl
    row false true true true = two 124 false false refl refl refl
    row true false false false = two 38 true true refl refl refl
    row true false false true = two 94 false true refl refl refl
    row true false true false = one (references.Signal k true) earlier (second_alone true j k lower) refl
    row true false true true = two 124 false true refl refl refl
    row true true false false = one (references.Signal j true) (omega arith) (first_alone true j k) refl
    row true true false true = two 124 true false refl refl refl
    row true true true false = two 124 true true refl refl refl
    row true true true true = one (Const true) tt refl refl

-- ---- a gate

pub same_bit : (x y : ℕ) → x < 2 → y < 2 → eqb x 1 ≡ eqb y 1 → x ≡ y
same_bit zero zero hx hy e = refl
same_bit zero (suc zero) hx hy e = absurd cc
same_bit zero (suc (suc y)) hx hy e = absurd (omega arith)
same_bit (suc zero) zero hx hy e = absurd cc
same_bit (suc zero) (suc zero) hx hy e = refl
same_bit (suc zero) (suc (suc y)) hx hy e = absurd (omega arith)
same_bit (suc (suc x)) y hx hy e = absurd (omega arith)

four : (P : ℕ → Type 0) → P 0 → P 1 → P 2 → P 3 → (i : ℕ) → i < 4 → P i
four P p0 p1 p2 p3 zero lt = p0
four P p0 p1 p2 p3 (suc zero) lt = p1
four P p0 p1 p2 p3 (suc (suc zero)) lt = p2
four P p0 p1 p2 p3 (suc (suc (suc zero))) lt = p3
four P p0 p1 p2 p3 (suc (suc (suc (suc i)))) lt = absurd (omega arith)

table_is : (t u : ℕ) → t < 16 → u < 16 → bit t 0 ≡ bit u 0 → bit t 1 ≡ bit u 1 → bit t 2 ≡ bit u 2 → bit t 3 ≡ bit u 3 → t ≡ u
table_is t u ht hu e0 e1 e2 e3 = same_from_bits_below 4 t u ht hu (λ i lt. same_bit _ _ (bit_at-lt t i) (bit_at-lt u i) (four (λ i. bit t i ≡ bit u i) e0 e1 e2 e3 i lt))

pub record IsGateBelow (signals : ℕ) (g : Gate) : Type 0 where
  pub lower : g.j < g.k
  pub earlier : g.k < signals
  pub table : g.table < 16

pub gate_told : (inputs : ℕ) (names : List (List ℕ)) (signals i : ℕ) (g h : Gate) → signals ≤ 2 ^ 64 → IsGateBelow signals g → IsGateBelow signals h
    → equation_row inputs names (gate_equation inputs i g) ≡ equation_row inputs names (gate_equation inputs i h) → g ≡ h
gate_told inputs names signals i g h fit hg hh e =
    let sg = shaped inputs names signals (bit g.table 0) (bit g.table 1) (bit g.table 2) (bit g.table 3) g.j g.k hg.lower hg.earlier in
    let sh = shaped inputs names signals (bit h.table 0) (bit h.table 1) (bit h.table 2) (bit h.table 3) h.j h.k hh.lower hh.earlier in
    let text = append_cancel_left (codes " = ") _ _ (append_cancel_left (wire_text inputs names (Signal (inputs + i))) _ _ (append_cancel_left (codes "  assign ") _ _ e)) in
    let shape = shape_told inputs names signals sg.shape sh.shape fit sg.fits sh.fits (sym sg.text ∙ text ∙ sh.text) in
    let parts = sym sg.parts ∙ ap parts_of shape ∙ sh.parts in
    gate_by_parts g h (ap (λ (p : Parts). p.4) parts) (ap (λ (p : Parts). p.5) parts)
    (table_is g.table h.table hg.table hh.table (ap (λ (p : Parts). p.0) parts) (ap (λ (p : Parts). p.1) parts) (ap (λ (p : Parts). p.2) parts) (ap (λ (p : Parts). p.3) parts))
