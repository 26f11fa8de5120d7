-- What is read from an assignment.
use Rattle.std.proofs.Common.{◌≡◌, ℕ, suc, ◌+◌, ◌*◌, ◌^◌, ◌<◌, ◌≤◌, Bool, true, false, if◌then◌else◌, IsTrue, List, [], ◌∷◌, ◌++◌, length, get_or, All, sym, ap, ◌∙◌, subst, inl, inr, arith, add-one}
use Rattle.std.proofs.lemmas.Bool.{both_ways, cases_eq}
use Rattle.std.proofs.lemmas.List.{get_or_append_left, get_or_at}
use Rattle.cpog_defs.specs.declared.types.Bit3.{Bit3}
use Rattle.cpog_defs.specs.declared.types.Gate.{Gate}
use Rattle.cpog_defs.specs.declared.types.Ref.{Ref}
use Rattle.cpog_defs.specs.declared.types.Ref.TheVariants.{Const}
use Rattle.cpog_defs.specs.Codes.{bit}
use Rattle.cpog_defs.specs.Gates.{GateList}
use Rattle.clause_arena.specs.Clauses.{Satisfies, by_place}
use Rattle.gate_forms.specs.Forms.{idle_gate}
use Rattle.gate_template.specs.declared.types.Shape.{Shape}
use Rattle.gate_template.specs.declared.types.Template.{Template}
use Rattle.gate_template.specs.Variables.{Var, Sel, O}
use Rattle.gate_template.specs.Families.{some_pair, some_signal, one_gate, gate_clauses, one_class, class_clauses}
use Rattle.gate_template.specs.Templates.{shape_of, named_template, template}
use Rattle.gate_template.specs.Values.{IsSolution}
use Rattle.gate_template.proofs.ClauseLemmas.{NamedSat, named_true, sat_below, any_below_one, any_pair_one, by_name, named_from}
use Rattle.gate_template.proofs.DecodeLemmas.{number_from, number_from-lt, code, bit-code, IsGateRead, AreGatesRead, IsRefRead}
use Rattle.gate_template.specs.Listed.{listed}
use Rattle.gate_template.proofs.ListedLemmas.{get_or-listed}
use Rattle.gate_template.proofs.LiftLemmas.{sat_gates, sat_classes}
use Rattle.gate_template.proofs.BothWaysLemmas.{decoded_serves}
use Rattle.cnf_build.specs.Decoded.{parts_of, value_in, IsFirstFrom, IsFirstPair, IsFirstGate, IsFirstRef, IsDecoded}

-- ---- one step of a loop

pub no_bit : (f : ℕ → Bool) (x : ℕ) → x ≡ 0 → x ≡ number_from 0 f
unfolding number_from
no_bit f x e = e

pub one_more_bit : (f : ℕ → Bool) (n x y : ℕ) (b : Bool) → x ≡ number_from n f → b ≡ f n → y ≡ (if b then 1 else 0) * 2 ^ n + x → y ≡ number_from (n + 1) f
unfolding number_from
one_more_bit f n x y b h e k = k ∙ ap (λ c. (if c then 1 else 0) * 2 ^ n + x) e ∙ ap (λ m. (if f n then 1 else 0) * 2 ^ n + m) h ∙ ap (λ m. number_from m f) (sym (add-one n))

pub bits_below : (f : ℕ → Bool) (n x : ℕ) → x ≡ number_from n f → x < 2 ^ n
bits_below f n x h = subst (λ k. k < 2 ^ n) (sym h) (number_from-lt n f)

pub none_listed : {A : Type 0} (f : ℕ → A) (xs : List A) → xs ≡ [] → xs ≡ listed f 0
unfolding listed
none_listed f xs e = e

pub one_more_listed : {A : Type 0} (f : ℕ → A) (n : ℕ) (xs ys : List A) (x : A) → xs ≡ listed f n → x ≡ f n → ys ≡ xs ++ x ∷ [] → ys ≡ listed f (n + 1)
unfolding listed
one_more_listed f n xs ys x h e k = k ∙ ap (λ y. xs ++ y ∷ []) e ∙ ap (λ l. l ++ f n ∷ []) h ∙ ap (listed f) (sym (add-one n))

-- what holds of each item of a list, and of one more
pub one_more_item : {A : Type 0} (P : ℕ → A → Type 0) (xs ys : List A) (x d : A) (n : ℕ) → ys ≡ xs ++ x ∷ [] → length xs ≡ n → ((k : ℕ) → k < n → P k (get_or xs k d)) → P n x → (k : ℕ) → k < n + 1 → P k (get_or ys k d)
one_more_item P xs ys x d n e size each last k l = elim (cases_eq k n) [
  | inl same ↦ subst (λ (y : _). P k y) (sym (ap (λ v. get_or v k d) e ∙ get_or_at xs x [] d k (omega (arith, same, size)))) (subst (λ m. P m x) (sym same) last)
  | inr other ↦ subst (λ (y : _). P k y) (sym (ap (λ v. get_or v k d) e ∙ get_or_append_left xs (x ∷ []) d k (omega (arith, size)))) (each k (omega arith))
]

-- nothing up to n passes, nor n
pub one_more_false : (p : ℕ → Bool) (start n : ℕ) (b : Bool) → b ≡ p n → b ≡ false → ((m : ℕ) → start ≤ m → m < n → p m ≡ false) → (m : ℕ) → start ≤ m → m < n + 1 → p m ≡ false
one_more_false p start n b e f none m s l = elim (cases_eq m n) [
  | inl same ↦ ap p same ∙ sym e ∙ f
  | inr other ↦ none m s (omega arith)
]

pub found_first : (p : ℕ → Bool) (start n k : ℕ) (b : Bool) → b ≡ p k → b ≡ true → start ≤ k → k < n → ((m : ℕ) → start ≤ m → m < k → p m ≡ false) → IsFirstFrom p start n k
found_first p start n k b e t a l none = record { above = a; within = omega arith; before = none; found = λ m. sym e ∙ t }

pub none_first : (p : ℕ → Bool) (start n : ℕ) → start ≤ n → ((m : ℕ) → start ≤ m → m < n → p m ≡ false) → IsFirstFrom p start n n
none_first p start n a none = record { above = a; within = omega arith; before = none; found = λ m. absurd (omega arith) }

-- one more row of pairs without one that passes
pub one_more_row : (p : ℕ → ℕ → Bool) (n j k : ℕ) → IsFirstFrom (p j) (j + 1) n k → n ≤ k → ((a b : ℕ) → a < j → a < b → b < n → p a b ≡ false) → (a b : ℕ) → a < j + 1 → a < b → b < n → p a b ≡ false
one_more_row p n j k first past none a b la ab bn = elim (cases_eq a j) [
  | inl same ↦ ap (λ i. p i b) same ∙ first.before b (omega arith) (omega arith)
  | inr other ↦ none a b (omega arith) ab bn
]

pub found_pair : (p : ℕ → ℕ → Bool) (n j k : ℕ) → IsFirstFrom (p j) (j + 1) n k → k < n → ((a b : ℕ) → a < j → a < b → b < n → p a b ≡ false) → IsFirstPair p n j k
found_pair p n j k first l none = record {
  lower = omega (arith, first.above);
  within = l;
  passes = first.found l;
  in_row = λ b jb bk. first.before b (omega arith) bk;
  rows_before = none;
}

-- some pair passes
pub some_passes : (w : Var → Bool) (z : Shape) (g : ℕ) → IsTrue (named_true w (some_pair z g)) → ((a b : ℕ) → a < z.bits + g → a < b → b < z.bits + g → w (Sel g a b) ≡ false) → ⊥
some_passes w z g some none =
    let c = any_pair_one w (z.bits + g) (λ j k. Sel g j k) some in
    both_ways _ (none c.0 c.1 (omega (arith, c.2, c.3)) c.2 c.3) c.4

-- some signal passes, so the first is one
pub signal_within : (w : Var → Bool) (z : Shape) (c m : ℕ) → IsTrue (named_true w (some_signal z c)) → IsFirstFrom (λ n. w (O c n)) 0 (z.bits + z.gates) m → m < z.bits + z.gates
signal_within w z c m some first =
    let s = any_below_one w (z.bits + z.gates) (λ n. O c n) some in
    elim (cases_eq m (z.bits + z.gates)) [
      | inl same ↦ absurd (both_ways _ (first.before s.0 (omega arith) (omega (arith, s.1, same))) s.2)
      | inr other ↦ omega (arith, first.within)
    ]

-- ---- all together

-- what was read
pub record AreRead (assignment : List Bool) (y : Shape) (cs : List ℕ) (list : GateList) (refs : List Ref) : Type 0 where
  pub codes : cs ≡ listed (code (value_in assignment y) y) y.scenarios
  pub inputs : list.inputs ≡ y.bits
  pub gates_each : length list.gates ≡ y.gates
  pub gates : (g : ℕ) → g < y.gates → IsFirstGate (value_in assignment y) y g (get_or list.gates g idle_gate)
  pub refs_each : length refs ≡ y.classes
  pub refs_are : (c : ℕ) → c < y.classes → IsFirstRef (value_in assignment y) y c (get_or refs c (Const false))

gate_is_read : (w : Var → Bool) (z : Shape) (h : ℕ) (gate : Gate) → IsFirstGate w z h gate → IsGateRead w z h gate
gate_is_read w z h gate f = record { lower = f.pair.lower; earlier = f.pair.within; selected = f.pair.passes; table = f.table }

gates_are_read : (w : Var → Bool) (z : Shape) (h : ℕ) (gates : List Gate) → ((g : ℕ) → g < length gates → IsFirstGate w z (h + g) (get_or gates g idle_gate)) → AreGatesRead w z h gates
gates_are_read w z h [] each = tt
gates_are_read w z h (gate ∷ gates) each =
    let a : h + 0 ≡ h = omega arith in (
      subst (λ n. IsGateRead w z n gate) a (gate_is_read w z (h + 0) gate (each 0 (omega arith))),
      gates_are_read w z (h + 1) gates (λ g l. let e : h + suc g ≡ h + 1 + g = omega arith in subst (λ n. IsFirstGate w z n (get_or gates g idle_gate)) e (each (suc g) (omega arith))),
    )

ref_is_read : (w : Var → Bool) (z : Shape) (c : ℕ) (ref : Ref) → IsFirstRef w z c ref → IsRefRead w z c ref
ref_is_read w z c ref f = record { signal = f.signal; in_range = f.within; chosen = f.chosen; is = f.is }

module _ (kind : Template) (patterns columns : List (List Bit3)) (bits gates : ℕ) (assignment : List Bool) (even : All (λ p. length p ≡ bits) patterns) (sat : Satisfies (by_place assignment) (template kind patterns bits gates columns)) where
  abbrev z : Shape
  z = shape_of patterns bits gates columns

  abbrev w : Var → Bool
  w = value_in assignment z

  named : NamedSat (value_in assignment z) (named_template kind z patterns columns)
  unfolding by_name
  named = named_from (by_place assignment) z (named_template kind z patterns columns) sat

  pair_there : (g : ℕ) → g < gates → IsTrue (named_true w (some_pair z g))
  unfolding gate_clauses
  pair_there g l = (sat_below w (one_gate z) gates (sat_gates kind patterns columns bits gates w even named) g l).0

  signal_there : (c : ℕ) → c < length columns → IsTrue (named_true w (some_signal z c))
  unfolding class_clauses
  signal_there c l = (sat_below w (one_class z columns) (length columns) (sat_classes kind patterns columns bits gates w even named) c l).0

  pub pairs_there : (y : Shape) → y ≡ z → (g : ℕ) → g < y.gates → IsTrue (named_true (value_in assignment y) (some_pair y g))
  pairs_there y same = subst (λ (s : Shape). (g : ℕ) → g < s.gates → IsTrue (named_true (value_in assignment s) (some_pair s g))) (sym same) pair_there

  pub signals_there : (y : Shape) → y ≡ z → (c : ℕ) → c < y.classes → IsTrue (named_true (value_in assignment y) (some_signal y c))
  signals_there y same = subst (λ (s : Shape). (c : ℕ) → c < s.classes → IsTrue (named_true (value_in assignment s) (some_signal s c))) (sym same) signal_there

  pub read_serves : (y : Shape) (cs : List ℕ) (list : GateList) (refs : List Ref) → y ≡ z → AreRead assignment y cs list refs → IsSolution kind patterns bits columns (parts_of cs list refs)
  unfolding by_name
  read_serves y cs list refs same are' =
      let are : AreRead assignment z cs list refs = subst (λ s. AreRead assignment s cs list refs) same are' in
      let read : AreGatesRead w z 0 list.gates = gates_are_read w z 0 list.gates (λ g l. let e : g ≡ 0 + g = omega arith in subst (λ n. IsFirstGate w z n (get_or list.gates g idle_gate)) e (are.gates g (omega (arith, are.gates_each)))) in
      subst (λ (c : List ℕ). IsSolution kind patterns bits columns (parts_of c list refs)) (sym are.codes)
      (subst (λ n. let made : GateList = record { inputs = n; gates = list.gates } in IsSolution kind patterns bits columns (parts_of (listed (code w z) (length patterns)) made refs)) (sym are.inputs)
      (decoded_serves kind patterns columns bits gates (by_place assignment) even sat list.gates refs are.gates_each read are.refs_each (λ c l. ref_is_read w z c (get_or refs c (Const false)) (are.refs_are c l))))

  pub is_decoded : (y : Shape) (cs : List ℕ) (list : GateList) (refs : List Ref) → y ≡ z → AreRead assignment y cs list refs → IsDecoded w z (parts_of cs list refs)
  is_decoded y cs list refs same are' =
      let are : AreRead assignment z cs list refs = subst (λ s. AreRead assignment s cs list refs) same are' in
      record {
        codes = λ s i sn il. ap (λ c. bit (get_or c s 0) i) are.codes ∙ ap (λ k. bit k i) (get_or-listed (code w z) (length patterns) s 0 sn) ∙ bit-code w z s i il;
        gates = are.gates;
        refs = are.refs_are;
      }
