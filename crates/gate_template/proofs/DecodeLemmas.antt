-- From values of a template's variables that make its clauses true to codes, gates and references.
use Rattle.std.proofs.Common.{◌≡◌, ◌≢◌, ℕ, zero, suc, ◌+◌, ◌-◌, ◌*◌, ◌^◌, ◌<◌, ◌≤◌, Bool, true, false, not, ◌||◌, if◌then◌else◌, IsTrue, List, [], ◌∷◌, ◌++◌, length, slice_index_or, refl, sym, ap, ap₂, ◌∙◌, subst, inl, inr, arith, length-append, pow-suc}
use Rattle.std.proofs.lemmas.Bool.{both_ways, cases_eq, cases_lt}
use Rattle.std.proofs.lemmas.Nat.Bits.{bit_at_cat_low, bit_at_cat_high}
use Rattle.std.proofs.lemmas.List.{get_or_append_left, get_or_at}
use Rattle.cpog_defs.specs.declared.types.Bit3.{Bit3}
use Rattle.cpog_defs.specs.declared.types.Bit3.TheVariants.{Zero, One, Free}
use Rattle.cpog_defs.specs.declared.types.Gate.{Gate}
use Rattle.cpog_defs.specs.declared.types.Ref.{Ref}
use Rattle.cpog_defs.specs.declared.types.Ref.TheVariants.{Signal}
use Rattle.cpog_defs.specs.Codes.{bit, word_bits}
use Rattle.cpog_defs.specs.Entries.{Agrees, entry_at}
use Rattle.cpog_defs.specs.Orders.{each_below}
use Rattle.cpog_defs.specs.Gates.{GateList, AreGatesFrom, signal_values, ref_value, gate_value}
use Rattle.gate_core.proofs.GateLemmas.{next_value, with_gates_push, length-signal_values, input-signal}
use Rattle.gate_forms.specs.Forms.{table_with}
use Rattle.gate_forms.proofs.FormLemmas.{gate_value-table_with, table_with-lt}
use Rattle.gate_template.specs.declared.types.Shape.{Shape}
use Rattle.gate_template.specs.Variables.{Var, X, D, Sel, T, V, O, P, value_var}
use Rattle.gate_template.specs.Families.{differ_at, some_bit, code_pair, code_clauses, gate_clauses_at, gate_pair, one_gate, gate_clauses, class_clauses_at, class_signal, one_class, class_clauses, given_bit, given_pattern, given_clauses}
use Rattle.gate_template.proofs.ClauseLemmas.{lower_first, not_lower, NamedSat, sat_append, sat_below, sat_pair, any_below_one, any_pair_one}

-- ---- a word from its bits

unfoldable pub number_from : ℕ → (ℕ → Bool) → ℕ
number_from zero f = 0
number_from (suc n) f = (if f n then 1 else 0) * 2 ^ n + number_from n f

pub number_from-lt : (n : ℕ) (f : ℕ → Bool) → number_from n f < 2 ^ n
unfolding number_from
number_from-lt zero f = omega arith
number_from-lt (suc n) f = elim (f n) as (λ b. (if b then 1 else 0) * 2 ^ n + number_from n f < 2 ^ suc n) [
  | true ↦ omega (arith, number_from-lt n f, pow-suc 2 n)
  | false ↦ omega (arith, number_from-lt n f, pow-suc 2 n)
]

at_top : (x : ℕ) (b : Bool) (n : ℕ) → x < 2 ^ n → bit ((if b then 1 else 0) * 2 ^ n + x) n ≡ b
at_top x true n l = let z : n - n ≡ 0 = omega arith in rw (bit_at_cat_high 1 n x n l (omega arith), z) refl
at_top x false n l = let z : n - n ≡ 0 = omega arith in rw (bit_at_cat_high 0 n x n l (omega arith), z) refl

pub bit-number_from : (n : ℕ) (f : ℕ → Bool) (i : ℕ) → i < n → bit (number_from n f) i ≡ f i
unfolding number_from
bit-number_from zero f i l = absurd (omega arith)
bit-number_from (suc n) f i l = elim (cases_eq i n) [
  | inl same ↦ rw same (at_top (number_from n f) (f n) n (number_from-lt n f))
  | inr other ↦ rw (bit_at_cat_low (if f n then 1 else 0) n (number_from n f) i (omega arith)) (bit-number_from n f i (omega arith))
]

module _ (w : Var → Bool) (z : Shape) where
  -- ---- what the seven clauses of a gate that is read from j and k say

  abbrev pub table_at : Bool → Bool → Bool → Bool → Bool → Bool
  table_at t1 t2 t3 p q = if p then (if q then t3 else t2) else (if q then t1 else false)

  as_one : (v t : Bool) → IsTrue (not v || (t || false)) → IsTrue (v || (not t || false)) → v ≡ t
  as_one true true a b = refl
  as_one true false a b = sym a
  as_one false true a b = b
  as_one false false a b = refl

  seven : (a b v t1 t2 t3 : Bool) →
      IsTrue (a || (b || (not v || false))) → IsTrue (a || (not b || (not v || (t1 || false)))) → IsTrue (a || (not b || (v || (not t1 || false))))
      → IsTrue (not a || (b || (not v || (t2 || false)))) → IsTrue (not a || (b || (v || (not t2 || false))))
      → IsTrue (not a || (not b || (not v || (t3 || false)))) → IsTrue (not a || (not b || (v || (not t3 || false))))
      → v ≡ table_at t1 t2 t3 a b
  seven true true v t1 t2 t3 c0 c1 c2 c3 c4 c5 c6 = as_one v t3 c5 c6
  seven true false v t1 t2 t3 c0 c1 c2 c3 c4 c5 c6 = as_one v t2 c3 c4
  seven false true v t1 t2 t3 c0 c1 c2 c3 c4 c5 c6 = as_one v t1 c1 c2
  seven false false true t1 t2 t3 c0 c1 c2 c3 c4 c5 c6 = sym c0
  seven false false false t1 t2 t3 c0 c1 c2 c3 c4 c5 c6 = refl

  -- without its first literal, which is false
  rest_of : (x : Var) (c : Bool) → IsTrue (w x) → IsTrue (not (w x) || c) → IsTrue c
  rest_of x c t h = rw t at h

  gate_value_is : (h j k s : ℕ) → IsTrue (w (Sel h j k)) → NamedSat w (gate_clauses_at z h j k s) → w (V h s) ≡ table_at (w (T h 1)) (w (T h 2)) (w (T h 3)) (w (value_var z j s)) (w (value_var z k s))
  gate_value_is h j k s t c =
      let r = λ (c : Bool) (x : IsTrue (not (w (Sel h j k)) || c)). rest_of (Sel h j k) c t x in
      seven _ _ _ _ _ _ (r _ c.0) (r _ c.1.0) (r _ c.1.1.0) (r _ c.1.1.1.0) (r _ c.1.1.1.1.0) (r _ c.1.1.1.1.1.0) (r _ c.1.1.1.1.1.1.0)

  -- ---- codes

  unfoldable pub code : ℕ → ℕ
  code s = number_from z.bits (λ i. w (X s i))

  pub code-lt : (s : ℕ) → code s < 2 ^ z.bits
  unfolding code
  code-lt s = number_from-lt z.bits (λ i. w (X s i))

  pub bit-code : (s i : ℕ) → i < z.bits → bit (code s) i ≡ w (X s i)
  unfolding code
  bit-code s i l = bit-number_from z.bits (λ i. w (X s i)) i l

  -- two codes that differ in a bit
  pub codes_differ : NamedSat w (code_clauses z) → (s t : ℕ) → s < t → t < z.scenarios → code s ≢ code t
  unfolding code_clauses
  codes_differ h s t lt ln same =
      let r = sat_append w (each_below (differ_at s t) z.bits) (some_bit z s t ∷ []) (sat_pair w (code_pair z) z.scenarios h s t lt ln) in
      let d = any_below_one w z.bits (λ i. D s t i) r.1.0 in
      let c = sat_below w (differ_at s t) z.bits r.0 d.0 d.1 in
      let equal : w (X s d.0) ≡ w (X t d.0) = sym (bit-code s d.0 d.1) ∙ ap (λ x. bit x d.0) same ∙ bit-code t d.0 d.1 in
      differ (w (X s d.0)) (w (X t d.0)) (rest_of (D s t d.0) _ d.2 c.0) (rest_of (D s t d.0) _ d.2 c.1.0) equal
    where
      differ : (a b : Bool) → IsTrue (a || (b || false)) → IsTrue (not a || (not b || false)) → a ≡ b → ⊥
      differ true true x y e = both_ways _ refl y
      differ true false x y e = cc
      differ false true x y e = cc
      differ false false x y e = both_ways _ refl x

  -- ---- gates

  -- a gate as the template says it: of two signals that are selected, with the table's bits
  pub record IsGateRead (h : ℕ) (gate : Gate) : Type 0 where
    pub lower : gate.j < gate.k
    pub earlier : gate.k < z.bits + h
    pub selected : IsTrue (w (Sel h gate.j gate.k))
    pub table : gate.table ≡ table_with false (w (T h 1)) (w (T h 2)) (w (T h 3))

  -- gates from h on
  abbrev pub AreGatesRead : ℕ → List Gate → Type 0
  AreGatesRead h [] = Unit {0}
  AreGatesRead h (gate ∷ gates) = IsGateRead h gate × AreGatesRead (h + 1) gates

  pub gates_read_push : (h : ℕ) (gates : List Gate) (gate : Gate) → AreGatesRead h gates → IsGateRead (h + length gates) gate → AreGatesRead h (gates ++ gate ∷ [])
  gates_read_push h [] gate are is = let e : h + 0 ≡ h = omega arith in (subst (λ n. IsGateRead n gate) e is, tt)
  gates_read_push h (x ∷ gates) gate are is = let e : h + suc (length gates) ≡ h + 1 + length gates = omega arith in (are.0, gates_read_push (h + 1) gates gate are.1 (subst (λ n. IsGateRead n gate) e is))

  pub gates_read_from : (h n : ℕ) (gates : List Gate) → n ≡ z.bits + h → AreGatesRead h gates → AreGatesFrom n gates
  gates_read_from h n [] at are = tt
  gates_read_from h n (gate ∷ gates) at are = (are.0.lower, omega (arith, are.0.earlier), subst (λ t. t < 16) (sym are.0.table) (table_with-lt _ _ _ _), gates_read_from (h + 1) (n + 1) gates (omega arith) are.1)

  abbrev over : List Gate → GateList
  over gates = record { inputs = z.bits; gates = gates }

  -- the signals have the template's values on the scenarios' codes
  abbrev pub HaveValues : List Gate → Type 0
  HaveValues gates = (s : ℕ) → s < z.scenarios → (m : ℕ) → m < z.bits + length gates → slice_index_or (signal_values (over gates) (code s)) m false ≡ w (value_var z m s)

  read_table : (h j k s : ℕ) → IsTrue (w (Sel h j k)) → NamedSat w (gate_clauses_at z h j k s) → gate_value (table_with false (w (T h 1)) (w (T h 2)) (w (T h 3))) (w (value_var z j s)) (w (value_var z k s)) ≡ w (V h s)
  read_table h j k s t c =
      gate_value-table_with (λ p q. table_at (w (T h 1)) (w (T h 2)) (w (T h 3)) p q) (w (value_var z j s)) (w (value_var z k s)) ∙ sym (gate_value_is h j k s t c)

  value_var_at : (h m s : ℕ) → m ≡ z.bits + h → value_var z m s ≡ V h s
  value_var_at h m s at = let e : m - z.bits ≡ h = omega arith in not_lower m z.bits (X s m) (V (m - z.bits) s) (omega arith) ∙ ap (λ k. V k s) e

  one_more_value : (gates : List Gate) (gate : Gate) → NamedSat w (one_gate z (length gates)) → IsGateRead (length gates) gate → HaveValues gates → HaveValues (gates ++ gate ∷ [])
  one_more_value gates gate sat is have s ls m lm =
      let h = length gates in
      let old = signal_values (over gates) (code s) in
      let push : signal_values (over (gates ++ gate ∷ [])) (code s) ≡ old ++ next_value gate old ∷ [] = with_gates_push gates gate (word_bits (code s) z.bits) in
      let lo : length old ≡ z.bits + h = length-signal_values (over gates) (code s) in
      ap (λ v. slice_index_or v m false) push ∙ elim (cases_lt m (z.bits + h)) [
        | inl before ↦ get_or_append_left old (next_value gate old ∷ []) false m (omega (arith, lo)) ∙ have s ls m before
        | inr after ↦
            let at : m ≡ z.bits + h = omega (arith, length-append gates (gate ∷ []), lm) in
            let say = sat_below w (gate_clauses_at z h gate.j gate.k) z.scenarios (sat_pair w (gate_pair z h) (z.bits + h) sat.1 gate.j gate.k is.lower is.earlier) s ls in
            get_or_at old (next_value gate old) [] false m (omega (arith, lo))
            ∙ ap (λ t. gate_value t (slice_index_or old gate.j false) (slice_index_or old gate.k false)) is.table
            ∙ ap₂ (gate_value (table_with false (w (T h 1)) (w (T h 2)) (w (T h 3)))) (have s ls gate.j (omega (arith, is.lower, is.earlier))) (have s ls gate.k is.earlier)
            ∙ read_table h gate.j gate.k s is.selected say
            ∙ ap w (sym (value_var_at h m s at))
      ]

  no_gate : HaveValues []
  no_gate s ls m lm =
      let ml : m < z.bits = omega arith in
      input-signal (over []) (code s) m ml ∙ bit-code s m ml ∙ ap w (sym (lower_first m z.bits (X s m) (V (m - z.bits) s) ml))

  -- gates behind others that have the template's values have them too
  values_from : (front gates : List Gate) → length front + length gates ≤ z.gates → NamedSat w (gate_clauses z) → AreGatesRead (length front) gates → HaveValues front → HaveValues (front ++ gates)
  unfolding gate_clauses
  values_from front [] few sat are have = subst HaveValues (sym (append_none front)) have
    where
      append_none : (front : List Gate) → front ++ [] ≡ front
      append_none [] = refl
      append_none (x ∷ front) = ap (λ l. x ∷ l) (append_none front)
  values_from front (gate ∷ gates) few sat are have =
      let more = one_more_value front gate (sat_below w (one_gate z) z.gates sat (length front) (omega arith)) are.0 have in
      let n : length (front ++ gate ∷ []) ≡ length front + 1 = length-append front (gate ∷ []) in
      subst HaveValues (assoc front gate gates) (values_from (front ++ gate ∷ []) gates (omega arith) sat (subst (λ k. AreGatesRead k gates) (sym n) are.1) more)
    where
      assoc : (front : List Gate) (gate : Gate) (gates : List Gate) → (front ++ gate ∷ []) ++ gates ≡ front ++ gate ∷ gates
      assoc [] gate gates = refl
      assoc (x ∷ front) gate gates = ap (λ l. x ∷ l) (assoc front gate gates)

  pub have_values : (gates : List Gate) → length gates ≡ z.gates → NamedSat w (gate_clauses z) → AreGatesRead 0 gates → HaveValues gates
  have_values gates each sat are = values_from [] gates (omega arith) sat are no_gate

  -- some gates are read
  some_gates : NamedSat w (gate_clauses z) → (h : ℕ) → h ≤ z.gates → (gates : List Gate) × (length gates ≡ h) × AreGatesRead 0 gates
  unfolding gate_clauses
  some_gates sat zero l = ([], refl, tt)
  some_gates sat (suc h) l =
      let before = some_gates sat h (omega arith) in
      let c = any_pair_one w (z.bits + h) (λ j k. Sel h j k) (sat_below w (one_gate z) z.gates sat h (omega arith)).0 in
      let gate : Gate = record { j = c.0; k = c.1; table = table_with false (w (T h 1)) (w (T h 2)) (w (T h 3)) } in
      let at : 0 + length before.0 ≡ h = omega (arith, before.1) in (
        before.0 ++ gate ∷ [],
        omega (arith, before.1, length-append before.0 (gate ∷ [])),
        gates_read_push 0 before.0 gate before.2
            (subst (λ n. IsGateRead n gate) (sym at) (record { lower = c.2; earlier = c.3; selected = c.4; table = refl })),
      )

  pub all_gates : NamedSat w (gate_clauses z) → (gates : List Gate) × (length gates ≡ z.gates) × AreGatesRead 0 gates
  all_gates sat = some_gates sat z.gates (omega arith)

  -- ---- references

  one_agrees : (values : List Bool) (m : ℕ) (p x : Bool) → slice_index_or values m false ≡ x → IsTrue (x || (p || false)) → IsTrue (not x || (not p || false)) → ref_value values (Signal m p) ≡ true
  one_agrees values m true true e a b = absurd (both_ways _ refl b)
  one_agrees values m true false e a b = rw e refl
  one_agrees values m false true e a b = e
  one_agrees values m false false e a b = absurd (both_ways _ refl a)

  zero_agrees : (values : List Bool) (m : ℕ) (p x : Bool) → slice_index_or values m false ≡ x → IsTrue (not x || (p || false)) → IsTrue (x || (not p || false)) → ref_value values (Signal m p) ≡ false
  zero_agrees values m true true e a b = rw e refl
  zero_agrees values m true false e a b = absurd (both_ways _ refl b)
  zero_agrees values m false true e a b = absurd (both_ways _ refl a)
  zero_agrees values m false false e a b = e

  entry_agrees : (values : List Bool) (c m s : ℕ) (e : Bit3) → IsTrue (w (O c m)) → slice_index_or values m false ≡ w (value_var z m s) → NamedSat w (class_clauses_at z c m s e) → Agrees e (ref_value values (Signal m (w (P c))))
  entry_agrees values c m s One o v sat = one_agrees values m (w (P c)) _ v (rest_of (O c m) _ o sat.0) (rest_of (O c m) _ o sat.1.0)
  entry_agrees values c m s Zero o v sat = zero_agrees values m (w (P c)) _ v (rest_of (O c m) _ o sat.0) (rest_of (O c m) _ o sat.1.0)
  entry_agrees values c m s Free o v sat = tt

  -- a reference as the template says it: to a signal that is chosen, with the sign
  pub record IsRefRead (c : ℕ) (ref : Ref) : Type 0 where
    pub signal : ℕ
    pub in_range : signal < z.bits + z.gates
    pub chosen : IsTrue (w (O c signal))
    pub is : ref ≡ Signal signal (w (P c))

  pub ref_agrees : (columns : List (List Bit3)) (gates : List Gate) (c : ℕ) (ref : Ref) → NamedSat w (class_clauses z columns) → length gates ≡ z.gates → HaveValues gates → c < z.classes → IsRefRead c ref →
      (s : ℕ) → s < z.scenarios → Agrees (entry_at (slice_index_or columns c []) s) (ref_value (signal_values (over gates) (code s)) ref)
  unfolding class_clauses
  ref_agrees columns gates c ref sat each have lc read s ls =
      let one = sat_below w (one_class z columns) z.classes sat c lc in
      let column = slice_index_or columns c [] in
      let m = read.signal in
      let values = signal_values (over gates) (code s) in
      subst (λ r. Agrees (entry_at column s) (ref_value values r)) (sym read.is)
      (entry_agrees values c m s (entry_at column s) read.chosen (have s ls m (omega (arith, read.in_range, each)))
      (sat_below w (λ s. class_clauses_at z c m s (entry_at column s)) z.scenarios (sat_below w (class_signal z c column) (z.bits + z.gates) one.1 m read.in_range) s ls))

  pub some_ref : (columns : List (List Bit3)) (c : ℕ) → NamedSat w (class_clauses z columns) → c < z.classes → (ref : Ref) × IsRefRead c ref
  unfolding class_clauses
  some_ref columns c sat lc =
      let m = any_below_one w (z.bits + z.gates) (λ m. O c m) (sat_below w (one_class z columns) z.classes sat c lc).0 in
      (Signal m.0 (w (P c)), record { signal = m.0; in_range = m.1; chosen = m.2; is = refl })

  -- ---- given bits

  pub given_agrees : (patterns : List (List Bit3)) (s i : ℕ) → NamedSat w (given_clauses z patterns) → s < z.scenarios → i < z.bits → Agrees (entry_at (slice_index_or patterns s []) i) (bit (code s) i)
  unfolding given_clauses
  given_agrees patterns s i sat ls il =
      let pattern = slice_index_or patterns s [] in
      subst (Agrees (entry_at pattern i)) (sym (bit-code s i il))
      (kept (entry_at pattern i) (sat_below w (λ i. given_bit s i (entry_at pattern i)) z.bits (sat_below w (λ s. given_pattern z s (slice_index_or patterns s [])) z.scenarios sat s ls) i il))
    where
      as_true : (x : Bool) → IsTrue (x || false) → x ≡ true
      as_true true h = refl
      as_true false h = h

      as_false : (x : Bool) → IsTrue (not x || false) → x ≡ false
      as_false true h = absurd (both_ways _ refl h)
      as_false false h = refl

      kept : (e : Bit3) → NamedSat w (given_bit s i e) → Agrees e (w (X s i))
      kept Free h = tt
      kept One h = as_true _ h.0
      kept Zero h = as_false _ h.0
