-- From codes, normal gates and references to values of a template's variables that make its clauses true.
use Rattle.std.proofs.Common.{◌≡◌, ◌≢◌, ℕ, zero, suc, ◌+◌, ◌-◌, ◌^◌, ◌<◌, ◌==◌, Bool, true, false, not, ◌||◌, if◌then◌else◌, IsTrue, List, [], ◌∷◌, slice_index_or, refl, sym, ap, ap₂, ◌∙◌, subst, inl, inr, arith}
use Rattle.std.proofs.lemmas.Bool.{both_ways, cases_Bool, cases_lt, cases_eq, or_left, or_right, and_parts, and_from, eq-eqb, eqb-true, false_from_ne_true}
use Rattle.std.proofs.lemmas.Nat.Bits.{same_from_bits_below, bit_at-lt}
use Rattle.std.proofs.lemmas.Bool.Decides.{nat_tests}
use Rattle.cpog_defs.specs.declared.types.Bit3.{Bit3}
use Rattle.cpog_defs.specs.declared.types.Bit3.TheVariants.{Zero, One, Free}
use Rattle.cpog_defs.specs.declared.types.Ref.TheVariants.{Signal}
use Rattle.cpog_defs.specs.Codes.{bit}
use Rattle.cpog_defs.specs.Gates.{gate_value, ref_value, signal_values}
use Rattle.cpog_defs.specs.Entries.{Agrees, entry_at}
use Rattle.cpog_defs.specs.Orders.{each_below, any_below}
use Rattle.gate_template.specs.declared.types.Shape.{Shape}
use Rattle.gate_template.specs.Variables.{Var, X, D, Sel, T, V, O, P, value_var}
use Rattle.gate_template.specs.Values.{Parts, code_of, gate_of, signal_of, sign_of, ref_at, differ, value_of}
use Rattle.gate_template.specs.Families.{complemented, differ_at, some_bit, code_pair, code_clauses, gate_clauses_at, gate_pair, one_gate, gate_clauses, class_clauses_at, class_signal, one_class, class_clauses, given_bit, given_pattern, given_clauses, gives, zero_clauses}
use Rattle.gate_template.proofs.ClauseLemmas.{lower_first, not_lower, NamedSat, sat_both, sat_each, sat_each_pair, one_below, one_pair}

some_below : (p : ℕ → Bool) (n : ℕ) → IsTrue (any_below p n) → (i : ℕ) × (i < n) × IsTrue (p i)
some_below p zero h = absurd (both_ways _ refl h)
some_below p (suc n) h = elim (cases_Bool (p n)) [
  | inl t ↦ (n, omega arith, t)
  | inr f ↦ let h' : IsTrue (any_below p n) = rw f at h in let r = some_below p n h' in (r.0, omega (arith, r.1), r.2)
]

any_has : (p : ℕ → Bool) (n i : ℕ) → i < n → IsTrue (p i) → IsTrue (any_below p n)
any_has p zero i l h = absurd (omega arith)
any_has p (suc n) i l h = elim (cases_eq i n) [
  | inl same ↦ or_left (p n) (any_below p n) (subst (λ k. IsTrue (p k)) same h)
  | inr other ↦ or_right (p n) (any_below p n) (any_has p n i (omega arith) h)
]

module _ (z : Shape) (e : Parts) (inputs : e.gates.inputs ≡ z.bits) where
  abbrev values : ℕ → List Bool
  values s = signal_values e.gates (code_of e s)

  abbrev val : Var → Bool
  val = value_of e

  -- the bits of a code are the first signals
  abbrev pub FirstBits : Type 0
  FirstBits = (s i : ℕ) → s < z.scenarios → i < z.bits → slice_index_or (values s) i false ≡ bit (code_of e s) i

  signal_value : FirstBits → (m s : ℕ) → s < z.scenarios → val (value_var z m s) ≡ slice_index_or (values s) m false
  signal_value first m s ls = elim (cases_lt m z.bits) [
    | inl near ↦ ap val (lower_first m z.bits (X s m) (V (m - z.bits) s) near) ∙ sym (first s m ls near)
    | inr far ↦
        let at : e.gates.inputs + (m - z.bits) ≡ m = omega arith in
        ap val (not_lower m z.bits (X s m) (V (m - z.bits) s) far) ∙ ap (λ k. slice_index_or (values s) k false) at
  ]

  -- ---- codes

  differ_clauses : (a b : Bool) → IsTrue (not (differ a b) || (a || (b || false))) × IsTrue (not (differ a b) || (not a || (not b || false)))
  differ_clauses true true = (refl, refl)
  differ_clauses true false = (refl, refl)
  differ_clauses false true = (refl, refl)
  differ_clauses false false = (refl, refl)

  differ_false : (a b : Bool) → differ a b ≡ false → a ≡ b
  differ_false true true h = refl
  differ_false true false h = h
  differ_false false true h = sym h
  differ_false false false h = refl

  same_bit : (a b : ℕ) → a < 2 → b < 2 → (a == 1) ≡ (b == 1) → a ≡ b
  same_bit a b la lb e = grind (arith, nat_tests)

  bit_apart : (x y : ℕ) → x < 2 ^ z.bits → y < 2 ^ z.bits → x ≢ y → (i : ℕ) × (i < z.bits) × IsTrue (differ (bit x i) (bit y i))
  bit_apart x y lx ly ne = elim (cases_Bool (any_below (λ i. differ (bit x i) (bit y i)) z.bits)) [
    | inl some ↦ some_below (λ i. differ (bit x i) (bit y i)) z.bits some
    | inr none ↦ absurd (ne (same_from_bits_below z.bits x y lx ly (λ i li.
        same_bit _ _ (bit_at-lt x i) (bit_at-lt y i)
        (differ_false _ _ (false_from_ne_true _ (λ h. both_ways _ none (any_has (λ i. differ (bit x i) (bit y i)) z.bits i li h)))))))
  ]

  pub codes_sat : ((s : ℕ) → s < z.scenarios → code_of e s < 2 ^ z.bits) → ((s t : ℕ) → s < t → t < z.scenarios → code_of e s ≢ code_of e t) → NamedSat val (code_clauses z)
  unfolding code_clauses
  codes_sat within apart = sat_each_pair val (code_pair z) z.scenarios (λ s t lt ln.
      let d = bit_apart (code_of e s) (code_of e t) (within s (omega arith)) (within t ln) (apart s t lt ln) in
      sat_both val (each_below (differ_at s t) z.bits) (some_bit z s t ∷ [])
      (sat_each val (differ_at s t) z.bits (λ i li. let c = differ_clauses (bit (code_of e s) i) (bit (code_of e t) i) in (c.0, (c.1, tt))))
      (one_below val z.bits d.0 (λ i. D s t i) d.1 d.2, tt))

  -- ---- gates

  out_of : (v t : Bool) → v ≡ t → IsTrue (not v || (t || false)) × IsTrue (v || (not t || false))
  out_of true true e = (refl, refl)
  out_of true false e = (sym e, refl)
  out_of false true e = (refl, e)
  out_of false false e = (refl, refl)

  -- what the seven clauses of a pair ask
  seven_hold : (sel a b v t1 t2 t3 : Bool) → (IsTrue sel → v ≡ (if a then (if b then t3 else t2) else (if b then t1 else false))) →
      IsTrue (not sel || (a || (b || (not v || false)))) × (
      IsTrue (not sel || (a || (not b || (not v || (t1 || false))))) × (IsTrue (not sel || (a || (not b || (v || (not t1 || false))))) × (
      IsTrue (not sel || (not a || (b || (not v || (t2 || false))))) × (IsTrue (not sel || (not a || (b || (v || (not t2 || false))))) × (
      IsTrue (not sel || (not a || (not b || (not v || (t3 || false))))) × (IsTrue (not sel || (not a || (not b || (v || (not t3 || false))))) × Unit {0}))))))
  seven_hold false a b v t1 t2 t3 h = (refl, (refl, (refl, (refl, (refl, (refl, (refl, tt)))))))
  seven_hold true true true v t1 t2 t3 h = let o = out_of v t3 (h refl) in (refl, (refl, (refl, (refl, (refl, (o.0, (o.1, tt)))))))
  seven_hold true true false v t1 t2 t3 h = let o = out_of v t2 (h refl) in (refl, (refl, (refl, (o.0, (o.1, (refl, (refl, tt)))))))
  seven_hold true false true v t1 t2 t3 h = let o = out_of v t1 (h refl) in (refl, (o.0, (o.1, (refl, (refl, (refl, (refl, tt)))))))
  seven_hold true false false true t1 t2 t3 h = absurd (both_ways _ (h refl) refl)
  seven_hold true false false false t1 t2 t3 h = (refl, (refl, (refl, (refl, (refl, (refl, (refl, tt)))))))

  table_cases : (t : ℕ) → bit t 0 ≡ false → (p q : Bool) → gate_value t p q ≡ (if p then (if q then bit t 3 else bit t 2) else (if q then bit t 1 else false))
  table_cases t z true true = refl
  table_cases t z true false = refl
  table_cases t z false true = refl
  table_cases t z false false = z

  -- normal gates, whose values are the signals'
  pub record AreGates : Type 0 where
    pub reads : (h : ℕ) → h < z.gates → ((gate_of e h).j < (gate_of e h).k) × ((gate_of e h).k < z.bits + h)
    pub normal : (h : ℕ) → h < z.gates → bit (gate_of e h).table 0 ≡ false
    pub computed : (h s : ℕ) → h < z.gates → s < z.scenarios → slice_index_or (values s) (e.gates.inputs + h) false ≡ gate_value (gate_of e h).table (slice_index_or (values s) (gate_of e h).j false) (slice_index_or (values s) (gate_of e h).k false)

  chosen : FirstBits → AreGates → (h j k s : ℕ) → h < z.gates → s < z.scenarios → IsTrue (val (Sel h j k)) →
      val (V h s) ≡ (if val (value_var z j s) then (if val (value_var z k s) then val (T h 3) else val (T h 2)) else (if val (value_var z k s) then val (T h 1) else false))
  chosen first are h j k s lh ls sel =
      let both = and_parts ((gate_of e h).j == j) ((gate_of e h).k == k) sel in
      let ej = eqb-true (gate_of e h).j j both.0 in
      let ek = eqb-true (gate_of e h).k k both.1 in
      are.computed h s lh ls
      ∙ ap₂ (gate_value (gate_of e h).table) (ap (λ m. slice_index_or (values s) m false) ej ∙ sym (signal_value first j s ls)) (ap (λ m. slice_index_or (values s) m false) ek ∙ sym (signal_value first k s ls))
      ∙ table_cases (gate_of e h).table (are.normal h lh) (val (value_var z j s)) (val (value_var z k s))

  pub gates_sat : FirstBits → AreGates → NamedSat val (gate_clauses z)
  unfolding gate_clauses
  gates_sat first are = sat_each val (one_gate z) z.gates (λ h lh. (
    one_pair val (z.bits + h) (gate_of e h).j (gate_of e h).k (λ j k. Sel h j k) (are.reads h lh).0 (are.reads h lh).1
        (and_from ((gate_of e h).j == (gate_of e h).j) ((gate_of e h).k == (gate_of e h).k) (eq-eqb _ _ refl) (eq-eqb _ _ refl)),
    sat_each_pair val (gate_pair z h) (z.bits + h) (λ j k jk kl. sat_each val (gate_clauses_at z h j k) z.scenarios (λ s ls.
        seven_hold (val (Sel h j k)) (val (value_var z j s)) (val (value_var z k s)) (val (V h s)) (val (T h 1)) (val (T h 2)) (val (T h 3))
        (λ sel. chosen first are h j k s lh ls sel))),
  ))

  -- ---- classes

  one_holds : (o x p : Bool) → (IsTrue o → (if p then not x else x) ≡ true) → IsTrue (not o || (x || (p || false))) × IsTrue (not o || (not x || (not p || false)))
  one_holds false x p h = (refl, refl)
  one_holds true true true h = absurd (both_ways _ refl (h refl))
  one_holds true true false h = (refl, refl)
  one_holds true false true h = (refl, refl)
  one_holds true false false h = absurd (both_ways _ refl (h refl))

  zero_holds : (o x p : Bool) → (IsTrue o → (if p then not x else x) ≡ false) → IsTrue (not o || (not x || (p || false))) × IsTrue (not o || (x || (not p || false)))
  zero_holds false x p h = (refl, refl)
  zero_holds true true true h = (refl, refl)
  zero_holds true true false h = absurd (both_ways _ (h refl) refl)
  zero_holds true false true h = absurd (both_ways _ (h refl) refl)
  zero_holds true false false h = (refl, refl)

  ref_is : (vs : List Bool) (m : ℕ) (p : Bool) → ref_value vs (Signal m p) ≡ (if p then not (slice_index_or vs m false) else slice_index_or vs m false)
  ref_is vs m true = refl
  ref_is vs m false = refl

  there : FirstBits → (c m s : ℕ) → s < z.scenarios → IsTrue (val (O c m)) → (if sign_of (ref_at e c) then not (val (value_var z m s)) else val (value_var z m s)) ≡ ref_value (values s) (Signal (signal_of (ref_at e c)) (sign_of (ref_at e c)))
  there first c m s ls o =
      ap (λ x. if sign_of (ref_at e c) then not x else x) (signal_value first m s ls ∙ ap (λ k. slice_index_or (values s) k false) (sym (eqb-true (signal_of (ref_at e c)) m o))) ∙ sym (ref_is (values s) (signal_of (ref_at e c)) (sign_of (ref_at e c)))

  entry_sat : FirstBits → (c m s : ℕ) (b : Bit3) → s < z.scenarios → Agrees b (ref_value (values s) (Signal (signal_of (ref_at e c)) (sign_of (ref_at e c)))) → NamedSat val (class_clauses_at z c m s b)
  entry_sat first c m s Free ls agrees = tt
  entry_sat first c m s One ls agrees =
      let h = one_holds (val (O c m)) (val (value_var z m s)) (val (P c)) (λ o. there first c m s ls o ∙ agrees) in
      (h.0, (h.1, tt))
  entry_sat first c m s Zero ls agrees =
      let h = zero_holds (val (O c m)) (val (value_var z m s)) (val (P c)) (λ o. there first c m s ls o ∙ agrees) in
      (h.0, (h.1, tt))

  pub classes_sat : (columns : List (List Bit3)) → FirstBits → ((c : ℕ) → c < z.classes → signal_of (ref_at e c) < z.bits + z.gates) →
      ((c s : ℕ) → c < z.classes → s < z.scenarios → Agrees (entry_at (slice_index_or columns c []) s) (ref_value (values s) (Signal (signal_of (ref_at e c)) (sign_of (ref_at e c))))) →
      NamedSat val (class_clauses z columns)
  unfolding class_clauses
  classes_sat columns first within agrees = sat_each val (one_class z columns) z.classes (λ c lc. (
    one_below val (z.bits + z.gates) (signal_of (ref_at e c)) (λ m. O c m) (within c lc) (eq-eqb (signal_of (ref_at e c)) (signal_of (ref_at e c)) refl),
    sat_each val (class_signal z c (slice_index_or columns c [])) (z.bits + z.gates) (λ m lm. sat_each val (λ s. class_clauses_at z c m s (entry_at (slice_index_or columns c []) s)) z.scenarios (λ s ls.
        entry_sat first c m s (entry_at (slice_index_or columns c []) s) ls (agrees c s lc ls))),
  ))

  -- ---- given bits, and zeros

  given_holds : (s i : ℕ) (b : Bit3) → Agrees b (bit (code_of e s) i) → NamedSat val (given_bit s i b)
  given_holds s i Free h = tt
  given_holds s i One h = (or_left _ false h, tt)
  given_holds s i Zero h = (not_from (bit (code_of e s) i) h, tt)
    where
      not_from : (x : Bool) → x ≡ false → IsTrue (not x || false)
      not_from true h = sym h
      not_from false h = refl

  pub given_sat : (patterns : List (List Bit3)) → ((s i : ℕ) → s < z.scenarios → i < z.bits → Agrees (entry_at (slice_index_or patterns s []) i) (bit (code_of e s) i)) → NamedSat val (given_clauses z patterns)
  unfolding given_clauses
  given_sat patterns h = sat_each val (λ s. given_pattern z s (slice_index_or patterns s [])) z.scenarios (λ s ls.
      sat_each val (λ i. given_bit s i (entry_at (slice_index_or patterns s []) i)) z.bits (λ i li. given_holds s i (entry_at (slice_index_or patterns s []) i) (h s i ls li)))

  pub zeros_sat : (patterns : List (List Bit3)) → ((i : ℕ) → i < z.bits → gives patterns i ≡ false → bit (code_of e 0) i ≡ false) → NamedSat val (zero_clauses z patterns)
  unfolding zero_clauses
  zeros_sat patterns h = sat_each val (λ i. if gives patterns i then [] else (complemented (X 0 i) ∷ []) ∷ []) z.bits (λ i li. zero_holds_at (gives patterns i) i (h i li))
    where
      not_from : (x : Bool) → x ≡ false → IsTrue (not x || false)
      not_from true h = sym h
      not_from false h = refl

      zero_holds_at : (g : Bool) (i : ℕ) → (g ≡ false → bit (code_of e 0) i ≡ false) → NamedSat val (if g then [] else (complemented (X 0 i) ∷ []) ∷ [])
      zero_holds_at true i h = tt
      zero_holds_at false i h = (not_from (bit (code_of e 0) i) (h refl), tt)
