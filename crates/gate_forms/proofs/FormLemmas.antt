-- The values of gates under other signs, and behind idle gates.
use Rattle.std.proofs.Common.{◌≡◌, ℕ, zero, suc, ◌+◌, ◌-◌, ◌*◌, ◌/◌, ◌%◌, ◌==◌, ◌<◌, ◌≤◌, Bool, true, false, not, List, [], ◌∷◌, ◌++◌, length, map, slice_index_or, get_or, replicate, refl, sym, ap, ap₂, ◌∙◌, subst, inl, inr, arith, length-append}
use Rattle.std.specs.List.{All}
use Rattle.std.proofs.lemmas.Bool.{cases_lt}
use Rattle.std.proofs.lemmas.List.{length-replicate, length-map, get_or_past, get_or_at, get_or_append_left}
use Rattle.std.proofs.lemmas.List.Elements.{All-cons, All-nil, All-append, All-head, All-tail}
use Rattle.cpog_defs.specs.declared.types.Gate.{Gate}
use Rattle.cpog_defs.specs.declared.types.Ref.{Ref}
use Rattle.cpog_defs.specs.declared.types.Ref.TheVariants.{Const, Signal}
use Rattle.cpog_defs.specs.Codes.{bit, word_bits}
use Rattle.cpog_defs.specs.Gates.{GateList, AreGatesFrom, IsGateList, gate_value, with_gates, signal_count, signal_values, ref_value, IsRefOver}
use Rattle.gate_core.proofs.GateLemmas.{next_value, with_gates_append, length-with_gates, length-word_bits, length-signal_values, earlier_signal}
use Rattle.cpog_base.specs.BitLaws.{bit-zero}
use Rattle.gate_forms.specs.declared.signs.Form.{Form}
use Rattle.gate_forms.specs.declared.signs.Form.TheVariants.{Kept, Normal}
use Rattle.gate_forms.specs.Forms.{flipped, one_if, table_with, flag_at, new_flag, new_value, new_table, new_gate, new_gates, new_flags, new_ref, IsNormal, IsNormalForm, idle_gate, padded, ReadTheSame, DifferBy, IsFlipped}

-- ---- tables

one_if_at : (b : Bool) → (one_if b ≤ 1) × ((one_if b == 1) ≡ b)
unfolding one_if
one_if_at true = (omega arith, refl)
one_if_at false = (omega arith, refl)

fourth : (x y z w : ℕ) → x ≤ 1 → y ≤ 1 → z ≤ 1 → w ≤ 1 → (gate_value (x + 2 * y + 4 * z + 8 * w) true true ≡ (w == 1)) × (gate_value (x + 2 * y + 4 * z + 8 * w) true false ≡ (z == 1)) × (gate_value (x + 2 * y + 4 * z + 8 * w) false true ≡ (y == 1)) × (gate_value (x + 2 * y + 4 * z + 8 * w) false false ≡ (x == 1))
fourth x y z w a b c d =
    let e : (x + 2 * y + 4 * z + 8 * w) / 8 % 2 ≡ w = omega arith in
    let f : (x + 2 * y + 4 * z + 8 * w) / 4 % 2 ≡ z = omega arith in
    let g : (x + 2 * y + 4 * z + 8 * w) / 2 % 2 ≡ y = omega arith in
    let h : (x + 2 * y + 4 * z + 8 * w) / 1 % 2 ≡ x = omega arith in
    (ap (λ n. n == 1) e, ap (λ n. n == 1) f, ap (λ n. n == 1) g, ap (λ n. n == 1) h)

all_four : (a b c d : Bool) → (gate_value (table_with a b c d) true true ≡ d) × (gate_value (table_with a b c d) true false ≡ c) × (gate_value (table_with a b c d) false true ≡ b) × (gate_value (table_with a b c d) false false ≡ a)
unfolding table_with
all_four a b c d =
    let p = one_if_at a in
    let q = one_if_at b in
    let r = one_if_at c in
    let s = one_if_at d in
    let t = fourth (one_if a) (one_if b) (one_if c) (one_if d) p.0 q.0 r.0 s.0 in
    (t.0 ∙ s.1, t.1 ∙ r.1, t.2 ∙ q.1, t.3 ∙ p.1)

pub gate_value-table_with : (f : Bool → Bool → Bool) (p q : Bool) → gate_value (table_with (f false false) (f false true) (f true false) (f true true)) p q ≡ f p q
gate_value-table_with f true true = (all_four (f false false) (f false true) (f true false) (f true true)).0
gate_value-table_with f true false = (all_four (f false false) (f false true) (f true false) (f true true)).1
gate_value-table_with f false true = (all_four (f false false) (f false true) (f true false) (f true true)).2
gate_value-table_with f false false = (all_four (f false false) (f false true) (f true false) (f true true)).3

pub table_with-lt : (a b c d : Bool) → table_with a b c d < 16
unfolding table_with
table_with-lt a b c d =
    let p = one_if_at a in
    let q = one_if_at b in
    let r = one_if_at c in
    let s = one_if_at d in
    omega (arith, p.0, q.0, r.0, s.0)

pub bit-table_with : (a b c d : Bool) → (bit (table_with a b c d) 0 ≡ a) × (bit (table_with a b c d) 1 ≡ b) × (bit (table_with a b c d) 2 ≡ c) × (bit (table_with a b c d) 3 ≡ d)
bit-table_with a b c d = let r = all_four a b c d in (r.3, r.2, r.1, r.0)

pub gate_value-new_table : (form : Form) (flags : List Bool) (g : Gate) (p q : Bool) → gate_value (new_table form flags g) p q ≡ new_value form flags g p q
unfolding new_table
gate_value-new_table form flags g = gate_value-table_with (new_value form flags g)

-- ---- complemented signals

-- each value complemented where the flag is set
abbrev pub all_flipped : List Bool → List Bool → List Bool
all_flipped [] values = []
all_flipped (f ∷ flags) [] = []
all_flipped (f ∷ flags) (v ∷ values) = flipped f v ∷ all_flipped flags values

pub flipped_twice : (f b : Bool) → flipped f (flipped f b) ≡ b
flipped_twice true true = refl
flipped_twice true false = refl
flipped_twice false b = refl

pub flipped_at : (flags values : List Bool) (n : ℕ) → length flags ≡ length values → n < length values → slice_index_or (all_flipped flags values) n false ≡ flipped (flag_at flags n) (slice_index_or values n false)
flipped_at [] values n same l = absurd (omega arith)
flipped_at (f ∷ flags) [] n same l = absurd (omega arith)
flipped_at (f ∷ flags) (v ∷ values) zero same l = refl
flipped_at (f ∷ flags) (v ∷ values) (suc n) same l = flipped_at flags values n (omega arith) (omega arith)

pub flipped_push : (flags values : List Bool) (f v : Bool) → length flags ≡ length values → all_flipped (flags ++ f ∷ []) (values ++ v ∷ []) ≡ all_flipped flags values ++ flipped f v ∷ []
flipped_push [] [] f v same = refl
flipped_push [] (w ∷ values) f v same = absurd (omega arith)
flipped_push (g ∷ flags) [] f v same = absurd (omega arith)
flipped_push (g ∷ flags) (w ∷ values) f v same = ap (λ l. flipped g w ∷ l) (flipped_push flags values f v (omega arith))

next_flipped : (form : Form) (flags values : List Bool) (g : Gate) → length flags ≡ length values → g.j < g.k → g.k < length values → next_value (new_gate form flags g) (all_flipped flags values) ≡ flipped (new_flag form flags g) (next_value g values)
next_flipped form flags values g same jk k =
    let fj = flag_at flags g.j in
    let fk = flag_at flags g.k in
    let vj = slice_index_or values g.j false in
    let vk = slice_index_or values g.k false in
    gate_value-new_table form flags g (slice_index_or (all_flipped flags values) g.j false) (slice_index_or (all_flipped flags values) g.k false)
    ∙ rw (flipped_at flags values g.j same (omega arith), flipped_at flags values g.k same k, flipped_twice fj vj, flipped_twice fk vk) refl

-- on every word the new signals are the old ones, complemented where the flag is set
pub new_signals : (form : Form) (gates : List Gate) (flags values : List Bool) → length flags ≡ length values → AreGatesFrom (length values) gates → with_gates (new_gates form flags gates) (all_flipped flags values) ≡ all_flipped (new_flags form flags gates) (with_gates gates values)
new_signals form [] flags values same ok = refl
new_signals form (g ∷ gates) flags values same ok =
    let n : length (values ++ next_value g values ∷ []) ≡ length values + 1 = length-append values _ in
    let same' : length (flags ++ new_flag form flags g ∷ []) ≡ length (values ++ next_value g values ∷ []) = omega (arith, same, n, length-append flags (new_flag form flags g ∷ [])) in
    ap (λ v. with_gates (new_gates form (flags ++ new_flag form flags g ∷ []) gates) (all_flipped flags values ++ v ∷ [])) (next_flipped form flags values g same ok.0 ok.1)
    ∙ ap (with_gates (new_gates form (flags ++ new_flag form flags g ∷ []) gates)) (sym (flipped_push flags values (new_flag form flags g) (next_value g values) same))
    ∙ new_signals form gates (flags ++ new_flag form flags g ∷ []) (values ++ next_value g values ∷ []) same' (rw n ok.3)

-- ---- normal gates

new_normal_gate : (flags : List Bool) (g : Gate) → gate_value (new_table Normal flags g) false false ≡ false
new_normal_gate flags g = gate_value-new_table Normal flags g false false ∙ at_flags (gate_value g.table) (flag_at flags g.j) (flag_at flags g.k)
  where
    itself : (b : Bool) → flipped b b ≡ false
    itself true = refl
    itself false = refl

    at_flags : (f : Bool → Bool → Bool) (a b : Bool) → flipped (f a b) (f (flipped a false) (flipped b false)) ≡ false
    at_flags f true true = itself (f true true)
    at_flags f true false = itself (f true false)
    at_flags f false true = itself (f false true)
    at_flags f false false = itself (f false false)

pub new_table-lt : (form : Form) (flags : List Bool) (g : Gate) → new_table form flags g < 16
unfolding new_table
new_table-lt form flags g = table_with-lt _ _ _ _

pub new_valid : (form : Form) (inputs : ℕ) (flags : List Bool) (gates : List Gate) → AreGatesFrom inputs gates → AreGatesFrom inputs (new_gates form flags gates)
new_valid form inputs flags [] ok = tt
new_valid form inputs flags (g ∷ gates) ok = (ok.0, ok.1, new_table-lt form flags g, new_valid form (inputs + 1) (flags ++ new_flag form flags g ∷ []) gates ok.3)

pub length-new_gates : (form : Form) (flags : List Bool) (gates : List Gate) → length (new_gates form flags gates) ≡ length gates
length-new_gates form flags [] = refl
length-new_gates form flags (g ∷ gates) = ap suc (length-new_gates form (flags ++ new_flag form flags g ∷ []) gates)

pub length-new_flags : (form : Form) (flags : List Bool) (gates : List Gate) → length (new_flags form flags gates) ≡ length flags + length gates
length-new_flags form flags [] = omega arith
length-new_flags form flags (g ∷ gates) = omega (arith, length-new_flags form (flags ++ new_flag form flags g ∷ []) gates, length-append flags (new_flag form flags g ∷ []))

pub new_normal : (flags : List Bool) (gates : List Gate) → All IsNormal (new_gates Normal flags gates)
new_normal flags [] = All-nil IsNormal
new_normal flags (g ∷ gates) = All-cons IsNormal _ _ (new_normal_gate flags g) (new_normal (flags ++ new_flag Normal flags g ∷ []) gates)

-- ---- the values of references

-- a complemented signal read with the complement of the sign
same_value : (vs ws : List Bool) (m : ℕ) (f negated : Bool) → slice_index_or ws m false ≡ flipped f (slice_index_or vs m false) → ref_value ws (Signal m (flipped f negated)) ≡ ref_value vs (Signal m negated)
same_value vs ws m true true e = e
same_value vs ws m true false e = ap not e ∙ flipped_twice true _
same_value vs ws m false true e = ap not e
same_value vs ws m false false e = e

pub new_ref_value : (flags vs : List Bool) (r : Ref) → length flags ≡ length vs → IsRefOver (length vs) r → ref_value (all_flipped flags vs) (new_ref flags r) ≡ ref_value vs r
new_ref_value flags vs (Const b) same over = refl
new_ref_value flags vs (Signal m negated) same over = same_value vs (all_flipped flags vs) m (flag_at flags m) negated (flipped_at flags vs m same over)

-- ---- words that differ by a mask

pub flipped_bits : (bits mask word other : ℕ) → DifferBy bits mask word other → all_flipped (word_bits mask bits) (word_bits word bits) ≡ word_bits other bits
flipped_bits zero mask word other h = refl
flipped_bits (suc n) mask word other h =
    flipped_push (word_bits mask n) (word_bits word n) (bit mask n) (bit word n) (length-word_bits mask n ∙ sym (length-word_bits word n))
    ∙ ap₂ (λ a b. a ++ b ∷ []) (flipped_bits n mask word other (λ i l. h i (omega arith))) (sym (h n (omega arith)))

-- the new values on a word are the old ones on the word that differs by the mask
pub flipped_signals : (form : Form) (list : GateList) (mask word other : ℕ) → IsGateList list → DifferBy list.inputs mask word other →
    signal_values (record { inputs = list.inputs; gates = new_gates form (word_bits mask list.inputs) list.gates }) other
    ≡ all_flipped (new_flags form (word_bits mask list.inputs) list.gates) (signal_values list word)
flipped_signals form list mask word other ok differ =
    let n = list.inputs in
    let same : length (word_bits mask n) ≡ length (word_bits word n) = length-word_bits mask n ∙ sym (length-word_bits word n) in
    ap (with_gates (new_gates form (word_bits mask n) list.gates)) (sym (flipped_bits n mask word other differ))
    ∙ new_signals form list.gates (word_bits mask n) (word_bits word n) same (subst (λ k. AreGatesFrom k list.gates) (sym (length-word_bits word n)) ok)

-- ---- idle gates

pub pads_valid : (inputs n : ℕ) → 2 ≤ inputs → AreGatesFrom inputs (replicate n idle_gate)
pads_valid inputs zero two = tt
pads_valid inputs (suc n) two = (omega arith, omega arith, omega arith, pads_valid (inputs + 1) n (omega arith))

pub pads_normal : (n : ℕ) → All IsNormal (replicate n idle_gate)
pads_normal zero = All-nil IsNormal
pads_normal (suc n) = All-cons IsNormal _ _ refl (pads_normal n)

pub valid_both : (inputs : ℕ) (a b : List Gate) → AreGatesFrom inputs a → AreGatesFrom (inputs + length a) b → AreGatesFrom inputs (a ++ b)
valid_both inputs [] b h k = let e : inputs + 0 ≡ inputs = omega arith in subst (λ n. AreGatesFrom n b) e k
valid_both inputs (g ∷ a) b h k = let e : inputs + suc (length a) ≡ inputs + 1 + length a = omega arith in (h.0, h.1, h.2, valid_both (inputs + 1) a b h.3 (subst (λ n. AreGatesFrom n b) e k))

-- idle gates change no signal that was there
pub padded_signal : (list : GateList) (to word m : ℕ) → m < signal_count list → slice_index_or (signal_values (padded list to) word) m false ≡ slice_index_or (signal_values list word) m false
padded_signal list to word m l =
    let start = word_bits word list.inputs in
    ap (λ v. slice_index_or v m false) (with_gates_append list.gates (replicate (to - length list.gates) idle_gate) start)
    ∙ earlier_signal (replicate (to - length list.gates) idle_gate) (with_gates list.gates start) m (omega (arith, length-with_gates list.gates start, length-word_bits word list.inputs))

pub padded_ref_value : (list : GateList) (to word : ℕ) (r : Ref) → IsRefOver (signal_count list) r → ref_value (signal_values (padded list to) word) r ≡ ref_value (signal_values list word) r
padded_ref_value list to word (Const b) over = refl
padded_ref_value list to word (Signal m false) over = padded_signal list to word m over
padded_ref_value list to word (Signal m true) over = ap not (padded_signal list to word m over)

pub length-padded : (list : GateList) (to : ℕ) → length list.gates ≤ to → length (padded list to).gates ≡ to
length-padded list to l = omega (arith, length-append list.gates (replicate (to - length list.gates) idle_gate), length-replicate (to - length list.gates) idle_gate)

pub padded_valid : (list : GateList) (to : ℕ) → 2 ≤ list.inputs → IsGateList list → IsGateList (padded list to)
padded_valid list to two ok =
    valid_both list.inputs list.gates (replicate (to - length list.gates) idle_gate) ok (pads_valid (list.inputs + length list.gates) (to - length list.gates) (omega arith))

pub padded_normal : (list : GateList) (to : ℕ) → All IsNormal list.gates → All IsNormal (padded list to).gates
padded_normal list to normal = All-append IsNormal list.gates (replicate (to - length list.gates) idle_gate) normal (pads_normal (to - length list.gates))

-- ---- whole lists of references

map_same : (f g : Ref → Bool) (h : Ref → Ref) (refs : List Ref) → ((r : Ref) (c : ℕ) (d : Ref) → c < length refs → get_or refs c d ≡ r → f (h r) ≡ g r) → map f (map h refs) ≡ map g refs
map_same f g h [] k = refl
map_same f g h (r ∷ refs) k = ap₂ (λ a b. a ∷ b) (k r 0 r (omega arith) refl) (map_same f g h refs (λ x c d l e. k x (suc c) d (omega arith) e))

pub IsRefOver-new_ref : (signals : ℕ) (flags : List Bool) (r : Ref) → IsRefOver signals r → IsRefOver signals (new_ref flags r)
IsRefOver-new_ref signals flags (Const b) h = tt
IsRefOver-new_ref signals flags (Signal n negated) h = h

module _ (form : Form) (list : GateList) (mask : ℕ) (ok : IsGateList list) where
  abbrev start : List Bool
  start = word_bits mask list.inputs

  abbrev pub changed : GateList
  changed = record { inputs = list.inputs; gates = new_gates form start list.gates }

  abbrev pub all_flags : List Bool
  all_flags = new_flags form start list.gates

  pub changed_valid : IsGateList changed
  changed_valid = new_valid form list.inputs start list.gates ok

  pub length-all_flags : length all_flags ≡ signal_count list
  length-all_flags = length-new_flags form start list.gates ∙ ap (λ k. k + length list.gates) (length-word_bits mask list.inputs)

  pub changed_count : signal_count changed ≡ signal_count list
  changed_count = ap (λ k. list.inputs + k) (length-new_gates form start list.gates)

  pub changed_over : (refs : List Ref) → All (IsRefOver (signal_count list)) refs → All (IsRefOver (signal_count changed)) (map (new_ref all_flags) refs)
  changed_over refs over = subst (λ n. All (IsRefOver n) (map (new_ref all_flags) refs)) (sym changed_count) (each refs over)
    where
      each : (refs : List Ref) → All (IsRefOver (signal_count list)) refs → All (IsRefOver (signal_count list)) (map (new_ref all_flags) refs)
      each [] over = All-nil (IsRefOver (signal_count list))
      each (r ∷ refs) over = All-cons (IsRefOver (signal_count list)) (new_ref all_flags r) (map (new_ref all_flags) refs)
          (IsRefOver-new_ref (signal_count list) all_flags r (All-head (IsRefOver (signal_count list)) r refs over)) (each refs (All-tail (IsRefOver (signal_count list)) r refs over))

  pub changed_values : (refs : List Ref) (word other : ℕ) → All (IsRefOver (signal_count list)) refs → DifferBy list.inputs mask word other →
      map (ref_value (signal_values changed other)) (map (new_ref all_flags) refs) ≡ map (ref_value (signal_values list word)) refs
  changed_values refs word other over differ =
      map_same (ref_value (signal_values changed other)) (ref_value (signal_values list word)) (new_ref all_flags) refs (λ r c d l e.
      let same : length all_flags ≡ length (signal_values list word) = length-all_flags ∙ sym (length-signal_values list word) in
      let there : IsRefOver (length (signal_values list word)) r = subst (λ n. IsRefOver n r) (sym (length-signal_values list word)) (subst (IsRefOver (signal_count list)) e (over c d l)) in
      ap (λ v. ref_value v (new_ref all_flags r)) (flipped_signals form list mask word other ok differ) ∙ new_ref_value all_flags (signal_values list word) r same there)

differ_by_none : (bits word : ℕ) → DifferBy bits 0 word word
differ_by_none bits word i l = sym (rw (bit-zero i) refl)

-- the gates made normal, and the flags of their signals
abbrev pub normal_list : (list : GateList) → IsGateList list → GateList
normal_list list ok = changed Normal list 0 ok

abbrev pub normal_flags : (list : GateList) → IsGateList list → List Bool
normal_flags list ok = all_flags Normal list 0 ok

pub normal_valid : (list : GateList) (ok : IsGateList list) → IsGateList (normal_list list ok)
normal_valid list ok = changed_valid Normal list 0 ok

-- the gates over words combined with a mask, and the flags of their signals
abbrev pub flipped_list : ℕ → (list : GateList) → IsGateList list → GateList
flipped_list mask list ok = changed Kept list mask ok

abbrev pub flipped_flags : ℕ → (list : GateList) → IsGateList list → List Bool
flipped_flags mask list ok = all_flags Kept list mask ok

pub flipped_valid : (mask : ℕ) (list : GateList) (ok : IsGateList list) → IsGateList (flipped_list mask list ok)
flipped_valid mask list ok = changed_valid Kept list mask ok

-- the normal form
pub normal_form : (list : GateList) (refs : List Ref) (ok : IsGateList list) → All (IsRefOver (signal_count list)) refs → IsNormalForm list refs (normal_list list ok) (map (new_ref (normal_flags list ok)) refs)
normal_form list refs ok over = record {
  inputs = refl;
  as_many = length-new_gates Normal (word_bits 0 list.inputs) list.gates;
  normal = new_normal (word_bits 0 list.inputs) list.gates;
  one_each = length-map refs (new_ref (normal_flags list ok));
  over = changed_over Normal list 0 ok refs over;
  values = λ word. changed_values Normal list 0 ok refs word word over (differ_by_none list.inputs word);
}

reads_same : (form : Form) (flags : List Bool) (gates : List Gate) → ReadTheSame gates (new_gates form flags gates)
reads_same form flags [] = tt
reads_same form flags (g ∷ gates) = (refl, refl, reads_same form (flags ++ new_flag form flags g ∷ []) gates)

-- where gates aren't made normal, none is complemented
gates_stay : (flags : List Bool) (gates : List Gate) (m : ℕ) → length flags ≤ m → flag_at (new_flags Kept flags gates) m ≡ false
gates_stay flags [] m l = get_or_past flags m false l
gates_stay flags (g ∷ gates) m l = elim (cases_lt (length flags) m) [
  | inl far ↦ gates_stay (flags ++ false ∷ []) gates m (omega (arith, length-append flags (false ∷ [])))
  | inr near ↦ earlier (flags ++ false ∷ []) gates m (omega (arith, length-append flags (false ∷ []))) ∙ get_or_at flags false [] false m (omega arith)
]
  where
    earlier : (flags : List Bool) (gates : List Gate) (m : ℕ) → m < length flags → flag_at (new_flags Kept flags gates) m ≡ flag_at flags m
    earlier flags [] m l = refl
    earlier flags (g ∷ gates) m l = earlier (flags ++ false ∷ []) gates m (omega (arith, length-append flags (false ∷ []))) ∙ get_or_append_left flags (false ∷ []) false m l

-- the flipped form
pub flipped_form : (mask : ℕ) (list : GateList) (refs : List Ref) (ok : IsGateList list) → All (IsRefOver (signal_count list)) refs → IsFlipped mask list refs (flipped_list mask list ok) (map (new_ref (flipped_flags mask list ok)) refs)
flipped_form mask list refs ok over = record {
  inputs = refl;
  reads = reads_same Kept (word_bits mask list.inputs) list.gates;
  one_each = length-map refs (new_ref (flipped_flags mask list ok));
  over = changed_over Kept list mask ok refs over;
  gates = λ word other g differ l.
      let flags = flipped_flags mask list ok in
      let same : length flags ≡ length (signal_values list word) = length-all_flags Kept list mask ok ∙ sym (length-signal_values list word) in
      let there : list.inputs + g < length (signal_values list word) = omega (arith, length-signal_values list word) in
      let stays : flag_at flags (list.inputs + g) ≡ false = gates_stay (word_bits mask list.inputs) list.gates (list.inputs + g) (omega (arith, length-word_bits mask list.inputs)) in
      ap (λ v. slice_index_or v (list.inputs + g) false) (flipped_signals Kept list mask word other ok differ)
      ∙ flipped_at flags (signal_values list word) (list.inputs + g) same there
      ∙ ap (λ f. flipped f (slice_index_or (signal_values list word) (list.inputs + g) false)) stays;
  values = λ word other differ. changed_values Kept list mask ok refs word other over differ;
}
