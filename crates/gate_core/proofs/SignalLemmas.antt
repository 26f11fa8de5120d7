-- The words of signals.
use Rattle.std.proofs.Common.{◌≡◌, ℕ, zero, suc, ◌+◌, ◌*◌, ◌^◌, ◌<◌, ◌≤◌, Bool, true, false, not, ◌&&◌, ◌||◌, if◌then◌else◌, List, [], ◌∷◌, ◌++◌, length, map, slice_index, slice_index_or, bit_and, bit_or, refl, sym, ap, ◌∙◌, subst, inl, inr, arith, length-append}
use Rattle.std.specs.Int.{w64, bit_not}
use Rattle.std.specs.List.{list_any, position_or_len}
use Rattle.std.proofs.lemmas.Bool.{cases_eq}
use Rattle.std.proofs.lemmas.List.{get_or_append_left, get_or_at, map-append, length-map}
use Rattle.cpog_defs.specs.declared.types.Gate.{Gate}
use Rattle.cpog_defs.specs.Codes.{bit}
use Rattle.cpog_defs.specs.Gates.{GateList, signal_count, gate_value}
use Rattle.cpog_base.specs.BitLaws.{bit-and, bit-or, bit-not, bit-zero}
use Rattle.gate_core.specs.Words.{gate_of, gates_of, value_at, AreSignals}
use Rattle.gate_core.specs.First.{code_at, same_gate, Reached, with_gate}
use Rattle.cpog_base.proofs.NamesLemmas.{list_any-map, position_or_len-map}
use Rattle.gate_core.proofs.GateLemmas.{input-signal, one_more_gate}
use Rattle.gate_core.proofs.ExtendLemmas.{with_last, extends_last, extends-value, last-value}

-- ---- inputs

-- so many words, each the values of the input of its number
pub record AreInputsTo (codes : List ℕ) (i : ℕ) (words : List ℕ) : Type 0 where
  pub one_each : length words ≡ i
  pub values : (n s : ℕ) → n < i → s < length codes → bit (slice_index words n) s ≡ bit (code_at codes s) n

pub one_more_input : (codes : List ℕ) (i : ℕ) (words : List ℕ) (word : ℕ) → AreInputsTo codes i words →
    ((s : ℕ) → s < length codes → bit word s ≡ bit (code_at codes s) i) →
    AreInputsTo codes (i + 1) (words ++ word ∷ [])
one_more_input codes i words word h is = record {
  one_each = omega (arith, length-append words (word ∷ []), h.one_each);
  values = λ n s l m. elim (cases_eq n i) [
    | inl same ↦ rw (same) (ap (λ w. bit w s) (get_or_at words word [] 0 i h.one_each) ∙ is s m)
    | inr other ↦ ap (λ w. bit w s) (get_or_append_left words (word ∷ []) 0 n (omega (arith, h.one_each))) ∙ h.values n s (omega arith) m
  ];
}

pub only_inputs : (codes : List ℕ) (i : ℕ) (words : List ℕ) → 1 ≤ i → i ≤ 8 → length codes ≤ 64 → AreInputsTo codes i words → AreSignals codes (record { inputs = i; gates = [] }) words
only_inputs codes i words some few few_codes h = record {
  some = some;
  few = few;
  few_codes = few_codes;
  gates = tt;
  one_each = omega (arith, h.one_each);
  values = λ n s l m. h.values n s (omega (arith, l)) m ∙ sym (input-signal (record { inputs = i; gates = [] }) (code_at codes s) n (omega (arith, l)));
}

-- ---- the word of a gate

-- a row's word where the table is 1 there
abbrev pub IsRowOf : ℕ → ℕ → ℕ → ℕ → Type 0
IsRowOf table row word result = (s : ℕ) → bit result s ≡ (bit table row && bit word s)

pub row_there : (table row word : ℕ) → bit table row ≡ true → IsRowOf table row word word
row_there table row word t s = sym (ap (λ b. b && bit word s) t)

pub row_missing : (table row word : ℕ) → bit table row ≡ false → IsRowOf table row word 0
row_missing table row word f s = bit-zero s ∙ sym (ap (λ b. b && bit word s) f)

pub gate_bits : (table first second a b c d : ℕ) → first < 2 ^ 64 → second < 2 ^ 64 →
    IsRowOf table 0 (bit_and (bit_not w64 first) (bit_not w64 second)) a → IsRowOf table 1 (bit_and (bit_not w64 first) second) b →
    IsRowOf table 2 (bit_and first (bit_not w64 second)) c → IsRowOf table 3 (bit_and first second) d →
    (s : ℕ) → s < 64 → bit (bit_or (bit_or (bit_or a b) c) d) s ≡ gate_value table (bit first s) (bit second s)
gate_bits table first second a b c d lf ls ra rb rc rd s l =
    bit-or (bit_or (bit_or a b) c) d s ∙ ap (λ x. x || bit d s) (bit-or (bit_or a b) c s ∙ ap (λ x. x || bit c s) (bit-or a b s))
    ∙ rw (
      ra s,
      rb s,
      rc s,
      rd s,
      bit-and (bit_not w64 first) (bit_not w64 second) s,
      bit-and (bit_not w64 first) second s,
      bit-and first (bit_not w64 second) s,
      bit-and first second s,
      bit-not w64 first s lf l,
      bit-not w64 second s ls l,
    )
    (four (λ n. bit table n) (bit first s) (bit second s))
  where
    none : (x : Bool) → (x && false) ≡ false
    none true = refl
    none false = refl

    all : (x : Bool) → (x && true) ≡ x
    all true = refl
    all false = refl

    or_none : (x : Bool) → (x || false) ≡ x
    or_none true = refl
    or_none false = refl

    four : (t : ℕ → Bool) (p q : Bool) → ((((t 0 && (not p && not q)) || (t 1 && (not p && q))) || (t 2 && (p && not q))) || (t 3 && (p && q))) ≡ t (2 * (if p then 1 else 0) + (if q then 1 else 0))
    four t false false = rw (none (t 1), none (t 2), none (t 3), all (t 0), or_none (t 0), or_none (t 0), or_none (t 0)) refl
    four t false true = rw (none (t 0), none (t 2), none (t 3), all (t 1)) (simp (or_none))
    four t true false = rw (none (t 0), none (t 1), none (t 3), all (t 2)) (simp (or_none))
    four t true true = rw (none (t 0), none (t 1), none (t 2), all (t 3)) refl

-- ---- one signal more

pub one_more_signal : (codes : List ℕ) (list : GateList) (gate : Gate) (words : List ℕ) (word : ℕ) → AreSignals codes list words → gate.j < gate.k → gate.k < signal_count list → gate.table < 16 →
    ((s : ℕ) → s < length codes → bit word s ≡ gate_value gate.table (bit (slice_index words gate.j) s)
    (bit (slice_index words gate.k) s)) → AreSignals codes (with_last list gate) (words ++ word ∷ [])
one_more_signal codes list gate words word h lower earlier table is = record {
  some = h.some;
  few = h.few;
  few_codes = h.few_codes;
  gates = one_more_gate list.inputs list.gates gate h.gates lower earlier table;
  one_each = omega (arith, length-append words (word ∷ []), length-append list.gates (gate ∷ []), h.one_each);
  values = λ n s l m. elim (cases_eq n (signal_count list)) [
    | inl same ↦ rw same (ap (λ w. bit w s) (get_or_at words word [] 0 (signal_count list) h.one_each) ∙ is s m
        ∙ ap (λ p. gate_value gate.table p (bit (slice_index words gate.k) s)) (h.values gate.j s (omega (arith, lower, earlier)) m)
        ∙ ap (gate_value gate.table (value_at list gate.j (code_at codes s))) (h.values gate.k s earlier m)
        ∙ sym (last-value list gate (code_at codes s)))
    | inr other ↦
        let before : n < signal_count list = omega (arith, l, length-append list.gates (gate ∷ [])) in
        ap (λ w. bit w s) (get_or_append_left words (word ∷ []) 0 n (omega (arith, h.one_each)))
        ∙ h.values n s before m ∙ sym (extends-value list (with_last list gate) (extends_last list gate) n
        (code_at codes s) before)
  ];
}

-- ---- the gates as they are kept

pub no_keys : {X : Type 0} (xs : List X) → length xs ≡ 0 → [] ≡ xs
no_keys [] h = refl
no_keys (x ∷ xs) h = absurd (omega arith)

module _ (inputs : ℕ) (keys : List (ℕ × ℕ × ℕ)) (key : ℕ × ℕ × ℕ) where
  -- whether the gate is there
  abbrev pub is_kept : Bool
  is_kept = list_any (λ y. same_gate (gate_of key) (gate_of y)) keys

  -- the keys with this one
  abbrev pub keys_with : List (ℕ × ℕ × ℕ)
  keys_with = if is_kept then keys else keys ++ key ∷ []

  map-keys_with : (b : Bool) → (if b then map gate_of keys else map gate_of keys ++ gate_of key ∷ []) ≡ map gate_of (if b then keys else keys ++ key ∷ [])
  map-keys_with true = refl
  map-keys_with false = sym (map-append gate_of keys (key ∷ []))

  pub with_key : let make : GateList → ℕ → Reached = λ gates signal. record { gates = gates; signal = signal } in
      with_gate (gates_of inputs keys) (gate_of key) ≡ make (gates_of inputs keys_with) (inputs + position_or_len (λ y. same_gate (gate_of key) (gate_of y)) keys)
  unfolding with_gate
  with_key =
      let make : List Gate → ℕ → Reached = λ gates n. record { gates = record { inputs = inputs; gates = gates }; signal = inputs + n } in
      let choice : Bool → List Gate = λ b. if b then map gate_of keys else map gate_of keys ++ gate_of key ∷ [] in
      ap (λ b. make (choice b) (position_or_len (same_gate (gate_of key)) (map gate_of keys))) (list_any-map gate_of (same_gate (gate_of key)) keys)
      ∙ ap (make (choice is_kept)) (position_or_len-map gate_of (same_gate (gate_of key)) keys)
      ∙ ap (λ gates. make gates (position_or_len (λ y. same_gate (gate_of key) (gate_of y)) keys)) (map-keys_with is_kept)

  pub signals_kept : (codes words : List ℕ) → AreSignals codes (gates_of inputs keys) words → is_kept ≡ true → AreSignals codes (gates_of inputs keys_with) words
  signals_kept codes words h there = subst (λ b. AreSignals codes (gates_of inputs (if b then keys else keys ++ key ∷ [])) words) (sym there) h

  pub signals_with : (codes words : List ℕ) (word : ℕ) → AreSignals codes (gates_of inputs keys) words → key.0 < key.1 → key.1 < inputs + length keys → key.2 < 16 →
      ((s : ℕ) → s < length codes → bit word s ≡ gate_value key.2 (bit (slice_index words key.0) s) (bit (slice_index words key.1) s)) →
      is_kept ≡ false → AreSignals codes (gates_of inputs keys_with) (words ++ word ∷ [])
  signals_with codes words word h lower earlier table is new =
      subst (λ b. AreSignals codes (gates_of inputs (if b then keys else keys ++ key ∷ [])) (words ++ word ∷ [])) (sym new)
      (subst (λ gates. AreSignals codes (record { inputs = inputs; gates = gates }) (words ++ word ∷ [])) (sym (map-append gate_of keys (key ∷ [])))
      (one_more_signal codes (gates_of inputs keys) (gate_of key) words word h lower (omega (arith, length-map keys gate_of)) table is))

-- an item, read with any default
pub read_item : (xs : List ℕ) (i x : ℕ) → i < length xs → x ≡ slice_index_or xs i x → x ≡ slice_index xs i
read_item [] i x l e = absurd (omega arith)
read_item (y ∷ xs) zero x l e = e
read_item (y ∷ xs) (suc i) x l e = read_item xs i x (omega arith) e
