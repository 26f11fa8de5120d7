-- What each way to take a column gives: gates that are gates again, and a reference that agrees with the column.
use Rattle.std.proofs.Common.{◌≡◌, ◌↔◌, ◌⊎◌, ℕ, zero, suc, ◌+◌, ◌/◌, ◌%◌, ◌^◌, ◌<◌, ◌≤◌, ◌==◌, Bool, true, false, not, cond, if◌then◌else◌, IsTrue, List, [], ◌∷◌, ◌++◌, length, take, slice_get, slice_index_or, Some, refl, sym, ap, ap₂, ◌∙◌, subst, inl, inr, arith, add-one, length-append, append-nil}
use Rattle.std.specs.List.{list_any, count_by, AllByRecursion, All}
use Rattle.std.proofs.lemmas.Bool.{cases_lt, cases_eq, both_ways, or_cases, false_from_ne_true}
use Rattle.std.proofs.lemmas.Bool.Decides.{nat_tests}
use Rattle.std.proofs.lemmas.Nat.Bits.{same_from_bits_below, bit_at-lt}
use Rattle.std.proofs.lemmas.List.{take_more, take_all}
use Rattle.std.proofs.lemmas.List.Sums.{sum_by-append, count_by-le-length}
use Rattle.std.proofs.lemmas.Option.{slice_get_within, slice_get-get_or, get_or_from_slice_get}
use Rattle.cpog_defs.specs.declared.types.Bit3.{Bit3}
use Rattle.cpog_defs.specs.declared.types.Bit3.TheVariants.{Zero, One, Free}
use Rattle.cpog_defs.specs.declared.types.Ref.{Ref}
use Rattle.cpog_defs.specs.declared.types.Ref.TheVariants.{Const, Signal}
use Rattle.cpog_defs.specs.Codes.{bit, AreCodes}
use Rattle.cpog_defs.specs.Entries.{Agrees, entry_at}
use Rattle.cpog_defs.specs.Orders.{each_below}
use Rattle.cpog_defs.specs.Gates.{GateList, IsGateList, signal_count, signal_values, gate_value, ref_value, IsRefOver}
use Rattle.cpog_defs.specs.Encodings.{RefAgrees}
use Rattle.cpog_base.specs.Column.{is_one, is_zero}
use Rattle.gate_core.specs.Columns.{IsOpenColumn}
use Rattle.gate_core.specs.First.{code_at, with_gate, SignalAgrees, NoSignalAgrees, codes_where, has_fewer_zeros, smaller_codes, sum_of_minterms, IsBySignal, IsByPair, IsByMinterms, Takes, TakesAll}
use Rattle.gate_core.specs.Serving.{ReferencesServe}
use Rattle.gate_core.specs.Words.{Signals, value_at, IsColumnOnCodes}
use Rattle.gate_core.specs.Minterms.{SameBits, AllDiffer}
use Rattle.gate_core.proofs.GateLemmas.{input-signal}
use Rattle.gate_core.proofs.ExtendLemmas.{Extends, extends_self, extends_trans, extends-value, extends-count, with_gate_appends}
use Rattle.gate_core.proofs.MintermLemmas.{SomeSame, sum_is}

-- ---- words by their bits

pub words_eq : (n a b : ℕ) → a < 2 ^ n → b < 2 ^ n → SameBits n a b → b ≡ a
words_eq n a b la lb h = same_from_bits_below n b a lb la (λ i l. same_bit (b / 2 ^ i % 2) (a / 2 ^ i % 2) (bit_at-lt b i) (bit_at-lt a i) (h i l))
  where
    same_bit : (x y : ℕ) → x < 2 → y < 2 → (x == 1) ≡ (y == 1) → x ≡ y
    same_bit x y l m e = grind (arith, nat_tests)

-- ---- what it means to agree on the codes

-- the value of a signal, or its complement
abbrev pub signed : Bool → Bool → Bool
signed negated v = if negated then not v else v

pub signed_value : (list : GateList) (n s : ℕ) (negated : Bool) → ref_value (signal_values list s) (Signal n negated) ≡ signed negated (value_at list n s)
signed_value list n s true = refl
signed_value list n s false = refl

pub agrees_from : (list : GateList) (codes : List ℕ) (column : List Bit3) (n : ℕ) (negated : Bool) →
    ((s : ℕ) → s < length codes → Agrees (entry_at column s) (signed negated (value_at list n (code_at codes s)))) → SignalAgrees list codes column n negated
agrees_from list codes column n negated h s word at =
    let is : word ≡ code_at codes s = sym (get_or_from_slice_get codes s word 0 at) in
    subst (λ w. Agrees (entry_at column s) (ref_value (signal_values list w) (Signal n negated))) (sym is)
    (subst (Agrees (entry_at column s)) (sym (signed_value list n (code_at codes s) negated)) (h s (slice_get_within codes s word at)))

pub from_agrees : (list : GateList) (codes : List ℕ) (column : List Bit3) (n : ℕ) (negated : Bool) → SignalAgrees list codes column n negated →
    (s : ℕ) → s < length codes → Agrees (entry_at column s) (signed negated (value_at list n (code_at codes s)))
from_agrees list codes column n negated h s l =
    subst (Agrees (entry_at column s)) (signed_value list n (code_at codes s) negated) (h s (code_at codes s) (slice_get-get_or codes s 0 l))

-- entries by their tests
pub agrees_by : (e : Bit3) (v : Bool) → (IsTrue (is_one e) → v ≡ true) → (IsTrue (is_zero e) → v ≡ false) → Agrees e v
agrees_by One v one nil = one refl
agrees_by Zero v one nil = nil refl
agrees_by Free v one nil = tt

pub one_agrees : (e : Bit3) (v : Bool) → Agrees e v → IsTrue (is_one e) → v ≡ true
one_agrees One v h t = h
one_agrees Zero v h t = absurd (both_ways _ refl t)
one_agrees Free v h t = absurd (both_ways _ refl t)

pub zero_agrees : (e : Bit3) (v : Bool) → Agrees e v → IsTrue (is_zero e) → v ≡ false
zero_agrees Zero v h t = h
zero_agrees One v h t = absurd (both_ways _ refl t)
zero_agrees Free v h t = absurd (both_ways _ refl t)

pub entry_one : (e : Bit3) → IsTrue (is_one e) → e ≡ One
entry_one One t = refl
entry_one Zero t = absurd (both_ways _ refl t)
entry_one Free t = absurd (both_ways _ refl t)

pub entry_zero : (e : Bit3) → IsTrue (is_zero e) → e ≡ Zero
entry_zero Zero t = refl
entry_zero One t = absurd (both_ways _ refl t)
entry_zero Free t = absurd (both_ways _ refl t)

-- ---- the codes of scenarios that pass a test

abbrev pub passing : (ℕ → Bool) → List ℕ → ℕ → List ℕ
passing p codes n = each_below (λ s. if p s then code_at codes s ∷ [] else []) n

some_append : (n : ℕ) (xs ys : List ℕ) (t : ℕ) → SomeSame n (xs ++ ys) t ↔ (SomeSame n xs t ⊎ SomeSame n ys t)
some_append n [] ys t = (λ h. inr h, λ h. elim h [ inl a ↦ absurd a | inr b ↦ b ])
some_append n (x ∷ xs) ys t =
    let rest = some_append n xs ys t in (
      λ h. elim h [ inl a ↦ inl (inl a) | inr b ↦ elim (rest.0 b) [ inl c ↦ inl (inr c) | inr d ↦ inr d ] ],
      λ h. elim h [ inl a ↦ elim a [ inl b ↦ inl b | inr c ↦ inr (rest.1 (inl c)) ] | inr d ↦ inr (rest.1 (inr d)) ],
    )

-- a passing scenario whose code has the word's bits
pub record PassesAs (p : ℕ → Bool) (codes : List ℕ) (k n t : ℕ) : Type 0 where
  pub scenario : ℕ
  pub below : scenario < n
  pub passes : p scenario ≡ true
  pub same : SameBits k (code_at codes scenario) t

pub some_passing : (p : ℕ → Bool) (codes : List ℕ) (k n t : ℕ) → SomeSame k (passing p codes n) t → PassesAs p codes k n t
some_passing p codes k zero t h = absurd h
some_passing p codes k (suc n) t h = elim ((some_append k (passing p codes n) (if p n then code_at codes n ∷ [] else []) t).0 h) [
  | inl a ↦ let r = some_passing p codes k n t a in record { scenario = r.scenario; below = omega (arith, r.below); passes = r.passes; same = r.same }
  | inr b ↦ last (p n) refl b
]
  where
    last : (b : Bool) → p n ≡ b → SomeSame k (if b then code_at codes n ∷ [] else []) t → PassesAs p codes k (suc n) t
    last true e h = elim h [ inl a ↦ record { scenario = n; below = omega arith; passes = e; same = a } | inr b ↦ absurd b ]
    last false e h = absurd h

pub passing_some : (p : ℕ → Bool) (codes : List ℕ) (k n s t : ℕ) → s < n → p s ≡ true → SameBits k (code_at codes s) t → SomeSame k (passing p codes n) t
passing_some p codes k zero s t l e h = absurd (omega arith)
passing_some p codes k (suc n) s t l e h = (some_append k (passing p codes n) (if p n then code_at codes n ∷ [] else []) t).1 (elim (cases_eq s n) [
  | inl same ↦ inr (subst (λ b. SomeSame k (if b then code_at codes n ∷ [] else []) t) (sym (sym (ap p same) ∙ e)) (inl (subst (λ x. SameBits k (code_at codes x) t) same h)))
  | inr other ↦ inl (passing_some p codes k n s t (omega arith) e h)
])

all_append : (P : ℕ → Type 0) (xs ys : List ℕ) → AllByRecursion P xs → AllByRecursion P ys → AllByRecursion P (xs ++ ys)
all_append P [] ys a b = b
all_append P (x ∷ xs) ys a b = (a.0, all_append P xs ys a.1 b)

pub all_weaker : (P Q : ℕ → Type 0) → ((x : ℕ) → P x → Q x) → (xs : List ℕ) → AllByRecursion P xs → AllByRecursion Q xs
all_weaker P Q f [] a = tt
all_weaker P Q f (x ∷ xs) a = (f x a.0, all_weaker P Q f xs a.1)

-- a word is the code of one of the first n scenarios
abbrev pub IsCodeBelow : List ℕ → ℕ → ℕ → Type 0
IsCodeBelow codes n word = (s : ℕ) × (s < n) × (code_at codes s ≡ word)

pub passing_codes : (p : ℕ → Bool) (codes : List ℕ) (n : ℕ) → AllByRecursion (IsCodeBelow codes n) (passing p codes n)
passing_codes p codes zero = tt
passing_codes p codes (suc n) =
    all_append (IsCodeBelow codes (suc n)) (passing p codes n) _
    (all_weaker (IsCodeBelow codes n) (IsCodeBelow codes (suc n)) (λ x h. (h.0, omega (arith, h.1), h.2)) (passing p codes n) (passing_codes p codes n)) (last (p n))
  where
    last : (b : Bool) → AllByRecursion (IsCodeBelow codes (suc n)) (if b then code_at codes n ∷ [] else [])
    last true = ((n, omega arith, refl), tt)
    last false = tt

differ_push : (k : ℕ) (xs : List ℕ) (y : ℕ) → AllDiffer k xs → AllByRecursion (λ x. SameBits k x y → ⊥) xs → AllDiffer k (xs ++ y ∷ [])
differ_push k [] y d f = (tt, tt)
differ_push k (x ∷ xs) y d f = (all_append (λ t. SameBits k x t → ⊥) xs (y ∷ []) d.0 (f.0, tt), differ_push k xs y d.1 f.1)

-- scenarios whose codes have the same bits are one
pub one_scenario : (codes : List ℕ) (k s t : ℕ) → AreCodes k (length codes) codes → s < length codes → t < length codes → SameBits k (code_at codes s) (code_at codes t) → s ≡ t
one_scenario codes k s t h ls lt same =
    let e : code_at codes t ≡ code_at codes s = words_eq k (code_at codes s) (code_at codes t) (h.within s 0 ls) (h.within t 0 lt) same in
    elim (cases_lt s t) [
      | inl l ↦ absurd (h.distinct s t 0 l lt (sym e))
      | inr m ↦ elim (cases_lt t s) [ inl l ↦ absurd (h.distinct t s 0 l ls e) | inr n ↦ omega (arith, m, n) ]
    ]

pub passing_differ : (p : ℕ → Bool) (codes : List ℕ) (k n : ℕ) → AreCodes k (length codes) codes → n ≤ length codes → AllDiffer k (passing p codes n)
passing_differ p codes k zero h l = tt
passing_differ p codes k (suc n) h l = last (p n) (passing_differ p codes k n h (omega arith))
  where
    apart : (x : ℕ) → IsCodeBelow codes n x → SameBits k x (code_at codes n) → ⊥
    apart x c same = absurd (omega (arith, c.1, one_scenario codes k c.0 n h (omega (arith, c.1, l)) l (subst (λ w. SameBits k w (code_at codes n)) (sym c.2) same)))

    last : (b : Bool) → AllDiffer k (passing p codes n) → AllDiffer k (passing p codes n ++ (if b then code_at codes n ∷ [] else []))
    last true d = differ_push k (passing p codes n) (code_at codes n) d (all_weaker (IsCodeBelow codes n) (λ x. SameBits k x (code_at codes n) → ⊥) apart (passing p codes n) (passing_codes p codes n))
    last false d = subst (AllDiffer k) (sym (append-nil (passing p codes n))) d

-- ---- how many pass

counted : (p : Bit3 → Bool) (codes : List ℕ) (column : List Bit3) (n : ℕ) → n ≤ length column → length (passing (λ s. p (entry_at column s)) codes n) ≡ count_by p (take n column)
counted p codes column zero l = refl
counted p codes column (suc n) l =
    let e = entry_at column n in
    let longer : take (suc n) column ≡ take n column ++ e ∷ [] = rw (← add-one) (take_more column n Free (omega arith)) in
    length-append (passing (λ s. p (entry_at column s)) codes n) (if p e then code_at codes n ∷ [] else [])
    ∙ ap₂ (λ a b. a + b) (counted p codes column n (omega arith)) (one (p e))
    ∙ sym (ap (count_by p) longer ∙ sum_by-append (λ x. cond (p x) 1 0) (take n column) (e ∷ []) ∙ ap (λ b. count_by p (take n column) + b) (alone (cond (p e) 1 0)))
  where
    alone : (n : ℕ) → 0 + n ≡ n
    alone n = omega arith

    one : (b : Bool) → length (if b then code_at codes n ∷ [] else []) ≡ cond b 1 0
    one true = refl
    one false = refl

pub length-codes : (p : Bit3 → Bool) (codes : List ℕ) (column : List Bit3) → length (codes_where p codes column) ≡ count_by p column
length-codes p codes column = counted p codes column (length column) (omega arith) ∙ ap (count_by p) (take_all (length column) column (omega arith))

-- ---- the smaller set

-- an entry that passes is at some scenario
pub some_at : (p : Bit3 → Bool) (column : List Bit3) → IsTrue (list_any p column) → (s : ℕ) × (s < length column) × IsTrue (p (entry_at column s))
some_at p [] h = absurd (both_ways _ refl h)
some_at p (e ∷ column) h = elim (or_cases (p e) (list_any p column) h) [
  | inl here ↦ (0, omega arith, here)
  | inr there ↦ let r = some_at p column there in (suc r.0, omega (arith, r.1), r.2)
]

some_long : (n : ℕ) (xs : List ℕ) (t : ℕ) → SomeSame n xs t → 1 ≤ length xs
some_long n [] t h = absurd h
some_long n (x ∷ xs) t h = omega arith

module _ (codes : List ℕ) (inputs : ℕ) (column : List Bit3) (enc : IsColumnOnCodes codes inputs column) where
  -- the codes of the scenarios that pass a test which some entry passes
  module _ (p : Bit3 → Bool) (some : IsTrue (list_any p column)) where
    some_code : 1 ≤ length (codes_where p codes column)
    some_code =
        let r = some_at p column some in
        some_long inputs (codes_where p codes column) (code_at codes r.0) (passing_some (λ s. p (entry_at column s)) codes inputs (length column) r.0 (code_at codes r.0) r.1 r.2 (λ b l. refl))

    few_codes : length (codes_where p codes column) ≤ 64
    few_codes = omega (arith, length-codes p codes column, count_by-le-length p column, enc.few, enc.is_open.entries)

    codes_differ : AllDiffer inputs (codes_where p codes column)
    codes_differ = passing_differ (λ s. p (entry_at column s)) codes inputs (length column) enc.codes_are (omega (arith, enc.is_open.entries))

    code_tells : (t : ℕ) → t < length codes → SomeSame inputs (codes_where p codes column) (code_at codes t) ↔ IsTrue (p (entry_at column t))
    code_tells t l = (
      λ h. let r = some_passing (λ s. p (entry_at column s)) codes inputs (length column) (code_at codes t) h in
          let e = one_scenario codes inputs r.scenario t enc.codes_are (omega (arith, r.below, enc.is_open.entries)) l r.same in
          subst (λ s. IsTrue (p (entry_at column s))) e r.passes,
      λ h. passing_some (λ s. p (entry_at column s)) codes inputs (length column) t (code_at codes t) (omega (arith, l, enc.is_open.entries)) h (λ b m. refl),
    )

  -- what is needed of the smaller set
  pub record IsSmaller (smaller : List ℕ) (negated : Bool) : Type 0 where
    pub some : 1 ≤ length smaller
    pub few : length smaller ≤ 64
    pub differ : AllDiffer inputs smaller
    pub agrees : (t : ℕ) (v : Bool) → t < length codes → IsTrue v ↔ SomeSame inputs smaller (code_at codes t) → Agrees (entry_at column t) (signed negated v)

  agree_plain : (e : Bit3) (v : Bool) → IsTrue v ↔ IsTrue (is_one e) → Agrees e v
  agree_plain One v h = h.1 refl
  agree_plain Zero true h = absurd (both_ways _ refl (h.0 refl))
  agree_plain Zero false h = refl
  agree_plain Free v h = tt

  agree_opposed : (e : Bit3) (v : Bool) → IsTrue v ↔ IsTrue (is_zero e) → Agrees e (not v)
  agree_opposed One true h = absurd (both_ways _ refl (h.0 refl))
  agree_opposed One false h = refl
  agree_opposed Zero v h = ap not (h.1 refl)
  agree_opposed Free v h = tt

  pub smaller_is : IsSmaller (smaller_codes codes column) (has_fewer_zeros column)
  smaller_is = by (has_fewer_zeros column)
    where
      by : (b : Bool) → IsSmaller (if b then codes_where is_zero codes column else codes_where is_one codes column) b
      by true = record {
        some = some_code is_zero enc.is_open.some_zero;
        few = few_codes is_zero enc.is_open.some_zero;
        differ = codes_differ is_zero enc.is_open.some_zero;
        agrees = λ t v l h. agree_opposed (entry_at column t) v (let s = code_tells is_zero enc.is_open.some_zero t l in (λ x. s.0 (h.0 x), λ x. h.1 (s.1 x)));
      }
      by false = record {
        some = some_code is_one enc.is_open.some_one;
        few = few_codes is_one enc.is_open.some_one;
        differ = codes_differ is_one enc.is_open.some_one;
        agrees = λ t v l h. agree_plain (entry_at column t) v (let s = code_tells is_one enc.is_open.some_one t l in (λ x. s.0 (h.0 x), λ x. h.1 (s.1 x)));
      }

  -- over one input the signal of this input agrees, so where none does there are two
  pub two_inputs : (list : GateList) → list.inputs ≡ inputs → 1 ≤ inputs → NoSignalAgrees list codes column → 2 ≤ inputs
  two_inputs list same some none = elim (cases_lt inputs 2) [
    | inr l ↦ l
    | inl l ↦
        let one : inputs ≡ 1 = omega arith in
        let s = some_at is_one column enc.is_open.some_one in
        let t = some_at is_zero column enc.is_open.some_zero in
        let value : (w : ℕ) → value_at list 0 w ≡ bit w 0 = λ w. input-signal list w 0 (omega (arith, same)) in
        let h : AreCodes 1 (length codes) codes = subst (λ k. AreCodes k (length codes) codes) one enc.codes_are in
        absurd (none 0 (not (bit (code_at codes s.0) 0)) (omega (arith, same)) (agrees_from list codes column 0 (not (bit (code_at codes s.0) 0)) (λ u m.
        subst (λ v. Agrees (entry_at column u) (signed (not (bit (code_at codes s.0) 0)) v)) (sym (value (code_at codes u)))
        (by_ends h s.0 t.0 (omega (arith, s.1, enc.is_open.entries)) (omega (arith, t.1, enc.is_open.entries)) (entry_one _ s.2) (entry_zero _ t.2) u m))))
  ]
    where
      one_bit : (u v : ℕ) → bit u 0 ≡ bit v 0 → SameBits 1 u v
      one_bit u v e b l = let first : b ≡ 0 = omega (arith, l) in subst (λ k. bit v k ≡ bit u k) (sym first) (sym e)

      -- the sign by which the first scenario is asked for a 1
      as_first : (x : Bool) → signed (not x) x ≡ true
      as_first true = refl
      as_first false = refl

      as_second : (x y : Bool) → (y ≡ x → ⊥) → signed (not x) y ≡ false
      as_second true true d = absurd (d refl)
      as_second true false d = refl
      as_second false true d = refl
      as_second false false d = absurd (d refl)

      no_third : (x y z : Bool) → (y ≡ x → ⊥) → (z ≡ x → ⊥) → z ≡ y
      no_third true true z d e = absurd (d refl)
      no_third true false true d e = absurd (e refl)
      no_third true false false d e = refl
      no_third false true true d e = refl
      no_third false true false d e = absurd (e refl)
      no_third false false z d e = absurd (d refl)

      by_ends : AreCodes 1 (length codes) codes → (s t : ℕ) → s < length codes → t < length codes → entry_at column s ≡ One → entry_at column t ≡ Zero →
          (u : ℕ) → u < length codes → Agrees (entry_at column u) (signed (not (bit (code_at codes s) 0)) (bit (code_at codes u) 0))
      by_ends h s t ls lt one nil u lu =
          let first : ℕ → Bool = λ x. bit (code_at codes x) 0 in
          let apart : (x y : ℕ) → x < length codes → y < length codes → first x ≡ first y → x ≡ y = λ x y lx ly e. one_scenario codes 1 x y h lx ly (one_bit (code_at codes x) (code_at codes y) e) in
          let other : first t ≡ first s → ⊥ = λ e. differ (subst (λ x. entry_at column x ≡ Zero) (apart t s lt ls e) nil) in
          elim (cases_eq_bool (first u) (first s)) [
            | inl e ↦ subst (λ x. Agrees (entry_at column x) (signed (not (first s)) (first x)))
                (sym (apart u s lu ls e)) (subst (λ x. Agrees x (signed (not (first s)) (first s))) (sym one)
                (as_first (first s)))
            | inr d ↦
                let e : u ≡ t = apart u t lu lt (no_third (first s) (first t) (first u) other d) in
                subst (λ x. Agrees (entry_at column x) (signed (not (first s)) (first x))) (sym e)
                (subst (λ x. Agrees x (signed (not (first s)) (first t))) (sym nil)
                (as_second (first s) (first t) other))
          ]
        where
          differ : entry_at column s ≡ Zero → ⊥
          differ e = (let f : One ≡ Zero = sym one ∙ e in cc)

          cases_eq_bool : (x y : Bool) → (x ≡ y) ⊎ (x ≡ y → ⊥)
          cases_eq_bool true true = inl refl
          cases_eq_bool true false = inr (λ e. cc)
          cases_eq_bool false true = inr (λ e. cc)
          cases_eq_bool false false = inl refl

-- ---- a column that is taken

-- gates behind those before, and a reference over them that agrees
pub record IsTaken (codes : List ℕ) (before : GateList) (column : List Bit3) (after : GateList) (ref : Ref) : Type 0 where
  pub extends : Extends before after
  pub gates : IsGateList after
  pub over : IsRefOver (signal_count after) ref
  pub agrees : RefAgrees after codes column ref

module _ (codes : List ℕ) (before : GateList) (column : List Bit3) (ok : IsGateList before) (some : 1 ≤ before.inputs) (enc : IsColumnOnCodes codes before.inputs column) where
  as_taken : (x y : GateList) (a b : Ref) → x ≡ y → a ≡ b → IsTaken codes before column x a → IsTaken codes before column y b
  as_taken x y a b same_gates same_ref h = subst (IsTaken codes before column y) same_ref (subst (λ g. IsTaken codes before column g a) same_gates h)

  signal_taken : (after : GateList) (ref : Ref) → IsBySignal codes before column after ref → IsTaken codes before column after ref
  signal_taken after ref h = as_taken before after (Signal h.number h.negated) ref (sym h.gates) (sym h.reference) (record {
    extends = extends_self before;
    gates = ok;
    over = h.signal.in_range;
    agrees = h.signal.agrees;
  })

  pair_taken : (after : GateList) (ref : Ref) → IsByPair codes before column after ref → IsTaken codes before column after ref
  pair_taken after ref h =
      let gate = h.gate in
      let r = with_gate before gate in
      let a = with_gate_appends before gate ok h.pair.lower (omega (arith, h.pair.in_range)) h.pair.few_rows in
      let value : (s : ℕ) → value_at r.gates r.signal s ≡ gate_value gate.table (bit s gate.j) (bit s gate.k) =
      λ s. a.value s ∙ ap₂ (gate_value gate.table) (input-signal before s gate.j (omega (arith, h.pair.lower, h.pair.in_range))) (input-signal before s gate.k h.pair.in_range) in
      as_taken r.gates after (Signal r.signal false) ref (sym h.gates) (sym h.reference) (record {
        extends = a.extends;
        gates = a.gates;
        over = a.in_range;
        agrees = agrees_from r.gates codes column r.signal false (λ s l. let w = code_at codes s in
            subst (Agrees (entry_at column s)) (sym (value w)) (agrees_by (entry_at column s) (gate_value gate.table (bit w gate.j) (bit w gate.k))
            (λ t. (h.pair.table (bit w gate.j) (bit w gate.k)).1 (s, entry_one (entry_at column s) t, refl, refl))
            (λ t. false_from_ne_true (gate_value gate.table (bit w gate.j) (bit w gate.k))
            (λ one. let x = (h.pair.table (bit w gate.j) (bit w gate.k)).0 one in
            h.pair.tells x.0 s x.1 (entry_zero (entry_at column s) t) x.2 x.3))));
      })

  minterms_taken : (after : GateList) (ref : Ref) → IsByMinterms codes before column after ref → IsTaken codes before column after ref
  minterms_taken after ref h =
      let q = smaller_codes codes column in
      let small = smaller_is codes before.inputs column enc in
      let two = two_inputs codes before.inputs column enc before refl some h.none in
      let r = sum_of_minterms before q in
      let sum = sum_is before ok two q small.some small.differ in
      as_taken r.gates after (Signal r.signal (has_fewer_zeros column)) ref (sym h.gates) (sym h.reference) (record {
        extends = sum.extends;
        gates = sum.gates;
        over = sum.in_range;
        agrees = agrees_from r.gates codes column r.signal (has_fewer_zeros column) (λ s l. small.agrees s (value_at r.gates r.signal (code_at codes s)) l (sum.value (code_at codes s)));
      })

  pub taken : (after : GateList) (ref : Ref) → Takes codes before column after ref → IsTaken codes before column after ref
  taken after ref h = elim h [ inl a ↦ signal_taken after ref a | inr b ↦ elim b [ inl c ↦ pair_taken after ref c | inr d ↦ minterms_taken after ref d ] ]

-- ---- columns in order

-- one column more at the end
pub takes_push : (codes : List ℕ) (before : GateList) (columns : List (List Bit3)) (between : GateList) (refs : List Ref) (column : List Bit3) (after : GateList) (ref : Ref) →
    TakesAll codes before columns between refs → Takes codes between column after ref → TakesAll codes before (columns ++ column ∷ []) after (refs ++ ref ∷ [])
takes_push codes before [] between refs column after ref h t = (after, ref, [], ap (λ r. r ++ ref ∷ []) h.1, subst (λ g. Takes codes g column after ref) h.0 t, (refl, refl))
takes_push codes before (c ∷ columns) between refs column after ref h t = (h.0, h.1, h.2 ++ ref ∷ [], ap (λ r. r ++ ref ∷ []) h.3, h.4, takes_push codes h.0 columns between h.2 column after ref h.5 t)

-- the next column after those below a place
pub takes_next : (codes : List ℕ) (before : GateList) (columns : List (List Bit3)) (i : ℕ) (between : GateList)
    (refs : List Ref) → TakesAll codes before (take i columns) between refs → i < length columns →
    (column : List Bit3) → column ≡ slice_index_or columns i column → (after : GateList) (ref : Ref) →
    Takes codes between column after ref → TakesAll codes before (take (i + 1) columns) after (refs ++ ref ∷ [])
takes_next codes before columns i between refs h l column is after ref t =
    let longer : take (i + 1) columns ≡ take i columns ++ column ∷ [] = take_more columns i column l ∙ ap (λ c. take i columns ++ c ∷ []) (sym is) in
    subst (λ cs. TakesAll codes before cs after (refs ++ ref ∷ [])) (sym longer) (takes_push codes before (take i columns) between refs column after ref h t)

-- ---- all columns

-- a reference that agrees still does with further gates
agrees_stays : (a b : GateList) → Extends a b → (codes : List ℕ) (column : List Bit3) (ref : Ref) → IsRefOver (signal_count a) ref → RefAgrees a codes column ref → RefAgrees b codes column ref
agrees_stays a b x codes column (Const v) over h s word at = h s word at
agrees_stays a b x codes column (Signal n true) over h s word at = subst (λ v. Agrees (entry_at column s) (not v)) (sym (extends-value a b x n word over)) (h s word at)
agrees_stays a b x codes column (Signal n false) over h s word at = subst (Agrees (entry_at column s)) (sym (extends-value a b x n word over)) (h s word at)

over_stays : (m n : ℕ) → m ≤ n → (ref : Ref) → IsRefOver m ref → IsRefOver n ref
over_stays m n l (Const v) h = h
over_stays m n l (Signal k negated) h = omega (arith, h)

-- all columns are taken
pub record AllTaken (codes : List ℕ) (before : GateList) (columns : List (List Bit3)) (after : GateList) (refs : List Ref) : Type 0 where
  pub extends : Extends before after
  pub gates : IsGateList after
  pub one_each : length refs ≡ length columns
  pub over : All (IsRefOver (signal_count after)) refs
  pub agrees : (c : ℕ) (column : List Bit3) (ref : Ref) → slice_get columns c ≡ Some column → slice_get refs c ≡ Some ref → RefAgrees after codes column ref

pub all_taken : (codes : List ℕ) (before : GateList) → IsGateList before → 1 ≤ before.inputs → (columns : List (List Bit3)) → All (IsColumnOnCodes codes before.inputs) columns →
    (after : GateList) (refs : List Ref) → TakesAll codes before columns after refs → AllTaken codes before columns after refs
all_taken codes before ok some [] enc after refs h =
    subst (λ g. AllTaken codes before [] g refs) (sym h.0) (subst (AllTaken codes before [] before) (sym h.1) (record {
      extends = extends_self before;
      gates = ok;
      one_each = refl;
      over = λ k d l. absurd (omega arith);
      agrees = λ c column ref x y. cc;
    }))
all_taken codes before ok some (column ∷ columns) enc after refs h =
    let between = h.0 in
    let ref = h.1 in
    let rest = h.2 in
    let one = taken codes before column ok some (enc 0 column (omega arith)) between ref h.4 in
    let others =
    all_taken codes between one.gates (omega (arith, one.extends.inputs)) columns
    (λ k d l. subst (λ n. IsColumnOnCodes codes n (slice_index_or columns k d)) (sym one.extends.inputs)
    (enc (suc k) d (omega arith))) after rest h.5 in
    subst (AllTaken codes before (column ∷ columns) after) (sym h.3) (record {
      extends = extends_trans before between after one.extends others.extends;
      gates = others.gates;
      one_each = omega (arith, others.one_each);
      over = over_all between after ref rest (over_stays (signal_count between) (signal_count after) (extends-count between after others.extends) ref one.over) others.over;
      agrees = agree_all between after ref rest (agrees_stays between after others.extends codes column ref one.over one.agrees) others.agrees;
    })
  where
    over_all : (between after : GateList) (ref : Ref) (rest : List Ref) → IsRefOver (signal_count after) ref →
        All (IsRefOver (signal_count after)) rest → All (IsRefOver (signal_count after)) (ref ∷ rest)
    over_all between after ref rest a b zero d l = a
    over_all between after ref rest a b (suc k) d l = b k d (omega arith)

    agree_all : (between after : GateList) (ref : Ref) (rest : List Ref) → RefAgrees after codes column ref →
        ((c : ℕ) (col : List Bit3) (r : Ref) → slice_get columns c ≡ Some col → slice_get rest c ≡ Some r → RefAgrees after codes col r) →
        (c : ℕ) (col : List Bit3) (r : Ref) → slice_get (column ∷ columns) c ≡ Some col → slice_get (ref ∷ rest) c ≡ Some r → RefAgrees after codes col r
    agree_all between after ref rest a b zero col r x y =
        let same_column : column ≡ col = cc in
        let same_ref : ref ≡ r = cc in
        subst (λ k. RefAgrees after codes k r) same_column (subst (RefAgrees after codes column) same_ref a)
    agree_all between after ref rest a b (suc c) col r x y = b c col r x y

-- ---- the whole

pub encodable : (codes : List ℕ) (bits : ℕ) → length codes ≤ 64 → AreCodes bits (length codes) codes → (columns : List (List Bit3)) →
    All (IsOpenColumn (length codes)) columns → All (IsColumnOnCodes codes bits) columns
encodable codes bits few are columns h k d l = record { is_open = h k d l; few = few; codes_are = are }

-- the columns are taken from no gate on
pub from_start : (codes : List ℕ) (bits : ℕ) (columns : List (List Bit3)) (start : Signals) →
    start ≡ record { codes = codes; list = record { inputs = bits; gates = [] } } → (after : GateList) (refs : List Ref) →
    TakesAll start.codes start.list columns after refs → TakesAll codes (record { inputs = bits; gates = [] }) columns after refs
from_start codes bits columns start is after refs t = subst (λ (s : Signals). TakesAll s.codes s.list columns after refs) is t

pub whole_taken : (codes : List ℕ) (bits : ℕ) → 1 ≤ bits → length codes ≤ 64 → AreCodes bits (length codes) codes → (columns : List (List Bit3)) → All (IsOpenColumn (length codes)) columns →
    (after : GateList) (refs : List Ref) → TakesAll codes (record { inputs = bits; gates = [] }) columns after refs →
    AllTaken codes (record { inputs = bits; gates = [] }) columns after refs
whole_taken codes bits some few are columns h after refs t =
    all_taken codes (record { inputs = bits; gates = [] }) tt some columns (encodable codes bits few are columns h) after refs t

pub whole_serves : (codes : List ℕ) (start : GateList) (columns : List (List Bit3)) (after : GateList) (refs : List Ref) → AllTaken codes start columns after refs →
    ReferencesServe columns codes after refs
whole_serves codes start columns after refs t = record { one_each = t.one_each; over = t.over; agrees = t.agrees }
