-- The steps of the functions that read words.
use Rattle.std.proofs.Common.{◌≡◌, ℕ, zero, suc, ◌<◌, ◌≤◌, ◌+◌, ◌-◌, ◌*◌, ◌^◌, Bool, true, false, cond, length-append, not, ◌&&◌, ◌||◌, eqb, List, [], ◌∷◌, ◌++◌, length, take, drop, get_or, Option, Some, None, refl, sym, ap, subst, ◌∙◌, arith, inl, inr, ◌⊎◌}
use Rattle.std.specs.Prelude.{if◌then◌else◌}
use Rattle.std.specs.List.{All, list_any}
use Rattle.std.proofs.lemmas.Bool.{cases_Bool, cases_lt, cases_eq, both_ways, eq-eqb, eqb-true}
use Rattle.std.proofs.lemmas.List.Elements.{All-get_or}
use Rattle.cpog_base.specs.Names.{place_of}
use Rattle.cpog_base.specs.Pattern.{given_at, given_entries, is_given}
use Rattle.cpog_base.specs.PatternLaws.{length-given, get-given}
use Rattle.cpog_defs.specs.declared.types.Bit3.{Bit3}
use Rattle.cpog_defs.specs.declared.types.Bit3.TheVariants as bits
use Rattle.cpog_defs.specs.Codes.{bit}
use Rattle.cpog_base.specs.BitLaws.{bit-zero, same_words}
use Rattle.line_text.specs.Words.{is_free_name}
use Rattle.netlist_verilog.specs.Module.{AreNames}
use Rattle.netlist_verilog.specs.Wires.{name_of}
use Rattle.line_rows.proofs.Exact.{none_where, some_of, some_is, tested, both_true}
use Rattle.line_rows.specs.Words.{◌>>=?◌}
use Rattle.std.specs.Prelude.{codes}
use Rattle.std.proofs.Math.Nat.{pow-suc}
use Rattle.report_text.specs.Rows.{digits_of, given_text}
use Rattle.line_rows.specs.Words.{behind}
use Rattle.line_rows.proofs.Exact.{behind_again, behind_takes, put}
use Rattle.report_reader.specs.Scenarios.{code_in}
use Rattle.report_reader.proofs.CodeLaws.{code_exact, length-digits}
use Rattle.report_reader.specs.Codes.{entry_in, entries_in, given_from, pattern_in, given_in, digits_in, split_of}
use Rattle.report_reader.proofs.OperationLaws.{place_takes}

-- a word that is no name has no place among names
pub unknown : (names : List (List ℕ)) (w : List ℕ) (b : Bool) → AreNames names → b ≡ is_free_name w → b ≡ false → None ≡ place_of names w
unknown names w b free same h = none_where (place_of names w) (λ v e.
    let t = place_takes names w v e in
    let yes : is_free_name w ≡ true = ap is_free_name t.1 ∙ All-get_or (λ name. is_free_name name ≡ true) names v [] t.0 free in
    both_ways b h (same ∙ yes))

-- ---- entries

abbrev no_entries : Option (List Bit3)
no_entries = None

pub bad_entry : (bytes : List ℕ) (i : ℕ) → i < length bytes → entry_in (get_or bytes i 0) ≡ None → entries_in bytes ≡ None
bad_entry [] i lt h = absurd (omega arith)
bad_entry (b ∷ bs) zero lt h = rw h refl
bad_entry (b ∷ bs) (suc i) lt h = rw (bad_entry bs i (omega arith) h) (none_of (entry_in b))
  where
    none_of : (o : Option Bit3) → (o >>=? λ e. no_entries) ≡ no_entries
    none_of (Some e) = refl
    none_of None = refl

pub each_entry : (bytes : List ℕ) (es : List Bit3) → length bytes ≡ length es → ((k : ℕ) → k < length bytes → entry_in (get_or bytes k 0) ≡ Some (get_or es k bits.Free)) → entries_in bytes ≡ Some es
each_entry [] [] len all = refl
each_entry [] (e ∷ es) len all = absurd (omega (arith, len))
each_entry (b ∷ bs) [] len all = absurd (omega (arith, len))
each_entry (b ∷ bs) (e ∷ es) len all = rw (all 0 (omega arith), each_entry bs es (omega (arith, len)) (λ k lt. all (suc k) (omega (arith, lt)))) refl

pub entries_told : (bytes : List ℕ) (n mask value : ℕ) → length bytes ≡ n → ((k : ℕ) → k < n → entry_in (get_or bytes k 0) ≡ Some (given_at mask value k)) → entries_in bytes ≡ Some (given_entries n mask value)
entries_told bytes n mask value len all =
    each_entry bytes (given_entries n mask value) (len ∙ sym (length-given n mask value))
    (λ k lt. all k (omega (arith, lt, len)) ∙ ap (λ (e : Bit3). Some e) (sym (get-given n mask value k bits.Free (omega (arith, lt, len)))))

-- one entry more
pub entries_go_on : (bytes : List ℕ) (i m v mask value : ℕ) (e : Bit3) → ((k : ℕ) → k < i → entry_in (get_or bytes k 0) ≡ Some (given_at m v k)) → entry_in (get_or bytes i 0) ≡ Some e → given_at mask value i ≡ e
    → ((k : ℕ) → k < i → given_at mask value k ≡ given_at m v k) → (k : ℕ) → k < i + 1 → entry_in (get_or bytes k 0) ≡ Some (given_at mask value k)
entries_go_on bytes i m v mask value e all is here same k lt = elim (cases_eq k i) [
  | inl at ↦ ap (λ (j : ℕ). entry_in (get_or bytes j 0)) at ∙ is ∙ ap (λ (x : Bit3). Some x) (sym here ∙ ap (given_at mask value) (sym at))
  | inr other ↦ let below : k < i = omega (arith, lt, other) in all k below ∙ ap (λ (x : Bit3). Some x) (sym (same k below))
]

given_is : (m v : Bool) → is_given (if m then (if v then bits.One else bits.Zero) else bits.Free) ≡ m
given_is true true = refl
given_is true false = refl
given_is false v = refl

none_at : (es : List Bit3) (k : ℕ) → list_any is_given es ≡ false → is_given (get_or es k bits.Free) ≡ false
none_at [] k h = refl
none_at (e ∷ es) zero h = first (is_given e) (list_any is_given es) h
  where
    first : (a b : Bool) → (a || b) ≡ false → a ≡ false
    first true b h = absurd cc
    first false b h = refl
none_at (e ∷ es) (suc k) h = none_at es k (rest (is_given e) (list_any is_given es) h)
  where
    rest : (a b : Bool) → (a || b) ≡ false → b ≡ false
    rest true b h = absurd cc
    rest false b h = h

-- where no bit is given, the word of the given bits is 0
pub none_given_is_zero : (n mask value : ℕ) → mask < 2 ^ n → list_any is_given (given_entries n mask value) ≡ false → mask ≡ 0
none_given_is_zero n mask value below h = same_words n mask 0 below (omega arith) (λ i lt. sym (given_is (bit mask i) (bit value i)) ∙ ap is_given (sym (get-given n mask value i bits.Free lt)) ∙ none_at (given_entries n mask value) i h ∙ sym (bit-zero i))

pub zero_gives_none : (n value : ℕ) → list_any is_given (given_entries n 0 value) ≡ false
zero_gives_none n value = all_free (given_entries n 0 value) (λ k lt. ap is_given (get-given n 0 value k bits.Free (omega (arith, lt, length-given n 0 value))) ∙ given_is (bit 0 k) (bit value k) ∙ bit-zero k)
  where
    all_free : (es : List Bit3) → ((k : ℕ) → k < length es → is_given (get_or es k bits.Free) ≡ false) → list_any is_given es ≡ false
    all_free [] all = refl
    all_free (e ∷ es) all = rw (all 0 (omega arith)) (all_free es (λ k lt. all (suc k) (omega (arith, lt))))

-- what is given by entries
pub pattern_is : (n : ℕ) (bs : List ℕ) (es : List Bit3) → entries_in bs ≡ Some es → length es ≡ n → list_any is_given es ≡ true → Some es ≡ pattern_in n bs
unfolding pattern_in
pattern_is n bs es e len some = let same : eqb (length es) n ≡ true = eq-eqb (length es) n len in sym (rw (e, same, some) refl)

pub open_is_none : (n : ℕ) (bs : List ℕ) (es : List Bit3) → entries_in bs ≡ Some es → list_any is_given es ≡ false → None ≡ pattern_in n bs
unfolding pattern_in
open_is_none n bs es e none = sym (rw (e, none) (either (eqb (length es) n)))
  where
    either : (b : Bool) → cond (b && false) (Some es) None ≡ None
    either true = refl
    either false = refl

pub bad_is_none : (n : ℕ) (bs : List ℕ) → entries_in bs ≡ None → None ≡ pattern_in n bs
unfolding pattern_in
bad_is_none n bs e = sym (rw e refl)

length-entries : (bs : List ℕ) (es : List Bit3) → entries_in bs ≡ Some es → length bs ≡ length es
length-entries [] es e = ap length (some_is [] es e)
length-entries (b ∷ bs) es e =
    let d = some_of (entry_in b) (λ e. entries_in bs >>=? λ es. Some (e ∷ es)) es e in
    let v = some_of (entries_in bs) (λ es. Some (d.0 ∷ es)) es d.2 in
    ap suc (length-entries bs v.0 v.1) ∙ ap length (some_is (d.0 ∷ v.0) es v.2)

pub not_so_many : (n : ℕ) (bs : List ℕ) → (length bs ≡ n → ⊥) → None ≡ pattern_in n bs
unfolding pattern_in
not_so_many n bs other = none_where (entries_in bs >>=? given_from n) (λ es e.
    let v = some_of (entries_in bs) (given_from n) es e in
    let g = tested (eqb (length v.0) n && list_any is_given v.0) v.0 es v.2 in
    other (length-entries bs v.0 v.1 ∙ eqb-true (length v.0) n (both_true (eqb (length v.0) n) _ g.0).0))

-- some mask that isn't 0 gives a bit
pub some_is_given : (n mask value : ℕ) → mask < 2 ^ n → (mask ≡ 0 → ⊥) → list_any is_given (given_entries n mask value) ≡ true
some_is_given n mask value below other = elim (cases_Bool (list_any is_given (given_entries n mask value))) [
  | inl some ↦ some
  | inr none ↦ absurd (other (none_given_is_zero n mask value below none))
]

pub given_behind : (n : ℕ) (bytes entries : List ℕ) → behind (codes " ") bytes ≡ Some entries → pattern_in n entries ≡ given_in n bytes
given_behind n bytes entries e = ap (given_in n) (sym (behind_takes (codes " ") bytes entries e))

pub not_given : (n : ℕ) (bytes : List ℕ) → (bytes ≡ [] → ⊥) → behind (codes " ") bytes ≡ None → None ≡ given_in n bytes
not_given n [] some none = absurd (some refl)
not_given n (b ∷ bs) some none = elim (cases_Bool (eqb b 32)) [
  | inl blank ↦ absurd (no_some_none bs (sym (behind_again (codes " ") bs) ∙ ap (λ (x : ℕ). behind (codes " ") (x ∷ bs)) (sym (eqb-true b 32 blank)) ∙ none))
  | inr other ↦ rw other refl
]
  where
    no_some_none : (x : List ℕ) → put x ≡ None → ⊥
    no_some_none x e = cc

pub digit_below : (bits d w : ℕ) → (bits ≡ 0 → ⊥) → d < 2 → w < 2 ^ (bits - 1) → d + 2 * w < 2 ^ bits
digit_below zero d w some ld lw = absurd (some refl)
digit_below (suc n) d w some ld lw = let one : suc n - 1 ≡ n = omega arith in let small : w < 2 ^ n = subst (λ (k : ℕ). w < 2 ^ k) one lw in omega (arith, pow-suc 2 n, small, ld)

pub short_code : (n : ℕ) (bytes : List ℕ) → length bytes < n → None ≡ code_in n bytes
unfolding code_in
short_code n bytes short = none_where (split_of n (digits_in n) (given_in n) bytes) (λ v e.
    let t = (code_exact n).takes bytes v e in
    absurd (omega (arith, short, ap length t.1, length-append (digits_of n v.0) (given_text v.1), length-digits n v.0)))

pub none_unless : {A : Type 0} (o : Option A) → ((x : A) → o ≡ Some x → ⊥) → o ≡ None
none_unless None h = refl
none_unless (Some x) h = absurd (h x refl)

pub not_empty_from : (bytes : List ℕ) (b : Bool) → b ≡ eqb (length bytes) 0 → b ≡ false → bytes ≡ [] → ⊥
not_empty_from bytes b is h e = both_ways b h (is ∙ ap (λ (x : List ℕ). eqb (length x) 0) e)
