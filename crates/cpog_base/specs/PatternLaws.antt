-- The entries that the words of a pattern stand for, and the words that come back from entries.
use Rattle.std.specs.Prelude.{◌≡◌, ℕ, zero, suc, ◌<◌, Bool, true, false, if◌then◌else◌, IsTrue, List, [], ◌∷◌, ◌++◌, length, slice_index_or}
use Rattle.std.proofs.Common.{refl, sym, ap, ◌∙◌, arith, inl, inr, length-append}
use Rattle.std.proofs.lemmas.Bool.{cases_eq, both_ways}
use Rattle.std.proofs.lemmas.List.{get_or_append_left}
use Rattle.std.proofs.Math.Seq.{get_or-append_seam}
use Rattle.cpog_defs.specs.Codes.{bit}
use Rattle.cpog_defs.specs.declared.types.Bit3.{Bit3}
use Rattle.cpog_defs.specs.declared.types.Bit3.TheVariants.{Zero, One, Free}
use Rattle.cpog_base.specs.Column.{is_one, word_where}
use Rattle.cpog_base.specs.ColumnLaws.{word_back}
use Rattle.cpog_base.specs.Pattern.{is_given, given_at, given_entries, IsGiven}

pub length-given : (n mask value : ℕ) → length (given_entries n mask value) ≡ n
unfolding given_entries
length-given zero mask value = refl
length-given (suc n) mask value = length-append (given_entries n mask value) (given_at mask value n ∷ []) ∙ omega (arith, length-given n mask value)

pub get-given : (n mask value i : ℕ) (d : Bit3) → i < n → slice_index_or (given_entries n mask value) i d ≡ given_at mask value i
unfolding given_entries
get-given zero mask value i d l = absurd (omega arith)
get-given (suc n) mask value i d l =
    let xs : List Bit3 = given_entries n mask value in
    let x : Bit3 = given_at mask value n in
    elim (cases_eq i n) [
      | inl same ↦ rw same (ap (λ k. slice_index_or (xs ++ x ∷ []) k d) (sym (length-given n mask value)) ∙ get_or-append_seam xs x [] d)
      | inr other ↦ get_or_append_left xs (x ∷ []) d i (rw (length-given n mask value) (omega arith)) ∙ get-given n mask value i d (omega arith)
    ]

given_there : (m v : Bool) → is_given (if m then (if v then One else Zero) else Free) ≡ m
given_there true true = refl
given_there true false = refl
given_there false v = refl

one_there : (m v : Bool) → (IsTrue v → IsTrue m) → is_one (if m then (if v then One else Zero) else Free) ≡ v
one_there true true h = refl
one_there true false h = refl
one_there false true h = absurd (both_ways _ refl (h refl))
one_there false false h = refl

-- the words come back from the entries
pub given_back : {A : Type 0} (n mask value : ℕ) → IsGiven n mask value → (f : ℕ → ℕ → ℕ → A) →
    (let xs : List Bit3 = given_entries n mask value in f (length xs) (word_where is_given (length xs) xs) (word_where is_one (length xs) xs)) ≡ f n mask value
given_back n mask value h f =
    let masks = word_back is_given n mask _ h.mask_below (λ i l. ap is_given (get-given n mask value i Free l) ∙ given_there (bit mask i) (bit value i)) in
    let values = word_back is_one n value _ h.value_below (λ i l. ap is_one (get-given n mask value i Free l) ∙ one_there (bit mask i) (bit value i) (h.within i)) in
    rw (length-given n mask value, masks, values) refl
