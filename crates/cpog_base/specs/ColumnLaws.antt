-- The entries that two words stand for, and the words that come back from entries.
use Rattle.std.specs.Prelude.{◌≡◌, ℕ, zero, suc, ◌+◌, ◌-◌, ◌*◌, ◌^◌, ◌<◌, Bool, true, false, if◌then◌else◌, IsTrue, List, [], ◌∷◌, ◌++◌, length, slice_index_or}
use Rattle.std.proofs.Common.{refl, sym, ap, ◌∙◌, arith, inl, inr, pow-suc, length-append}
use Rattle.std.proofs.lemmas.Bool.{cases_eq}
use Rattle.std.proofs.lemmas.Nat.Bits.{bit_at_cat_low, bit_at_cat_high}
use Rattle.std.proofs.lemmas.List.{get_or_append_left}
use Rattle.std.proofs.Math.Seq.{get_or-append_seam}
use Rattle.cpog_defs.specs.Codes.{bit}
use Rattle.cpog_defs.specs.declared.types.Bit3.{Bit3}
use Rattle.cpog_defs.specs.declared.types.Bit3.TheVariants.{Zero, One, Free}
use Rattle.cpog_base.specs.BitLaws.{same_words}
use Rattle.cpog_base.specs.Column.{is_one, is_zero, entry_of, entries, word_where, AreWords}

pub length-entries : (n one_bits zero_bits : ℕ) → length (entries n one_bits zero_bits) ≡ n
unfolding entries
length-entries zero one_bits zero_bits = refl
length-entries (suc n) one_bits zero_bits = length-append (entries n one_bits zero_bits) (entry_of one_bits zero_bits n ∷ []) ∙ omega (arith, length-entries n one_bits zero_bits)

pub get-entries : (n one_bits zero_bits i : ℕ) (d : Bit3) → i < n → slice_index_or (entries n one_bits zero_bits) i d ≡ entry_of one_bits zero_bits i
unfolding entries
get-entries zero one_bits zero_bits i d l = absurd (omega arith)
get-entries (suc n) one_bits zero_bits i d l = elim (cases_eq i n) [
  | inl same ↦ rw same (ap (λ k. slice_index_or (entries n one_bits zero_bits ++ entry_of one_bits zero_bits n ∷ []) k d) (sym (length-entries n one_bits zero_bits)) ∙ get_or-append_seam (entries n one_bits zero_bits) (entry_of one_bits zero_bits n) [] d)
  | inr other ↦ get_or_append_left (entries n one_bits zero_bits) _ d i (rw (length-entries n one_bits zero_bits) (omega arith)) ∙ get-entries n one_bits zero_bits i d (omega arith)
]

below : (p : Bit3 → Bool) (n : ℕ) (xs : List Bit3) → word_where p n xs < 2 ^ n
unfolding word_where
below p zero xs = omega arith
below p (suc n) xs = elim (p (slice_index_or xs n Free)) as (λ b. (if b then 1 else 0) * 2 ^ n + word_where p n xs < 2 ^ suc n) [
  | true ↦ omega (arith, below p n xs, pow-suc 2 n)
  | false ↦ omega (arith, below p n xs, pow-suc 2 n)
]

at_n : (x : ℕ) (b : Bool) (n : ℕ) → x < 2 ^ n → bit ((if b then 1 else 0) * 2 ^ n + x) n ≡ b
at_n x true n l = let z : n - n ≡ 0 = omega arith in rw (bit_at_cat_high 1 n x n l (omega arith), z) refl
at_n x false n l = let z : n - n ≡ 0 = omega arith in rw (bit_at_cat_high 0 n x n l (omega arith), z) refl

pub bit-word_where : (p : Bit3 → Bool) (n : ℕ) (xs : List Bit3) (i : ℕ) → i < n → bit (word_where p n xs) i ≡ p (slice_index_or xs i Free)
unfolding word_where
bit-word_where p zero xs i l = absurd (omega arith)
bit-word_where p (suc n) xs i l = elim (cases_eq i n) [
  | inl same ↦ rw same (at_n (word_where p n xs) (p (slice_index_or xs n Free)) n (below p n xs))
  | inr other ↦ rw (bit_at_cat_low (if p (slice_index_or xs n Free) then 1 else 0) n (word_where p n xs) i (omega arith)) (bit-word_where p n xs i (omega arith))
]

-- the word comes back from entries that pass exactly where it has its bits
pub word_back : (p : Bit3 → Bool) (n word : ℕ) (xs : List Bit3) → word < 2 ^ n →
    ((i : ℕ) → i < n → p (slice_index_or xs i Free) ≡ bit word i) → word_where p n xs ≡ word
word_back p n word xs l is = same_words n _ _ (below p n xs) l (λ i m. bit-word_where p n xs i m ∙ is i m)

one_entry : (a b : Bool) → (IsTrue a → b ≡ false) → is_one (if a then One else (if b then Zero else Free)) ≡ a
one_entry true b h = refl
one_entry false true h = refl
one_entry false false h = refl

zero_entry : (a b : Bool) → (IsTrue a → b ≡ false) → is_zero (if a then One else (if b then Zero else Free)) ≡ b
zero_entry true b h = sym (h refl)
zero_entry false true h = refl
zero_entry false false h = refl

ones_back : (n one_bits zero_bits : ℕ) → AreWords n one_bits zero_bits → word_where is_one n (entries n one_bits zero_bits) ≡ one_bits
ones_back n one_bits zero_bits h = word_back is_one n one_bits _ h.ones_below
    (λ i l. ap is_one (get-entries n one_bits zero_bits i Free l) ∙ one_entry (bit one_bits i) (bit zero_bits i) (h.apart i))

zeros_back : (n one_bits zero_bits : ℕ) → AreWords n one_bits zero_bits → word_where is_zero n (entries n one_bits zero_bits) ≡ zero_bits
zeros_back n one_bits zero_bits h = word_back is_zero n zero_bits _ h.zeros_below
    (λ i l. ap is_zero (get-entries n one_bits zero_bits i Free l) ∙ zero_entry (bit one_bits i) (bit zero_bits i) (h.apart i))

-- the words come back from the entries
pub words_back : {A : Type 0} (n one_bits zero_bits : ℕ) → AreWords n one_bits zero_bits → (f : ℕ → ℕ → ℕ → A) →
    (let xs : List Bit3 = entries n one_bits zero_bits in f (length xs) (word_where is_one (length xs) xs) (word_where is_zero (length xs) xs)) ≡ f n one_bits zero_bits
words_back n one_bits zero_bits h f = rw (length-entries n one_bits zero_bits, ones_back n one_bits zero_bits h, zeros_back n one_bits zero_bits h) refl
