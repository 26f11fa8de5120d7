-- Rows of tables.
use Rattle.std.specs.Prelude.{◌≡◌, refl, ℕ, ◌≤◌, ◌<◌, ◌+◌, false, ◌&&◌, ◌||◌, List, [], ◌∷◌, ◌++◌, length, slice_index, slice_set, bit_and, bit_or, replicate, Option, Some, None}
use Rattle.std.specs.Option.{IsSomeAnd}
use Rattle.std.proofs.Common.{zero, suc, subst, ap, ◌∙◌, sym, arith, get_or, take, drop, inl, inr, add-one}
use Rattle.std.proofs.lemmas.List.{get_or-set_same, get_or-replicate, get_or_past, length-replicate}
use Rattle.std.proofs.lemmas.Grind.{common_steps}
use Rattle.std.proofs.lemmas.Nat.Bits.{bit_at-zero}
use Rattle.std.proofs.lemmas.Bool.{cases_lt}
use Rattle.std.proofs.Math.Seq.{drop-cons}
use Rattle.cpog_defs.specs.Codes.{bit}
use Rattle.pg_algebra.proofs.TableLemmas.{bit-and, bit-or}

pub bit-unite : (a b g n : ℕ) → bit (bit_or a (bit_and g b)) n ≡ (bit a n || (bit g n && bit b n))
bit-unite a b g n = bit-or a (bit_and g b) n ∙ ap (λ c. bit a n || c) (bit-and g b n)

pub bit-none : (n : ℕ) → bit 0 n ≡ false
bit-none n = rw (bit_at-zero n) refl

any_default : (xs : List ℕ) (i a b : ℕ) → i < length xs → get_or xs i a ≡ get_or xs i b
any_default [] i a b h = absurd (omega arith)
any_default (x ∷ xs) zero a b h = refl
any_default (x ∷ xs) (suc i) a b h = any_default xs i a b (omega arith)

pub bit-added : (xs : List ℕ) (v r t n : ℕ) → v < length xs → r ≡ get_or xs v r → bit (slice_index (slice_set xs v (bit_or r t)) v) n ≡ (bit (slice_index xs v) n || bit t n)
bit-added xs v r t n h is =
    ap (λ x. bit x n) (get_or-set_same xs v (bit_or r t) 0 h)
    ∙ bit-or r t n
    ∙ ap (λ x. bit x n || bit t n) (is ∙ any_default xs v r 0 h)

pub written_back : {X : Type 0} (xs ys : List X) (len : ℕ) → length xs ≡ length ys → len ≡ length ys → take len (xs ++ drop (length xs) ys) ≡ xs
written_back xs ys len same is = grind (arith, common_steps)

pub zero_row : (count : ℕ) (row : List ℕ) → row ≡ replicate count 0 → (v n : ℕ) → bit (slice_index row v) n ≡ false
zero_row count row is v n = ap (λ xs. bit (slice_index xs v) n) is ∙ ap (λ x. bit x n) at_v ∙ bit-none n
  where
    at_v : slice_index (replicate count 0) v ≡ 0
    at_v = elim (cases_lt v count) [
      | inl lt ↦ get_or-replicate count v 0 0 lt
      | inr le ↦ get_or_past (replicate count 0) v 0 (subst (λ k. k ≤ v) (sym (length-replicate count 0)) le)
    ]

-- the item at a place, and what holds of it
pub some_at : {X : Type 0} (P : X → Type 0) (o : Option X) → IsSomeAnd o P → (x : X) × (o ≡ Some x) × P x
some_at P None h = absurd h
some_at P (Some x) h = (x, refl, h)

pub next_item : {A : Type 0} (xs : List A) (i : ℕ) (x : A) → i < length xs → x ≡ get_or xs i x → drop i xs ≡ x ∷ drop (i + 1) xs
next_item xs i x h is = rw add-one (drop-cons xs i x h ∙ ap (λ y. y ∷ drop (suc i) xs) (sym is))
