-- Words that are made bit by bit, and what is asked of them.
use Rattle.std.proofs.Common.{◌≡◌, ◌≢◌, ℕ, ◌+◌, ◌^◌, ◌<◌, ◌≤◌, Bool, true, false, if◌then◌else◌, IsTrue, List, [], ◌∷◌, ◌++◌, length, refl, sym, ap, ◌∙◌, inl, inr, arith, add-one, append-nil}
use Rattle.std.proofs.lemmas.Bool.{cases_lt, cases_eq, both_ways}
use Rattle.std.proofs.lemmas.List.{get_or_past}
use Rattle.std.proofs.Math.Pow.{pow-lt}
use denote.Enum.Bare.{sameb}
use Rattle.cpog_defs.specs.contracts.types.Bit3.{the_type}
use Rattle.cpog_defs.specs.declared.types.Bit3.{Bit3}
use Rattle.cpog_defs.specs.declared.types.Bit3.TheVariants.{Zero, One, Free}
use Rattle.cpog_defs.specs.Codes.{bit}
use Rattle.cpog_defs.specs.Entries.{entry_at}
use Rattle.cpog_defs.specs.Orders.{each_below}
use Rattle.cpog_base.specs.BitLaws.{none_above}
use Rattle.gate_core.specs.First.{code_at}
use Rattle.gate_core.specs.Words.{asks_for}

pub below_64 : (a i : ℕ) → a < 2 ^ 64 → IsTrue (bit a i) → i < 64
below_64 a i l t = elim (cases_lt i 64) [ inl m ↦ m | inr m ↦ absurd (both_ways _ (none_above 64 a i l m) t) ]

-- ---- words that are made bit by bit

wider : (s : ℕ) → 2 ^ s < 2 ^ (s + 1)
wider s = pow-lt (omega arith)

-- the word has these values at its bits below s, and no other bit
pub record IsWordTo (value : ℕ → Bool) (s word : ℕ) : Type 0 where
  pub below : word < 2 ^ s
  pub bits : (k : ℕ) → k < s → bit word k ≡ value k

pub no_word : (value : ℕ → Bool) → IsWordTo value 0 0
no_word value = record { below = omega arith; bits = λ k m. absurd (omega arith) }

pub one_bit_more : (value : ℕ → Bool) (s word after : ℕ) (b : Bool) → IsWordTo value s word → b ≡ value s → bit after s ≡ b → ((k : ℕ) → k ≢ s → bit after k ≡ bit word k) →
    ((n : ℕ) → s < n → word < 2 ^ n → after < 2 ^ n) → IsWordTo value (s + 1) after
one_bit_more value s word after b h is same others below = record {
  below = below (s + 1) (omega arith) (omega (arith, h.below, wider s));
  bits = λ k m. elim (cases_eq k s) [
    | inl at_s ↦ rw at_s (same ∙ is)
    | inr other ↦ others k other ∙ h.bits k (omega arith)
  ];
}

-- ---- what is asked

-- the derived test for a bit that is asked for
pub same_asked : (e asked : Bit3) → asked ≢ Free → sameb the_type e asked ≡ asks_for asked e
same_asked One One h = refl
same_asked Zero One h = refl
same_asked Free One h = refl
same_asked One Zero h = refl
same_asked Zero Zero h = refl
same_asked Free Zero h = refl
same_asked e Free h = absurd (h refl)

asks_past : (asked : Bit3) → asks_for asked Free ≡ false
asks_past One = refl
asks_past Zero = refl
asks_past Free = refl

pub word_to_end : (asked : Bit3) (column : List Bit3) (n word : ℕ) → IsWordTo (λ k. asks_for asked (entry_at column k)) n word → length column ≤ n →
    (s : ℕ) → bit word s ≡ asks_for asked (entry_at column s)
word_to_end asked column n word h l s = elim (cases_lt s n) [
  | inl m ↦ h.bits s m
  | inr m ↦ none_above n word s h.below m ∙ sym (ap (asks_for asked) (get_or_past column s Free (omega arith)) ∙ asks_past asked)
]

-- ---- the codes of the scenarios that are asked for a bit

abbrev pub listed : Bit3 → List ℕ → List Bit3 → ℕ → List ℕ
listed asked codes column n = each_below (λ s. if asks_for asked (entry_at column s) then code_at codes s ∷ [] else []) n

pub listed_with : (asked : Bit3) (codes : List ℕ) (column : List Bit3) (s word : ℕ) (xs : List ℕ) → xs ≡ listed asked codes column s → word ≡ code_at codes s →
    asks_for asked (entry_at column s) ≡ true → xs ++ word ∷ [] ≡ listed asked codes column (s + 1)
listed_with asked codes column s word xs e w t = rw (e, w, add-one) (sym (ap (λ b. listed asked codes column s ++ (if b then code_at codes s ∷ [] else [])) t))

pub listed_without : (asked : Bit3) (codes : List ℕ) (column : List Bit3) (s : ℕ) (xs : List ℕ) → xs ≡ listed asked codes column s →
    asks_for asked (entry_at column s) ≡ false → xs ≡ listed asked codes column (s + 1)
listed_without asked codes column s xs e f =
    e ∙ sym (rw add-one (ap (λ b. listed asked codes column s ++ (if b then code_at codes s ∷ [] else [])) f ∙ append-nil (listed asked codes column s)))
