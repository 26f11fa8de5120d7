-- Words that have the given bits of a pattern, and a value at one bit.
use Rattle.std.proofs.Common.{◌≡◌, ℕ, ◌<◌, ◌≤◌, Bool, true, false, not, List, length, refl, sym, ap, ◌∙◌, subst, inl, inr, arith}
use Rattle.std.proofs.lemmas.Bool.{both_ways, cases_Bool, cases_lt}
use Rattle.std.proofs.lemmas.List.{get_or_past}
use Rattle.cpog_defs.specs.declared.types.Bit3.{Bit3}
use Rattle.cpog_defs.specs.declared.types.Bit3.TheVariants.{Zero, One, Free}
use Rattle.cpog_defs.specs.Codes.{bit}
use Rattle.cpog_defs.specs.Entries.{Agrees, entry_at}
use Rattle.cpog_base.specs.Pattern.{HasGivenBits}
use Rattle.gate_template.proofs.DecodeLemmas.{number_from, number_from-lt, bit-number_from}
use Rattle.cnf_build.specs.Given.{allows}

-- a bit that agrees with an entry is one that it allows
allowed : (value b : Bool) (e : Bit3) → b ≡ value → Agrees e b → allows value e ≡ true
allowed value b Free same agrees = refl
allowed value b One same agrees = sym same ∙ agrees
allowed value b Zero same agrees = ap not (sym same ∙ agrees)

pub example_allows : (pattern : List Bit3) (i word : ℕ) (value : Bool) → (bit word i ≡ value) × HasGivenBits pattern word → true ≡ allows value (entry_at pattern i)
example_allows pattern i word value example = sym (allowed value (bit word i) (entry_at pattern i) example.0 (example.1 i))

-- the given bits, and this value where none is given
filled : Bool → Bit3 → Bool
filled value Zero = false
filled value One = true
filled value Free = value

filled_agrees : (value : Bool) (e : Bit3) → Agrees e (filled value e)
unfolding filled
filled_agrees value Zero = refl
filled_agrees value One = refl
filled_agrees value Free = tt

filled_is : (value : Bool) (e : Bit3) → allows value e ≡ true → filled value e ≡ value
unfolding filled
filled_is value Free h = refl
filled_is value One h = sym h
filled_is true Zero h = absurd (both_ways _ refl h)
filled_is false Zero h = refl

-- a pattern that allows a value has an example
pub no_example : (pattern : List Bit3) (i : ℕ) (value : Bool) → i < length pattern → length pattern ≤ 8 →
    ((w : ℕ) → w < 256 → (bit w i ≡ value) × HasGivenBits pattern w → ⊥) → false ≡ allows value (entry_at pattern i)
no_example pattern i value l few none = elim (cases_Bool (allows value (entry_at pattern i))) [
  | inr n ↦ sym n
  | inl y ↦
      let f = λ (k : ℕ). filled value (entry_at pattern k) in
      let word = number_from 8 f in
      absurd (none word (number_from-lt 8 f) (
        bit-number_from 8 f i (omega arith) ∙ filled_is value (entry_at pattern i) y,
        λ k. elim (cases_lt k 8) [
          | inl near ↦ subst (Agrees (entry_at pattern k)) (sym (bit-number_from 8 f k near)) (filled_agrees value (entry_at pattern k))
          | inr far ↦ subst (λ e. Agrees e (bit word k)) (sym (get_or_past pattern k Free (omega arith))) tt
        ],
      ))
]
