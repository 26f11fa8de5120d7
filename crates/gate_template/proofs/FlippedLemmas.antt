-- A solution over codes that are combined with a mask.
use Rattle.std.proofs.Common.{◌≡◌, ℕ, zero, suc, ◌+◌, ◌/◌, ◌%◌, ◌^◌, ◌<◌, ◌≤◌, ◌==◌, Bool, true, false, if◌then◌else◌, bit_xor, List, length, map, get_or, refl, sym, ap, ◌∙◌, arith, All}
use Rattle.std.proofs.lemmas.Nat.{xor_lt}
use Rattle.std.proofs.lemmas.Nat.Bits.{bit_at_xor, bit_at-lt}
use Rattle.std.proofs.lemmas.List.{length-map, get_or-map}
use Rattle.std.proofs.lemmas.List.Elements.{All-get_or}
use Rattle.cpog_base.specs.BitLaws.{bit-zero, same_words}
use Rattle.cpog_defs.specs.declared.types.Bit3.{Bit3}
use Rattle.cpog_defs.specs.Codes.{bit, open_patterns}
use Rattle.cpog_defs.specs.Gates.{IsGateList}
use Rattle.gate_forms.specs.Forms.{flipped, DifferBy, IsFlipped}
use Rattle.gate_template.specs.declared.types.Template.{Template}
use Rattle.gate_template.specs.declared.types.Template.TheVariants.{First, Second, Third}
use Rattle.gate_template.specs.Families.{gives}
use Rattle.gate_template.specs.Templates.{kept_patterns}
use Rattle.gate_template.specs.Values.{Parts, code_of, IsSolution, HasZeros, TakesOpenBits}
use Rattle.gate_template.proofs.ServeLemmas.{flipped_serves}

xor_digit : (x y : ℕ) → x < 2 → y < 2 → ((x + y) % 2 == 1) ≡ flipped (x == 1) (y == 1)
xor_digit zero zero l m = refl
xor_digit zero (suc zero) l m = refl
xor_digit (suc zero) zero l m = refl
xor_digit (suc zero) (suc zero) l m = refl
xor_digit (suc (suc x)) y l m = absurd (omega arith)
xor_digit zero (suc (suc y)) l m = absurd (omega arith)
xor_digit (suc zero) (suc (suc y)) l m = absurd (omega arith)

bit-xor : (mask word i : ℕ) → bit (bit_xor mask word) i ≡ flipped (bit mask i) (bit word i)
bit-xor mask word i = ap (λ k. k == 1) (bit_at_xor mask word i) ∙ xor_digit (mask / 2 ^ i % 2) (word / 2 ^ i % 2) (bit_at-lt mask i) (bit_at-lt word i)

module _ (kind : Template) (patterns columns : List (List Bit3)) (bits mask : ℕ) (before after : Parts) (even : All (λ pattern. length pattern ≡ bits) patterns)
    (sv : IsSolution kind patterns bits columns before) (takes : TakesOpenBits kind patterns bits mask before) (codes : after.codes ≡ map (bit_xor mask) before.codes)
    (ok : IsGateList after.gates) (fl : IsFlipped mask before.gates before.refs after.gates after.refs) where
  each : length after.codes ≡ length before.codes
  each = ap length codes ∙ length-map before.codes (bit_xor mask)

  new_code : (s d : ℕ) → s < length before.codes → get_or after.codes s d ≡ bit_xor mask (code_of before s)
  new_code s d l = ap (λ cs. get_or cs s d) codes ∙ get_or-map (bit_xor mask) before.codes s 0 d l

  differ : (s : ℕ) → s < length after.codes → DifferBy bits mask (get_or before.codes s 0) (get_or after.codes s 0)
  differ s l i li = ap (λ c. bit c i) (new_code s 0 (omega (arith, each))) ∙ bit-xor mask (code_of before s) i

  below : All (λ word. word < 2 ^ bits) after.codes
  below s d l =
      let m : s < length before.codes = omega (arith, each) in
      rw (new_code s d m) (xor_lt bits mask (code_of before s) takes.below (All-get_or (λ word. word < 2 ^ bits) before.codes s 0 m sv.codes.within))

  leaves : (i : ℕ) → i < bits → gives (kept_patterns kind patterns) i ≡ true → bit mask i ≡ false
  leaves i l g = takes.bits_are i l ∙ ap (λ b. if b then false else bit (code_of before 0) i) g

  pub flipped_is_solution : IsSolution kind patterns bits columns after
  flipped_is_solution = flipped_serves kind patterns columns bits mask before after.codes after.gates after.refs sv ok fl below each differ even leaves

  some : 1 ≤ length patterns → 0 < length before.codes
  some l = omega (arith, sv.codes.one_each)

  itself : (b : Bool) → flipped b b ≡ false
  itself true = refl
  itself false = refl

  zero_bit : 1 ≤ length patterns → (i : ℕ) → i < bits → gives (kept_patterns kind patterns) i ≡ false → bit (get_or after.codes 0 0) i ≡ false
  zero_bit l i li g =
      ap (λ c. bit c i) (new_code 0 0 (some l)) ∙ bit-xor mask (code_of before 0) i
      ∙ ap (λ f. flipped f (bit (code_of before 0) i)) (takes.bits_are i li ∙ ap (λ b. if b then false else bit (code_of before 0) i) g) ∙ itself (bit (code_of before 0) i)

  none_given : (n i : ℕ) → gives (open_patterns n) i ≡ false
  none_given zero i = refl
  none_given (suc n) i = none_given n i

  zeros_for : (k : Template) → kind ≡ k → 1 ≤ length patterns → HasZeros k patterns bits after.codes
  zeros_for First at l = tt
  zeros_for Second at l =
      same_words bits (get_or after.codes 0 0) 0 (All-get_or (λ word. word < 2 ^ bits) after.codes 0 0 (omega (arith, some l, each)) below) (omega arith)
      (λ i li. zero_bit l i li (ap (λ k. gives (kept_patterns k patterns) i) at ∙ none_given (length patterns) i) ∙ sym (bit-zero i))
  zeros_for Third at l = λ i li g. zero_bit l i li (ap (λ k. gives (kept_patterns k patterns) i) at ∙ g)

  pub flipped_has_zeros : 1 ≤ length patterns → HasZeros kind patterns bits after.codes
  flipped_has_zeros l = zeros_for kind refl l
