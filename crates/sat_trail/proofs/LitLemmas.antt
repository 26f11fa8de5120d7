-- Literals, their complements and their codes.
use Rattle.std.proofs.Common.{◌≡◌, ◌≢◌, ◌⊎◌, ℕ, ◌+◌, ◌*◌, ◌<◌, ◌≤◌, Bool, true, false, not, if◌then◌else◌, refl, sym, ap, ◌∙◌, inl, inr, arith}
use Rattle.std.proofs.lemmas.Bool.{cases_eq}
use Rattle.clause_arena.specs.Clauses.{Lit, opposite}
use Rattle.clause_arena.specs.Lits.{code_of}

pub not_not : (b : Bool) → not (not b) ≡ b
not_not true = refl
not_not false = refl

pub opposite_twice : (l : Lit) → opposite (opposite l) ≡ l
opposite_twice l = rw (not_not l.negated) refl

pub opposite_back : (a b : Lit) → opposite a ≡ opposite b → a ≡ b
opposite_back a b e = let t : opposite (opposite a) ≡ opposite (opposite b) = ap opposite e in rw (opposite_twice a, opposite_twice b) at t

pub lit_same : (a b : Lit) → a.var ≡ b.var → a.negated ≡ b.negated → a ≡ b
lit_same a b v n = ap (λ q. record { var = q; negated = a.negated }) v ∙ ap (λ q. record { var = b.var; negated = q }) n

pub same_var : (a b : Lit) → a.var ≡ b.var → (a ≡ b) ⊎ (a ≡ opposite b)
same_var a b e = of_bits a.negated b.negated refl refl
  where
    of_bits : (x y : Bool) → a.negated ≡ x → b.negated ≡ y → (a ≡ b) ⊎ (a ≡ opposite b)
    of_bits true true p q = inl (lit_same a b e (p ∙ sym q))
    of_bits false false p q = inl (lit_same a b e (p ∙ sym q))
    of_bits true false p q = inr (lit_same a (opposite b) e (p ∙ sym (ap not q)))
    of_bits false true p q = inr (lit_same a (opposite b) e (p ∙ sym (ap not q)))

pub same_lit : (a b : Lit) → (a ≡ b) ⊎ (a ≢ b)
same_lit a b = elim (cases_eq a.var b.var) [
  | inl v ↦ of_bits a.negated b.negated refl refl v
  | inr v ↦ inr (λ e. v (ap (λ (l : Lit). l.var) e))
]
  where
    of_bits : (x y : Bool) → a.negated ≡ x → b.negated ≡ y → a.var ≡ b.var → (a ≡ b) ⊎ (a ≢ b)
    of_bits true true p q v = inl (lit_same a b v (p ∙ sym q))
    of_bits false false p q v = inl (lit_same a b v (p ∙ sym q))
    of_bits true false p q v = inr (λ e. let n : a.negated ≡ b.negated = ap (λ (l : Lit). l.negated) e in cc)
    of_bits false true p q v = inr (λ e. let n : a.negated ≡ b.negated = ap (λ (l : Lit). l.negated) e in cc)

abbrev pub bit : Bool → ℕ
bit b = if b then 1 else 0

pub bit_small : (b : Bool) → bit b ≤ 1
bit_small true = omega arith
bit_small false = omega arith

bit_other : (b : Bool) → bit b ≢ bit (not b)
bit_other true e = omega (arith, e)
bit_other false e = omega (arith, e)

bit_same : (a b : Bool) → bit a ≡ bit b → a ≡ b
bit_same true true e = refl
bit_same false false e = refl
bit_same true false e = absurd (omega (arith, e))
bit_same false true e = absurd (omega (arith, e))

pub code_var : (m l : Lit) → code_of m ≡ code_of l → m.var ≡ l.var
code_var m l e = omega (arith, e, bit_small m.negated, bit_small l.negated)

pub code_other : (l : Lit) → code_of l ≢ code_of (opposite l)
code_other l e = bit_other l.negated (omega (arith, e))

pub code_fits : (l : Lit) (n : ℕ) → l.var ≤ n → code_of l < 2 * n + 2
code_fits l n h = omega (arith, h, bit_small l.negated)

pub code_same : (m l : Lit) → code_of m ≡ code_of l → m ≡ l
code_same m l e =
    let v = code_var m l e in
    lit_same m l v (bit_same m.negated l.negated (omega (arith, e, v)))

pub code_positive : (l : Lit) → 1 < code_of l → 0 < l.var
code_positive l h = omega (arith, h, bit_small l.negated)
