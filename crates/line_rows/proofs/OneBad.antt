-- A text has one first bad line.
use Rattle.std.proofs.Common.{◌≡◌, ℕ, ◌<◌, List, [], ◌∷◌, ◌++◌, length, refl, sym, ap, ap₂, subst, ◌∙◌, arith, append_assoc, inl, inr}
use Rattle.std.proofs.lemmas.Bool.{cases_lt}
use Rattle.line_rows.specs.FirstBad.{NoneBegins, IsFirstBad}

cons_parts : (x y : List ℕ) (xs ys : List (List ℕ)) → (x ∷ xs) ≡ (y ∷ ys) → (x ≡ y) × (xs ≡ ys)
cons_parts x y xs ys e = (cc, cc)

-- the longer of two beginnings goes on where the other ends
record GoesOn (good after longer : List (List ℕ)) : Type 0 where
  line : List ℕ
  rest : List (List ℕ)
  more : List (List ℕ)
  next : after ≡ line ∷ rest
  whole : longer ≡ good ++ line ∷ more

goes_on : (g a h b : List (List ℕ)) → g ++ a ≡ h ++ b → length g < length h → GoesOn g a h
goes_on [] a [] b e lt = absurd (omega arith)
goes_on [] a (l ∷ m) b e lt = record { line = l; rest = m ++ b; more = m; next = e; whole = refl }
goes_on (x ∷ g) a [] b e lt = absurd (omega arith)
goes_on (x ∷ g) a (y ∷ h) b e lt =
    let c = cons_parts x y (g ++ a) (h ++ b) e in
    let r = goes_on g a h b c.1 (omega arith) in
    record { line = r.line; rest = r.rest; more = r.more; next = r.next; whole = ap₂ (λ (l : List ℕ) (ls : List (List ℕ)). l ∷ ls) (sym c.0) r.whole }

none_longer : {A : Type 0} {F : A → Type 0} {t : A → List (List ℕ)} {text : List (List ℕ)} {j k : ℕ} (f : IsFirstBad F t text j) (g : IsFirstBad F t text k) → length f.good < length g.good → ⊥
none_longer {F = F} {t = t} f g lt =
    let s = goes_on f.good f.after g.good g.after (sym f.parts ∙ g.parts) lt in
    let none : NoneBegins F t f.good (s.line ∷ s.rest) = subst (NoneBegins F t f.good) s.next f.none in
    none g.begins.0 (s.more ++ g.begins.1) g.begins.2 (g.begins.3 ∙ ap (λ (ls : List (List ℕ)). ls ++ g.begins.1) s.whole ∙ append_assoc f.good (s.line ∷ s.more) g.begins.1)

pub one_first_bad : {A : Type 0} {F : A → Type 0} {t : A → List (List ℕ)} {text : List (List ℕ)} {j k : ℕ} → IsFirstBad F t text j → IsFirstBad F t text k → j ≡ k
one_first_bad f g = elim (cases_lt (length f.good) (length g.good)) [
  | inl lt ↦ absurd (none_longer f g lt)
  | inr ge ↦ elim (cases_lt (length g.good) (length f.good)) [
    | inl lt ↦ absurd (none_longer g f lt)
    | inr le ↦ omega (arith, f.number, g.number)
  ]
]
