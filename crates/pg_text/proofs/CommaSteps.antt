-- Members with commas between them are read one by one.
use Rattle.std.specs.Prelude.{◌≡◌, ℕ, List, [], ◌∷◌, ◌++◌, refl}
use Rattle.std.proofs.Common.{sym, ◌∙◌, ap, ap₂, subst, append_assoc}
use Rattle.pg_text.specs.declared.sign.Sign.TheVariants as signs
use Rattle.pg_text.specs.Tokens.{Token, sign, BeginsWith, BeginsWithAll}
use Rattle.pg_text.specs.Sentences.{commas}
use Rattle.pg_text.specs.Reading.{Lacks}
use Rattle.pg_text.specs.ReadingLines.{ReadsCommas, NoCommas}
use Rattle.pg_text.proofs.PhraseLaws.{both_begin, parts_begin, after_token}

-- one member stands at the front at most
abbrev pub IsOne : {A : Type 0} → (A → List Token) → Type 0
IsOne {A} spell = (x y : A) (bytes a b : List ℕ) → BeginsWithAll bytes (spell x) a → BeginsWithAll bytes (spell y) b → (x ≡ y) × (a ≡ b)

module _ {A : Type 0} (spell : A → List Token) (same : IsOne spell) where
  pub same_commas : (x y : A) (xs ys : List A) (bytes a b : List ℕ) → BeginsWithAll bytes (commas spell x xs) a → BeginsWithAll bytes (commas spell y ys) b
      → Lacks (sign signs.Comma) a → Lacks (sign signs.Comma) b → (x ≡ y) × (xs ≡ ys) × (a ≡ b)
  same_commas x y [] [] bytes a b h k ha hb = let e = same x y bytes a b h k in (e.0, refl, e.1)
  same_commas x y [] (z ∷ zs) bytes a b h k ha hb =
      let p = parts_begin (spell y) (sign signs.Comma ∷ commas spell z zs) bytes b k in
      absurd (subst (Lacks (sign signs.Comma)) (same x y bytes a p.0 h p.1).1 ha p.2.0 p.2.1)
  same_commas x y (z ∷ zs) [] bytes a b h k ha hb =
      let p = parts_begin (spell x) (sign signs.Comma ∷ commas spell z zs) bytes a h in
      absurd (subst (Lacks (sign signs.Comma)) (sym (same x y bytes p.0 b p.1 k).1) hb p.2.0 p.2.1)
  same_commas x y (v ∷ vs) (z ∷ zs) bytes a b h k ha hb =
      let p = parts_begin (spell x) (sign signs.Comma ∷ commas spell v vs) bytes a h in
      let o = parts_begin (spell y) (sign signs.Comma ∷ commas spell z zs) bytes b k in
      let e = same x y bytes p.0 o.0 p.1 o.1 in
      let f = same_commas v z vs zs o.2.0 a b (after_token o.0 (sign signs.Comma) p.2.0 o.2.0 (commas spell v vs) a (subst (λ m. BeginsWith m (sign signs.Comma) p.2.0) e.1 p.2.1) o.2.1 p.2.2) o.2.2 ha hb in
      (e.0, ap₂ (λ c cs. c ∷ cs) f.0 f.1, f.2)

  -- what members of the rest make of the whole: they come after those that stand in front
  abbrev pub FoundCommas : List ℕ → List ℕ → List A → Type 0
  FoundCommas bytes left front = (x : A) (xs : List A) (rest : List ℕ) → BeginsWithAll left (commas spell x xs) rest → (y : A) × (ys : List A) × BeginsWithAll bytes (commas spell y ys) rest × (y ∷ ys ≡ front ++ x ∷ xs)

  -- where the whole has members, the rest has some that end there
  abbrev pub OnlyCommas : List ℕ → List ℕ → Type 0
  OnlyCommas bytes left = (x : A) (xs : List A) (rest : List ℕ) → BeginsWithAll bytes (commas spell x xs) rest → Lacks (sign signs.Comma) rest → (y : A) × (ys : List A) × BeginsWithAll left (commas spell y ys) rest

  pub found_at_first : (bytes : List ℕ) → FoundCommas bytes bytes []
  found_at_first bytes x xs rest h = (x, xs, h, refl)

  pub only_at_first : (bytes : List ℕ) → OnlyCommas bytes bytes
  only_at_first bytes x xs rest h stops = (x, xs, h)

  first_of : (x : A) (xs : List A) (left rest : List ℕ) → BeginsWithAll left (commas spell x xs) rest → (middle : List ℕ) × BeginsWithAll left (spell x) middle
  first_of x [] left rest h = (rest, h)
  first_of x (y ∷ ys) left rest h = let p = parts_begin (spell x) (sign signs.Comma ∷ commas spell y ys) left rest h in (p.0, p.1)

  pub no_commas : (bytes left : List ℕ) → OnlyCommas bytes left → ((x : A) (rest : List ℕ) → BeginsWithAll left (spell x) rest → ⊥) → NoCommas spell bytes
  no_commas bytes left only none x xs rest h stops =
      let o = only x xs rest h stops in
      let f = first_of o.0 o.1 left rest o.2 in
      none o.0 f.0 f.1

  goes_on_with : (item y : A) (ys : List A) (left after rest r : List ℕ) → BeginsWithAll left (spell item) after → BeginsWith after (sign signs.Comma) rest → BeginsWithAll left (commas spell y ys) r → Lacks (sign signs.Comma) r
      → (z : A) × (zs : List A) × BeginsWithAll rest (commas spell z zs) r
  goes_on_with item y [] left after rest r h goes_on k stops = absurd (subst (Lacks (sign signs.Comma)) (sym (same item y left after r h k).1) stops rest goes_on)
  goes_on_with item y (z ∷ zs) left after rest r h goes_on k stops =
      let p = parts_begin (spell y) (sign signs.Comma ∷ commas spell z zs) left r k in
      let e = same item y left after p.0 h p.1 in
      (z, zs, after_token p.0 (sign signs.Comma) p.2.0 rest (commas spell z zs) r p.2.1 (subst (λ m. BeginsWith m (sign signs.Comma) rest) e.1 goes_on) p.2.2)

  module _ (bytes left after : List ℕ) (front next : List A) (item : A) (found : FoundCommas bytes left front) (only : OnlyCommas bytes left)
      (reads : BeginsWithAll left (spell item) after) (is : next ≡ front ++ item ∷ []) where
    pub found_more : (rest : List ℕ) → BeginsWith after (sign signs.Comma) rest → FoundCommas bytes rest next
    found_more rest goes_on x xs r h =
        let w = found item (x ∷ xs) r (both_begin (spell item) (sign signs.Comma ∷ commas spell x xs) left after r reads (rest, goes_on, h)) in
        (w.0, w.1, w.2, w.3 ∙ sym (append_assoc front (item ∷ []) (x ∷ xs)) ∙ ap (λ l. l ++ x ∷ xs) (sym is))

    pub only_more : (rest : List ℕ) → BeginsWith after (sign signs.Comma) rest → OnlyCommas bytes rest
    only_more rest goes_on x xs r h stops = let o = only x xs r h stops in goes_on_with item o.0 o.1 left after rest r reads goes_on o.2 stops

    pub commas_end : Lacks (sign signs.Comma) after → ReadsCommas spell bytes next after
    commas_end stops = let w = found item [] after reads in record { first = w.0; others = w.1; spelled = w.2; means = is ∙ sym w.3; stops = stops }
