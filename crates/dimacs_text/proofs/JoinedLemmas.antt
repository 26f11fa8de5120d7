-- A formula with a log behind it: where the line `lrat` stands.
use Rattle.std.proofs.Common.{◌≡◌, ℕ, ◌+◌, ◌<◌, false, List, [], ◌∷◌, ◌++◌, length, refl, sym, ap, ap₂, ◌∙◌, subst, append_assoc}
use Rattle.std.specs.Prelude.{codes}
use Rattle.std.proofs.lemmas.Bool.{false≢true}
use Rattle.std.proofs.lemmas.List.{append-nil}
use Rattle.text_rows.specs.Words.{tokens}
use Rattle.text_rows.specs.FirstBad.{IsFirstBad}
use Rattle.dimacs_text.specs.Logs.{is_passed}
use Rattle.dimacs_text.specs.Formulas.{header_words, SpellsFormula}
use Rattle.dimacs_text.specs.Texts.{IsFormulaText, IsJoinedText}
use Rattle.dimacs_text.proofs.BodyLemmas.{AllOthers}
use Rattle.dimacs_text.proofs.FrontLemmas.{AllPassed, spells_behind, begins_all}

-- lines without `lrat` stand before it
pub split_front : (front tail f log : List (List ℕ)) → AllOthers front → front ++ tail ≡ f ++ codes "lrat" ∷ log → (more : List (List ℕ)) × (f ≡ front ++ more) × (tail ≡ more ++ codes "lrat" ∷ log)
split_front [] tail f log h e = (f, refl, e)
split_front (x ∷ front) tail [] log h e = absurd (h.0 (let g : x ≡ codes "lrat" = cc in g))
split_front (x ∷ front) tail (y ∷ f) log h e =
    let same : x ≡ y = cc in
    let r = split_front front tail f log h.1 (let g : front ++ tail ≡ f ++ codes "lrat" ∷ log = cc in g) in
    (r.0, ap₂ (λ (a : List ℕ) (t : List (List ℕ)). a ∷ t) (sym same) r.1, r.2)

pub no_lrat : (xs f log : List (List ℕ)) → AllOthers xs → xs ≡ f ++ codes "lrat" ∷ log → ⊥
no_lrat [] [] log h e = absurd cc
no_lrat [] (y ∷ f) log h e = absurd cc
no_lrat (x ∷ xs) [] log h e = h.0 (let g : x ≡ codes "lrat" = cc in g)
no_lrat (x ∷ xs) (y ∷ f) log h e = no_lrat xs f log h.1 (let g : xs ≡ f ++ codes "lrat" ∷ log = cc in g)

pub passed_others : (front : List (List ℕ)) → AllPassed front → AllOthers front
passed_others [] h = tt
passed_others (l ∷ front) h = ((λ e. absurd (false≢true (sym (ap is_passed e) ∙ h.0))), passed_others front h.1)

-- a formula goes on to a formula with a log
pub joined_begins : (good : List (List ℕ)) → (more : List (List ℕ)) × IsFormulaText (good ++ more) → (more : List (List ℕ)) × IsJoinedText (good ++ more)
joined_begins good b = (b.0 ++ codes "lrat" ∷ [], (b.1.0, b.1.1, [], (good ++ b.0, [], sym (append_assoc good b.0 (codes "lrat" ∷ [])), b.1.2, refl)))

-- where no formula begins so, none with a log does, unless the line is `lrat`
pub joined_none : (good : List (List ℕ)) (l : List ℕ) → AllOthers good → (l ≡ codes "lrat" → ⊥) → ((more : List (List ℕ)) → IsFormulaText (good ++ l ∷ more) → ⊥) → (more : List (List ℕ)) → IsJoinedText (good ++ l ∷ more) → ⊥
joined_none good l h other none more t =
    let s = t.3 in
    let r = split_front good (l ∷ more) s.0 s.1 h s.2 in
    go r.0 r.1 r.2 s.3
  where
    go : (f : List (List ℕ)) → t.3.0 ≡ good ++ f → (l ∷ more) ≡ f ++ codes "lrat" ∷ t.3.1 → SpellsFormula t.3.0 t.0 t.1 → ⊥
    go [] e g sf = other (let k : l ≡ codes "lrat" = cc in k)
    go (y ∷ f) e g sf =
        let same : l ≡ y = cc in
        none f (t.0, t.1, subst (λ (ls : List (List ℕ)). SpellsFormula ls t.0 t.1) (e ∙ ap (λ (a : List ℕ). good ++ a ∷ f) (sym same)) sf)

-- a bad line of a formula is one of a formula with a log
pub joined_bad : (text : List (List ℕ)) (k : ℕ) (good : List (List ℕ)) (l : List ℕ) (after : List (List ℕ)) → text ≡ good ++ l ∷ after → k ≡ length good + 1 → AllOthers good → (l ≡ codes "lrat" → ⊥) → ((more : List (List ℕ)) × IsFormulaText (good ++ more)) → ((more : List (List ℕ)) → IsFormulaText (good ++ l ∷ more) → ⊥) → IsFirstBad IsJoinedText text k
joined_bad text k good l after e n h other begins none = record {
  good = good;
  after = l ∷ after;
  parts = e;
  number = n;
  begins = joined_begins good begins;
  none = joined_none good l h other none;
}

-- the end without a line `lrat` is bad
pub joined_end : (text : List (List ℕ)) (k : ℕ) (good : List (List ℕ)) → text ≡ good → k ≡ length good + 1 → AllOthers good → ((more : List (List ℕ)) × IsFormulaText (good ++ more)) → IsFirstBad IsJoinedText text k
joined_end text k good e n h begins = record {
  good = good;
  after = [];
  parts = e ∙ sym (append-nil good);
  number = n;
  begins = joined_begins good begins;
  none = λ t. no_lrat good t.3.0 t.3.1 h t.3.2;
}

-- ---- before the `p` line

pub front_bad : (front all rest : List (List ℕ)) (l : List ℕ) (more : List (List ℕ)) (k : ℕ) → AllPassed front → all ≡ front ++ rest → rest ≡ l ∷ more → is_passed l ≡ false → k ≡ length front + 1 → ((v n : ℕ) → v < 10000000000 → n < 10000000000 → tokens l ≡ header_words v n → ⊥) → IsFirstBad IsFormulaText all k × IsFirstBad IsJoinedText all k
front_bad front all rest l more k h e f p n none = (bad, joined)
  where
    parts : all ≡ front ++ l ∷ more
    parts = e ∙ ap (λ (t : List (List ℕ)). front ++ t) f

    no_text : (tail : List (List ℕ)) → IsFormulaText (front ++ l ∷ tail) → ⊥
    no_text tail t = let s = rw p at (spells_behind front (l ∷ tail) t.0 t.1 h t.2) in none t.0 (length t.1) s.0 s.1 s.2

    bad : IsFirstBad IsFormulaText all k
    bad = record { good = front; after = l ∷ more; parts = parts; number = n; begins = begins_all front h; none = no_text }

    no_joined : (tail : List (List ℕ)) → IsJoinedText (front ++ l ∷ tail) → ⊥
    no_joined tail t =
        let s = t.3 in
        let r = split_front front (l ∷ tail) s.0 s.1 (passed_others front h) s.2 in
        go r.0 r.1 r.2 s.3
      where
        go : (f : List (List ℕ)) → t.3.0 ≡ front ++ f → (l ∷ tail) ≡ f ++ codes "lrat" ∷ t.3.1 → SpellsFormula t.3.0 t.0 t.1 → ⊥
        go [] a g sf = spells_behind front [] t.0 t.1 h (subst (λ (ls : List (List ℕ)). SpellsFormula ls t.0 t.1) a sf)
        go (y ∷ f) a g sf =
            let same : l ≡ y = cc in
            no_text f (t.0, t.1, subst (λ (ls : List (List ℕ)). SpellsFormula ls t.0 t.1) (a ∙ ap (λ (b : List ℕ). front ++ b ∷ f) (sym same)) sf)

    joined : IsFirstBad IsJoinedText all k
    joined = record { good = front; after = l ∷ more; parts = parts; number = n; begins = joined_begins front (begins_all front h); none = no_joined }

pub front_end : (front all rest : List (List ℕ)) (k : ℕ) → AllPassed front → all ≡ front ++ rest → rest ≡ [] → k ≡ length front + 1 → IsFirstBad IsFormulaText all k × IsFirstBad IsJoinedText all k
front_end front all rest k h e f n = (bad, joined_end all k front parts n (passed_others front h) (begins_all front h))
  where
    parts : all ≡ front
    parts = e ∙ (ap (λ (t : List (List ℕ)). front ++ t) f ∙ append-nil front)

    bad : IsFirstBad IsFormulaText all k
    bad = record {
      good = front;
      after = [];
      parts = e ∙ ap (λ (t : List (List ℕ)). front ++ t) f;
      number = n;
      begins = begins_all front h;
      none = λ t. spells_behind front [] t.0 t.1 h (subst (λ (ls : List (List ℕ)). SpellsFormula ls t.0 t.1) (sym (append-nil front)) t.2);
    }
