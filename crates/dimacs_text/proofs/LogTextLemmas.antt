-- A log's text as far as it was read.
use Rattle.std.proofs.Common.{◌≡◌, ℕ, ◌+◌, ◌<◌, Bool, true, false, List, [], ◌∷◌, ◌++◌, length, refl, sym, ap, ap₂, ◌∙◌, subst, append_assoc}
use Rattle.std.proofs.lemmas.List.{append-nil}
use Rattle.proof_check.specs.Lines.{Line, last_id}
use Rattle.text_rows.specs.Words.{tokens}
use Rattle.dimacs_text.specs.Logs.{SpellsLine, SpellsIf, SpellsLog, is_passed, id_after}
use Rattle.text_rows.specs.FirstBad.{IsFirstBad}
use Rattle.dimacs_text.specs.LogTexts.{StepTo, StepBad, IsLogText}
use Rattle.dimacs_text.proofs.EntryLemmas.{line_told}

-- a text of these lines and more spells these lines of a log and more
pub record IsSoFar (variables clauses : ℕ) (good : List (List ℕ)) (lines : List Line) (last : ℕ) : Type 0 where
  pub back : (tail : List (List ℕ)) (more : List Line) → SpellsLog variables last tail more → SpellsLog variables clauses (good ++ tail) (lines ++ more)
  pub forth : (tail : List (List ℕ)) (all : List Line) → SpellsLog variables clauses (good ++ tail) all → (more : List Line) × (all ≡ lines ++ more) × SpellsLog variables last tail more

pub so_far_start : (variables clauses : ℕ) → IsSoFar variables clauses [] [] clauses
so_far_start variables clauses = record { back = λ tail more s. s; forth = λ tail all s. (all, refl, s) }

front_more : (good : List (List ℕ)) (l : List ℕ) (tail : List (List ℕ)) → (good ++ l ∷ []) ++ tail ≡ good ++ (l ∷ tail)
front_more good l tail = append_assoc good (l ∷ []) tail

lines_more : (lines : List Line) (e : Line) (more : List Line) → (lines ++ e ∷ []) ++ more ≡ lines ++ (e ∷ more)
lines_more lines e more = append_assoc lines (e ∷ []) more

pub so_far_passed : (variables clauses : ℕ) (good : List (List ℕ)) (lines : List Line) (last : ℕ) (l : List ℕ) → IsSoFar variables clauses good lines last → is_passed l ≡ true → IsSoFar variables clauses (good ++ l ∷ []) lines last
so_far_passed variables clauses good lines last l s p = record {
  back = λ tail more t. subst (λ (ls : List (List ℕ)). SpellsLog variables clauses ls (lines ++ more)) (sym (front_more good l tail)) (s.back (l ∷ tail) more (rw p t));
  forth = λ tail all t. let f = s.forth (l ∷ tail) all (subst (λ (ls : List (List ℕ)). SpellsLog variables clauses ls all) (front_more good l tail) t) in (f.0, f.1, rw p at f.2);
}

pub so_far_more : (variables clauses : ℕ) → variables < 10000000000 → (good : List (List ℕ)) (lines : List Line) (last : ℕ) (l : List ℕ) (e : Line) → IsSoFar variables clauses good lines last → is_passed l ≡ false → SpellsLine variables last e (tokens l) → IsSoFar variables clauses (good ++ l ∷ []) (lines ++ e ∷ []) (id_after last e)
so_far_more variables clauses small good lines last l e s p spells = record {
  back = λ tail more t.
      let here : SpellsLog variables last (l ∷ tail) (e ∷ more) = rw p (e, more, refl, spells, t) in
      subst (λ (all : List Line). SpellsLog variables clauses ((good ++ l ∷ []) ++ tail) all) (sym (lines_more lines e more))
      (subst (λ (ls : List (List ℕ)). SpellsLog variables clauses ls (lines ++ (e ∷ more))) (sym (front_more good l tail)) (s.back (l ∷ tail) (e ∷ more) here));
  forth = λ tail all t.
      let f = s.forth (l ∷ tail) all (subst (λ (ls : List (List ℕ)). SpellsLog variables clauses ls all) (front_more good l tail) t) in
      let g : (d : Line) × (others : List Line) × (f.0 ≡ d ∷ others) × SpellsLine variables last d (tokens l) × SpellsLog variables (id_after last d) tail others = rw p at f.2 in
      let same : e ≡ g.0 = line_told variables small last (tokens l) e g.0 spells g.3 in
      (g.1, f.1 ∙ (ap (λ (x : List Line). lines ++ x) (g.2 ∙ ap (λ (d : Line). d ∷ g.1) (sym same)) ∙ sym (lines_more lines e g.1)), subst (λ (d : Line). SpellsLog variables (id_after last d) tail g.1) (sym same) g.4);
}

either_step : (variables clauses : ℕ) → variables < 10000000000 → (good : List (List ℕ)) (lines new : List Line) (last next : ℕ) (l : List ℕ) (b : Bool) → is_passed l ≡ b → IsSoFar variables clauses good lines last → SpellsIf b ((new ≡ lines) × (next ≡ last)) ((e : Line) × SpellsLine variables last e (tokens l) × (new ≡ lines ++ e ∷ []) × (next ≡ id_after last e)) → IsSoFar variables clauses (good ++ l ∷ []) new next
either_step variables clauses small good lines new last next l true p s h = rw (h.0, h.1) (so_far_passed variables clauses good lines last l s p)
either_step variables clauses small good lines new last next l false p s h = rw (h.2, h.3) (so_far_more variables clauses small good lines last l h.0 s p h.1)

pub so_far_step : (variables clauses : ℕ) → variables < 10000000000 → (good : List (List ℕ)) (lines new : List Line) (last next : ℕ) (l : List ℕ) → IsSoFar variables clauses good lines last → StepTo variables last l lines new next → IsSoFar variables clauses (good ++ l ∷ []) new next
so_far_step variables clauses small good lines new last next l s h = either_step variables clauses small good lines new last next l (is_passed l) refl s h

pub parts_step : (good : List (List ℕ)) (l : List ℕ) (all now rest : List (List ℕ)) → all ≡ good ++ now → now ≡ l ∷ rest → all ≡ (good ++ l ∷ []) ++ rest
parts_step good l all now rest e f = e ∙ (ap (λ (t : List (List ℕ)). good ++ t) f ∙ sym (front_more good l rest))

-- the whole text
pub whole_read : (variables clauses : ℕ) (good all rest : List (List ℕ)) (lines : List Line) (last : ℕ) → IsSoFar variables clauses good lines last → all ≡ good ++ rest → rest ≡ [] → SpellsLog variables clauses all lines × ((other : List Line) → SpellsLog variables clauses all other → other ≡ lines)
whole_read variables clauses good all rest lines last s e none =
    let whole : all ≡ good ++ [] = e ∙ ap (λ (t : List (List ℕ)). good ++ t) none in (
      subst (λ (ls : List (List ℕ)). SpellsLog variables clauses ls lines) (sym whole) (subst (λ (x : List Line). SpellsLog variables clauses (good ++ []) x) (append-nil lines) (s.back [] [] refl)),
      λ other h. let f = s.forth [] other (subst (λ (ls : List (List ℕ)). SpellsLog variables clauses ls other) whole h) in f.1 ∙ (ap (λ (x : List Line). lines ++ x) f.2 ∙ append-nil lines),
    )

no_step : (variables last : ℕ) (l : List ℕ) (tail : List (List ℕ)) (all : List Line) (b : Bool) → SpellsIf b ⊥ ((e : Line) → SpellsLine variables last e (tokens l) → ⊥) → SpellsIf b (SpellsLog variables last tail all) ((e : Line) × (others : List Line) × (all ≡ e ∷ others) × SpellsLine variables last e (tokens l) × SpellsLog variables (id_after last e) tail others) → ⊥
no_step variables last l tail all true bad h = bad
no_step variables last l tail all false bad h = bad h.0 h.3

pub first_bad : (variables clauses : ℕ) (good all rest : List (List ℕ)) (lines : List Line) (last k : ℕ) (l : List ℕ) (more : List (List ℕ)) → IsSoFar variables clauses good lines last → all ≡ good ++ rest → rest ≡ l ∷ more → k ≡ length good + 1 → StepBad variables last l → IsFirstBad (IsLogText variables clauses) all k
first_bad variables clauses good all rest lines last k l more s e f n bad = record {
  good = good;
  after = l ∷ more;
  parts = e ∙ ap (λ (t : List (List ℕ)). good ++ t) f;
  number = n;
  begins = ([], (lines ++ [], s.back [] [] refl));
  none = λ tail t. let g = s.forth (l ∷ tail) t.0 t.1 in no_step variables last l tail g.0 (is_passed l) bad g.2;
}

-- ---- the log grows by a line

pub last_push : (first : ℕ) (lines : List Line) (e : Line) → last_id first (lines ++ e ∷ []) ≡ id_after (last_id first lines) e
last_push first [] (Line.Add id lits hints) = refl
last_push first [] (Line.Del ids) = refl
last_push first (Line.Add i ls hs ∷ lines) e = last_push i lines e
last_push first (Line.Del ids ∷ lines) e = last_push first lines e

step_more : (variables last : ℕ) (line : List ℕ) (old new : List Line) (next : ℕ) (e : Line) → is_passed line ≡ false → SpellsLine variables last e (tokens line) → new ≡ old ++ e ∷ [] → next ≡ id_after last e → StepTo variables last line old new next
step_more variables last line old new next e p spells is n = rw p (e, spells, is, n)

pub push_step : (variables last first first' : ℕ) (line : List ℕ) (old new : List Line) (e : Line) → is_passed line ≡ false → SpellsLine variables last e (tokens line) → first' ≡ first → last_id first old ≡ last → new ≡ old ++ e ∷ []
    → StepTo variables last line old new (id_after last e) × (last_id first' new ≡ id_after last e)
push_step variables last first first' line old new e p spells f l is = (
  step_more variables last line old new (id_after last e) e p spells is refl,
  ap₂ (λ (k : ℕ) (ls : List Line). last_id k ls) f is ∙ (last_push first old e ∙ ap (λ (k : ℕ). id_after k e) l),
)

-- a line that is judged alone
pub judged_passed : (variables last : ℕ) (line : List ℕ) → is_passed line ≡ true → (old : List Line) → (new : List Line) × StepTo variables last line old new last
judged_passed variables last line p old = (old, rw p (refl, refl))

pub judged_more : (variables last : ℕ) (line : List ℕ) (e : Line) → is_passed line ≡ false → SpellsLine variables last e (tokens line) → (old : List Line) → (new : List Line) × StepTo variables last line old new (id_after last e)
judged_more variables last line e p spells old = (old ++ e ∷ [], step_more variables last line old (old ++ e ∷ []) (id_after last e) e p spells refl refl)
