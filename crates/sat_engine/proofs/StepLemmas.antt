-- The jump of a lesson, and how long its line is.
use Rattle.std.proofs.Common.{◌≡◌, ◌≢◌, ℕ, zero, suc, ◌+◌, ◌-◌, ◌<◌, ◌≤◌, List, [], ◌∷◌, ◌++◌, length, max, Option, Some, None, IsSomeAnd, slice_get, refl, sym, ap, ◌∙◌, inl, inr, arith}
use Rattle.proof_check.specs.Following.{Live, first_live, HintsLead, IsUnit, AllFalse}
use Rattle.std.proofs.lemmas.Bool.{cases_lt, ne_eqb}
use Rattle.std.proofs.lemmas.List.Sums.{sum_by-append}
use Rattle.clause_arena.specs.Clauses.{Lit, opposite, Clause, In, HasEachVariableOnce}
use Rattle.sat_trail.specs.Trails.{TrailState, entry_at, IsAssigned, lit_at, IsAt}
use Rattle.sat_engine.proofs.BoundLemmas.{leads_few, first_within}
use Rattle.clause_arena.specs.Arenas.{clause_at, literals}
use Rattle.proof_check.specs.Lines.{ArePositive}
use Rattle.sat_trail.proofs.TrailLemmas.{in_at}
use Rattle.sat_engine.specs.Lessons.{IsFalseBetween, IsLesson, LiveAre}
use Rattle.sat_engine.specs.Searches.{IsJump, IsSearching}
use Rattle.sat_engine.proofs.PlaceLemmas.{in_split}
use Rattle.sat_engine.proofs.WalkLemmas.{lesson_within, lesson_false}

in_both : (c : Clause) (y : Lit) → In y c → (x : Lit) → In x c → HasEachVariableOnce c → y.var ≡ x.var → y ≡ x
in_both [] y i x j once e = absurd i
in_both (l ∷ c) y (inl a) x (inl b) once e = a ∙ sym b
in_both (l ∷ c) y (inl a) x (inr j) once e = absurd (once.0 x j (sym e ∙ ap (λ (q : Lit). q.var) a))
in_both (l ∷ c) y (inr i) x (inl b) once e = absurd (once.0 y i (e ∙ ap (λ (q : Lit). q.var) b))
in_both (l ∷ c) y (inr i) x (inr j) once e = in_both c y i x j once.1 e

-- literals of one variable in a line are one
pub one_of : (c : Clause) (x y : Lit) → In x c → In y c → HasEachVariableOnce c → y.var ≡ x.var → y ≡ x
one_of c x y i j once e = in_both c y j x i once e

pub jump_same : (t : TrailState) (x y : Lit) (c : Clause) (jump : ℕ) → y ≡ x → IsJump t x c jump → IsJump t x (c ++ y ∷ []) jump
jump_same t x y c jump same far = record {
  high = λ m i ne. elim (in_split c y m i) [ inl old ↦ far.high m old ne | inr is ↦ absurd (ne (is ∙ same)) ];
  some = elim far.some [ inl none ↦ inl none | inr b ↦ inr (b.0, in_first c y b.0 b.1, b.2, b.3, b.4, b.5) ];
  below = far.below;
}
  where
    in_first : (c : Clause) (y m : Lit) → In m c → In m (c ++ y ∷ [])
    in_first [] y m i = absurd i
    in_first (l ∷ c) y m (inl a) = inl a
    in_first (l ∷ c) y m (inr i) = inr (in_first c y m i)

pub jump_more : (t : TrailState) (x y : Lit) (c : Clause) (jump level : ℕ) → y ≢ x → (q : ℕ) → IsAt t.entries q (opposite y) → (entry_at t.entries q).level ≡ level → level < t.level → IsJump t x c jump → IsJump t x (c ++ y ∷ []) (max jump level)
jump_more t x y c jump level ne q at here low far = record {
  high = λ m i other. elim (in_split c y m i) [
    | inl old ↦ let h = far.high m old other in (h.0, h.1, omega (arith, h.2))
    | inr is ↦ (q, (at.0, at.1 ∙ ap opposite (sym is)), omega (arith, here))
  ];
  some = elim (cases_lt jump level) [
    | inl up ↦ inr (y, in_last c y, ne, q, at, omega (arith, here, up))
    | inr down ↦ elim far.some [
      | inl none ↦ inl (omega (arith, none, down))
      | inr b ↦ inr (b.0, in_first c y b.0 b.1, b.2, b.3, b.4, omega (arith, b.5, down))
    ]
  ];
  below = omega (arith, far.below, low);
}
  where
    in_first : (c : Clause) (y m : Lit) → In m c → In m (c ++ y ∷ [])
    in_first [] y m i = absurd i
    in_first (l ∷ c) y m (inl a) = inl a
    in_first (l ∷ c) y m (inr i) = inr (in_first c y m i)

    in_last : (c : Clause) (y : Lit) → In y (c ++ y ∷ [])
    in_last [] y = inl refl
    in_last (l ∷ c) y = inr (in_last c y)

pub first_are : (clauses : List Clause) → LiveAre (first_live clauses) clauses
first_are clauses k c e = (c, rw (ne_eqb (suc k) 0 (omega arith)) (ap (slice_get clauses) (let s : suc k - 1 ≡ k = omega arith in s) ∙ e), λ l. (λ i. i, λ i. i))

-- a lesson's line is short
pub lesson_short : (clauses : List Clause) (t : TrailState) (x : Lit) (lits : List Lit) (hints : List ℕ) → IsSearching clauses t → IsLesson clauses t x lits hints → length lits + length hints ≤ t.variables + 1
lesson_short clauses t x lits hints s lesson =
    leads_few t.variables (first_live clauses) (first_within clauses t.variables s.within) hints lits lesson.once (lesson_within clauses t x lits hints s.trail lesson) (lesson.leads (first_live clauses) (first_are clauses))

pub refuting_short : (clauses : List Clause) (t : TrailState) (hints : List ℕ) → IsSearching clauses t → ((live : Live) → LiveAre live clauses → HintsLead live [] hints) → length hints ≤ t.variables + 1
refuting_short clauses t hints s refuting =
    let h = leads_few t.variables (first_live clauses) (first_within clauses t.variables s.within) hints [] tt (λ l i. absurd i) (refuting (first_live clauses) (first_are clauses)) in
    omega (arith, h)

-- a line has a hint
pub hints_some : (live : Live) (falses : List Lit) (hints : List ℕ) → HintsLead live falses hints → 0 < length hints
hints_some live falses [] lead = absurd lead
hints_some live falses (h ∷ []) lead = omega arith
hints_some live falses (h ∷ k ∷ hints) lead = omega arith

some_live : (P : Clause → Type 0) (o : Option Clause) → IsSomeAnd o P → o ≢ None
some_live P None h e = h
some_live P (Some c) h e = let no : Some c ≡ None = e in cc

live_positive : (P : Clause → Type 0) (live : Live) (h : ℕ) → live 0 ≡ None → IsSomeAnd (live h) P → 0 < h
live_positive P live zero none lead = absurd (some_live P (live 0) lead none)
live_positive P live (suc h) none lead = omega arith

-- no hint is 0
pub hints_positive : (live : Live) → live 0 ≡ None → (hints : List ℕ) (falses : List Lit) → HintsLead live falses hints → ArePositive hints
hints_positive live none [] falses lead = absurd lead
hints_positive live none (h ∷ []) falses lead = (live_positive (AllFalse falses) live h none lead, tt)
hints_positive live none (h ∷ k ∷ hints) falses lead =
    let r = some_of (live h) lead in
    (live_positive (λ c. (l : Lit) × IsUnit falses c l × HintsLead live (opposite l ∷ falses) (k ∷ hints)) live h none lead, hints_positive live none (k ∷ hints) (opposite r.1.0 ∷ falses) r.1.2)
  where
    some_of : (o : Option Clause) → IsSomeAnd o (λ c. (l : Lit) × IsUnit falses c l × HintsLead live (opposite l ∷ falses) (k ∷ hints)) → (c : Clause) × ((l : Lit) × IsUnit falses c l × HintsLead live (opposite l ∷ falses) (k ∷ hints))
    some_of None s = absurd s
    some_of (Some c) s = (c, s)

-- each clause is short where all are together
pub short_each : (clauses : List Clause) (k : ℕ) → k < length clauses → length (clause_at clauses k) ≤ literals clauses
short_each [] k l = absurd (omega (arith, l))
short_each (c ∷ clauses) zero l = omega (arith, sum_by-append (λ x. length x) (c ∷ []) clauses)
short_each (c ∷ clauses) (suc k) l = omega (arith, short_each clauses k (omega (arith, l)), sum_by-append (λ x. length x) (c ∷ []) clauses)

-- a literal of a line is of an entry
pub lower_assigned : (t : TrailState) (x y : Lit) (lits : Clause) → ((m : Lit) → In m lits → m ≢ x → IsFalseBetween t.entries t.level m) → In y lits → y.var ≢ x.var → IsAssigned t.entries y.var
lower_assigned t x y lits lower i ne = let f = lower y i (λ e. ne (ap (λ (q : Lit). q.var) e)) in (f.0, f.1.0, ap (λ (q : Lit). q.var) f.1.1)

pub literals_push : (clauses : List Clause) (c : Clause) → literals (clauses ++ c ∷ []) ≡ literals clauses + length c
literals_push clauses c = sum_by-append (λ x. length x) clauses (c ∷ []) ∙ omega arith

-- each literal of a lesson is of an entry
pub lesson_assigned : (clauses : List Clause) (t : TrailState) (x : Lit) (lits : List Lit) (hints : List ℕ) → IsLesson clauses t x lits hints → (i : ℕ) → i < length lits → IsAssigned t.entries (lit_at lits i).var
lesson_assigned clauses t x lits hints lesson i il = let f = lesson_false clauses t x lits hints lesson (lit_at lits i) (in_at lits i il) in (f.0, f.1.0, ap (λ (q : Lit). q.var) f.1.1)
