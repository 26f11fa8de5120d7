-- A line's literals in another order.
use Rattle.std.proofs.Common.{◌≡◌, ◌≢◌, ◌⊎◌, ℕ, zero, suc, ◌<◌, List, [], ◌∷◌, ◌++◌, length, Option, Some, None, IsSomeAnd, refl, sym, ap, ◌∙◌, subst, inl, inr, arith}
use Rattle.proof_check.specs.Following.{Live, AllFalse, IsUnit, HintsLead}
use Rattle.std.specs.List.{SwappedAt}
use Rattle.std.proofs.lemmas.Bool.{cases_eq, cases_lt}
use Rattle.clause_arena.specs.Clauses.{Lit, opposite, Clause, In, HasEachVariableOnce}
use Rattle.sat_trail.specs.Trails.{TrailState, lit_at, no_lit}
use Rattle.sat_trail.proofs.TrailLemmas.{place_of, in_at}
use Rattle.sat_engine.specs.Lessons.{IsLesson}
use Rattle.sat_engine.specs.Searches.{IsSameSet, IsJump}

some_more : (o : Option Clause) (P Q : Clause → Type 0) → ((c : Clause) → P c → Q c) → IsSomeAnd o P → IsSomeAnd o Q
some_more None P Q f h = h
some_more (Some c) P Q f h = f c h

cons_same : (x : Lit) (A B : List Lit) → IsSameSet A B → IsSameSet (x ∷ A) (x ∷ B)
cons_same x A B same l = (λ i. elim i [ inl is ↦ inl is | inr j ↦ inr ((same l).0 j) ], λ i. elim i [ inl is ↦ inl is | inr j ↦ inr ((same l).1 j) ])

-- hints lead from a list as from any other of the same literals
pub leads_same : (live : Live) (hints : List ℕ) (A B : List Lit) → IsSameSet A B → HintsLead live A hints → HintsLead live B hints
leads_same live [] A B same lead = lead
leads_same live (h ∷ []) A B same lead = some_more (live h) (AllFalse A) (AllFalse B) (λ c f m i. (same m).0 (f m i)) lead
leads_same live (h ∷ k ∷ hints) A B same lead =
    some_more (live h) (λ c. (l : Lit) × IsUnit A c l × HintsLead live (opposite l ∷ A) (k ∷ hints)) (λ c. (l : Lit) × IsUnit B c l × HintsLead live (opposite l ∷ B) (k ∷ hints))
    (λ c u. (u.0, record { holds = u.1.holds; others = λ m i ne. (same m).0 (u.1.others m i ne); not_false = λ i. u.1.not_false ((same u.0).1 i); not_true = λ i. u.1.not_true ((same (opposite u.0)).1 i) }, leads_same live (k ∷ hints) (opposite u.0 ∷ A) (opposite u.0 ∷ B) (cons_same (opposite u.0) A B same) u.2)) lead

pub lesson_same : (clauses : List Clause) (t : TrailState) (x : Lit) (A B : List Lit) (hints : List ℕ) → IsSameSet A B → HasEachVariableOnce B → IsLesson clauses t x A hints → IsLesson clauses t x B hints
lesson_same clauses t x A B hints same once lesson = record {
  leads = λ live are. leads_same live hints A B same (lesson.leads live are);
  holds = (same x).0 lesson.holds;
  asserting = lesson.asserting;
  lower = λ m i ne. lesson.lower m ((same m).1 i) ne;
  once = once;
}

pub jump_same_set : (t : TrailState) (x : Lit) (A B : List Lit) (jump : ℕ) → IsSameSet A B → IsJump t x A jump → IsJump t x B jump
jump_same_set t x A B jump same far = record {
  high = λ m i ne. far.high m ((same m).1 i) ne;
  some = elim far.some [ inl none ↦ inl none | inr b ↦ inr (b.0, (same b.0).0 b.1, b.2, b.3, b.4, b.5) ];
  below = far.below;
}

once_at : (c : List Lit) → HasEachVariableOnce c → (p q : ℕ) → p < q → q < length c → (lit_at c p).var ≢ (lit_at c q).var
once_at [] once p q lt ql = absurd (omega (arith, ql))
once_at (l ∷ c) once zero zero lt ql = absurd (omega (arith, lt))
once_at (l ∷ c) once zero (suc q) lt ql = λ e. once.0 (lit_at c q) (in_at c q (omega (arith, ql))) (sym e)
once_at (l ∷ c) once (suc p) zero lt ql = absurd (omega (arith, lt))
once_at (l ∷ c) once (suc p) (suc q) lt ql = once_at c once.1 p q (omega (arith, lt)) (omega (arith, ql))

once_from : (c : List Lit) → ((p q : ℕ) → p < q → q < length c → (lit_at c p).var ≢ (lit_at c q).var) → HasEachVariableOnce c
once_from [] h = tt
once_from (l ∷ c) h = (λ m i e. let r = place_of m c i in h 0 (suc r.0) (omega arith) (omega (arith, r.1)) (sym e ∙ sym (ap (λ (q : Lit). q.var) r.2)), once_from c (λ p q lt ql. h (suc p) (suc q) (omega (arith, lt)) (omega (arith, ql))))

-- where place p came from
abbrev CameFrom : ℕ → ℕ → ℕ → ℕ → Type 0
CameFrom i j p k = ((p ≡ i) × (k ≡ j)) ⊎ ((p ≢ i) × (p ≡ j) × (k ≡ i)) ⊎ ((p ≢ i) × (p ≢ j) × (k ≡ p))

apart : (i j p q k m : ℕ) → CameFrom i j p k → CameFrom i j q m → p < q → k ≡ m → ⊥
apart i j p q k m (inl a) (inl b) lt e = omega (arith, a.0, b.0, lt)
apart i j p q k m (inl a) (inr (inl b)) lt e = omega (arith, a.0, a.1, b.1, b.2, lt, e)
apart i j p q k m (inl a) (inr (inr b)) lt e = b.1 (omega (arith, a.1, b.2, e))
apart i j p q k m (inr (inl a)) (inl b) lt e = omega (arith, a.1, a.2, b.0, b.1, lt, e)
apart i j p q k m (inr (inl a)) (inr (inl b)) lt e = omega (arith, a.1, b.1, lt)
apart i j p q k m (inr (inl a)) (inr (inr b)) lt e = b.0 (omega (arith, a.2, b.2, e))
apart i j p q k m (inr (inr a)) (inl b) lt e = a.1 (omega (arith, a.2, b.1, e))
apart i j p q k m (inr (inr a)) (inr (inl b)) lt e = a.0 (omega (arith, a.2, b.2, e))
apart i j p q k m (inr (inr a)) (inr (inr b)) lt e = omega (arith, a.2, b.2, lt, e)

module _ (A B : List Lit) (i j : ℕ) (il : i < length A) (jl : j < length A) (len : length B ≡ length A) (swapped : SwappedAt A B i j) where
  came : (p : ℕ) → p < length B → (k : ℕ) × (k < length A) × (lit_at B p ≡ lit_at A k) × CameFrom i j p k
  came p pl = elim (cases_eq p i) [
    | inl first ↦ (j, jl, ap (lit_at B) first ∙ swapped.0 no_lit, inl (first, refl))
    | inr other ↦ elim (cases_eq p j) [
      | inl second ↦ (i, il, ap (lit_at B) second ∙ swapped.1 no_lit, inr (inl (other, second, refl)))
      | inr more ↦ (p, omega (arith, pl, len), swapped.2 p no_lit other more, inr (inr (other, more, refl)))
    ]
  ]

  went : (p : ℕ) → p < length A → (k : ℕ) × (k < length B) × (lit_at B k ≡ lit_at A p)
  went p pl = elim (cases_eq p i) [
    | inl first ↦ (j, omega (arith, jl, len), swapped.1 no_lit ∙ ap (lit_at A) (sym first))
    | inr other ↦ elim (cases_eq p j) [
      | inl second ↦ (i, omega (arith, il, len), swapped.0 no_lit ∙ ap (lit_at A) (sym second))
      | inr more ↦ (p, omega (arith, pl, len), swapped.2 p no_lit other more)
    ]
  ]

  pub swapped_same : IsSameSet A B
  swapped_same l = (
    λ h. let r = place_of l A h in let w = went r.0 r.1 in subst (λ q. In q B) (w.2 ∙ r.2) (in_at B w.0 w.1),
    λ h. let r = place_of l B h in let k = came r.0 r.1 in subst (λ q. In q A) (sym k.2 ∙ r.2) (in_at A k.0 k.1),
  )

  pub swapped_once : HasEachVariableOnce A → HasEachVariableOnce B
  swapped_once once = once_from B (λ p q lt ql e.
      let a = came p (omega (arith, lt, ql)) in
      let b = came q ql in
      let vars : (lit_at A a.0).var ≡ (lit_at A b.0).var = sym (ap (λ (l : Lit). l.var) a.2) ∙ e ∙ ap (λ (l : Lit). l.var) b.2 in
      elim (cases_eq a.0 b.0) [
        | inl same ↦ apart i j p q a.0 b.0 a.3 b.3 lt same
        | inr other ↦ elim (cases_lt a.0 b.0) [
          | inl before ↦ once_at A once a.0 b.0 before b.1 vars
          | inr after ↦ once_at A once b.0 a.0 (omega (arith, other, after)) a.1 (sym vars)
        ]
      ])

pub lit_end : (c : List Lit) (x : Lit) (k : ℕ) → k ≡ length c → lit_at (c ++ x ∷ []) k ≡ x
lit_end [] x zero e = refl
lit_end [] x (suc k) e = absurd (omega (arith, e))
lit_end (l ∷ c) x zero e = absurd (omega (arith, e))
lit_end (l ∷ c) x (suc k) e = lit_end c x k (omega (arith, e))
