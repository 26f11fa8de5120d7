-- The clauses of one literal.
use Rattle.std.proofs.Common.{◌≡◌, ◌≢◌, ℕ, ◌+◌, ◌<◌, ◌≤◌, List, [], ◌∷◌, ◌++◌, take, length, Some, slice_get, refl, sym, ap, ◌∙◌, subst, inl, inr, arith, length-append}
use Rattle.sat_engine.proofs.PlaceLemmas.{true_at}
use Rattle.sat_engine.specs.Steps.{IsWithin}
use Rattle.sat_trail.specs.Propagation.{IsFalseIn}
use Rattle.std.proofs.lemmas.Bool.{cases_eq}
use Rattle.clause_arena.specs.Clauses.{Lit, opposite, Clause, In}
use Rattle.sat_trail.specs.Trails.{Entry, TrailState, true_lits, IsTrail, IsTrueBy}
use Rattle.clause_arena.specs.Arenas.{clause_at}
use Rattle.watch_lists.specs.Watching.{Watching, IsFit}
use Rattle.watch_lists.proofs.KeepLemmas.{fit_more}
use Rattle.sat_engine.specs.Findings.{HasReason}
use Rattle.sat_engine.specs.Searches.{AreExplained, IsSearching, AreListed}
use Rattle.sat_engine.specs.Copies.{IsLoaded}
use Rattle.sat_engine.specs.Units.{AreUnitsTrueTo, AreUnitsTrue}
use Rattle.sat_engine.proofs.JumpLemmas.{last_part, more_true}
use Rattle.sat_engine.proofs.KeepLemmas.{explained_grow, at_get, get_below}

-- a clause of one literal holds no other
pub only_one : (c : Clause) (l m : Lit) → length c ≡ 1 → In l c → In m c → m ≡ l
only_one [] l m e i j = absurd i
only_one (x ∷ []) l m e (inl a) (inl b) = b ∙ sym a
only_one (x ∷ []) l m e (inl a) (inr j) = absurd j
only_one (x ∷ []) l m e (inr i) j = absurd i
only_one (x ∷ y ∷ c) l m e i j = absurd (omega (arith, e))

pub unit_false : (c : Clause) (l : Lit) (T : List Lit) → length c ≡ 1 → In l c → In (opposite l) T → IsFalseIn c T
unit_false c l T e i f m j = subst (λ q. In (opposite q) T) (sym (only_one c l m e i j)) f

-- at level 0 all that is true is true by level 0
pub ground_true : (t : TrailState) (l : Lit) → IsTrail t → t.level ≡ 0 → In l (true_lits t.entries) → IsTrueBy t.entries 0 l
ground_true t l trail ground i = let p = true_at t.entries l i in (p.0, p.1, omega (arith, trail.below p.0 p.1.0, ground))

module _ (clauses : List Clause) (t new : TrailState) (l : Lit) (id : ℕ) (is : new ≡ record t { entries = t.entries ++ (record { lit = l; level = t.level; reason = Some id }) ∷ [] }) (ground : t.level ≡ 0) where
  abbrev e : Entry
  e = record { lit = l; level = t.level; reason = Some id }

  entries_is : new.entries ≡ t.entries ++ e ∷ []
  entries_is = ap (λ (q : TrailState). q.entries) is

  pub keep_unit : IsSearching clauses t → IsTrail new → id < length clauses → In l (clause_at clauses id) → length (clause_at clauses id) ≡ 1 → IsSearching clauses new
  keep_unit s trail idl i one = record {
    trail = trail;
    filled = s.filled;
    within = subst (IsWithin clauses) (sym (ap (λ (q : TrailState). q.variables) is)) s.within;
    quiet = λ j jl. absurd (omega (arith, jl, ap (λ (q : TrailState). q.level) is, ground));
    explained = subst (AreExplained clauses) (sym entries_is) (explained_grow clauses t.entries (e ∷ []) s.explained (λ p from below.
        let p_is : p ≡ length t.entries = omega (arith, from, below, length-append t.entries (e ∷ [])) in
        let here = last_part t.entries (e ∷ []) p 0 (omega (arith, p_is)) in
        inl (subst (λ n. HasReason clauses (take p (t.entries ++ e ∷ [])) n) (sym here) (id, refl, idl, i, λ m j ne. absurd (ne (only_one (clause_at clauses id) l m one i j))))));
    pending = λ p from below. omega (arith, trail.below p below, ap (λ (q : TrailState). q.level) is, ground);
  }

  pub fit_unit : (w : Watching) → IsTrail t → IsFit w clauses t → IsFit w clauses new
  fit_unit w trail fit = fit_more w clauses t new e entries_is (ap (λ (q : TrailState). q.given) is) (ap (λ (q : TrailState). q.variables) is) trail.given_in fit

  pub unit_more : (m : Lit) → IsTrueBy t.entries 0 m → IsTrueBy new.entries 0 m
  unit_more m h = subst (λ q. IsTrueBy q 0 m) (sym entries_is) (more_true t.entries (e ∷ []) 0 m h)

  pub unit_true : IsTrueBy new.entries 0 l
  unit_true =
      let here = last_part t.entries (e ∷ []) (length t.entries) 0 (omega arith) in
      subst (λ q. IsTrueBy q 0 l) (sym entries_is) (length t.entries, (omega (arith, length-append t.entries (e ∷ [])), ap (λ (n : Entry). n.lit) here), omega (arith, ap (λ (n : Entry). n.level) here, ground))

-- one more
pub units_more : (clauses : List Clause) (t new : TrailState) (id : ℕ) → ((l : Lit) → IsTrueBy t.entries 0 l → IsTrueBy new.entries 0 l) → (length (clause_at clauses id) ≡ 1 → (l : Lit) × In l (clause_at clauses id) × IsTrueBy new.entries 0 l) → AreUnitsTrueTo id clauses t → AreUnitsTrueTo (id + 1) clauses new
units_more clauses t new id more here before k c kl e one = elim (cases_eq k id) [
  | inl same ↦
      let at : clause_at clauses id ≡ c = ap (clause_at clauses) (sym same) ∙ at_get clauses k c e in
      let h = here (ap length at ∙ one) in
      (h.0, subst (In h.0) at h.1, h.2)
  | inr other ↦ let h = before k c (omega (arith, kl, other)) e one in (h.0, h.1, more h.0 h.2)
]

-- then all that isn't attached is covered
pub listed_start : (formula clauses : List Clause) (w : Watching) (t : TrailState) → IsLoaded formula clauses w → IsSearching clauses t → AreUnitsTrue clauses t → AreListed clauses w t
listed_start formula clauses w t loaded s units = record {
  ids = loaded.ids;
  covered = λ k c e. elim (loaded.covered k c e) [
    | inl a ↦ inl a
    | inr r ↦ elim r [
      | inl b ↦ inr (inl b)
      | inr short ↦ inr (inr (units k c (below k c e) e (one c (s.filled k c e) short)))
    ]
  ];
}
  where
    below : (k : ℕ) (c : Clause) → slice_get clauses k ≡ Some c → k < length clauses
    below k c e = get_below clauses k c e

    one : (c : Clause) → c ≢ [] → length c ≤ 1 → length c ≡ 1
    one [] ne le = absurd (ne refl)
    one (l ∷ c) ne le = omega (arith, le)
