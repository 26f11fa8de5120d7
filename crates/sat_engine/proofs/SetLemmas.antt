-- The search goes on over clauses with the same sets, as two watches leave them.
use Rattle.std.proofs.Common.{◌≡◌, ℕ, suc, ◌<◌, List, [], ◌∷◌, take, length, Some, slice_get, refl, sym, ◌∙◌, subst, inl, inr, arith}
use Rattle.sat_engine.proofs.BoundLemmas.{known_get}
use Rattle.proof_check.specs.Lines.{Line}
use Rattle.watch_lists.specs.Watched.{AreRearranged}
use Rattle.std.proofs.lemmas.List.Sums.{sum_by-append}
use Rattle.clause_arena.specs.Clauses.{Lit, opposite, Clause, In}
use Rattle.sat_trail.specs.Trails.{Entry, TrailState, entry_at}
use Rattle.clause_arena.specs.Arenas.{clause_at, literals}
use Rattle.sat_engine.specs.Findings.{HasReason}
use Rattle.sat_engine.specs.Searches.{IsSameSet, AreSameSets, IsSearching, AreListed, IsLogged, IsWatchedOrTrue}
use Rattle.watch_lists.specs.Watching.{Watching, AreSameAttached}
use Rattle.sat_engine.proofs.WalkLemmas.{get_is}
use Rattle.sat_engine.proofs.KeepLemmas.{get_below, at_get}
use Rattle.sat_engine.proofs.SearchLemmas.{known_place}

no_lits : (c : Clause) → ((l : Lit) → In l c → ⊥) → c ≡ []
no_lits [] never = refl
no_lits (l ∷ c) never = absurd (never l (inl refl))

module _ (clauses new : List Clause) (same : AreSameSets new clauses) where
  -- the clause that was there
  was : (k : ℕ) (c : Clause) → slice_get new k ≡ Some c → (d : Clause) × (slice_get clauses k ≡ Some d) × IsSameSet c d
  was k c e =
      let kl : k < length clauses = omega (arith, get_below new k c e, same.0) in
      (clause_at clauses k, get_is clauses k kl, same.1 k c (clause_at clauses k) e (get_is clauses k kl))

  same_at : (k : ℕ) → k < length clauses → IsSameSet (clause_at new k) (clause_at clauses k)
  same_at k kl = same.1 k (clause_at new k) (clause_at clauses k) (get_is new k (omega (arith, kl, same.0))) (get_is clauses k kl)

  reason_same : (before : List Entry) (e : Entry) → HasReason clauses before e → HasReason new before e
  reason_same before e h = let s = same_at h.0 h.2 in (h.0, h.1, omega (arith, h.2, same.0), (s e.lit).1 h.3, λ m i ne. h.4 m ((s m).0 i) ne)

  covered_same : (w w2 : Watching) (entries : List Entry) (k : ℕ) (c d : Clause) → AreSameAttached w w2 → IsSameSet c d → IsWatchedOrTrue w entries k d → IsWatchedOrTrue w2 entries k c
  covered_same w w2 entries k c d att s (inl a) = inl (att.attached k ∙ a)
  covered_same w w2 entries k c d att s (inr (inl b)) = inr (inl (b.0, (s b.0).1 b.1, (s (opposite b.0)).1 b.2))
  covered_same w w2 entries k c d att s (inr (inr b)) = inr (inr (b.0, (s b.0).1 b.1, b.2))

  pub listed_sets : (w w2 : Watching) (t : TrailState) → AreSameAttached w w2 → AreListed clauses w t → AreListed new w2 t
  listed_sets w w2 t att listing = record {
    ids = λ k a. omega (arith, listing.ids k (sym (att.attached k) ∙ a), same.0);
    covered = λ k c e. let d = was k c e in covered_same w w2 t.entries k c d.0 att d.2 (listing.covered k d.0 d.1);
  }

  pub keep_sets : (t : TrailState) → IsSearching clauses t → IsSearching new t
  keep_sets t s = record {
    trail = s.trail;
    filled = λ k c e none. let d = was k c e in s.filled k d.0 d.1 (no_lits d.0 (λ l i. subst (λ q. In l q) none ((d.2 l).1 i)));
    within = λ c k l i. let p = known_place new c k in let d = was p.0 c p.1 in s.within d.0 (known_get clauses p.0 d.0 d.1) l ((d.2 l).0 i);
    quiet = λ j jl k c e l i others. let d = was k c e in s.quiet j jl k d.0 d.1 l ((d.2 l).0 i) (λ m im ne. others m ((d.2 m).1 im) ne);
    explained = λ p pl. elim (s.explained p pl) [ inl h ↦ inl (reason_same (take p t.entries) (entry_at t.entries p) h) | inr first ↦ inr first ];
    pending = s.pending;
  }

  pub logged_sets : (formula : List Clause) (n : ℕ) (lines : List Line) → IsLogged formula n clauses lines → IsLogged formula n new lines
  logged_sets formula n lines g = record {
    same = (same.0 ∙ g.same.0, λ k a b e f. let d = was k a e in let h = g.same.1 k d.0 b d.1 f in λ l. (λ i. (h l).0 ((d.2 l).0 i), λ i. (d.2 l).1 ((h l).1 i)));
    counts = g.counts;
    progress = g.progress;
  }

-- what propagation says of the clauses
pub sets_of : (clauses new : List Clause) → AreRearranged clauses new → AreSameSets new clauses
sets_of clauses new same = (
  same.count,
  λ k c d e f.
      let kl : k < length clauses = get_below clauses k d f in
      let a = at_get new k c e in
      let b = at_get clauses k d f in
      λ l. (λ i. subst (In l) b (same.back k kl l (subst (In l) (sym a) i)), λ i. subst (In l) a (same.there k kl l (subst (In l) (sym b) i))),
)

-- as many literals
pub literals_same : (clauses new : List Clause) → AreRearranged clauses new → literals new ≡ literals clauses
literals_same [] [] same = refl
literals_same [] (d ∷ new) same = absurd (omega (arith, same.count))
literals_same (c ∷ clauses) [] same = absurd (omega (arith, same.count))
literals_same (c ∷ clauses) (d ∷ new) same =
    let rest = literals_same clauses new (record {
      count = omega (arith, same.count);
      lengths = λ k kl. same.lengths (suc k) (omega (arith, kl));
      there = λ k kl. same.there (suc k) (omega (arith, kl));
      back = λ k kl. same.back (suc k) (omega (arith, kl));
    }) in
    omega (arith, rest, same.lengths 0 (omega arith), sum_by-append (λ x. length x) (c ∷ []) clauses, sum_by-append (λ x. length x) (d ∷ []) new)
