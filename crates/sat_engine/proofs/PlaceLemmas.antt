-- Where a literal stands in a clause or on a trail.
use Rattle.std.proofs.Common.{◌≡◌, ◌⊎◌, ℕ, zero, suc, ◌<◌, ◌≤◌, List, [], ◌∷◌, ◌++◌, length, slice_index_or, subst, inl, inr, arith}
use Rattle.watch_lists.proofs.TrailFacts.{true_place}
use Rattle.sat_trail.proofs.LitLemmas.{same_lit}
use Rattle.sat_trail.specs.Propagation.{IsQuiet}
use Rattle.std.specs.List.{All}
use Rattle.clause_arena.specs.Clauses.{Lit, opposite, Clause, In}
use Rattle.sat_trail.specs.Trails.{Entry, TrailState, true_lits, IsTrail}
use Rattle.sat_engine.specs.Lessons.{IsTrueLit}
use Rattle.sat_engine.proofs.LessonLemmas.{consistent}

pub true_at : (entries : List Entry) (l : Lit) → In l (true_lits entries) → IsTrueLit entries l
true_at entries l i = let r = true_place entries l i in (r.0, (r.1, r.2))

pub quiet_true : (t : TrailState) → IsTrail t → (c : Clause) (w : Lit) → In w c → In w (true_lits t.entries) → IsQuiet c (true_lits t.entries)
quiet_true t trail c w i true_w l j others = elim (same_lit w l) [
  | inl same ↦ subst (λ q. In q (true_lits t.entries)) same true_w
  | inr other ↦ absurd (consistent t trail w (true_at t.entries w true_w) (true_at t.entries (opposite w) (others w i other)))
]

pub in_split : (c : Clause) (x m : Lit) → In m (c ++ x ∷ []) → In m c ⊎ (m ≡ x)
in_split [] x m (inl same) = inr same
in_split [] x m (inr i) = absurd i
in_split (y ∷ c) x m (inl same) = inl (inl same)
in_split (y ∷ c) x m (inr i) = elim (in_split c x m i) [ inl old ↦ inl (inr old) | inr new ↦ inr new ]

pub in_read : (c : Clause) (i : ℕ) (x : Lit) → i < length c → x ≡ slice_index_or c i x → In x c
in_read [] i x l e = absurd (omega (arith, l))
in_read (y ∷ c) zero x l e = inl e
in_read (y ∷ c) (suc i) x l e = inr (in_read c i x (omega (arith, l)) e)

pub all_in : (c : Clause) (n : ℕ) (l : Lit) → All (λ m. m.var ≤ n) c → In l c → l.var ≤ n
all_in [] n l a i = absurd i
all_in (y ∷ c) n l a (inl same) = let h : y.var ≤ n = a 0 y (omega arith) in rw same h
all_in (y ∷ c) n l a (inr i) = all_in c n l (λ k d h. a (suc k) d (omega (arith, h))) i
