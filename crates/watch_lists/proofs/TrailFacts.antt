-- What a trail says of its literals.
use Rattle.std.proofs.Common.{◌≡◌, ℕ, zero, suc, ◌<◌, ◌≤◌, Bool, true, false, not, List, [], ◌∷◌, ◌++◌, length, refl, sym, ap, ◌∙◌, inl, inr, arith, length-append}
use Rattle.std.proofs.lemmas.Bool.{cases_eq, cases_lt}
use Rattle.clause_arena.specs.Clauses.{Lit, opposite, In}
use Rattle.sat_trail.specs.Trails.{Entry, TrailState, entry_at, true_lits, IsTrail, IsTrueBy}
use Rattle.watch_lists.specs.Watched.{IsCovered}

pub true_place : (entries : List Entry) (l : Lit) → In l (true_lits entries) → (q : ℕ) × (q < length entries) × ((entry_at entries q).lit ≡ l)
true_place [] l i = absurd i
true_place (e ∷ entries) l (inl same) = (0, omega arith, sym same)
true_place (e ∷ entries) l (inr i) = let r = true_place entries l i in (suc r.0, omega (arith, r.1), r.2)

pub place_true : (entries : List Entry) (q : ℕ) (l : Lit) → q < length entries → (entry_at entries q).lit ≡ l → In l (true_lits entries)
place_true [] q l h e = absurd (omega (arith, h))
place_true (x ∷ entries) zero l h e = inl (sym e)
place_true (x ∷ entries) (suc q) l h e = inr (place_true entries q l (omega (arith, h)) e)

bit_differs : (b : Bool) → b ≡ not b → ⊥
bit_differs true e = cc
bit_differs false e = cc

pub one_place : (t : TrailState) → IsTrail t → (p q : ℕ) → p < length t.entries → q < length t.entries → (entry_at t.entries p).lit.var ≡ (entry_at t.entries q).lit.var → p ≡ q
one_place t trail p q pl ql e = elim (cases_eq p q) [
  | inl same ↦ same
  | inr other ↦ elim (cases_lt p q) [
    | inl before ↦ absurd (trail.distinct p q before ql e)
    | inr after ↦ absurd (trail.distinct q p (omega arith) pl (sym e))
  ]
]

-- no literal is true beside its opposite
pub consistent : (t : TrailState) → IsTrail t → (l : Lit) → In l (true_lits t.entries) → In (opposite l) (true_lits t.entries) → ⊥
consistent t trail l i j =
    let a = true_place t.entries l i in
    let b = true_place t.entries (opposite l) j in
    let same : a.0 ≡ b.0 = one_place t trail a.0 b.0 a.1 b.1 (ap (λ (m : Lit). m.var) a.2 ∙ sym (ap (λ (m : Lit). m.var) b.2)) in
    let both : l ≡ opposite l = sym a.2 ∙ ap (λ q. (entry_at t.entries q).lit) same ∙ b.2 in
    bit_differs l.negated (ap (λ (m : Lit). m.negated) both)

pub true_by_level : (t : TrailState) → IsTrail t → (l : Lit) (j : ℕ) → t.level ≤ j → In l (true_lits t.entries) → IsTrueBy t.entries j l
true_by_level t trail l j h i =
    let r = true_place t.entries l i in
    (r.0, (r.1, r.2), omega (arith, trail.below r.0 r.1, h))

pub entry_before : (entries : List Entry) (e : Entry) (p : ℕ) → p < length entries → entry_at (entries ++ e ∷ []) p ≡ entry_at entries p
entry_before [] e p h = absurd (omega (arith, h))
entry_before (x ∷ entries) e zero h = refl
entry_before (x ∷ entries) e (suc p) h = entry_before entries e p (omega (arith, h))

pub entry_last : (entries : List Entry) (e : Entry) (p : ℕ) → p ≡ length entries → entry_at (entries ++ e ∷ []) p ≡ e
entry_last [] e zero h = refl
entry_last [] e (suc p) h = absurd (omega (arith, h))
entry_last (x ∷ entries) e zero h = absurd (omega (arith, h))
entry_last (x ∷ entries) e (suc p) h = entry_last entries e p (omega (arith, h))

pub true_more : (entries : List Entry) (e : Entry) (l : Lit) → In l (true_lits entries) → In l (true_lits (entries ++ e ∷ []))
true_more [] e l i = absurd i
true_more (x ∷ entries) e l (inl same) = inl same
true_more (x ∷ entries) e l (inr i) = inr (true_more entries e l i)

pub true_last : (entries : List Entry) (e : Entry) → In e.lit (true_lits (entries ++ e ∷ []))
true_last [] e = inl refl
true_last (x ∷ entries) e = inr (true_last entries e)

pub covered_more : (entries : List Entry) (e : Entry) (n : ℕ) (x y : Lit) → n ≤ length entries → IsCovered entries n x y → IsCovered (entries ++ e ∷ []) n x y
covered_more entries e n x y fits cover p pn pl is =
    let within : p < length entries = omega (arith, pn, fits) in
    let same = entry_before entries e p within in
    let r = cover p pn within (sym (ap (λ (q : Entry). q.lit) same) ∙ is) in
    let there = entry_before entries e r.0 r.1.0 in
    (r.0, (omega (arith, r.1.0, length-append entries (e ∷ [])), ap (λ (q : Entry). q.lit) there ∙ r.1.1), omega (arith, r.2, ap (λ (q : Entry). q.level) there, ap (λ (q : Entry). q.level) same))
