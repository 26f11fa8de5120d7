-- The search after a cut, and after a learnt clause.
use Rattle.std.proofs.Common.{◌≡◌, ◌≢◌, ◌⊎◌, ℕ, zero, suc, ◌+◌, ◌-◌, ◌<◌, ◌≤◌, List, [], ◌∷◌, ◌++◌, take, length, Some, None, slice_get, refl, sym, ap, ◌∙◌, subst, inl, inr, arith, length-append}
use Rattle.sat_trail.proofs.LitLemmas.{same_lit}
use Rattle.std.proofs.lemmas.Bool.{cases_lt}
use Rattle.std.proofs.lemmas.List.{take-append-le}
use Rattle.clause_arena.specs.Clauses.{Lit, opposite, Clause, In}
use Rattle.sat_trail.specs.Trails.{Entry, TrailState, entry_at, IsTrail, IsTrueBy}
use Rattle.clause_arena.specs.Arenas.{clause_at}
use Rattle.sat_engine.specs.Findings.{HasReason}
use Rattle.sat_engine.specs.Lessons.{IsTrueLit}
use Rattle.sat_engine.specs.Searches.{AreQuietBelow, AreExplained}

pub first_part : (xs ys : List Entry) (p : ℕ) → p < length xs → entry_at (xs ++ ys) p ≡ entry_at xs p
first_part [] ys p l = absurd (omega (arith, l))
first_part (x ∷ xs) ys zero l = refl
first_part (x ∷ xs) ys (suc p) l = first_part xs ys p (omega (arith, l))

pub last_part : (xs ys : List Entry) (p q : ℕ) → p ≡ length xs + q → entry_at (xs ++ ys) p ≡ entry_at ys q
last_part [] ys p q e = let s : p ≡ q = omega (arith, e) in ap (entry_at ys) s
last_part (x ∷ xs) ys zero q e = absurd (omega (arith, e))
last_part (x ∷ xs) ys (suc p) q e = last_part xs ys p q (omega (arith, e))

-- a literal of the first part is of the whole, at the same level
pub more_true : (xs ys : List Entry) (j : ℕ) (l : Lit) → IsTrueBy xs j l → IsTrueBy (xs ++ ys) j l
more_true xs ys j l h =
    let e = first_part xs ys h.0 h.1.0 in
    (h.0, (omega (arith, h.1.0, length-append xs ys), ap (λ (n : Entry). n.lit) e ∙ h.1.1), omega (arith, ap (λ (n : Entry). n.level) e, h.2))

pub less_true : (xs ys : List Entry) (j : ℕ) (l : Lit) → ((p : ℕ) → p < length ys → j < (entry_at ys p).level) → IsTrueBy (xs ++ ys) j l → IsTrueBy xs j l
less_true xs ys j l high h = elim (cases_lt h.0 (length xs)) [
  | inl within ↦
      let e = first_part xs ys h.0 within in
      (h.0, (within, ap (λ (n : Entry). n.lit) (sym e) ∙ h.1.1), omega (arith, ap (λ (n : Entry). n.level) e, h.2))
  | inr past ↦
      let q = h.0 - length xs in
      let e = last_part xs ys h.0 q (omega arith) in
      absurd (omega (arith, high q (omega (arith, h.1.0, length-append xs ys)), ap (λ (n : Entry). n.level) e, h.2))
]

-- what was quiet below stays so when entries of higher levels go
pub quiet_cut : (clauses : List Clause) (xs ys : List Entry) (level high : ℕ) → level ≤ high → ((p : ℕ) → p < length ys → level < (entry_at ys p).level) → AreQuietBelow clauses (xs ++ ys) high → AreQuietBelow clauses xs level
quiet_cut clauses xs ys level high le above quiet j jl k c e l i others =
    less_true xs ys j l (λ p h. omega (arith, above p h, jl)) (quiet j (omega (arith, jl, le)) k c e l i (λ m im ne. more_true xs ys j (opposite m) (others m im ne)))

-- and when entries of this level come
pub quiet_grow : (clauses : List Clause) (xs ys : List Entry) (level : ℕ) → ((p : ℕ) → p < length ys → level ≤ (entry_at ys p).level) → AreQuietBelow clauses xs level → AreQuietBelow clauses (xs ++ ys) level
quiet_grow clauses xs ys level above quiet j jl k c e l i others =
    more_true xs ys j l (quiet j jl k c e l i (λ m im ne. less_true xs ys j (opposite m) (λ p h. omega (arith, above p h, jl)) (others m im ne)))

pub get_push : (cs : List Clause) (d c : Clause) (k : ℕ) → slice_get (cs ++ d ∷ []) k ≡ Some c → (slice_get cs k ≡ Some c) ⊎ (d ≡ c)
get_push [] d c zero e = inr (let s : Some d ≡ Some c = e in cc)
get_push [] d c (suc k) e = absurd (let s : None ≡ Some c = e in cc)
get_push (x ∷ cs) d c zero e = inl e
get_push (x ∷ cs) d c (suc k) e = get_push cs d c k e

-- and when a clause comes with two literals whose variables have no lower level
pub quiet_push : (clauses : List Clause) (entries : List Entry) (level : ℕ) (d : Clause) (a b : Lit) → In a d → In b d → a ≢ b →
    ((j : ℕ) → j < level → IsTrueBy entries j (opposite a) → ⊥) → ((j : ℕ) → j < level → IsTrueBy entries j (opposite b) → ⊥) → AreQuietBelow clauses entries level → AreQuietBelow (clauses ++ d ∷ []) entries level
quiet_push clauses entries level d a b ia ib ne fa fb quiet j jl k c e l i others = elim (get_push clauses d c k e) [
  | inl old ↦ quiet j jl k c old l i others
  | inr new ↦ elim (same_lit a l) [
    | inl same ↦ absurd (fb j jl (others b (subst (λ q. In b q) new ib) (λ s. ne (same ∙ sym s))))
    | inr other ↦ absurd (fa j jl (others a (subst (λ q. In a q) new ia) other))
  ]
]

-- a decision after complete propagation opens a level
pub quiet_open : (clauses : List Clause) (t : TrailState) (e : Entry) → IsTrail t → e.level ≡ suc t.level → AreQuietBelow clauses t.entries t.level →
    ((k : ℕ) (c : Clause) → slice_get clauses k ≡ Some c → (l : Lit) → In l c → ((m : Lit) → In m c → m ≢ l → IsTrueLit t.entries (opposite m)) → IsTrueLit t.entries l) → AreQuietBelow clauses (t.entries ++ e ∷ []) (suc t.level)
quiet_open clauses t e trail above quiet done j jl k c is l i others = elim (cases_lt j t.level) [
  | inl low ↦ more_true t.entries (e ∷ []) j l (quiet j low k c is l i (λ m im ne. less_true t.entries (e ∷ []) j (opposite m) (one_high low) (others m im ne)))
  | inr top ↦
      let r = done k c is l i (λ m im ne. let h = less_true t.entries (e ∷ []) j (opposite m) top_high (others m im ne) in (h.0, h.1)) in
      more_true t.entries (e ∷ []) j l (r.0, r.1, omega (arith, trail.below r.0 r.1.0, top))
]
  where
    one_high : j < t.level → (p : ℕ) → p < length (e ∷ []) → j < (entry_at (e ∷ []) p).level
    one_high low zero h = omega (arith, above, low)
    one_high low (suc p) h = absurd (omega (arith, h))

    top_high : (p : ℕ) → p < length (e ∷ []) → j < (entry_at (e ∷ []) p).level
    top_high zero h = omega (arith, above, jl)
    top_high (suc p) h = absurd (omega (arith, h))

-- what is explained stays so for the first part, and for more clauses
reason_more : (clauses more : List Clause) (before : List Entry) (e : Entry) → HasReason clauses before e → HasReason (clauses ++ more) before e
reason_more clauses more before e h =
    let at = clause_first clauses more h.0 h.2 in
    (h.0, h.1, omega (arith, h.2, length-append clauses more), subst (λ q. In e.lit q) (sym at) h.3, λ m i ne. h.4 m (subst (λ q. In m q) at i) ne)
  where
    clause_first : (xs ys : List Clause) (p : ℕ) → p < length xs → clause_at (xs ++ ys) p ≡ clause_at xs p
    clause_first [] ys p l = absurd (omega (arith, l))
    clause_first (x ∷ xs) ys zero l = refl
    clause_first (x ∷ xs) ys (suc p) l = clause_first xs ys p (omega (arith, l))

pub explained_cut : (clauses : List Clause) (xs ys : List Entry) → AreExplained clauses (xs ++ ys) → AreExplained clauses xs
explained_cut clauses xs ys all p l =
    let e = first_part xs ys p l in
    let before : take p (xs ++ ys) ≡ take p xs = take-append-le p xs ys (omega arith) in
    let pl : p < length (xs ++ ys) = omega (arith, l, length-append xs ys) in
    elim (all p pl) [
      | inl h ↦ inl (subst (λ n. HasReason clauses (take p xs) n) e (subst (λ b. HasReason clauses b (entry_at (xs ++ ys) p)) before h))
      | inr first ↦ inr (sym (ap (λ (n : Entry). n.reason) e) ∙ first.0, omega (arith, first.1, ap (λ (n : Entry). n.level) e), λ q ql. let eq = first_part xs ys q (omega (arith, ql, l)) in omega (arith, first.2 q ql, ap (λ (n : Entry). n.level) eq, ap (λ (n : Entry). n.level) e))
    ]

pub explained_more : (clauses more : List Clause) (entries : List Entry) → AreExplained clauses entries → AreExplained (clauses ++ more) entries
explained_more clauses more entries all p l = elim (all p l) [
  | inl h ↦ inl (reason_more clauses more (take p entries) (entry_at entries p) h)
  | inr first ↦ inr first
]
