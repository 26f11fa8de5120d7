-- Every variable has a value.
use Rattle.std.proofs.Common.{◌≡◌, ◌≢◌, ◌⊎◌, ℕ, zero, suc, ◌+◌, ◌-◌, ◌<◌, ◌≤◌, Bool, true, false, not, if◌then◌else◌, IsTrue, List, [], ◌∷◌, ◌++◌, take, length, Some, slice_get, slice_index_or, refl, sym, ap, ◌∙◌, subst, inl, inr, arith, length-append}
use Rattle.sat_engine.proofs.PlaceLemmas.{true_at}
use Rattle.sat_engine.proofs.BoundLemmas.{known_get}
use Rattle.watch_lists.proofs.TrailFacts.{place_true}
use Rattle.sat_trail.proofs.LitLemmas.{lit_same, same_var}
use Rattle.proof_check.specs.Following.{AllFalse, Refutes, first_live}
use Rattle.sat_engine.specs.Steps.{IsWithin}
use Rattle.proof_check.specs.Progress.{IsKnown, StaysBelow, Spends}
use Rattle.proof_check.specs.Lines.{Line, Add, numbers}
use Rattle.sat_trail.specs.Propagation.{IsQuiet}
use Rattle.std.proofs.lemmas.Bool.{cases_eq, ne_eqb, or_left, or_right}
use Rattle.std.specs.Bool.{MatchBool}
use Rattle.clause_arena.specs.Clauses.{Lit, opposite, Clause, In, lit_true, clause_true, Satisfies, by_place}
use Rattle.sat_trail.specs.Trails.{Entry, TrailState, entry_at, true_lits, IsValue, IsTrail, IsAssigned}
use Rattle.watch_lists.specs.Watching.{Watching}
use Rattle.sat_engine.specs.Searches.{IsSameSet, AreSameSets, AreFilled, IsSearching, IsLogged}
use Rattle.sat_engine.specs.Verdicts.{IsFull}
use Rattle.sat_engine.specs.Copies.{IsLoaded}
use Rattle.sat_engine.specs.Outcomes.{AreAssigned}
use Rattle.sat_engine.proofs.LessonLemmas.{consistent}
use Rattle.sat_engine.proofs.WalkLemmas.{get_is}
use Rattle.sat_engine.proofs.KeepLemmas.{get_below}
use Rattle.sat_engine.proofs.SearchLemmas.{known_place, known_left, below_get}
use Rattle.sat_engine.specs.Steps.{added}
use Rattle.sat_engine.proofs.LearnLemmas.{some_and}
use Rattle.clause_arena.specs.Arenas.{clause_at}

-- one more variable that has a value
pub owned_more : (entries : List Entry) (n : ℕ) (l : Lit) (b : Bool) → l.var ≡ n + 1 → IsValue entries l (Some b) → ((v : ℕ) → 0 < v → v ≤ n → IsAssigned entries v) → (v : ℕ) → 0 < v → v ≤ n + 1 → IsAssigned entries v
owned_more entries n l true e is before v pos le = elim (cases_eq v (n + 1)) [
  | inl same ↦ let p = true_at entries l is in (p.0, p.1.0, ap (λ (q : Lit). q.var) p.1.1 ∙ e ∙ sym same)
  | inr other ↦ before v pos (omega (arith, le, other))
]
owned_more entries n l false e is before v pos le = elim (cases_eq v (n + 1)) [
  | inl same ↦ let p = true_at entries (opposite l) is in (p.0, p.1.0, ap (λ (q : Lit). q.var) p.1.1 ∙ e ∙ sym same)
  | inr other ↦ before v pos (omega (arith, le, other))
]

take_front : (lines : List Line) (line : Line) (n : ℕ) → n ≡ length lines → take n (lines ++ line ∷ []) ≡ lines
take_front [] line zero e = refl
take_front [] line (suc n) e = absurd (omega (arith, e))
take_front (l ∷ lines) line zero e = absurd (omega (arith, e))
take_front (l ∷ lines) line (suc n) e = ap (λ q. l ∷ q) (take_front lines line n (omega (arith, e)))

-- a last line over numbers that are below the budget
pub stays_below : (budget : ℕ) (lines : List Line) (line : Line) → numbers lines < budget → StaysBelow budget (lines ++ line ∷ [])
stays_below budget lines line less =
    let front : take (length (lines ++ line ∷ []) - 1) (lines ++ line ∷ []) ≡ lines = take_front lines line (length (lines ++ line ∷ []) - 1) (omega (arith, length-append lines (line ∷ []))) in
    omega (arith, less, ap numbers front)

pub spends : (budget : ℕ) (lines : List Line) (line : Line) → numbers lines < budget → budget ≤ numbers (lines ++ line ∷ []) → Spends budget (lines ++ line ∷ [])
spends budget lines line less reached = record { reached = reached; not_before = stays_below budget lines line less }

-- one of a quiet clause's literals is true where each variable has a value
some_true : (entries : List Entry) (c : Clause) → c ≢ [] → ((l : Lit) → In l c → IsAssigned entries l.var) → IsQuiet c (true_lits entries) → (l : Lit) × In l c × In l (true_lits entries)
some_true entries c ne owned quiet = elim (look c owned) [ inl found ↦ found | inr all ↦ last c ne quiet all ]
  where
    look : (c : Clause) → ((l : Lit) → In l c → IsAssigned entries l.var) → ((l : Lit) × In l c × In l (true_lits entries)) ⊎ ((m : Lit) → In m c → In (opposite m) (true_lits entries))
    look [] owned = inr (λ m i. absurd i)
    look (l ∷ c) owned =
        let o = owned l (inl refl) in
        elim (same_var (entry_at entries o.0).lit l o.2) [
          | inl same ↦ inl (l, inl refl, place_true entries o.0 l o.1 same)
          | inr other ↦ elim (look c (λ m i. owned m (inr i))) [
            | inl found ↦ inl (found.0, inr found.1, found.2)
            | inr all ↦ inr (λ m i. elim i [ inl same ↦ subst (λ q. In (opposite q) (true_lits entries)) (sym same) (place_true entries o.0 (opposite l) o.1 other) | inr j ↦ all m j ])
          ]
        ]

    last : (c : Clause) → c ≢ [] → IsQuiet c (true_lits entries) → ((m : Lit) → In m c → In (opposite m) (true_lits entries)) → (l : Lit) × In l c × In l (true_lits entries)
    last [] ne quiet all = absurd (ne refl)
    last (l ∷ c) ne quiet all = (l, inl refl, quiet l (inl refl) (λ m i d. all m i))

any_true : (v : ℕ → Bool) (c : Clause) (l : Lit) → In l c → IsTrue (lit_true v l) → IsTrue (clause_true v c)
any_true v [] l i h = absurd i
any_true v (m ∷ c) l (inl same) h = or_left _ _ (subst (λ k. IsTrue (lit_true v k)) same h)
any_true v (m ∷ c) l (inr i) h = or_right _ _ (any_true v c l i h)

satisfied_by : (v : ℕ → Bool) (formula : List Clause) → ((c : Clause) → IsKnown c formula → IsTrue (clause_true v c)) → Satisfies v formula
satisfied_by v [] h = tt
satisfied_by v (c ∷ formula) h = (h c (inl refl), satisfied_by v formula (λ d k. h d (inr k)))

-- a true literal is true under the assignment
lit_holds : (t : TrailState) (values : List Bool) → IsTrail t → AreAssigned t values t.variables → (l : Lit) → 0 < l.var → l.var ≤ t.variables → In l (true_lits t.entries) → IsTrue (lit_true (by_place values) l)
lit_holds t values trail a l pos fits i = of_bits l.negated (by_place values l.var) refl refl
  where
    plain : Lit
    plain = record { var = l.var; negated = false }

    of_bits : (n b : Bool) → l.negated ≡ n → by_place values l.var ≡ b → IsTrue (if n then not b else b)
    of_bits false true p q = refl
    of_bits true false p q = refl
    of_bits false false p q = absurd (a.when_false l.var pos fits q (subst (λ m. In m (true_lits t.entries)) (lit_same l plain refl p) i))
    of_bits true true p q =
        let other : opposite plain ≡ l = lit_same (opposite plain) l refl (sym p) in
        absurd (consistent t trail plain (true_at t.entries plain (a.when_true l.var pos fits q)) (true_at t.entries (opposite plain) (subst (λ m. In m (true_lits t.entries)) (sym other) i)))

pub full_satisfies : (formula clauses : List Clause) (lines : List Line) (n : ℕ) (t : TrailState) (values : List Bool) → IsWithin formula n → IsFull formula clauses lines n t → AreAssigned t values t.variables → Satisfies (by_place values) formula
full_satisfies formula clauses lines n t values within full a = satisfied_by (by_place values) formula each
  where
    each : (c : Clause) → IsKnown c formula → IsTrue (clause_true (by_place values) c)
    each c k =
        let p = known_place (formula ++ added lines) c (known_left formula (added lines) c k) in
        let kl : p.0 < length clauses = omega (arith, below_get (formula ++ added lines) p.0 c p.1, full.logged.same.0) in
        let d = clause_at clauses p.0 in
        let same = full.logged.same.1 p.0 d c (get_is clauses p.0 kl) p.1 in
        let some = some_true t.entries d (full.filled p.0 d (get_is clauses p.0 kl)) (λ l i. let w = within c k l ((same l).0 i) in full.assigned l.var w.0 (omega (arith, w.1, full.variables_are))) (full.quiet p.0 kl) in
        let i : In some.0 c = (same some.0).0 some.1 in
        let w = within c k some.0 i in
        any_true (by_place values) c some.0 i (lit_holds t values full.trail a some.0 w.0 (omega (arith, w.1, full.variables_are)) some.2)

-- the state before the search
pub start_searching : (formula clauses : List Clause) (w : Watching) (t : TrailState) → IsTrail t → t.entries ≡ [] → t.level ≡ 0 → AreFilled formula → IsWithin formula t.variables → IsLoaded formula clauses w → IsSearching clauses t
start_searching formula clauses w t trail none ground filled within loaded = record {
  trail = trail;
  filled = λ k c e. let d = at k c e in λ empty. filled k d.0 d.1 (no_lits d.0 (λ l i. subst (λ q. In l q) empty ((d.2 l).1 i)));
  within = λ c k l i. let p = known_place clauses c k in let d = at p.0 c p.1 in within d.0 (known_get formula p.0 d.0 d.1) l ((d.2 l).0 i);
  quiet = λ j jl. absurd (omega (arith, jl, ground));
  explained = λ p h. absurd (omega (arith, h, ap length none));
  pending = λ p from h. absurd (omega (arith, h, ap length none));
}
  where
    no_lits : (c : Clause) → ((l : Lit) → In l c → ⊥) → c ≡ []
    no_lits [] never = refl
    no_lits (l ∷ c) never = absurd (never l (inl refl))

    at : (k : ℕ) (c : Clause) → slice_get clauses k ≡ Some c → (d : Clause) × (slice_get formula k ≡ Some d) × IsSameSet c d
    at k c e =
        let kl : k < length formula = omega (arith, get_below clauses k c e, loaded.same.0) in
        (clause_at formula k, get_is formula k kl, loaded.same.1 k c (clause_at formula k) e (get_is formula k kl))

pub start_logged : (formula clauses : List Clause) (w : Watching) (n : ℕ) → IsLoaded formula clauses w → IsLogged formula n clauses []
start_logged formula clauses w n loaded = record {
  same = subst (AreSameSets clauses) (sym (no_more formula)) loaded.same;
  counts = tt;
  progress = tt;
}
  where
    no_more : (cs : List Clause) → cs ++ [] ≡ cs
    no_more [] = refl
    no_more (c ∷ cs) = ap (λ q. c ∷ q) (no_more cs)

-- an empty clause refutes at once
pub empty_refutes : (n : ℕ) (formula : List Clause) (id line : ℕ) → id < length formula → clause_at formula id ≡ [] → line ≡ length formula + 1 → Refutes n formula (Add line [] ((id + 1) ∷ []) ∷ [])
empty_refutes n formula id line idl empty is = record {
  follow = (
    (
      record {
        id_above = omega (arith, is);
        within = λ l i. absurd i;
        one_sign = λ l i. absurd i;
        some_hint = omega arith;
      },
      some_and (first_live formula (id + 1)) [] (AllFalse []) live (λ m i. i),
    ),
    tt,
  );
  empty = tt;
}
  where
    live : first_live formula (id + 1) ≡ Some []
    live = rw (ne_eqb (id + 1) 0 (omega arith)) (ap (slice_get formula) (let e : id + 1 - 1 ≡ id = omega arith in e) ∙ get_is formula id idl ∙ ap Some empty)

pub assigned_more : (t : TrailState) (values : List Bool) (n : ℕ) (b : Bool) (l : Lit) → l ≡ record { var = n + 1; negated = false } → (b ≡ true → In l (true_lits t.entries)) → (b ≡ false → In l (true_lits t.entries) → ⊥) → AreAssigned t values n → AreAssigned t (values ++ b ∷ []) (n + 1)
assigned_more t values n b l is when unless a = record {
  fits = omega (arith, length-append values (b ∷ []), a.fits);
  when_true = λ v pos le e. elim (cases_eq v (n + 1)) [
    | inl same ↦ subst (λ q. In q (true_lits t.entries)) (is ∙ ap (λ q. record { var = q; negated = false }) (sym same)) (when (sym (last v same) ∙ e))
    | inr other ↦ let vl : v ≤ n = omega (arith, le, other) in a.when_true v pos vl (sym (before v pos vl) ∙ e)
  ];
  when_false = λ v pos le e. elim (cases_eq v (n + 1)) [
    | inl same ↦ λ i. unless (sym (last v same) ∙ e) (subst (λ q. In q (true_lits t.entries)) (sym (is ∙ ap (λ q. record { var = q; negated = false }) (sym same))) i)
    | inr other ↦ let vl : v ≤ n = omega (arith, le, other) in a.when_false v pos vl (sym (before v pos vl) ∙ e)
  ];
}
  where
    bit_last : (xs : List Bool) (y : Bool) (i : ℕ) → i ≡ length xs → slice_index_or (xs ++ y ∷ []) i false ≡ y
    bit_last [] y zero e = refl
    bit_last [] y (suc i) e = absurd (omega (arith, e))
    bit_last (x ∷ xs) y zero e = absurd (omega (arith, e))
    bit_last (x ∷ xs) y (suc i) e = bit_last xs y i (omega (arith, e))

    bit_before : (xs : List Bool) (y : Bool) (i : ℕ) → i < length xs → slice_index_or (xs ++ y ∷ []) i false ≡ slice_index_or xs i false
    bit_before [] y i e = absurd (omega (arith, e))
    bit_before (x ∷ xs) y zero e = refl
    bit_before (x ∷ xs) y (suc i) e = bit_before xs y i (omega (arith, e))

    last : (v : ℕ) → v ≡ n + 1 → by_place (values ++ b ∷ []) v ≡ b
    last v same = bit_last values b (v - 1) (omega (arith, same, a.fits))

    before : (v : ℕ) → 0 < v → v ≤ n → by_place (values ++ b ∷ []) v ≡ by_place values v
    before v pos le = bit_before values b (v - 1) (omega (arith, pos, le, a.fits))

pub assigned_by : (t : TrailState) (values : List Bool) (n : ℕ) (b : Bool) (l : Lit) → l ≡ record { var = n + 1; negated = false } → MatchBool b (In l (true_lits t.entries)) (In l (true_lits t.entries) → ⊥) → AreAssigned t values n → AreAssigned t (values ++ b ∷ []) (n + 1)
assigned_by t values n true l is m a = assigned_more t values n true l is (λ e. m) (λ e. absurd (let no : true ≡ false = e in cc)) a
assigned_by t values n false l is m a = assigned_more t values n false l is (λ e. absurd (let no : false ≡ true = e in cc)) (λ e. m) a

pub trail_fresh : (t : TrailState) (n : ℕ) → t ≡ record { entries = []; level = 0; given = 0; variables = n } → IsTrail t
trail_fresh t n e = subst IsTrail (sym e) (record {
  distinct = λ p q lt h. absurd (omega (arith, h));
  within = λ p h. absurd (omega (arith, h));
  below = λ p h. absurd (omega (arith, h));
  given_in = omega arith;
  few = omega arith;
})
