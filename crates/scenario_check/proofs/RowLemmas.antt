-- A turn for each number closes the rows over walks.
use Rattle.std.proofs.Common.{◌≡◌, ℕ, zero, suc, ◌+◌, ◌<◌, ◌==◌, Bool, true, false, ◌&&◌, ◌||◌, if◌then◌else◌, IsTrue, List, ◌++◌, length, get_or, set as put, replicate, take, drop, refl, sym, ap, ◌∙◌, subst, inl, inr, arith}
use Rattle.std.specs.List.{Contains}
use Rattle.std.proofs.lemmas.Bool.{cases_eq, cases_lt, both_ways, eq-eqb, ne_eqb}
use Rattle.std.proofs.lemmas.List.{get_or_past, get_or-replicate, get_or-set_same, get_or-set_other, length-map, length-replicate}
use Rattle.std.proofs.lemmas.List.Folds.{list_any_more}
use Rattle.std.proofs.Math.ListN.{get_or-map}
use Rattle.std.proofs.Math.Seq.{take-append_seam}
use Rattle.std.proofs.lemmas.Bool.Decides.{nat_tests}
use Rattle.std.proofs.lemmas.List.Elements.{Contains-get_or}
use Rattle.std.specs.Ordering.{nat_cmp}
use Rattle.std.specs.Cmp.{nat_cmp_total, unsigned_tied}
use Rattle.std.specs.FinSet as set
use Rattle.cpog_defs.specs.declared.types.OpId.{OpId}
use Rattle.cpog_defs.specs.Walks.{Walk, last, more}
use Rattle.cpog_defs.specs.Orders.{Set, IsOrder}
use Rattle.cpog_defs.specs.Scenarios.{Scenario, IsScenario, HasArc}
use Rattle.cpog_defs.proofs.WalkLemmas.{joined, replaced}
use Rattle.cpog_base.specs.Rows.{row_has, has_arc}
use Rattle.cpog_base.specs.RowLaws.{contains_from_has, has_from_contains}
use Rattle.scenario_check.proofs.ClosureLemmas.{closed, closed-zero, closed-suc, closed_walk, walk_closed}
use Rattle.scenario_check.specs.Rows.{joined_row, turned, turns, NoneBelow, AreRowsOf}

-- ---- a turn

pick : (b : Bool) (row through : Set) (u : ℕ) → set.contains (if b then set.union row through else row) u ≡ (set.contains row u || (set.contains through u && b))
pick true row through u = set.contains-union nat_cmp_total row through u ∙ ap (λ x. set.contains row u || x) (sym (with_true (set.contains through u)))
  where
    with_true : (x : Bool) → (x && true) ≡ x
    with_true true = refl
    with_true false = refl
pick false row through u = sym (plain (set.contains row u) (set.contains through u))
  where
    plain : (x y : Bool) → (x || (y && false)) ≡ x
    plain true y = refl
    plain false true = refl
    plain false false = refl

of_none : (k : ℕ) (through : Set) → joined_row k through set.empty ≡ set.empty
of_none k through = rw (set.contains-empty nat_cmp k) refl

row-turned : (k : ℕ) (rows : List Set) (v : ℕ) → get_or (turned k rows) v set.empty ≡ joined_row k (get_or rows k set.empty) (get_or rows v set.empty)
row-turned k rows v =
    let through = get_or rows k set.empty in
    ap (λ d. get_or (turned k rows) v d) (sym (of_none k through)) ∙ get_or-map (joined_row k through) rows v set.empty

pub has-turned : (k : ℕ) (rows : List Set) (u v : ℕ) → row_has (turned k rows) u v ≡ (row_has rows u v || (row_has rows u k && row_has rows k v))
has-turned k rows u v = ap (λ s. set.contains s u) (row-turned k rows v) ∙ pick (row_has rows k v) (get_or rows v set.empty) (get_or rows k set.empty) u

pub length-turns : (k : ℕ) (rows : List Set) → length (turns k rows) ≡ length rows
length-turns zero rows = refl
length-turns (suc k) rows = length-map (turns k rows) (joined_row k (get_or (turns k rows) k set.empty)) ∙ length-turns k rows

has-turns : (k : ℕ) (rows : List Set) (u v : ℕ) → row_has (turns k rows) u v ≡ closed (row_has rows) k u v
has-turns zero rows u v = sym (closed-zero (row_has rows) u v)
has-turns (suc k) rows u v = has-turned k (turns k rows) u v ∙ rw (has-turns k rows u v, has-turns k rows u k, has-turns k rows k v) (sym (closed-suc (row_has rows) k u v))

pub head_below : (rows : List Set) (u v : ℕ) → IsTrue (row_has rows u v) → v < length rows
head_below rows u v h = elim (cases_lt v (length rows)) [
  | inl l ↦ l
  | inr m ↦ absurd (both_ways _ (ap (λ s. set.contains s u) (get_or_past rows v set.empty m) ∙ set.contains-empty nat_cmp u) h)
]

-- after a turn for each number the rows are the walks
pub turns_walk : (rows : List Set) (u v : ℕ) → IsTrue (row_has (turns (length rows) rows) u v) → Walk (λ a b. IsTrue (row_has rows a b)) u v
turns_walk rows u v h = closed_walk (row_has rows) (length rows) u v (sym (has-turns (length rows) rows u v) ∙ h)

pub walk_turns : (rows : List Set) (u v : ℕ) → Walk (λ a b. IsTrue (row_has rows a b)) u v → IsTrue (row_has (turns (length rows) rows) u v)
walk_turns rows u v w = has-turns (length rows) rows u v ∙ walk_closed (row_has rows) (length rows) u v (head_below rows) w

-- ---- arcs

pub has-empty : (n u v : ℕ) → row_has (replicate n set.empty) u v ≡ false
has-empty n u v = elim (cases_lt v n) [
  | inl l ↦ ap (λ s. set.contains s u) (get_or-replicate n v set.empty set.empty l) ∙ set.contains-empty nat_cmp u
  | inr m ↦ ap (λ s. set.contains s u) (get_or_past (replicate n set.empty) v set.empty (simp length-replicate m)) ∙ set.contains-empty nat_cmp u
]

pub has-put : (rows : List Set) (a b u v : ℕ) → b < length rows → row_has (put rows b (set.insert (get_or rows b set.empty) a)) u v ≡ (row_has rows u v || ((a == u) && (b == v)))
has-put rows a b u v l = elim (cases_eq v b) [
  | inl same ↦
      rw same (ap (λ s. set.contains s u) (get_or-set_same rows b _ set.empty l) ∙ set.contains-insert nat_cmp_total _ a u ∙ rw (unsigned_tied u a, eq-eqb b b refl) (swapped u a (row_has rows u b)))
  | inr other ↦ ap (λ s. set.contains s u) (get_or-set_other rows b v _ set.empty other) ∙ rw (ne_eqb b v (λ e. other (sym e))) (sym (plain (row_has rows u v) (a == u)))
]
  where
    plain : (x y : Bool) → (x || (y && false)) ≡ x
    plain true y = refl
    plain false true = refl
    plain false false = refl

    swapped : (u a : ℕ) (x : Bool) → ((u == a) || x) ≡ (x || ((a == u) && true))
    swapped u a x = grind (arith, nat_tests)

-- ---- the arcs that are written

regroup : (x y z : Bool) → ((x || y) || z) ≡ (x || (y || z))
regroup true y z = refl
regroup false y z = refl

-- one more arc
pub has-more : (old rows : List Set) (arcs : List (OpId × OpId)) (i : ℕ) (a d : OpId × OpId) → i < length arcs → a ≡ get_or arcs i d → a.1.0 < length rows →
    ((u v : ℕ) → row_has rows u v ≡ (row_has old u v || has_arc (take i arcs) u v)) →
    (u v : ℕ) → row_has (put rows a.1.0 (set.insert (get_or rows a.1.0 set.empty) a.0.0)) u v ≡ (row_has old u v || has_arc (take (i + 1) arcs) u v)
has-more old rows arcs i a d l is m so_far u v =
    let p : OpId × OpId → Bool = λ x. (x.0.0 == u) && (x.1.0 == v) in
    let at_a : p (get_or arcs i d) ≡ p a = ap p (sym is) in
    has-put rows a.0.0 a.1.0 u v m
    ∙ ap (λ x. x || p a) (so_far u v)
    ∙ regroup (row_has old u v) (has_arc (take i arcs) u v) (p a)
    ∙ ap (λ x. row_has old u v || (has_arc (take i arcs) u v || x)) (sym at_a)
    ∙ ap (λ x. row_has old u v || x) (sym (list_any_more p arcs i d l))

-- ---- the rows of a scenario

pub filled : (n : ℕ) (arcs : List (OpId × OpId)) (rows : List Set) → ((u v : ℕ) → row_has rows u v ≡ (row_has (replicate n set.empty) u v || has_arc arcs u v)) →
    AreRowsOf arcs (turns (length rows) rows)
filled n arcs rows h =
    let same : (u v : ℕ) → row_has rows u v ≡ has_arc arcs u v = λ u v. h u v ∙ ap (λ x. x || has_arc arcs u v) (has-empty n u v) in
    record {
      there = λ u v t. replaced (λ a b x. last (contains_from_has arcs a b (sym (same a b) ∙ x))) (turns_walk rows u v t);
      back = λ u v w. walk_turns rows u v (replaced (λ a b x. last (same a b ∙ has_from_contains arcs a b x)) w);
    }

first_of : {E : ℕ → ℕ → Type 0} (P : ℕ → Type 0) → ((a b : ℕ) → E a b → P a) → {u v : ℕ} → Walk E u v → P u
first_of P f (last {u} {v} e) = f u v e
first_of P f (more {u} {v} {w} e a) = f u v e

last_of : {E : ℕ → ℕ → Type 0} (P : ℕ → Type 0) → ((a b : ℕ) → E a b → P b) → {u v : ℕ} → Walk E u v → P v
last_of P f (last {u} {v} e) = f u v e
last_of P f (more {u} {v} {w} e a) = last_of P f a

pub order_from : (sc : Scenario) (rows : List Set) → IsScenario sc → length rows ≡ sc.count → AreRowsOf sc.arcs rows → NoneBelow rows (length rows) →
    IsOrder (record { count = length rows; ops = sc.ops; before = rows })
order_from sc rows s size r none =
    let first : (u v : ℕ) → IsTrue (row_has rows u v) → IsTrue (set.contains sc.ops u) = λ u v h. first_of (λ x. IsTrue (set.contains sc.ops x)) s.first_kept (r.there u v h) in
    let second : (u v : ℕ) → IsTrue (row_has rows u v) → IsTrue (set.contains sc.ops v) = λ u v h. last_of (λ x. IsTrue (set.contains sc.ops x)) s.second_kept (r.there u v h) in
    let below : (v : ℕ) → IsTrue (set.contains sc.ops v) → v < length rows = λ v h. let l : v < sc.count = s.below v h in omega arith in
    record {
      below = below;
      rows = refl;
      strict = record {
        transitive = λ u v w a b. r.back u w (joined (r.there u v a) (r.there v w b));
        irreflexive = λ v h. none v (head_below rows v v h) h;
        first_below = λ u v h. below u (first u v h);
        second_below = λ u v h. below v (second u v h);
      };
      first_kept = first;
      second_kept = second;
    }

pub joined-has : (k : ℕ) (through row : Set) → set.contains row k ≡ true → joined_row k through row ≡ set.union row through
joined-has k through row h = rw h refl

pub joined-lacks : (k : ℕ) (through row : Set) → set.contains row k ≡ false → joined_row k through row ≡ row
joined-lacks k through row h = rw h refl

pub ends-from : (sc : Scenario) → IsScenario sc → (arcs : List (OpId × OpId)) → arcs ≡ sc.arcs → (n : ℕ) → n ≡ sc.count →
    (k : ℕ) (d : OpId × OpId) → k < length arcs → ((get_or arcs k d).0.0 < n) × ((get_or arcs k d).1.0 < n)
ends-from sc s arcs e n size k d l =
    let a : OpId × OpId = get_or arcs k d in
    let is : HasArc sc a.0.0 a.1.0 = subst (λ (xs : List (OpId × OpId)). Contains xs a) e (Contains-get_or arcs k d l) in
    let p : a.0.0 < sc.count = s.below a.0.0 (s.first_kept a.0.0 a.1.0 is) in
    let q : a.1.0 < sc.count = s.below a.1.0 (s.second_kept a.0.0 a.1.0 is) in
    (omega arith, omega arith)

-- what a lent front of a list leaves
pub written : {A : Type 0} (n : ℕ) (xs ys : List A) → length ys ≡ n → take n (ys ++ drop (length ys) xs) ≡ ys
written n xs ys e = rw (← e) (take-append_seam ys (drop (length ys) xs))
