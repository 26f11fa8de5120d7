-- A scenario stays one as operations and arcs are added.
use Rattle.std.proofs.Common.{◌≡◌, ◌≢◌, ℕ, zero, suc, ◌+◌, ◌<◌, ◌≤◌, ◌==◌, Bool, true, false, ◌&&◌, ◌||◌, IsTrue, List, [], ◌∷◌, ◌++◌, length, slice_index_or, slice_set, refl, sym, ap, ◌∙◌, inl, inr, arith, length-append}
use Rattle.std.specs.List.{AllPairs}
use Rattle.std.specs.Ordering.{nat_cmp}
use Rattle.std.specs.Cmp.{nat_cmp_total, unsigned_tied}
use Rattle.std.specs.FinSet as set
use Rattle.std.proofs.lemmas.Bool.{cases_eq, cases_lt, both_ways, or_left, or_right, or_cases, and_from, eq-eqb, ne_eqb, eqb-true}
use Rattle.std.proofs.Math.Bool.{or-false}
use Rattle.std.proofs.lemmas.List.{get_or_append_left, get_or_at, get_or-set_same, get_or-set_other}
use Rattle.std.proofs.lemmas.List.Elements.{Contains-append_cases}
use Rattle.std.proofs.lemmas.List.Folds.{list_any-append}
use Rattle.cpog_defs.specs.declared.types.OpId.{OpId}
use Rattle.cpog_defs.specs.Orders.{Set, arc_of}
use Rattle.cpog_defs.specs.Scenarios.{Scenario}
use Rattle.cpog_base.specs.Arcs.{has_arc, IsStored}
pub use Rattle.cpog_base.specs.RowLaws.{has_from_contains, contains_from_has}

-- different elements and one that is none of them are different elements
distinct_push : (xs : List (OpId × OpId)) (y : OpId × OpId) → AllPairs (λ a b. a ≢ b) xs → ((k : ℕ) (d : OpId × OpId) → k < length xs → slice_index_or xs k d ≢ y) → AllPairs (λ a b. a ≢ b) (xs ++ y ∷ [])
distinct_push xs y distinct fresh i j d i_below_j j_within =
    let size : length (xs ++ y ∷ []) ≡ length xs + 1 = length-append xs (y ∷ []) in
    let i_within : i < length xs = omega (arith, size) in
    elim (cases_lt j (length xs)) [
      | inl l ↦ rw (get_or_append_left xs (y ∷ []) d i i_within, get_or_append_left xs (y ∷ []) d j l) (distinct i j d i_below_j l)
      | inr g ↦ rw (get_or_append_left xs (y ∷ []) d i i_within, get_or_at xs y [] d j (omega (arith, size))) (fresh i d i_within)
    ]

fresh_from : (arcs : List (OpId × OpId)) (u v : ℕ) → has_arc arcs u v ≡ false → (k : ℕ) (d : OpId × OpId) → k < length arcs → slice_index_or arcs k d ≢ arc_of u v
fresh_from [] u v none k d l e = absurd (omega arith)
fresh_from (a ∷ arcs) u v none zero d l e = both_ways _ none (or_left _ _ (and_from _ _ (eq-eqb a.0.0 u (ap (λ (x : OpId × OpId). x.0.0) e)) (eq-eqb a.1.0 v (ap (λ (x : OpId × OpId). x.1.0) e))))
fresh_from (a ∷ arcs) u v none (suc k) d l e = fresh_from arcs u v (rest_none _ _ none) k d (omega arith) e
  where
    rest_none : (a b : Bool) → (a || b) ≡ false → b ≡ false
    rest_none false b h = h
    rest_none true b h = absurd (both_ways _ h refl)

-- nothing is stored of a new scenario
pub stored_new : (count : ℕ) → count ≤ 128 → IsStored (record { count = count; ops = set.empty; arcs = [] }) []
stored_new count few = record {
  few = few;
  scenario = record {
    below = λ v h. absurd (both_ways _ (set.contains-empty nat_cmp v) h);
    first_kept = λ u v h. absurd (let l = h.1 in omega arith);
    second_kept = λ u v h. absurd (let l = h.1 in omega arith);
    distinct = λ i j d l m. absurd (omega arith);
  };
  successors = λ u v. set.contains-empty nat_cmp v;
}

still : (ops : Set) (w v : ℕ) → IsTrue (set.contains ops w) → IsTrue (set.contains (set.insert ops v) w)
still ops w v h = rw (set.contains-insert nat_cmp_total ops v w) (or_right _ _ h)

-- an operation more
pub stored_op : (sc : Scenario) (rows : List Set) (v : ℕ) → v < sc.count → IsStored sc rows → IsStored (record { count = sc.count; ops = set.insert sc.ops v; arcs = sc.arcs }) rows
stored_op sc rows v below stored = record {
  few = stored.few;
  scenario = record {
    below = λ w h. elim (or_cases _ _ (rw (set.contains-insert nat_cmp_total sc.ops v w, unsigned_tied w v) at h)) [
      | inl same ↦ let e : w ≡ v = eqb-true w v same in omega (arith, e)
      | inr old ↦ stored.scenario.below w old
    ];
    first_kept = λ a b h. still sc.ops a v (stored.scenario.first_kept a b h);
    second_kept = λ a b h. still sc.ops b v (stored.scenario.second_kept a b h);
    distinct = stored.scenario.distinct;
  };
  successors = stored.successors;
}

with_test : (arcs : List (OpId × OpId)) (u v a b : ℕ) → has_arc (arcs ++ arc_of u v ∷ []) a b ≡ (has_arc arcs a b || ((u == a) && (v == b)))
with_test arcs u v a b = list_any-append (λ x. (x.0.0 == a) && (x.1.0 == b)) arcs (arc_of u v ∷ []) ∙ ap (λ t. has_arc arcs a b || t) (or-false _)

row_test : (row : Set) (v b : ℕ) → set.contains (set.insert row v) b ≡ (set.contains row b || (v == b))
row_test row v b = set.contains-insert nat_cmp_total row v b ∙ rw (unsigned_tied b v) (turned (b == v) (set.contains row b) (v == b) (same_test b v))
  where
    turned : (p q r : Bool) → p ≡ r → (p || q) ≡ (q || r)
    turned true true r h = refl
    turned true false r h = h
    turned false true r h = refl
    turned false false r h = h

    same_test : (m n : ℕ) → (m == n) ≡ (n == m)
    same_test m n = elim (cases_eq m n) [
      | inl e ↦ rw e refl
      | inr ne ↦ rw (ne_eqb m n ne, ne_eqb n m (λ e. ne (sym e))) refl
    ]

-- an arc more, whose first end has its row
pub stored_arc : (sc : Scenario) (rows grown : List Set) (u v : ℕ) → IsStored sc rows → IsTrue (set.contains sc.ops u) → IsTrue (set.contains sc.ops v) → has_arc sc.arcs u v ≡ false
    → ((w : ℕ) → slice_index_or grown w set.empty ≡ slice_index_or rows w set.empty) → u < length grown
    → IsStored (record { count = sc.count; ops = sc.ops; arcs = sc.arcs ++ arc_of u v ∷ [] }) (slice_set grown u (set.insert (slice_index_or grown u set.empty) v))
stored_arc sc rows grown u v stored first second none same room = record {
  few = stored.few;
  scenario = record {
    below = stored.scenario.below;
    first_kept = λ a b h. elim (Contains-append_cases sc.arcs (arc_of u v ∷ []) (arc_of a b) h) [
      | inl old ↦ stored.scenario.first_kept a b old
      | inr new ↦ let e : u ≡ a = ap (λ (x : OpId × OpId). x.0.0) (alone new.0 new.1 new.2) in rw e at first
    ];
    second_kept = λ a b h. elim (Contains-append_cases sc.arcs (arc_of u v ∷ []) (arc_of a b) h) [
      | inl old ↦ stored.scenario.second_kept a b old
      | inr new ↦ let e : v ≡ b = ap (λ (x : OpId × OpId). x.1.0) (alone new.0 new.1 new.2) in rw e at second
    ];
    distinct = distinct_push sc.arcs (arc_of u v) stored.scenario.distinct (fresh_from sc.arcs u v none);
  };
  successors = λ a b. elim (cases_eq a u) [
    | inl e ↦ rw (e, get_or-set_same grown u (set.insert (slice_index_or grown u set.empty) v) set.empty room, row_test (slice_index_or grown u set.empty) v b, same u, stored.successors u b, with_test sc.arcs u v u b, eq-eqb u u refl) refl
    | inr ne ↦ rw (get_or-set_other grown u a (set.insert (slice_index_or grown u set.empty) v) set.empty ne, same a, stored.successors a b, with_test sc.arcs u v a b, ne_eqb u a (λ e. ne (sym e))) (sym (or-false _))
  ];
}
  where
    alone : {a b : ℕ} (k : ℕ) → k < 1 → slice_index_or (arc_of u v ∷ []) k (arc_of a b) ≡ arc_of a b → arc_of u v ≡ arc_of a b
    alone zero l e = e
    alone (suc k) l e = absurd (omega arith)
