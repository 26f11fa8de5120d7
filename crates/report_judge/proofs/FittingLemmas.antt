-- What is left under a code, by sets and rows.
use Rattle.std.proofs.Common.{◌≡◌, ℕ, zero, suc, ◌+◌, ◌<◌, Bool, true, false, not, ◌&&◌, ◌||◌, if◌then◌else◌, IsTrue, List, [], ◌∷◌, ◌++◌, length, get_or, refl, sym, ap, ◌∙◌, subst, inl, inr, arith, add-one, append_assoc, append-nil}
use Rattle.std.specs.Prelude.{Option, None, Some, MatchOption}
use Rattle.std.specs.List.{All, Contains}
use Rattle.std.proofs.lemmas.Bool.{cases_eq, cases_lt, both_ways, and_parts}
use Rattle.std.proofs.lemmas.List.{get_or_past}
use Rattle.std.proofs.lemmas.Option.{same_Some, slice_get-get_or, slice_get_within}
use Rattle.std.proofs.lemmas.List.Elements.{Contains-append_left, Contains-append_right}
use Rattle.std.specs.Ordering.{nat_cmp}
use Rattle.std.specs.Cmp.{nat_cmp_total}
use Rattle.std.specs.FinSet as set
use Rattle.cpog_base.specs.Members.{IsFirst}
use Rattle.cpog_base.specs.Rows.{row_has}
use Rattle.cpog_defs.specs.declared.types.OpId.{OpId}
use Rattle.cpog_defs.specs.declared.types.Ref.TheVariants.{Const}
use Rattle.cpog_defs.specs.Gates.{ref_value, signal_values}
use Rattle.cpog_defs.specs.Encodings.{Encoding, FitsScenarios}
use Rattle.cpog_defs.specs.Graphs.{ConditionalGraph, keeps, keeps_arc, KeptWalk}
use Rattle.cpog_defs.specs.Orders.{Set, Order, each_below, arc_of}
use Rattle.cpog_defs.specs.Scenarios.{Scenario, IsOrderOfScenario}
use Rattle.cpog_defs.specs.Walks.{last, more}
use Rattle.cpog_defs.proofs.WalkLemmas.{replaced}
use Rattle.order_reduce.proofs.PairWalks.{from_each, from_if}
use Rattle.scenario_check.specs.Rows.{AreRowsOf}
use Rattle.report_judge.specs.Fitting.{OperationFits, PairFits, IsLeft, values_at, FitsAt, IsFirstDisordered}
use Rattle.report_judge.specs.Steps.{kept_from, kept_pairs, IsFirstDifference}

-- a weaker fact of an option
pub match_more : {A : Type 0} (o : Option A) (P P' : Type 0) (Q Q' : A → Type 0) → (P → P') → ((v : A) → Q v → Q' v) → MatchOption o P Q → MatchOption o P' Q'
match_more None P P' Q Q' f g h = f h
match_more (Some v) P P' Q Q' f g h = g v h

-- two tests that imply each other are equal
pub same_truth : (a b : Bool) → (IsTrue a → IsTrue b) → (IsTrue b → IsTrue a) → a ≡ b
same_truth true true h k = refl
same_truth true false h k = sym (h refl)
same_truth false true h k = k refl
same_truth false false h k = refl

-- ---- operations

apart : Bool → Bool → Bool
apart a b = (a && not b) || (b && not a)

same_of : (a b : Bool) → apart a b ≡ false → a ≡ b
unfolding apart
same_of true true h = refl
same_of true false h = h
same_of false true h = sym h
same_of false false h = refl

apart_of : (a b : Bool) → apart a b ≡ true → a ≡ b → ⊥
unfolding apart
apart_of true true h e = both_ways _ refl h
apart_of true false h e = both_ways _ refl (sym e)
apart_of false true h e = both_ways _ refl e
apart_of false false h e = both_ways _ refl h

module _ (a b s : Set) (is : s ≡ set.union (set.difference a b) (set.difference b a)) where
  has_apart : (v : ℕ) → set.contains s v ≡ apart (set.contains a v) (set.contains b v)
  unfolding apart
  has_apart v =
      ap (λ x. set.contains x v) is ∙ set.contains-union nat_cmp_total (set.difference a b) (set.difference b a) v
      ∙ rw (set.contains-difference nat_cmp_total a b v, set.contains-difference nat_cmp_total b a v) refl

  pub same_where_none : s ≡ set.empty → (v : ℕ) → set.contains a v ≡ set.contains b v
  same_where_none e v = same_of _ _ (sym (has_apart v) ∙ ap (λ x. set.contains x v) e ∙ set.contains-empty nat_cmp v)

  pub first_apart : (v : ℕ) → IsFirst s v → (set.contains a v ≡ set.contains b v → ⊥) × ((w : ℕ) → w < v → set.contains a w ≡ set.contains b w)
  first_apart v h = (apart_of _ _ (sym (has_apart v) ∙ h.member), λ w l. same_of _ _ (sym (has_apart w) ∙ h.least w l))

-- ---- pairs

pub kept_more : (old new : List (OpId × OpId)) (graph : ConditionalGraph) (values : List Bool) (n u : ℕ) → new ≡ old ++ kept_from graph values n u → keeps_arc graph values u n ≡ true →
    new ++ arc_of u n ∷ [] ≡ old ++ kept_from graph values (n + 1) u
kept_more old new graph values n u is there = rw (add-one n, is, there) (append_assoc old (kept_from graph values n u) (arc_of u n ∷ []))

pub kept_same : (old new : List (OpId × OpId)) (graph : ConditionalGraph) (values : List Bool) (n u : ℕ) → new ≡ old ++ kept_from graph values n u → keeps_arc graph values u n ≡ false →
    new ≡ old ++ kept_from graph values (n + 1) u
kept_same old new graph values n u is there = rw (add-one n, there, append-nil) is

to_each : {A : Type 0} (n : ℕ) (f : ℕ → List A) (x : A) (i : ℕ) → i < n → Contains (f i) x → Contains (each_below f n) x
to_each zero f x i l h = absurd (omega arith)
to_each (suc n) f x i l h = elim (cases_eq i n) [
  | inl same ↦ Contains-append_right (each_below f n) (f n) x (rw (← same) h)
  | inr other ↦ Contains-append_left (each_below f n) (f n) x (to_each n f x i (omega arith) h)
]

to_if : {A : Type 0} (b : Bool) (x : A) → IsTrue b → Contains (if b then x ∷ [] else []) x
to_if b x t = rw t (zero, omega arith, refl)

module _ (graph : ConditionalGraph) (values : List Bool) where
  -- an operation that is left is below the count
  pub kept_below : (v : ℕ) → IsTrue (keeps graph values v) → v < length graph.ops
  kept_below v h = elim (cases_lt v (length graph.ops)) [
    | inl l ↦ l
    | inr g ↦ absurd (both_ways _ (ap (ref_value values) (get_or_past graph.ops v (Const false) g)) h)
  ]

  first_below : (u v : ℕ) → IsTrue (keeps_arc graph values u v) → u < length graph.ops
  first_below u v h = kept_below u (and_parts _ _ (and_parts _ _ h).1).0

  second_below : (u v : ℕ) → IsTrue (keeps_arc graph values u v) → v < length graph.ops
  second_below u v h = kept_below v (and_parts _ _ (and_parts _ _ (and_parts _ _ h).1).1).0

  abbrev pairs : List (OpId × OpId)
  pairs = kept_pairs graph values (length graph.ops)

  listed : (u v : ℕ) → IsTrue (keeps_arc graph values u v) → Contains pairs (arc_of u v)
  listed u v h =
      to_each (length graph.ops) (kept_from graph values (length graph.ops)) (arc_of u v) u (first_below u v h)
      (to_each (length graph.ops) (λ w. if keeps_arc graph values u w then arc_of u w ∷ [] else []) (arc_of u v) v (second_below u v h) (to_if (keeps_arc graph values u v) (arc_of u v) h))

  found : (x : OpId × OpId) → Contains pairs x → (u : ℕ) × (v : ℕ) × (u < length graph.ops) × (v < length graph.ops) × IsTrue (keeps_arc graph values u v) × (arc_of u v ≡ x)
  found x h =
      let a = from_each (length graph.ops) (kept_from graph values (length graph.ops)) x h in
      let b = from_each (length graph.ops) (λ w. if keeps_arc graph values a.0 w then arc_of a.0 w ∷ [] else []) x a.2 in
      let d = from_if (keeps_arc graph values a.0 b.0) (arc_of a.0 b.0) x b.2 in
      (a.0, b.0, a.1, b.1, d.0, d.1)

  unlisted : (u v : ℕ) → Contains pairs (arc_of u v) → IsTrue (keeps_arc graph values u v)
  unlisted u v h =
      let f = found (arc_of u v) h in
      let first : f.0 ≡ u = ap (λ (p : OpId × OpId). p.0.0) f.5 in
      let second : f.1 ≡ v = ap (λ (p : OpId × OpId). p.1.0) f.5 in
      subst (λ (x : ℕ). IsTrue (keeps_arc graph values x v)) first (subst (λ (y : ℕ). IsTrue (keeps_arc graph values f.0 y)) second f.4)

  -- the ends of the pairs that are left are below the count
  pub pairs_below : (arcs : List (OpId × OpId)) (count : ℕ) → arcs ≡ pairs → count ≡ length graph.ops → All (λ a. (a.0.0 < count) × (a.1.0 < count)) arcs
  pairs_below arcs count is same k d l =
      let x = get_or arcs k d in
      let f = found x (subst (λ xs. Contains xs x) is (k, l, inside arcs k d l)) in
      subst (λ (p : OpId × OpId). (p.0.0 < count) × (p.1.0 < count)) f.5 (omega (arith, f.2, same), omega (arith, f.3, same))
    where
      inside : (xs : List (OpId × OpId)) (k : ℕ) (d : OpId × OpId) → k < length xs → get_or xs k (get_or xs k d) ≡ get_or xs k d
      inside [] k d l = absurd (omega arith)
      inside (x ∷ xs) zero d l = refl
      inside (x ∷ xs) (suc k) d l = inside xs k d (omega arith)

  -- the walks of the listed pairs are those of the pairs that are left
  module _ (arcs : List (OpId × OpId)) (rows : List Set) (are : AreRowsOf arcs rows) (is : arcs ≡ pairs) where
    row_kept : (u v : ℕ) → IsTrue (row_has rows u v) → KeptWalk graph values u v
    row_kept u v h = replaced (λ a b e. last (unlisted a b (subst (λ xs. Contains xs (arc_of a b)) is e))) (are.there u v h)

    kept_row : (u v : ℕ) → KeptWalk graph values u v → IsTrue (row_has rows u v)
    kept_row u v w = are.back u v (replaced (λ a b e. last (subst (λ xs. Contains xs (arc_of a b)) (sym is) (listed a b e))) w)

    module _ (sc : Scenario) (o : Order) (ordered : IsOrderOfScenario sc o) where
      pair_fits : (u v : ℕ) → row_has rows u v ≡ row_has o.before u v → PairFits graph values sc u v
      pair_fits u v e = (
        λ w. (ordered.before u v).0 (sym e ∙ kept_row u v w),
        λ w. row_kept u v (e ∙ (ordered.before u v).1 w),
      )

      fits_pair : (u v : ℕ) → PairFits graph values sc u v → row_has rows u v ≡ row_has o.before u v
      fits_pair u v h = same_truth _ _
          (λ t. (ordered.before u v).1 (h.0 (row_kept u v t)))
          (λ t. kept_row u v (h.1 ((ordered.before u v).0 t)))

      walk_below : (u v : ℕ) → KeptWalk graph values u v → u < length graph.ops
      walk_below u v (last e) = first_below u v e
      walk_below u v (more {v = z} e w) = first_below u z e

      pub all_fit : sc.count ≡ length graph.ops → ((u v : ℕ) → u < length rows → row_has rows u v ≡ row_has o.before u v) → length rows ≡ length graph.ops → (u v : ℕ) → PairFits graph values sc u v
      all_fit count h size u v = elim (cases_lt u (length graph.ops)) [
        | inl l ↦ pair_fits u v (h u v (omega (arith, l, size)))
        | inr g ↦ (
          λ w. absurd (omega (arith, walk_below u v w, g)),
          λ w. absurd (omega (arith, ordered.order.strict.first_below u v ((ordered.before u v).1 w), ordered.count, count, g)),
        )
      ]

      pub first_disordered : ((w : ℕ) → OperationFits graph values sc w) → (u v : ℕ) → IsFirstDifference rows o.before u v → IsFirstDisordered graph values sc u v
      first_disordered operations u v h = record {
        operations = operations;
        disordered = λ f. h.differ (fits_pair u v f);
        earlier = λ a b l. pair_fits a b (h.earlier a b l);
      }

-- ---- all scenarios

-- where each scenario is left under its code, the encoding fits
pub fits_all : (e : Encoding) (scenarios : List Scenario) → length e.codes ≡ length scenarios → ((t : ℕ) → t < length scenarios → FitsAt e scenarios t) → FitsScenarios e scenarios
fits_all e scenarios size h = record {
  one_code_each = size;
  projects = λ s word sc code at.
      let below : s < length scenarios = slice_get_within scenarios s sc at in
      let here : get_or scenarios s none ≡ sc = same_Some _ _ (sym (slice_get-get_or scenarios s none below) ∙ at) in
      let word_is : get_or e.codes s 0 ≡ word = same_Some _ _ (sym (slice_get-get_or e.codes s 0 (omega (arith, below, size))) ∙ code) in
      let left = subst (λ (x : Scenario). IsLeft e.graph (values_at e s) x) here (h s below) in
      let there : IsLeft e.graph (signal_values e.gates word) sc = subst (λ (w : ℕ). IsLeft e.graph (signal_values e.gates w) sc) word_is left in
      record {
        operations = λ v. (λ t. sym (there.operations v) ∙ t, λ t. there.operations v ∙ t);
        before = there.pairs;
      };
}
  where
    none : Scenario
    none = record { count = 0; ops = set.empty; arcs = [] }

-- what is known of an option that is none
pub none_of : {A : Type 0} (o : Option A) (P : Type 0) (Q : A → Type 0) → ((x : A) → o ≡ Some x → ⊥) → MatchOption o P Q → P
none_of None P Q not_some h = h
none_of (Some x) P Q not_some h = absurd (not_some x refl)
