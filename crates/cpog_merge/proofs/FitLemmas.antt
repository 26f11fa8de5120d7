-- An encoding fits exactly where its conditions agree with the columns.
use Rattle.std.proofs.Common.{◌≡◌, ◌≢◌, ◌↔◌, ℕ, ◌≤◌, Bool, true, false, ◌&&◌, if◌then◌else◌, IsTrue, List, [], ◌∷◌, ◌⊎◌, zero, suc, length, All, slice_get, Some, subst, refl, sym, ap, ◌∙◌, inl, inr, arith}
use Rattle.std.proofs.lemmas.Bool.{cases_lt, both_ways, and_parts, and_from, and_left, ne_eqb, eqb-false, not-true, not_from_false, false_from_ne_true, true_from_ne_false}
use Rattle.std.proofs.lemmas.List.{get_or_past}
use Rattle.std.proofs.lemmas.List.Elements.{All-get_or}
use Rattle.std.proofs.lemmas.Option.{slice_get_within, get_or_from_slice_get}
use Rattle.cpog_defs.specs.declared.types.Bit3.TheVariants.{Zero, One, Free}
use Rattle.cpog_defs.specs.declared.types.Ref.TheVariants.{Const}
use Rattle.cpog_defs.specs.declared.types.Place.{Place}
use Rattle.cpog_defs.specs.declared.types.Place.TheVariants.{Op, Arc}
use Rattle.cpog_defs.specs.Walks.{Walk, last, more, IsCovered}
use Rattle.cpog_defs.specs.Entries.{Agrees, entry_at}
use Rattle.cpog_defs.specs.Gates.{ref_value, signal_values}
use Rattle.cpog_defs.specs.Orders.{Order, has, is_before, IsOrder, IsOrderOf, is_covered}
use Rattle.cpog_defs.specs.Columns.{entry, column}
use Rattle.cpog_defs.specs.Graphs.{ConditionalGraph, op_ref, arc_ref, ref_of, keeps, keeps_arc, ProjectsTo, IsPlace}
use Rattle.cpog_defs.specs.Encodings.{Encoding, IsEncoding, RefAgrees, AgreesWithColumns, Fits}
use Rattle.cpog_defs.proofs.WalkLemmas.{replaced, walked, covered_walk}
use Rattle.order_reduce.proofs.CoveredLemmas.{covered_from, covered_tells}
use Rattle.cpog_merge.specs.Columns.{Columns, count_of, AreColumnsOf, AgreesWith}

-- ---- an entry, by the tests that it is made of

op_agrees : (b r : Bool) → (IsTrue r ↔ IsTrue b) → Agrees (if b then One else Zero) r
op_agrees true r h = h.1 refl
op_agrees false r h = false_from_ne_true r (λ t. absurd (both_ways _ refl (h.0 t)))

op_tells : (b r : Bool) → Agrees (if b then One else Zero) r → IsTrue r ↔ IsTrue b
op_tells true r h = (λ _. refl, λ _. h)
op_tells false r h = (λ t. absurd (both_ways _ h t), λ t. absurd (both_ways _ refl t))

arc_agrees : (hu hv cov bef r : Bool) → (IsTrue cov → IsTrue r) → (IsTrue hu → IsTrue hv → bef ≡ false → r ≡ false) → Agrees (if hu && hv then (if cov then One else (if bef then Free else Zero)) else Free) r
arc_agrees true true true bef r one none = one refl
arc_agrees true true false true r one none = tt
arc_agrees true true false false r one none = none refl refl refl
arc_agrees true false cov bef r one none = tt
arc_agrees false hv cov bef r one none = tt

one_tells : (hu hv cov bef r : Bool) → IsTrue hu → IsTrue hv → IsTrue cov → Agrees (if hu && hv then (if cov then One else (if bef then Free else Zero)) else Free) r → IsTrue r
one_tells hu hv cov bef r a b c h = rw (a, b, c) at h

none_tells : (hu hv cov bef r : Bool) → IsTrue hu → IsTrue hv → cov ≡ false → bef ≡ false → Agrees (if hu && hv then (if cov then One else (if bef then Free else Zero)) else Free) r → r ≡ false
none_tells hu hv cov bef r a b c d h = rw (a, b, c, d) at h

module _ (graph : ConditionalGraph) (values : List Bool) (o : Order) (ord : IsOrder o) where
  condition : Place → Bool
  condition p = ref_value values (ref_of graph p)

  AllAgree : Type 0
  AllAgree = (p : Place) → IsPlace o.count p → Agrees (entry p o) (ref_value values (ref_of graph p))

  pub kept_arc : (u v : ℕ) → u ≢ v → IsTrue (keeps graph values u) → IsTrue (keeps graph values v) → IsTrue (ref_value values (arc_ref graph u v)) → IsTrue (keeps_arc graph values u v)
  kept_arc u v ne a b c = and_from _ _ (not_from_false _ (ne_eqb u v ne)) (and_from _ _ a (and_from _ _ b c))

  pub record Kept (u v : ℕ) : Type 0 where
    pub ne : u ≢ v
    pub first : IsTrue (keeps graph values u)
    pub second : IsTrue (keeps graph values v)
    pub itself : IsTrue (ref_value values (arc_ref graph u v))

  pub kept_tells : (u v : ℕ) → IsTrue (keeps_arc graph values u v) → Kept u v
  kept_tells u v h =
      let a = and_parts _ _ h in let b = and_parts _ _ a.1 in let c = and_parts _ _ b.1 in
      record { ne = eqb-false u v (not-true _ a.0); first = b.0; second = c.0; itself = c.1 }

  module _ (p : ProjectsTo graph values o.ops (λ u v. IsTrue (is_before o u v))) where
    -- the walk of a covered pair is the pair itself
    only_arc : (u v : ℕ) → IsCovered (is_before o) u v → Walk (λ a b. IsTrue (keeps_arc graph values a b)) u v → IsTrue (keeps_arc graph values u v)
    only_arc u v c (last e) = e
    only_arc u v c (more {v = z} e w) = absurd (c.none_between z ((p.before u z).0 (last e)) ((p.before z v).0 w))

    pub agrees_from : (q : Place) → IsPlace o.count q → Agrees (entry q o) (ref_value values (ref_of graph q))
    agrees_from (Op x) q = op_agrees (has o x.0) _ (p.operations x.0)
    agrees_from (Arc x y) q = let u = x.0 in let v = y.0 in
        arc_agrees (has o u) (has o v) (is_covered o u v) (is_before o u v) _
        (λ c. let d = covered_tells o ord u v c in (kept_tells u v (only_arc u v d ((p.before u v).1 d.is_before))).itself)
        (λ a b not_before. false_from_ne_true _ (λ t. both_ways _ not_before ((p.before u v).0 (last (kept_arc u v q.2 ((p.operations u).1 a) ((p.operations v).1 b) t)))))

  module _ (few : length graph.ops ≤ o.count) (all : (q : Place) → IsPlace o.count q → Agrees (entry q o) (ref_value values (ref_of graph q))) where
    same_ops : (v : ℕ) → IsTrue (keeps graph values v) ↔ IsTrue (has o v)
    same_ops v = elim (cases_lt v o.count) [
      | inl l ↦ op_tells (has o v) _ (all (Op (record { 0 = v })) l)
      | inr g ↦
          let past : op_ref graph v ≡ Const false = get_or_past graph.ops v (Const false) (omega arith) in
          let left_out : keeps graph values v ≡ false = ap (ref_value values) past in
          (λ t. absurd (both_ways _ left_out t), λ t. absurd (let l = ord.below v t in omega arith))
    ]

    arc_before : (u v : ℕ) → IsTrue (keeps_arc graph values u v) → IsTrue (is_before o u v)
    arc_before u v h =
        let k = kept_tells u v h in
        let a = (same_ops u).0 k.first in
        let b = (same_ops v).0 k.second in
        true_from_ne_false _ (λ not_before. both_ways _ (none_tells (has o u) (has o v) (is_covered o u v) (is_before o u v) _ a b (and_left _ _ not_before) not_before (all (Arc (record { 0 = u }) (record { 0 = v })) (ord.below u a, ord.below v b, k.ne))) k.itself)

    covered_kept : (u v : ℕ) → IsCovered (is_before o) u v → IsTrue (keeps_arc graph values u v)
    covered_kept u v c =
        let a = ord.first_kept u v c.is_before in
        let b = ord.second_kept u v c.is_before in
        let ne : u ≢ v = λ e. ord.strict.irreflexive v (rw e at c.is_before) in
        kept_arc u v ne ((same_ops u).1 a) ((same_ops v).1 b)
        (one_tells (has o u) (has o v) (is_covered o u v) (is_before o u v) _ a b (covered_from o ord u v c) (all (Arc (record { 0 = u }) (record { 0 = v })) (ord.below u a, ord.below v b, ne)))

    pub projects_from : ProjectsTo graph values o.ops (λ u v. IsTrue (is_before o u v))
    projects_from = record {
      operations = same_ops;
      before = λ u v. (
        λ w. walked {E = λ a b. IsTrue (is_before o a b)} ord.strict.transitive (replaced (λ a b e. last (arc_before a b e)) w),
        λ h. replaced (λ a b c. last (covered_kept a b c)) (covered_walk o.count (is_before o) ord.strict u v h),
      );
    }

pub order_at : (count : ℕ) (orders : List Order) (s : ℕ) (o : Order) → All (IsOrderOf count) orders → slice_get orders s ≡ Some o → IsOrderOf count o
order_at count orders s o are at =
    let l = slice_get_within orders s o at in
    let e = get_or_from_slice_get orders s o o at in
    subst (IsOrderOf count) e (All-get_or (IsOrderOf count) orders s o l are)

-- one scenario has the entries of all columns at its place, or none has one
pub column_cases : (orders : List Order) (s : ℕ) → ((o : Order) × (slice_get orders s ≡ Some o) × ((p : Place) → entry_at (column orders p) s ≡ entry p o)) ⊎ ((p : Place) → entry_at (column orders p) s ≡ Free)
column_cases [] s = inr (λ p. refl)
column_cases (o ∷ orders) zero = inl (o, refl, λ p. refl)
column_cases (o ∷ orders) (suc s) = column_cases orders s

-- an encoding that fits agrees with each column
fits_agree : (e : Encoding) (count : ℕ) (orders : List Order) → All (IsOrderOf count) orders → Fits e orders → AgreesWithColumns e count orders
fits_agree e count orders are fits = record {
  one_code_each = fits.one_code_each;
  agrees = λ p q s word code. elim (column_cases orders s) [
    | inl x ↦
        let r = order_at count orders s x.0 are x.1 in
        rw (x.2 p) (agrees_from e.graph (signal_values e.gates word) x.0 r.order (fits.projects s word x.0 code x.1) p (rw r.count_is q))
    | inr none ↦ rw (none p) tt
  ];
}

-- the entry of the order at a place
entry_there : (orders : List Order) (s : ℕ) (o : Order) (p : Place) → slice_get orders s ≡ Some o → (b : Bool) → Agrees (entry_at (column orders p) s) b → Agrees (entry p o) b
entry_there [] s o p is b h = cc
entry_there (x ∷ orders) zero o p is b h = let same : x ≡ o = cc in rw same at h
entry_there (x ∷ orders) (suc s) o p is b h = entry_there orders s o p is b h

-- an encoding that agrees with each column fits
agree_fits : (e : Encoding) (count : ℕ) (orders : List Order) → All (IsOrderOf count) orders → IsEncoding count e → AgreesWithColumns e count orders → Fits e orders
agree_fits e count orders are is_encoding agrees = record {
  one_code_each = agrees.one_code_each;
  projects = λ s word o code at.
      let r = order_at count orders s o are at in
      let few : length e.graph.ops ≤ o.count = omega (arith, r.count_is, is_encoding.graph.ops) in
      projects_from e.graph (signal_values e.gates word) o r.order few
      (λ p q. entry_there orders s o p at _ (agrees.agrees p (rw r.count_is at q) s word code));
}

pub fits_is_agreeing_lem : (e : Encoding) (count : ℕ) (orders : List Order) → All (IsOrderOf count) orders → IsEncoding count e → Fits e orders ↔ AgreesWithColumns e count orders
fits_is_agreeing_lem e count orders are is_encoding = (fits_agree e count orders are, agree_fits e count orders are is_encoding)

-- ---- all columns together

-- an encoding agrees with each column exactly where it agrees with all together
columns_together : (orders : List Order) (t : Columns) → AreColumnsOf orders t → (e : Encoding) → AgreesWithColumns e (count_of orders) orders ↔ AgreesWith e t
columns_together orders t are e = (
  λ h. record {
    one_code_each = h.one_code_each ∙ sym are.scenarios;
    agrees = λ p q. let place : IsPlace (count_of orders) p = subst (λ n. IsPlace n p) are.count q in
        subst (λ c. RefAgrees e.gates e.codes c (ref_of e.graph p)) (sym (are.columns p place)) (h.agrees p place);
  },
  λ h. record {
    one_code_each = h.one_code_each ∙ are.scenarios;
    agrees = λ p q. subst (λ c. RefAgrees e.gates e.codes c (ref_of e.graph p)) (are.columns p q) (h.agrees p (subst (λ n. IsPlace n p) (sym are.count) q));
  },
)

-- an encoding fits exactly where it agrees with the columns
pub columns_fit : (orders : List Order) (t : Columns) → All (IsOrderOf (count_of orders)) orders → AreColumnsOf orders t → (e : Encoding) → IsEncoding (count_of orders) e → Fits e orders ↔ AgreesWith e t
columns_fit orders t alike are e is =
    let fit = fits_is_agreeing_lem e (count_of orders) orders alike is in
    let same = columns_together orders t are e in
    (λ h. same.0 (fit.0 h), λ h. fit.1 (same.1 h))
