-- The steps of the loops over rows and pairs.
use Rattle.std.proofs.Common.{◌≡◌, ℕ, zero, suc, ◌+◌, ◌<◌, Bool, true, false, ◌&&◌, ◌||◌, if◌then◌else◌, List, [], ◌∷◌, ◌++◌, length, get_or, refl, sym, ap, ap₂, ◌∙◌, arith, add-one, append_assoc, append-nil}
use Rattle.std.specs.FinSet as set
use Rattle.std.specs.Cmp.{nat_cmp_total}
use Rattle.cpog_defs.specs.declared.types.OpId.{OpId}
use Rattle.cpog_defs.specs.Orders.{Set, Order, any_below, is_before, is_covered, each_below, arc_of, covering_pairs}
use Rattle.order_reduce.specs.Covered.{AreCovered, pairs_from}
use Rattle.cpog_base.specs.Rows.{row_has}

flip : (x y : Bool) → (x || y) ≡ (y || x)
flip true true = refl
flip true false = refl
flip false true = refl
flip false false = refl

with_true : (x : Bool) → (x && true) ≡ x
with_true true = refl
with_true false = refl

with_false : (x : Bool) → (x && false) ≡ false
with_false true = refl
with_false false = refl

-- one more number is passed
pub far-joined : (o : Order) (v z : ℕ) (far row far_new : Set) → far_new ≡ set.union far row → row ≡ get_or o.before z set.empty → is_before o z v ≡ true →
    ((u : ℕ) → set.contains far u ≡ any_below (λ y. is_before o u y && is_before o y v) z) →
    (u : ℕ) → set.contains far_new u ≡ any_below (λ y. is_before o u y && is_before o y v) (z + 1)
far-joined o v z far row far_new new is there so_far u =
    rw (new, set.contains-union nat_cmp_total far row u, is, so_far u, add-one z)
    (flip (any_below (λ y. is_before o u y && is_before o y v) z) (is_before o u z)
    ∙ ap (λ x. x || any_below (λ y. is_before o u y && is_before o y v) z) (sym (with_true (is_before o u z)) ∙ ap (λ x. is_before o u z && x) (sym there)))

pub far-kept : (o : Order) (v z : ℕ) (far : Set) → is_before o z v ≡ false →
    ((u : ℕ) → set.contains far u ≡ any_below (λ y. is_before o u y && is_before o y v) z) →
    (u : ℕ) → set.contains far u ≡ any_below (λ y. is_before o u y && is_before o y v) (z + 1)
far-kept o v z far there so_far u =
    rw (so_far u, add-one z)
    (ap (λ x. x || any_below (λ y. is_before o u y && is_before o y v) z) (sym (ap (λ x. is_before o u z && x) there ∙ with_false (is_before o u z))))

-- ---- pairs

pub each_below-same : {A : Type 0} (n : ℕ) (f g : ℕ → List A) → ((i : ℕ) → i < n → f i ≡ g i) → each_below f n ≡ each_below g n
each_below-same zero f g h = refl
each_below-same (suc n) f g h = ap₂ (λ x y. x ++ y) (each_below-same n f g (λ i l. h i (omega arith))) (h n (omega arith))

-- the pairs that are gathered up to the count are the covering pairs
pub listed_pairs : (o : Order) (rows : List Set) (n : ℕ) (pairs : List (OpId × OpId)) → AreCovered o rows → n ≡ o.count → pairs ≡ each_below (pairs_from rows (length rows)) n → pairs ≡ covering_pairs o
listed_pairs o rows n pairs are at_end is =
    is ∙ rw at_end (each_below-same o.count (pairs_from rows (length rows)) (λ u. each_below (λ v. if is_covered o u v then arc_of u v ∷ [] else []) o.count)
    (λ u l. rw are.one_each (each_below-same o.count _ _ (λ v m. ap (λ b. if b then arc_of u v ∷ [] else []) (are.covered u v m)))))

pub arcs-more : (old new : List (OpId × OpId)) (rows : List Set) (n u : ℕ) → new ≡ old ++ pairs_from rows n u → row_has rows u n ≡ true →
    new ++ arc_of u n ∷ [] ≡ old ++ pairs_from rows (n + 1) u
arcs-more old new rows n u is there = rw (add-one n, is, there) (append_assoc old (pairs_from rows n u) (arc_of u n ∷ []))

pub arcs-kept : (old new : List (OpId × OpId)) (rows : List Set) (n u : ℕ) → new ≡ old ++ pairs_from rows n u → row_has rows u n ≡ false →
    new ≡ old ++ pairs_from rows (n + 1) u
arcs-kept old new rows n u is there = rw (add-one n, there, append-nil) is
