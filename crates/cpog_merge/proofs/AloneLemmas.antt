-- Orders of one operation.
use Rattle.std.proofs.Common.{◌≡◌, ℕ, zero, suc, ◌<◌, ◌==◌, IsTrue, List, length, replicate, refl, sym, ap, ◌∙◌, arith, inl, inr}
use Rattle.std.proofs.lemmas.Bool.{both_ways, or_cases, eqb-true}
use Rattle.std.proofs.lemmas.List.{length-replicate}
use Rattle.std.specs.Prelude.{slice_index_or}
use Rattle.std.specs.Ordering.{nat_cmp}
use Rattle.std.specs.Cmp.{nat_cmp_total, unsigned_tied}
use Rattle.std.specs.FinSet as set
use Rattle.cpog_defs.specs.Orders.{Set, IsOrder}

abbrev nothing : Set
nothing = set.empty

row_of : (n v : ℕ) → slice_index_or (replicate n nothing) v set.empty ≡ set.empty
row_of zero v = refl
row_of (suc n) zero = refl
row_of (suc n) (suc v) = row_of n v

no_pair : (n u v : ℕ) → IsTrue (set.contains (slice_index_or (replicate n nothing) v set.empty) u) → ⊥
no_pair n u v h = both_ways _ (ap (λ s. set.contains s u) (row_of n v) ∙ set.contains-empty nat_cmp u) h

only : (n v : ℕ) → v < n → (u : ℕ) → IsTrue (set.contains (set.insert nothing v) u) → u < n
only n v l u h = elim (or_cases (u == v) (set.contains nothing u) (sym (set.contains-insert nat_cmp_total nothing v u ∙ rw (unsigned_tied u v) refl) ∙ h)) [
  | inl same ↦ (let e : u ≡ v = eqb-true u v same in omega (arith, l, e))
  | inr there ↦ absurd (both_ways _ (set.contains-empty nat_cmp u) there)
]

-- a scenario with one operation, of so many that there may be
pub one_alone : (n v : ℕ) (empty ops : Set) (before : List Set) → v < n → empty ≡ set.empty → ops ≡ set.insert empty v → before ≡ replicate n set.empty →
    IsOrder (record { count = length before; ops = ops; before = before })
one_alone n v empty ops before l none one rows = rw (rows, one, none) (record {
  below = λ u h. rw (length-replicate n nothing) (only n v l u h);
  rows = refl;
  strict = record {
    transitive = λ u w x a b. absurd (no_pair n u w a);
    irreflexive = λ w h. no_pair n w w h;
    first_below = λ u w h. absurd (no_pair n u w h);
    second_below = λ u w h. absurd (no_pair n u w h);
  };
  first_kept = λ u w h. absurd (no_pair n u w h);
  second_kept = λ u w h. absurd (no_pair n u w h);
})
