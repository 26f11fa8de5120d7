-- The test for covering tells what covering is.
use Rattle.std.proofs.Common.{ℕ, ◌<◌, Bool, ◌&&◌, IsTrue, Decides, refl}
use Rattle.std.proofs.lemmas.Bool.{both_ways, and_parts, and_from, not-true, not_from_false, false_from_ne_true}
use Rattle.std.proofs.lemmas.Bool.Decides.{Decides-below_or}
use Rattle.cpog_defs.specs.Walks.{IsCovered}
use Rattle.cpog_defs.specs.Orders.{Order, IsOrder, is_before, any_below, is_covered}

-- some number below n passes
pub any_tells : (p : ℕ → Bool) (n : ℕ) → Decides (any_below p n) ((z : ℕ) × (z < n) × IsTrue (p z))
any_tells p n = Decides-below_or p (λ z. IsTrue (p z)) (any_below p) (λ z. (λ h. h, λ h. h)) refl (λ _. refl) n

-- a covering pair passes the test
pub covered_from : (o : Order) → IsOrder o → (u v : ℕ) → IsCovered (is_before o) u v → IsTrue (is_covered o u v)
covered_from o ord u v c =
    let between = λ (z : ℕ). is_before o u z && is_before o z v in
    let none = λ (h : IsTrue (any_below between o.count)).
    let found = (any_tells between o.count).0 h in
    let both = and_parts _ _ found.2 in
    c.none_between found.0 both.0 both.1 in
    and_from _ _ c.is_before (not_from_false _ (false_from_ne_true _ none))

-- a pair that passes the test is a covering pair
pub covered_tells : (o : Order) → IsOrder o → (u v : ℕ) → IsTrue (is_covered o u v) → IsCovered (is_before o) u v
covered_tells o ord u v h =
    let both = and_parts _ _ h in
    record {
      is_before = both.0;
      none_between = λ z x y. both_ways _ (not-true _ both.1) ((any_tells (λ z. is_before o u z && is_before o z v) o.count).1 (z, ord.strict.second_below u z x, and_from _ _ x y));
    }
