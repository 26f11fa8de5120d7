-- When two sets have the same members.
use Rattle.std.proofs.Common.{◌≡◌, ℕ, Bool, true, false, ◌&&◌, IsTrue, refl, sym, ◌∙◌}
use Rattle.std.proofs.lemmas.Bool.{both_ways, and_parts, and_from}
use Rattle.std.specs.Cmp.{nat_cmp_total}
use Rattle.std.specs.FinSet as set
use Rattle.cpog_defs.specs.Orders.{Set}

same_truth : (a b : Bool) → (IsTrue a → IsTrue b) → (IsTrue b → IsTrue a) → a ≡ b
same_truth true true h k = refl
same_truth true false h k = absurd (both_ways _ refl (h refl))
same_truth false true h k = absurd (both_ways _ refl (k refl))
same_truth false false h k = refl

-- sets within each other have the same members
pub members_from : (a b : Set) → IsTrue (set.is_subset a b && set.is_subset b a) → (v : ℕ) → set.contains a v ≡ set.contains b v
members_from a b h v =
    let p = and_parts _ _ h in
    same_truth _ _ (set.is_subset-contains nat_cmp_total a b p.0 v) (set.is_subset-contains nat_cmp_total b a p.1 v)

pub from_members : (a b : Set) → ((v : ℕ) → set.contains a v ≡ set.contains b v) → IsTrue (set.is_subset a b && set.is_subset b a)
from_members a b same =
    and_from _ _
    (set.contains-is_subset nat_cmp_total a b (λ v h. sym (same v) ∙ h))
    (set.contains-is_subset nat_cmp_total b a (λ v h. same v ∙ h))
