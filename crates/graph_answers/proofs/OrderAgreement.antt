-- The scenarios that a file denotes have one list of orders.
use Rattle.std.proofs.Common.{◌≡◌, ◌↔◌, ℕ, zero, suc, Bool, true, false, IsTrue, List, [], ◌∷◌, length, Some, slice_get, refl, sym, ap₂, ◌∙◌, subst}
use Rattle.std.specs.Prelude.{IsSomeAnd}
use Rattle.std.specs.FinSet as set
use Rattle.std.specs.FinMap.{nat_cmp-IsAntisymmetric}
use Rattle.std.proofs.lemmas.Cmp.{nat_cmp_total}
use Rattle.std.proofs.lemmas.List.{ext_get_or}
use Rattle.std.proofs.lemmas.Option.{none-some, same_Some}
use Rattle.cpog_base.specs.Rows.{has_arc}
use Rattle.cpog_base.specs.RowLaws.{has_from_contains, contains_from_has}
use Rattle.cpog_defs.specs.Orders.{Order, is_before}
use Rattle.cpog_defs.specs.Walks.{last}
use Rattle.cpog_defs.specs.Scenarios.{Scenario, IsBefore, IsLeastCyclic, IsOrderOfScenario, AreOrdersOf}
use Rattle.cpog_defs.proofs.WalkLemmas.{replaced}
use Rattle.pg_text.specs.Contents.{Contents}
use Rattle.pg_normal.specs.Denoting.{Stated, stated_in, IsDenoted, AreDenoted, AreScenariosOf}
use Rattle.graph_answers.specs.Ordered.{AreOrdersIn}
use Rattle.scenario_check.specs.Cycles.{IsFirstCyclic}
use Rattle.pg_normal.proofs.OpenLemmas.{agreeing}

-- ---- scenarios that have the same operations and arcs

pub record AreAlike (a b : Scenario) : Type 0 where
  pub count : a.count ≡ b.count
  pub ops : (v : ℕ) → set.contains a.ops v ≡ set.contains b.ops v
  pub arcs : (u v : ℕ) → has_arc a.arcs u v ≡ has_arc b.arcs u v

turned : (a b : Scenario) → AreAlike a b → AreAlike b a
turned a b h = record { count = sym h.count; ops = λ v. sym (h.ops v); arcs = λ u v. sym (h.arcs u v) }

same_before : (a b : Scenario) → AreAlike a b → (u v : ℕ) → IsBefore a u v → IsBefore b u v
same_before a b h u v w = replaced (λ x y arc. last (contains_from_has b.arcs x y (sym (h.arcs x y) ∙ has_from_contains a.arcs x y arc))) w

one_stated : (count : ℕ) (x : Stated) (a b : Scenario) → IsDenoted count x a → IsDenoted count x b → AreAlike a b
one_stated count x a b h k =
    let n = agreeing x in
    let p = h n.0 n.1 n.2 in
    let q = k n.0 n.1 n.2 in
    record { count = p.size ∙ sym q.size; ops = λ v. p.ops v ∙ sym (q.ops v); arcs = λ u v. p.arcs u v ∙ sym (q.arcs u v) }

abbrev AllAlike : List Scenario → List Scenario → Type 0
AllAlike [] [] = Unit {0}
AllAlike (a ∷ ss) (b ∷ ts) = AreAlike a b × AllAlike ss ts
AllAlike ss ts = ⊥

denoted_alike : (count : ℕ) (xs : List Stated) (ss ts : List Scenario) → AreDenoted count xs ss → AreDenoted count xs ts → AllAlike ss ts
denoted_alike count [] [] [] h k = tt
denoted_alike count [] [] (b ∷ ts) h k = absurd k
denoted_alike count [] (a ∷ ss) ts h k = absurd h
denoted_alike count (x ∷ xs) [] ts h k = absurd h
denoted_alike count (x ∷ xs) (a ∷ ss) [] h k = absurd k
denoted_alike count (x ∷ xs) (a ∷ ss) (b ∷ ts) h k = (one_stated count x a b h.0 k.0, denoted_alike count xs ss ts h.1 k.1)

-- ---- one order for them

-- two tests of one fact are equal
same_test : (a b : Bool) (P Q : Type 0) → (P → Q) → (Q → P) → IsTrue a ↔ P → IsTrue b ↔ Q → a ≡ b
same_test true true P Q f g h k = refl
same_test true false P Q f g h k = sym (k.1 (f (h.0 refl)))
same_test false true P Q f g h k = h.1 (g (k.0 refl))
same_test false false P Q f g h k = refl

-- orders of equal parts are equal
same_order : (a b : Order) → a.count ≡ b.count → a.ops ≡ b.ops → a.before ≡ b.before → a ≡ b
same_order a b count ops before = λ i. record { count = count i; ops = ops i; before = before i }

-- its numbers and operations are the scenario's, and each row of it is fixed by the walks
one_order : (a b : Scenario) (o p : Order) → AreAlike a b → IsOrderOfScenario a o → IsOrderOfScenario b p → o ≡ p
one_order a b o p alike h k =
    let count : o.count ≡ p.count = h.count ∙ alike.count ∙ sym k.count in
    same_order o p count
    (h.ops ∙ set.same_set nat_cmp_total nat_cmp-IsAntisymmetric a.ops b.ops alike.ops ∙ sym k.ops)
    (ext_get_or set.empty o.before p.before (h.order.rows ∙ count ∙ sym k.order.rows)
    (λ v l. set.same_set nat_cmp_total nat_cmp-IsAntisymmetric _ _ (λ u. same_test (is_before o u v) (is_before p u v) (IsBefore a u v) (IsBefore b u v) (same_before a b alike u v) (same_before b a (turned a b alike) u v) (h.before u v) (k.before u v))))

one_list : (ss ts : List Scenario) (os ps : List Order) → AllAlike ss ts → AreOrdersOf ss os → AreOrdersOf ts ps → os ≡ ps
one_list [] [] [] [] alike h k = refl
one_list [] [] [] (p ∷ ps) alike h k = absurd k
one_list [] [] (o ∷ os) ps alike h k = absurd h
one_list [] (b ∷ ts) os ps alike h k = absurd alike
one_list (a ∷ ss) [] os ps alike h k = absurd alike
one_list (a ∷ ss) (b ∷ ts) [] ps alike h k = absurd h
one_list (a ∷ ss) (b ∷ ts) (o ∷ os) [] alike h k = absurd k
one_list (a ∷ ss) (b ∷ ts) (o ∷ os) (p ∷ ps) alike h k = ap₂ (λ z zs. z ∷ zs) (one_order a b o p alike.0 h.0 k.0) (one_list ss ts os ps alike.1 h.1 k.1)

pub one_orders : (f : Contents) (os ps : List Order) → AreOrdersIn f os → AreOrdersIn f ps → os ≡ ps
one_orders f os ps h k = one_list h.scenarios k.scenarios os ps (denoted_alike (length f.operations) (stated_in f) h.scenarios k.scenarios h.denoted k.denoted) h.of_scenarios k.of_scenarios

-- ---- and one first that has an operation before itself

least_again : (a b : Scenario) (v : ℕ) → AreAlike a b → IsLeastCyclic a v → IsLeastCyclic b v
least_again a b v alike h = record { is_cyclic = same_before a b alike v v h.is_cyclic; least = λ w l k. h.least w l (same_before b a (turned a b alike) w w k) }

here_again : (ss ts : List Scenario) (s v : ℕ) → AllAlike ss ts → IsSomeAnd (slice_get ss s) (λ sc. IsLeastCyclic sc v) → IsSomeAnd (slice_get ts s) (λ sc. IsLeastCyclic sc v)
here_again [] [] s v alike h = h
here_again [] (b ∷ ts) s v alike h = absurd alike
here_again (a ∷ ss) [] s v alike h = absurd alike
here_again (a ∷ ss) (b ∷ ts) zero v alike h = least_again a b v alike.0 h
here_again (a ∷ ss) (b ∷ ts) (suc s) v alike h = here_again ss ts s v alike.1 h

-- the scenario at a place
there : (ss ts : List Scenario) (t : ℕ) (b : Scenario) → AllAlike ss ts → slice_get ts t ≡ Some b → (a : Scenario) × (slice_get ss t ≡ Some a) × AreAlike a b
there [] [] t c alike at = absurd (none-some c at)
there [] (b ∷ ts) t c alike at = absurd alike
there (a ∷ ss) [] t c alike at = absurd alike
there (a ∷ ss) (b ∷ ts) zero c alike at = (a, refl, subst (AreAlike a) (same_Some b c at) alike.0)
there (a ∷ ss) (b ∷ ts) (suc t) c alike at = there ss ts t c alike.1 at

pub cyclic_again : (f : Contents) (ss ts : List Scenario) (s v : ℕ) → AreScenariosOf f ss → AreScenariosOf f ts → IsFirstCyclic ss s v → IsFirstCyclic ts s v
cyclic_again f ss ts s v h k first =
    let alike = denoted_alike (length f.operations) (stated_in f) ss ts h k in
    record {
      here = here_again ss ts s v alike first.here;
      earlier = λ t w sc l at before. let a = there ss ts t sc alike at in first.earlier t w a.0 l a.1 (same_before sc a.0 (turned a.0 sc a.2) w w before);
    }
