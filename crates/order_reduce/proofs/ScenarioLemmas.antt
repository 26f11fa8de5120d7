-- Scenarios that get their operations and arcs one by one.
use Rattle.std.proofs.Common.{◌≡◌, ◌≢◌, ℕ, zero, suc, ◌+◌, ◌<◌, ◌≤◌, ◌==◌, ◌&&◌, ◌||◌, Bool, true, false, IsTrue, List, [], ◌∷◌, ◌++◌, length, get_or, take, if◌then◌else◌, refl, sym, ap, ap₂, ◌∙◌, arith, inl, inr}
use Rattle.std.specs.List.{All, AllPairs, Contains}
use Rattle.std.proofs.lemmas.Bool.{cases_eq, cases_lt, and_parts, eqb-true, eq-eqb, ne_eqb, false_from_ne_true}
use Rattle.std.proofs.lemmas.List.{get_or-take, get_or_default, length-take-le, take_more}
use Rattle.std.proofs.lemmas.List.Elements.{All-append, Contains-get_or}
use Rattle.std.proofs.lemmas.List.Folds.{list_any_none}
use Rattle.std.proofs.lemmas.List.Kept.{AllPairs-cons}
use Rattle.std.specs.Cmp.{nat_cmp_total, unsigned_tied}
use Rattle.std.specs.Ordering.{nat_cmp}
use Rattle.std.specs.FinSet as set
use Rattle.cpog_defs.specs.declared.types.OpId.{OpId}
use Rattle.cpog_defs.specs.Orders.{Set, Order, IsOrder, each_below, arc_of, is_covered, covering_pairs}
use Rattle.cpog_defs.specs.Scenarios.{Scenario}
use Rattle.cpog_base.specs.Arcs.{with_arc}
use Rattle.cpog_base.specs.Rows.{has_arc}
use Rattle.order_reduce.proofs.CoveredLemmas.{covered_tells}
use Rattle.order_reduce.proofs.PairWalks.{from_each, from_if, pair_covered}

-- ---- operations one by one

-- the set of the numbers below n that pass
abbrev pub set_where : (ℕ → Bool) → ℕ → Set
set_where p zero = set.empty
set_where p (suc n) = if p n then set.insert (set_where p n) n else set_where p n

other_member : (t : Bool) (s : Set) (n v : ℕ) → v ≢ n → set.contains (if t then set.insert s n else s) v ≡ set.contains s v
other_member true s n v ne = set.contains-insert nat_cmp_total s n v ∙ ap (λ b. b || set.contains s v) (unsigned_tied v n ∙ ne_eqb v n ne)
other_member false s n v ne = refl

this_member : (t : Bool) (s : Set) (n : ℕ) → set.contains s n ≡ false → set.contains (if t then set.insert s n else s) n ≡ t
this_member true s n none = set.contains-insert nat_cmp_total s n n ∙ ap (λ b. b || set.contains s n) (unsigned_tied n n ∙ eq-eqb n n refl)
this_member false s n none = none

past_members : (p : ℕ → Bool) (n v : ℕ) → n ≤ v → set.contains (set_where p n) v ≡ false
past_members p zero v l = set.contains-empty nat_cmp v
past_members p (suc n) v l = other_member (p n) (set_where p n) n v (omega arith) ∙ past_members p n v (omega arith)

members_where : (p : ℕ → Bool) (n v : ℕ) → v < n → set.contains (set_where p n) v ≡ p v
members_where p zero v l = absurd (omega arith)
members_where p (suc n) v l = elim (cases_eq v n) [
  | inl e ↦ rw e (this_member (p n) (set_where p n) n (past_members p n n (omega arith)))
  | inr ne ↦ other_member (p n) (set_where p n) n v ne ∙ members_where p n v (omega arith)
]

-- the members of a set below n are the set, where all are below n
pub set_where-all : (ops : Set) (n : ℕ) → ((v : ℕ) → IsTrue (set.contains ops v) → v < n) → set_where (set.contains ops) n ≡ ops
set_where-all ops n below = set.same_set nat_cmp_total set.nat_cmp-IsAntisymmetric (set_where (set.contains ops) n) ops (λ v. elim (cases_lt v n) [
  | inl l ↦ members_where (set.contains ops) n v l
  | inr g ↦ past_members (set.contains ops) n v g ∙ sym (false_from_ne_true _ (λ h. absurd (let l = below v h in omega arith)))
])

abbrev pub scenario_with : ℕ → Set → List (OpId × OpId) → Scenario
scenario_with count ops arcs = record { count = count; ops = ops; arcs = arcs }

-- ---- arcs one by one

-- an arc that differs from all before it is new
new_arc : (arcs : List (OpId × OpId)) (i : ℕ) (u v : ℕ) → AllPairs (λ a b. a ≢ b) arcs → i < length arcs → arc_of u v ≡ get_or arcs i (arc_of u v) → has_arc (take i arcs) u v ≡ false
new_arc arcs i u v distinct l is = list_any_none (λ a. (a.0.0 == u) && (a.1.0 == v)) (take i arcs) (λ k d m. false_from_ne_true _ (λ h.
    let a : OpId × OpId = get_or (take i arcs) k d in
    let same : a ≡ arc_of u v = let t = and_parts _ _ h in ap₂ arc_of (eqb-true a.0.0 u t.0) (eqb-true a.1.0 v t.1) in
    let below : k < i = (let n : length (take i arcs) ≡ i = length-take-le i arcs (omega arith) in omega arith) in
    distinct k i (arc_of u v) below l (sym (get_or-take i arcs k (arc_of u v) below) ∙ get_or_default (take i arcs) k (arc_of u v) d m ∙ same ∙ is)))

-- the scenario with one arc more
pub arc_added : (start old new : Scenario) (arcs : List (OpId × OpId)) (i : ℕ) (u v : ℕ) (d : OpId × OpId) → AllPairs (λ a b. a ≢ b) arcs → i < length arcs → arc_of u v ≡ get_or arcs i d
    → old ≡ scenario_with start.count start.ops (take i arcs) → new ≡ scenario_with old.count old.ops (with_arc old.arcs u v)
    → new ≡ scenario_with start.count start.ops (take (i + 1) arcs)
arc_added start old new arcs i u v d distinct l found was is =
    let at : arc_of u v ≡ get_or arcs i (arc_of u v) = found ∙ get_or_default arcs i d (arc_of u v) l in
    is ∙ ap (λ (s : Scenario). scenario_with s.count s.ops (with_arc s.arcs u v)) was
    ∙ ap (λ t. scenario_with start.count start.ops (if t then take i arcs else take i arcs ++ arc_of u v ∷ [])) (new_arc arcs i u v distinct l at)
    ∙ ap (scenario_with start.count start.ops) (sym (take_more arcs i (arc_of u v) l ∙ ap (λ a. take i arcs ++ a ∷ []) (sym at)))

-- ---- the covering pairs

tail_pairs : {X : Type 0} (R : X → X → Type 0) (x : X) (xs : List X) → AllPairs R (x ∷ xs) → AllPairs R xs
tail_pairs R x xs h i j d l m = h (suc i) (suc j) d (omega arith) (omega arith)

head_pairs : {X : Type 0} (R : X → X → Type 0) (x : X) (xs : List X) → AllPairs R (x ∷ xs) → All (R x) xs
head_pairs R x xs h k d l = h 0 (suc k) d (omega arith) (omega arith)

joined_pairs : {X : Type 0} (R : X → X → Type 0) (xs ys : List X) → AllPairs R xs → AllPairs R ys → ((x y : X) → Contains xs x → Contains ys y → R x y) → AllPairs R (xs ++ ys)
joined_pairs R [] ys h k cross = k
joined_pairs R (x ∷ xs) ys h k cross = AllPairs-cons R x (xs ++ ys)
    (All-append (R x) xs ys (head_pairs R x xs h) (λ n d l. cross x (get_or ys n d) (0, omega arith, refl) (Contains-get_or ys n d l)))
    (joined_pairs R xs ys (tail_pairs R x xs h) k (λ a b m n. cross a b (suc m.0, omega (arith, m.1), m.2) n))

-- lists that have no element in common
each_distinct : {X : Type 0} (n : ℕ) (f : ℕ → List X) → ((i : ℕ) → AllPairs (λ a b. a ≢ b) (f i)) → ((i j : ℕ) (x y : X) → i < j → Contains (f i) x → Contains (f j) y → x ≢ y) → AllPairs (λ a b. a ≢ b) (each_below f n)
each_distinct zero f own apart = λ i j d l m. absurd (omega arith)
each_distinct (suc n) f own apart = joined_pairs (λ a b. a ≢ b) (each_below f n) (f n) (each_distinct n f own apart) (own n)
    (λ x y a b. let k = from_each n f x a in apart k.0 n x y k.1 k.2 b)

if_distinct : {X : Type 0} (b : Bool) (x : X) → AllPairs (λ a b. a ≢ b) (if b then x ∷ [] else [])
if_distinct true x i j d l m = absurd (omega arith)
if_distinct false x i j d l m = absurd (omega arith)

pub covering_distinct : (o : Order) → AllPairs (λ a b. a ≢ b) (covering_pairs o)
covering_distinct o = each_distinct o.count _ (λ u. each_distinct o.count _ (λ v. if_distinct (is_covered o u v) (arc_of u v))
    (λ v w x y l a b same. absurd (let e = second_of u v x a in let f = second_of u w y b in let g = ap (λ (p : OpId × OpId). p.1.0) same in omega (arith, e, f, g, l))))
    (λ u w x y l a b same. absurd (let e = first_in u x a in let f = first_in w y b in let g = ap (λ (p : OpId × OpId). p.0.0) same in omega (arith, e, f, g, l)))
  where
    second_of : (u v : ℕ) (x : OpId × OpId) → Contains (if is_covered o u v then arc_of u v ∷ [] else []) x → v ≡ x.1.0
    second_of u v x a = ap (λ (p : OpId × OpId). p.1.0) (from_if (is_covered o u v) (arc_of u v) x a).1

    first_in : (u : ℕ) (x : OpId × OpId) → Contains (each_below (λ v. if is_covered o u v then arc_of u v ∷ [] else []) o.count) x → u ≡ x.0.0
    first_in u x a = let k = from_each o.count _ x a in ap (λ (p : OpId × OpId). p.0.0) (from_if (is_covered o u k.0) (arc_of u k.0) x k.2).1

-- both ends of a covering pair are operations of the order
pub covering_kept : (o : Order) → IsOrder o → All (λ a. IsTrue (set.contains o.ops a.0.0) × IsTrue (set.contains o.ops a.1.0)) (covering_pairs o)
covering_kept o ord k d l =
    let a : OpId × OpId = get_or (covering_pairs o) k d in
    let before = (covered_tells o ord a.0.0 a.1.0 (pair_covered o a.0.0 a.1.0 (Contains-get_or (covering_pairs o) k d l))).is_before in
    (ord.first_kept a.0.0 a.1.0 before, ord.second_kept a.0.0 a.1.0 before)

-- the same of a set and a list that are these
pub kept_in : (o : Order) → IsOrder o → (ops : Set) (pairs : List (OpId × OpId)) → ops ≡ o.ops → pairs ≡ covering_pairs o → All (λ a. IsTrue (set.contains ops a.0.0) × IsTrue (set.contains ops a.1.0)) pairs
kept_in o ord ops pairs same is = rw (same, is) (covering_kept o ord)
