-- NamedLiteral clauses under values of the variables.
use Rattle.std.proofs.Common.{◌≡◌, ◌⊎◌, ℕ, zero, suc, ◌<◌, ◌≤◌, Bool, true, false, not, ◌||◌, if◌then◌else◌, nat_lt, IsTrue, List, [], ◌∷◌, ◌++◌, map, refl, sym, ap, ◌∙◌, subst, inl, inr, arith}
use Rattle.std.specs.List.{list_any}
use Rattle.std.proofs.lemmas.Bool.{both_ways, cases_eq, cases_lt, or_cases, or_left, or_right, lt-ltb, le-ltb}
use Rattle.cpog_defs.specs.Orders.{each_below}
use Rattle.clause_arena.specs.Clauses.{Satisfies, clause_true, lit_true}
use Rattle.gate_template.specs.declared.types.Shape.{Shape}
use Rattle.gate_template.specs.Variables.{Var, each_pair, number}
use Rattle.gate_template.specs.Families.{NamedLiteral, plain, numbered, as_clause, as_clauses}

-- a choice by an order that holds
pub lower_first : {A : Type 0} (j k : ℕ) (x y : A) → j < k → (if nat_lt j k then x else y) ≡ x
lower_first j k x y l = let e : nat_lt j k ≡ true = lt-ltb j k l in rw e refl

pub not_lower : {A : Type 0} (j k : ℕ) (x y : A) → k ≤ j → (if nat_lt j k then x else y) ≡ y
not_lower j k x y l = let e : nat_lt j k ≡ false = le-ltb j k l in rw e refl

module _ (w : Var → Bool) where
  abbrev pub named_lit : NamedLiteral → Bool
  named_lit x = if x.1 then not (w x.0) else w x.0

  abbrev pub named_true : List NamedLiteral → Bool
  named_true c = list_any named_lit c

  abbrev pub NamedSat : List (List NamedLiteral) → Type 0
  NamedSat [] = Unit {0}
  NamedSat (c ∷ cs) = IsTrue (named_true c) × NamedSat cs

  -- ---- parts of a list of clauses

  pub sat_append : (a b : List (List NamedLiteral)) → NamedSat (a ++ b) → NamedSat a × NamedSat b
  sat_append [] b h = (tt, h)
  sat_append (c ∷ a) b h = let r = sat_append a b h.1 in ((h.0, r.0), r.1)

  pub sat_both : (a b : List (List NamedLiteral)) → NamedSat a → NamedSat b → NamedSat (a ++ b)
  sat_both [] b h k = k
  sat_both (c ∷ a) b h k = (h.0, sat_both a b h.1 k)

  pub sat_below : (f : ℕ → List (List NamedLiteral)) (n : ℕ) → NamedSat (each_below f n) → (i : ℕ) → i < n → NamedSat (f i)
  sat_below f zero h i l = absurd (omega arith)
  sat_below f (suc n) h i l =
      let r = sat_append (each_below f n) (f n) h in
      elim (cases_eq i n) [
        | inl same ↦ subst (λ k. NamedSat (f k)) (sym same) r.1
        | inr other ↦ sat_below f n r.0 i (omega arith)
      ]

  pub sat_each : (f : ℕ → List (List NamedLiteral)) (n : ℕ) → ((i : ℕ) → i < n → NamedSat (f i)) → NamedSat (each_below f n)
  sat_each f zero h = tt
  sat_each f (suc n) h = sat_both (each_below f n) (f n) (sat_each f n (λ i l. h i (omega arith))) (h n (omega arith))

  pub sat_pair : (f : ℕ → ℕ → List (List NamedLiteral)) (n : ℕ) → NamedSat (each_pair f n) → (j k : ℕ) → j < k → k < n → NamedSat (f j k)
  sat_pair f n h j k jk kn =
      let row = sat_below (λ j. each_below (λ k. if nat_lt j k then f j k else []) n) n h j (omega arith) in
      subst NamedSat (lower_first j k (f j k) [] jk) (sat_below (λ k. if nat_lt j k then f j k else []) n row k kn)

  pub sat_each_pair : (f : ℕ → ℕ → List (List NamedLiteral)) (n : ℕ) → ((j k : ℕ) → j < k → k < n → NamedSat (f j k)) → NamedSat (each_pair f n)
  sat_each_pair f n h = sat_each (λ j. each_below (λ k. if nat_lt j k then f j k else []) n) n (λ j jn. sat_each (λ k. if nat_lt j k then f j k else []) n (λ k kn. elim (cases_lt j k) [
    | inl l ↦ subst NamedSat (sym (lower_first j k (f j k) [] l)) (h j k l kn)
    | inr m ↦ subst NamedSat (sym (not_lower j k (f j k) [] m)) tt
  ]))

  -- ---- parts of a clause

  any_append : (a b : List NamedLiteral) → IsTrue (named_true (a ++ b)) → IsTrue (named_true a) ⊎ IsTrue (named_true b)
  any_append [] b h = inr h
  any_append (x ∷ a) b h = elim (or_cases (named_lit x) (named_true (a ++ b)) h) [
    | inl t ↦ inl (or_left (named_lit x) (named_true a) t)
    | inr r ↦ elim (any_append a b r) [ inl t ↦ inl (or_right (named_lit x) (named_true a) t) | inr t ↦ inr t ]
  ]

  any_below : (f : ℕ → List NamedLiteral) (n : ℕ) → IsTrue (named_true (each_below f n)) → (i : ℕ) × (i < n) × IsTrue (named_true (f i))
  any_below f zero h = absurd (both_ways _ refl h)
  any_below f (suc n) h = elim (any_append (each_below f n) (f n) h) [
    | inl t ↦ let x = any_below f n t in (x.0, omega (arith, x.1), x.2)
    | inr t ↦ (n, omega arith, t)
  ]

  alone : (x : Bool) → IsTrue (x || false) → IsTrue x
  alone true h = refl
  alone false h = h

  pub any_below_one : (n : ℕ) (x : ℕ → Var) → IsTrue (named_true (each_below (λ i. plain (x i) ∷ []) n)) → (i : ℕ) × (i < n) × IsTrue (w (x i))
  any_below_one n x h = let r = any_below (λ i. plain (x i) ∷ []) n h in (r.0, r.1, alone _ r.2)

  in_choice : (j k : ℕ) (x : Var) → IsTrue (named_true (if nat_lt j k then plain x ∷ [] else [])) → (j < k) × IsTrue (w x)
  in_choice j k x h = elim (cases_lt j k) [
    | inl l ↦ (l, alone (w x) (subst (λ c. IsTrue (named_true c)) (lower_first j k (plain x ∷ []) [] l) h))
    | inr m ↦ absurd (both_ways _ refl (subst (λ c. IsTrue (named_true c)) (not_lower j k (plain x ∷ []) [] m) h))
  ]

  pub any_pair_one : (n : ℕ) (x : ℕ → ℕ → Var) → IsTrue (named_true (each_pair (λ j k. plain (x j k) ∷ []) n)) → (j : ℕ) × (k : ℕ) × (j < k) × (k < n) × IsTrue (w (x j k))
  any_pair_one n x h =
      let r = any_below (λ j. each_below (λ k. if nat_lt j k then plain (x j k) ∷ [] else []) n) n h in
      let q = any_below (λ k. if nat_lt r.0 k then plain (x r.0 k) ∷ [] else []) n r.2 in
      let p = in_choice r.0 q.0 (x r.0 q.0) q.2 in
      (r.0, q.0, p.0, q.1, p.1)

  or_join : (x y z : Bool) → IsTrue (x || y) → (IsTrue y → IsTrue z) → IsTrue (x || z)
  or_join true y z h k = refl
  or_join false y z h k = k h

  any_left : (a b : List NamedLiteral) → IsTrue (named_true a) → IsTrue (named_true (a ++ b))
  any_left [] b h = absurd (both_ways _ refl h)
  any_left (x ∷ a) b h = or_join (named_lit x) (named_true a) (named_true (a ++ b)) h (any_left a b)

  any_right : (a b : List NamedLiteral) → IsTrue (named_true b) → IsTrue (named_true (a ++ b))
  any_right [] b h = h
  any_right (x ∷ a) b h = or_right (named_lit x) (named_true (a ++ b)) (any_right a b h)

  any_each : (f : ℕ → List NamedLiteral) (n i : ℕ) → i < n → IsTrue (named_true (f i)) → IsTrue (named_true (each_below f n))
  any_each f zero i l h = absurd (omega arith)
  any_each f (suc n) i l h = elim (cases_eq i n) [
    | inl same ↦ any_right (each_below f n) (f n) (subst (λ k. IsTrue (named_true (f k))) same h)
    | inr other ↦ any_left (each_below f n) (f n) (any_each f n i (omega arith) h)
  ]

  pub one_below : (n i : ℕ) (x : ℕ → Var) → i < n → IsTrue (w (x i)) → IsTrue (named_true (each_below (λ i. plain (x i) ∷ []) n))
  one_below n i x l h = any_each (λ i. plain (x i) ∷ []) n i l (or_left _ _ h)

  pub one_pair : (n j k : ℕ) (x : ℕ → ℕ → Var) → j < k → k < n → IsTrue (w (x j k)) → IsTrue (named_true (each_pair (λ j k. plain (x j k) ∷ []) n))
  one_pair n j k x jk kn h =
      any_each (λ j. each_below (λ k. if nat_lt j k then plain (x j k) ∷ [] else []) n) n j (omega arith)
      (any_each (λ k. if nat_lt j k then plain (x j k) ∷ [] else []) n k kn
      (subst (λ c. IsTrue (named_true c)) (sym (lower_first j k (plain (x j k) ∷ []) [] jk)) (or_left (w (x j k)) false h)))

-- ---- from numbers to names

module _ (v : ℕ → Bool) (z : Shape) where
  unfoldable pub by_name : Var → Bool
  by_name x = v (number z x)

  same_clause : (c : List NamedLiteral) → clause_true v (map (numbered z) c) ≡ named_true by_name c
  unfolding by_name
  same_clause [] = refl
  same_clause (x ∷ c) = ap (λ b. lit_true v (numbered z x) || b) (same_clause c)

  pub named_from : (cs : List (List NamedLiteral)) → Satisfies v (as_clauses z cs) → NamedSat by_name cs
  unfolding as_clauses as_clause
  named_from [] h = tt
  named_from (c ∷ cs) h = (sym (same_clause c) ∙ h.0, named_from cs h.1)
