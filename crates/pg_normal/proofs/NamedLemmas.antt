-- Where a graph is found once one more has a name.
use Rattle.std.specs.Prelude.{◌≡◌, refl, ℕ, ◌+◌, Bool, true, false, cond, not, nat_lt, ◌||◌, List, [], ◌∷◌, ◌++◌, length, slice_get, Option, Some, None}
use Rattle.std.proofs.Common.{suc, ap, ◌∙◌, sym, inl, inr, arith}
use Rattle.std.specs.List.{position_or_len}
use Rattle.std.specs.Str.{bytes_eq}
use Rattle.std.specs.Cmp.Lexicographic.{bytes_decides}
use Rattle.std.proofs.lemmas.Bool.{both_ways, cases_lt}
use Rattle.std.proofs.lemmas.Bool.Decides.{nat_tests}
use Rattle.std.proofs.lemmas.Option.{slice_get-get_or, slice_get_past}
use Rattle.cpog_base.specs.Names.{place_of, has_text}
use Rattle.pg_normal.specs.declared.tables.Tables.{Tables}
use Rattle.pg_normal.specs.Known.{tables_at, graph_of_tables, graph_or_empty, order_or_none}
use Rattle.pg_algebra.specs.Graphs.{Graph}

both_more : (m n : ℕ) → nat_lt (1 + m) (suc n) ≡ nat_lt m n
both_more m n = grind (arith, nat_tests)

some_more : (n : ℕ) → nat_lt 0 (suc n) ≡ true
some_more n = grind (arith, nat_tests)

module _ (y : Tables) (ts : List Tables) where
  first : slice_get (y ∷ ts) 0 ≡ Some y
  first = slice_get-get_or (y ∷ ts) 0 y (omega arith)

  later : (lt : Bool) (k : ℕ) → tables_at (y ∷ ts) (cond lt (Some (1 + k)) None) ≡ tables_at ts (cond lt (Some k) None)
  later true k = elim (cases_lt k (length ts)) [
    | inl lt ↦ ap (slice_get (y ∷ ts)) next ∙ slice_get-get_or (y ∷ ts) (suc k) y (omega (arith, lt)) ∙ sym (slice_get-get_or ts k y lt)
    | inr past ↦ slice_get_past (y ∷ ts) (1 + k) (omega (arith, past)) ∙ sym (slice_get_past ts k past)
  ]
    where
      next : 1 + k ≡ suc k
      next = omega arith
  later false k = refl

-- the first name is the graph's, or another one is
at_cons : (x other : List ℕ) (ns : List (List ℕ)) (y : Tables) (ts : List Tables) → tables_at (y ∷ ts) (place_of (x ∷ ns) other) ≡ cond (bytes_eq other x) (Some y) (tables_at ts (place_of ns other))
at_cons x other ns y ts =
    elim (bytes_eq other x) as (λ b. tables_at (y ∷ ts)
    (cond (nat_lt (cond (not b) (1 + position_or_len (bytes_eq other) ns) 0) (length (x ∷ ns)))
    (Some (cond (not b) (1 + position_or_len (bytes_eq other) ns) 0)) None) ≡ cond b (Some y)
    (tables_at ts (place_of ns other))) [
      | true ↦ ap (λ b. tables_at (y ∷ ts) (cond b (Some 0) None)) (some_more (length ns)) ∙ first y ts
      | false ↦ ap (λ b. tables_at (y ∷ ts) (cond b (Some (1 + position_or_len (bytes_eq other) ns)) None))
          (both_more (position_or_len (bytes_eq other) ns) (length ns))
          ∙ later y ts (nat_lt (position_or_len (bytes_eq other) ns) (length ns)) (position_or_len (bytes_eq other) ns)
    ]

swap : {A : Type 0} (a b : Bool) (x y z : A) → (a ≡ true → b ≡ true → ⊥) → cond a x (cond b y z) ≡ cond b y (cond a x z)
swap true true x y z apart = absurd (apart refl refl)
swap true false x y z apart = refl
swap false b x y z apart = refl

pub at_push : (ns : List (List ℕ)) (ts : List Tables) (name : List ℕ) (t : Tables) (other : List ℕ) → length ts ≡ length ns → has_text ns name ≡ false
    → tables_at (ts ++ t ∷ []) (place_of (ns ++ name ∷ []) other) ≡ cond (bytes_eq other name) (Some t) (tables_at ts (place_of ns other))
at_push [] [] name t other same new = at_cons name other [] t []
at_push [] (y ∷ ts) name t other same new = absurd (omega (arith, same))
at_push (x ∷ ns) [] name t other same new = absurd (omega (arith, same))
at_push (x ∷ ns) (y ∷ ts) name t other same new =
    at_cons x other (ns ++ name ∷ []) y (ts ++ t ∷ [])
    ∙ ap (cond (bytes_eq other x) (Some y)) (at_push ns ts name t other (omega (arith, same)) (rest (bytes_eq name x) (has_text ns name) new))
    ∙ swap (bytes_eq other x) (bytes_eq other name) (Some y) (Some t) (tables_at ts (place_of ns other)) (λ is_x is_name. both_ways (bytes_eq name x) (front (bytes_eq name x) (has_text ns name) new)
    ((bytes_decides name x).1 (sym ((bytes_decides other name).0 is_name) ∙ (bytes_decides other x).0 is_x)))
    ∙ ap (cond (bytes_eq other name) (Some t)) (sym (at_cons x other ns y ts))
  where
    rest : (a b : Bool) → (a || b) ≡ false → b ≡ false
    rest false b h = h
    rest true b h = absurd (both_ways _ h refl)

    front : (a b : Bool) → (a || b) ≡ false → a ≡ false
    front false b h = refl
    front true b h = h

pub graph_push : (n : ℕ) (b : Bool) (t : Tables) (o : Option Tables) (g : Graph) → graph_of_tables t n ≡ g → graph_or_empty n (cond b (Some t) o) ≡ cond b g (graph_or_empty n o)
graph_push n true t o g is = is
graph_push n false t o g is = refl

pub order_push : (b : Bool) (t : Tables) (o : Option Tables) (vs : List ℕ) → t.order ≡ vs → order_or_none (cond b (Some t) o) ≡ cond b vs (order_or_none o)
order_push true t o vs is = is
order_push false t o vs is = refl
