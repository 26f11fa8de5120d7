-- Columns that are filled from lists of lists.
use Rattle.std.proofs.Common.{◌≡◌, ℕ, zero, suc, ◌+◌, ◌-◌, ◌*◌, ◌<◌, ◌≤◌, List, [], ◌∷◌, length, get_or, All, refl, sym, ap, ◌∙◌, inl, inr, arith, length-append}
use Rattle.std.proofs.lemmas.Bool.{cases_eq}
use Rattle.std.proofs.lemmas.List.{get_or_append_left, get_or-append_right, length-map}
use Rattle.std.proofs.lemmas.List.Elements.{All-append}
use Rattle.std.proofs.Math.Nat.{mul-le-mul_right}
use Rattle.cpog_defs.specs.declared.types.Bit3.{Bit3}
use Rattle.cpog_defs.specs.declared.types.Place.{Place}
use Rattle.cpog_defs.specs.declared.types.Place.TheVariants.{Op, Arc}
use Rattle.cpog_defs.specs.Orders.{Order, each_below}
use Rattle.cpog_defs.specs.Graphs.{IsPlace}
use Rattle.cpog_defs.specs.Columns.{column}
use Rattle.cpog_merge.specs.Columns.{Columns, AreColumns, column_at, count_of, AreColumnsOf}
use Rattle.cpog_merge.specs.Filling.{op_columns_of, arc_columns_into, arc_columns_of}

-- ---- lists one behind the other, each of m elements

module _ {A : Type 0} (f : ℕ → List A) (m : ℕ) (each : (i : ℕ) → length (f i) ≡ m) where
  pub length-blocks : (n : ℕ) → length (each_below f n) ≡ n * m
  length-blocks zero = omega arith
  length-blocks (suc n) = length-append (each_below f n) (f n) ∙ rw (length-blocks n, each n) (grind arith)

  within : (n i j : ℕ) → i < n → j < m → i * m + j < n * m
  within n i j l k = let h : suc i * m ≤ n * m = mul-le-mul_right m (omega arith) in omega arith

  pub get-blocks : (n i j : ℕ) (d : A) → i < n → j < m → get_or (each_below f n) (i * m + j) d ≡ get_or (f i) j d
  get-blocks zero i j d l k = absurd (omega arith)
  get-blocks (suc n) i j d l k = elim (cases_eq i n) [
    | inl same ↦
        let past : n * m ≤ i * m + j = rw same (omega arith) in
        let at : i * m + j - n * m ≡ j = rw same (omega arith) in
        get_or-append_right (each_below f n) (f n) (n * m) (i * m + j) d (length-blocks n) past ∙ rw (at, same) refl
    | inr other ↦
        let inside : i * m + j < length (each_below f n) = rw (length-blocks n) (within n i j (omega arith) k) in
        get_or_append_left (each_below f n) (f n) d (i * m + j) inside ∙ get-blocks n i j d (omega arith) k
  ]

-- what holds in each list holds in all
All-blocks : {A : Type 0} (P : A → Type 0) (f : ℕ → List A) (n : ℕ) → ((i : ℕ) → All P (f i)) → All P (each_below f n)
All-blocks P f zero each = λ k d l. absurd (omega arith)
All-blocks P f (suc n) each = All-append P (each_below f n) (f n) (All-blocks P f n each) (each n)

-- what holds of the one element
All-one : {A : Type 0} (P : A → Type 0) (x : A) → P x → All P (x ∷ [])
All-one P x h zero d l = h
All-one P x h (suc k) d l = absurd (omega arith)

-- ---- the columns of some scenarios

-- a column has an entry for each scenario
size : (orders : List Order) (p : Place) → length (column orders p) ≡ length orders
size orders p = length-map orders _

-- all columns in their places
abbrev pub full_columns : List Order → ℕ → Columns
full_columns orders n = record { count = n; scenarios = length orders; ops = op_columns_of orders n; arcs = arc_columns_of orders n n }

-- a column for the place alone
abbrev op_column_of : List Order → ℕ → List (List Bit3)
op_column_of orders v = column orders (Op (record { 0 = v })) ∷ []

abbrev arc_column_of : List Order → ℕ → ℕ → List (List Bit3)
arc_column_of orders v u = column orders (Arc (record { 0 = u }) (record { 0 = v })) ∷ []

-- a column for each first operation
length-into : (orders : List Order) (n v : ℕ) → length (arc_columns_into orders n v) ≡ n
length-into orders n v = length-blocks (arc_column_of orders v) 1 (λ u. refl) n ∙ omega arith

-- none is missing
pub are_full : (orders : List Order) (n : ℕ) → n ≤ 128 → length orders ≤ 64 → AreColumns (full_columns orders n)
are_full orders n few_ops few_scenarios =
    let P : List Bit3 → Type 0 = λ c. length c ≡ length orders in
    record {
      few_ops = few_ops;
      few_scenarios = few_scenarios;
      ops_each = length-blocks (op_column_of orders) 1 (λ i. refl) n ∙ omega arith;
      arcs_each = length-blocks (arc_columns_into orders n) n (length-into orders n) n;
      op_entries = All-blocks P (op_column_of orders) n (λ v. All-one P (column orders (Op (record { 0 = v }))) (size orders (Op (record { 0 = v }))));
      arc_entries =
          All-blocks P (arc_columns_into orders n) n
          (λ v. All-blocks P (arc_column_of orders v) n
          (λ u. All-one P (column orders (Arc (record { 0 = u }) (record { 0 = v }))) (size orders (Arc (record { 0 = u }) (record { 0 = v })))));
    }

-- the place in lists of one
pub single : (n : ℕ) → n * 1 + 0 ≡ n
single n = omega arith

-- an operation's column stands in its place
pub op_there : (orders : List Order) (n v : ℕ) → v < n → get_or (op_columns_of orders n) v [] ≡ column orders (Op (record { 0 = v }))
op_there orders n v l = ap (λ k. get_or (op_columns_of orders n) k []) (sym (single v)) ∙ get-blocks (op_column_of orders) 1 (λ i. refl) n v 0 [] l (omega arith)

-- a pair's column stands in its place among those with its second
into_there : (orders : List Order) (n u v : ℕ) → u < n → get_or (arc_columns_into orders n v) u [] ≡ column orders (Arc (record { 0 = u }) (record { 0 = v }))
into_there orders n u v l = ap (λ k. get_or (arc_columns_into orders n v) k []) (sym (single u)) ∙ get-blocks (arc_column_of orders v) 1 (λ i. refl) n u 0 [] l (omega arith)

-- and among all
pub arc_there : (orders : List Order) (n u v : ℕ) → u < n → v < n → get_or (arc_columns_of orders n n) (v * n + u) [] ≡ column orders (Arc (record { 0 = u }) (record { 0 = v }))
arc_there orders n u v l m =
    get-blocks (arc_columns_into orders n) n (length-into orders n) n v u [] m l ∙ into_there orders n u v l

-- they are those that are defined
pub are_columns : (orders : List Order) (n : ℕ) → n ≡ count_of orders → AreColumnsOf orders (full_columns orders n)
are_columns orders n is = record { count = is; scenarios = refl; columns = at }
  where
    at : (p : Place) → IsPlace (count_of orders) p → column_at (full_columns orders n) p ≡ column orders p
    at (Op v) l = op_there orders n v.0 (rw is l)
    at (Arc u v) l = arc_there orders n u.0 v.0 (rw is l.0) (rw is l.1)

-- the count of the first order
pub first_count : (orders : List Order) (d : Order) → 0 < length orders → (get_or orders 0 d).count ≡ count_of orders
first_count [] d l = absurd (omega arith)
first_count (o ∷ orders) d l = refl
