-- What `instance` asks of a form and of bindings holds of each form of a file.
use Rattle.std.specs.Prelude.{◌≡◌, refl, ℕ, ◌<◌, Bool, true, false, cond, ◌&&◌, ◌||◌, List, [], ◌∷◌, ◌++◌, map, filter, length, slice_get, Some}
use Rattle.std.specs.List.{AllByRecursion, list_any}
use Rattle.std.specs.Option.{IsSomeAnd}
use Rattle.std.specs.Str.{bytes_eq}
use Rattle.std.proofs.Common.{zero, suc, sym, subst, ◌∙◌, inl, inr}
use Rattle.std.proofs.lemmas.Bool.{and_parts, or_cases, or_left}
use Rattle.cpog_base.specs.Names.{place_of}
use Rattle.cpog_defs.specs.Codes.{bit}
use Rattle.pg_algebra.specs.declared.expr.Expr.{Expr, Empty, Op, Graph, When', Overlay', Sequence', Row_of-Expr, end_of-Expr, more_of-Expr}
use Rattle.pg_algebra.specs.declared.table.Table.{Table}
use Rattle.pg_text.specs.declared.statement.Statement.{Statement}
use Rattle.pg_text.specs.declared.statement.Statement.TheVariants as statement
use Rattle.pg_text.specs.declared.statement.Numbered.{Numbered}
use Rattle.pg_text.specs.Numbers.{numbers_of, row_numbers, statement_numbers}
use Rattle.pg_text.specs.Contents.{Contents}
use Rattle.pg_text.specs.Text.{IsFile}
use Rattle.pg_text.proofs.NumberLaws.{statement-below}
use Rattle.pg_normal.specs.declared.binding.Partial.{Partial}
use Rattle.pg_normal.specs.declared.normal.Normal.{Normal}
use Rattle.pg_normal.specs.Appearing.{has, appearing, appearing_row, with_number, with_numbers, first_appearing}
use Rattle.pg_normal.specs.Changes.{IsBelow}
use Rattle.pg_normal.specs.Forms.{Form}
use Rattle.pg_normal.specs.Normals.{Before, none_before, with_statement, params_in, is_place, IsBinding, IsNormal, StatementNormals, AreNormals, AreNormalsOf}
use Rattle.pg_normal.proofs.ListingLemmas.{all_left, all_right}

all_both : {X : Type 0} (P : X → Type 0) (xs ys : List X) → AllByRecursion P xs → AllByRecursion P ys → AllByRecursion P (xs ++ ys)
all_both P [] ys hx hy = hy
all_both P (x ∷ xs) ys hx hy = (hx.0, all_both P xs ys hx.1 hy)

all_filtered : (P : ℕ → Type 0) (p : ℕ → Bool) (xs : List ℕ) → AllByRecursion P xs → AllByRecursion P (filter p xs)
all_filtered P p [] h = tt
all_filtered P p (x ∷ xs) h = elim (p x) as (λ b. AllByRecursion P (cond b (x ∷ filter p xs) (filter p xs))) [
  | true ↦ (h.0, all_filtered P p xs h.1)
  | false ↦ all_filtered P p xs h.1
]

-- ---- bindings

-- only a parameter that is bound has a bit
abbrev pub SetsOnlyFixed : Partial → Type 0
SetsOnlyFixed p = (k : ℕ) → bit p.values k ≡ true → bit p.fixed k ≡ true

some_pass : (p q : List ℕ × Bool → Bool) (bs : List (List ℕ × Bool)) → list_any (λ b. p b && q b) bs ≡ true → list_any p bs ≡ true
some_pass p q [] h = h
some_pass p q (b ∷ bs) h = elim (or_cases (p b && q b) (list_any (λ x. p x && q x) bs) h) [
  | inl here ↦ or_left (p b) (list_any p bs) (and_parts (p b) (q b) here).0
  | inr later ↦ later_passes (p b) (some_pass p q bs later)
]
  where
    later_passes : (a : Bool) → list_any p bs ≡ true → (a || list_any p bs) ≡ true
    later_passes true h = refl
    later_passes false h = h

sets_only_fixed : (params : List (List ℕ)) (bindings : List (List ℕ × Bool)) (p : Partial) → IsBinding params bindings p → SetsOnlyFixed p
sets_only_fixed params bindings p is k held = is.fixed k ∙ some_pass (λ b. is_place k (place_of params b.0)) (λ b. b.1) bindings (sym (is.values k) ∙ held)

-- ---- the operations of expressions

module _ (count : ℕ) where
  abbrev Below : List ℕ → Type 0
  Below vs = AllByRecursion (λ v. v < count) vs

  with_one : (vs : List ℕ) (v : ℕ) → Below vs → v < count → Below (with_number vs v)
  with_one vs v h lt = elim (has vs v) as (λ b. Below (cond b vs (vs ++ v ∷ []))) [
    | true ↦ h
    | false ↦ all_both (λ w. w < count) vs (v ∷ []) h (lt, tt)
  ]

  with_all : (vs more : List ℕ) → Below vs → Below more → Below (with_numbers vs more)
  with_all vs [] h hm = h
  with_all vs (v ∷ more) h hm = with_all (with_number vs v) more (with_one vs v h hm.0) hm.1

  module _ (earlier : List ℕ → List ℕ) (each : (name : List ℕ) → Below (earlier name)) where
    mutual
      appearing_below : (e : Expr) → Below (numbers_of e) → Below (appearing earlier e)
      appearing_below Empty h = tt
      appearing_below (Op v) h = h
      appearing_below (Graph name) h = each name
      appearing_below (When' c shape (more_of-Expr e end_of-Expr)) h = appearing_below e h
      appearing_below (Overlay' shape members) h = row_below members h
      appearing_below (Sequence' shape members) h = row_below members h

      row_below : {m : _} (es : Row_of-Expr m) → Below (row_numbers es) → Below (appearing_row earlier es)
      row_below end_of-Expr h = tt
      row_below (more_of-Expr e rest) h = all_both (λ w. w < count) (appearing earlier e) (appearing_row earlier rest)
          (appearing_below e (all_left (λ w. w < count) (numbers_of e) (row_numbers rest) h))
          (row_below rest (all_right (λ w. w < count) (numbers_of e) (row_numbers rest) h))

    first_below : (e : Expr) → Below (numbers_of e) → Below (first_appearing earlier e)
    first_below e h = with_all [] (appearing earlier e) tt (appearing_below e h)

  of_keys : (es : List (ℕ × Table)) → Below (map (λ e. e.0) es) → AllByRecursion (λ e. e.0 < count) es
  of_keys [] h = tt
  of_keys (e ∷ es) h = (h.0, of_keys es h.1)

  abbrev Orders : Before → Type 0
  Orders before = (name : List ℕ) → Below (before.orders name)

  orders_after : (params : List (List ℕ)) (before : Before) (s : Statement) → Orders before → Below (statement_numbers s) → Orders (with_statement params before s)
  orders_after params before (statement.Params ws) h below name = h name
  orders_after params before (statement.Graph w e) h below name = elim (bytes_eq name w) as (λ b. Below (cond b (first_appearing before.orders e) (before.orders name))) [
    | true ↦ first_below before.orders h e below
    | false ↦ h name
  ]
  orders_after params before (statement.Scenario w e bs) h below name = h name

  -- what `instance` asks for
  abbrev Fits : Normal → Type 0
  Fits x = IsBelow count x.form × ((x.binding.values < 64) × SetsOnlyFixed x.binding)

  normal_fits : (params : List (List ℕ)) (before : Before) (e : Expr) (bindings : List (List ℕ × Bool)) (x : Normal) →
      Orders before → Below (numbers_of e) → IsNormal params before e bindings x → Fits x
  normal_fits params before e bindings x h below is = (
    of_keys x.form.vertices (subst Below (sym is.form.vertices)
        (all_filtered (λ v. v < count) _ (first_appearing before.orders e) (first_below before.orders h e below))),
    (is.binding.few.1, sets_only_fixed params bindings x.binding is.binding),
  )

  statement_fits : (params : List (List ℕ)) (before : Before) (s : Statement) (R : List Normal → Type 0) →
      ((xs : List Normal) → R xs → AllByRecursion Fits xs) → Orders before → Below (statement_numbers s)
      → (xs : List Normal) → StatementNormals params before s R xs → AllByRecursion Fits xs
  statement_fits params before (statement.Params ws) R rest h below xs hx = rest xs hx
  statement_fits params before (statement.Graph w e) R rest h below xs hx = subst (AllByRecursion Fits) (sym hx.whole) (normal_fits params before e [] hx.one h below hx.is, rest hx.more hx.rest)
  statement_fits params before (statement.Scenario w e bs) R rest h below xs hx = subst (AllByRecursion Fits) (sym hx.whole) (normal_fits params before e bs hx.one h below hx.is, rest hx.more hx.rest)

  all_fit : (params : List (List ℕ)) (ss : List Numbered) (before : Before) → ((i : ℕ) (s : Numbered) → slice_get ss i ≡ Some s → Below (statement_numbers s.statement)) → Orders before
      → (xs : List Normal) → AreNormals params before ss xs → AllByRecursion Fits xs
  all_fit params [] before below h xs hx = subst (AllByRecursion Fits) (sym hx) tt
  all_fit params (s ∷ ss) before below h xs hx = statement_fits params before s.statement (AreNormals params (with_statement params before s.statement) ss)
      (all_fit params ss (with_statement params before s.statement) (λ i t at. below (suc i) t at) (orders_after params before s.statement h (below 0 s refl))) h (below 0 s refl) xs hx

  form_at : (xs : List Normal) (i : ℕ) (form : Form) → AllByRecursion Fits xs → IsSomeAnd (slice_get xs i) (λ x. form ≡ x.form) → IsBelow count form
  form_at [] i form all at = absurd at
  form_at (x ∷ xs) zero form all at = subst (IsBelow count) (sym at) all.0.0
  form_at (x ∷ xs) (suc i) form all at = form_at xs i form all.1 at

  binding_at : (xs : List Normal) (i : ℕ) (binding : Partial) → AllByRecursion Fits xs → IsSomeAnd (slice_get xs i) (λ x. binding ≡ x.binding) → (binding.values < 64) × SetsOnlyFixed binding
  binding_at [] i binding all at = absurd at
  binding_at (x ∷ xs) zero binding all at = subst (λ p. (p.values < 64) × SetsOnlyFixed p) (sym at) all.0.1
  binding_at (x ∷ xs) (suc i) binding all at = binding_at xs i binding all.1 at

each_fits : (f : Contents) (xs : List Normal) → IsFile f → AreNormalsOf f xs → AllByRecursion (Fits (length f.operations)) xs
each_fits f xs file are = all_fit (length f.operations) (params_in f) f.statements none_before (λ i s at. statement-below f i s file at) (λ name. tt) xs are.forms

-- each vertex of a form is an operation of the file
pub form_is_below : (f : Contents) (xs : List Normal) (i count : ℕ) (form : Form) → IsFile f → AreNormalsOf f xs →
    IsSomeAnd (slice_get xs i) (λ x. form ≡ x.form) → count ≡ length f.operations → IsBelow count form
form_is_below f xs i count form file are at is = subst (λ k. IsBelow k form) (sym is) (form_at (length f.operations) xs i form (each_fits f xs file are) at)

-- bindings have six bits
pub binding_is_few : (f : Contents) (xs : List Normal) (i : ℕ) (binding : Partial) → IsFile f → AreNormalsOf f xs → IsSomeAnd (slice_get xs i) (λ x. binding ≡ x.binding) → binding.values < 64
binding_is_few f xs i binding file are at = (binding_at (length f.operations) xs i binding (each_fits f xs file are) at).0

-- and a value only where a parameter is bound
pub values_are_fixed : (f : Contents) (xs : List Normal) (i : ℕ) (binding : Partial) → IsFile f → AreNormalsOf f xs → IsSomeAnd (slice_get xs i) (λ x. binding ≡ x.binding) → SetsOnlyFixed binding
values_are_fixed f xs i binding file are at = (binding_at (length f.operations) xs i binding (each_fits f xs file are) at).1
