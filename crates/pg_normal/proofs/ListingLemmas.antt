-- From names in order to forms.
use Rattle.std.specs.Prelude.{◌≡◌, ◌≢◌, refl, ℕ, ◌<◌, ◌≤◌, ◌+◌, ◌==◌, Bool, true, false, map, ◌&&◌, ◌||◌, List, [], ◌∷◌, ◌++◌, length, slice_get, Some}
use Rattle.std.specs.List.{AllByRecursion, list_all, flat_map}
use Rattle.std.proofs.Common.{ap, ap₂, ◌∙◌, sym, subst, drop, arith, inl, inr, append-nil, append_assoc, length-append}
use Rattle.std.proofs.lemmas.List.{map-append}
use Rattle.std.proofs.lemmas.Bool.{and_from, cases_eq, eq-eqb, ne_eqb, lt-ltb, or_left}
use Rattle.std.proofs.lemmas.List.Folds.{list_any-append}
use Rattle.std.proofs.lemmas.Grind.{flat_map-append}
use Rattle.std.proofs.lemmas.List.{drop_all}
use Rattle.std.proofs.lemmas.List.Sums.{sum_by-cons}
use Rattle.std.proofs.lemmas.List.Folds.{flat_map-map}
use Rattle.cpog_base.specs.Names.{has_text}
use Rattle.cpog_defs.specs.Codes.{bit}
use Rattle.pg_algebra.specs.Conditions.{params_of}
use Rattle.pg_algebra.specs.declared.expr.Expr.{Expr, Empty, Op, Graph, When', Overlay', Sequence', Row_of-Expr, end_of-Expr, more_of-Expr}
use Rattle.std.specs.Option.{IsSomeAnd}
use Rattle.std.proofs.lemmas.Option.{slice_get_within, get_or_from_slice_get}
use Rattle.pg_text.specs.declared.statement.Statement.{Statement}
use Rattle.pg_text.specs.declared.statement.Numbered.{Numbered}
use Rattle.pg_text.specs.Numbers.{numbers_of, row_numbers}
use Rattle.pg_normal.specs.declared.scope.Scope.{Scope}
use Rattle.pg_normal.specs.declared.naming.NameFault.{NameFault}
use Rattle.pg_normal.specs.declared.naming.NameFault.TheVariants as fault
use Rattle.pg_normal.specs.Sound.{is_sound, is_sound_row}
use Rattle.pg_normal.specs.Naming.{param_used, uses, row_uses, unknown, unknown_param, fault_unless, nothing, scope_after, scope_from, statement_faults, faults_from, name_faults}
use Rattle.std.specs.Str.{bytes_eq}
use Rattle.cpog_base.specs.declared.limits.Counted.TheVariants as counted
use Rattle.pg_text.specs.Contents.{Contents}
use Rattle.pg_text.specs.Text.{IsFile, count_in, count_of}
use Rattle.pg_text.specs.declared.statement.Statement.TheVariants as statement
use Rattle.pg_normal.specs.declared.known.Known.{Known}
use Rattle.pg_normal.specs.declared.normal.Normal.{Normal}
use Rattle.pg_normal.specs.Known.{IsKnown, graphs_known, orders_known}
use Rattle.pg_normal.specs.declared.normal.Origin.{Origin}
use Rattle.pg_normal.specs.Normals.{IsBinding, Before, none_before, with_statement, params_in, StatementNormals, AreNormals, origin, origins_from}
use Rattle.pg_normal.proofs.RowLemmas.{bit-none}
use Rattle.pg_normal.proofs.NamingLemmas.{next}
use Rattle.pg_normal.proofs.RowLemmas.{some_at}

pub left_empty : {X : Type 0} (xs ys : List X) → xs ++ ys ≡ [] → xs ≡ []
left_empty [] ys h = refl
left_empty (x ∷ xs) ys h = let e = ap length h in absurd (omega (arith, e))

pub right_empty : {X : Type 0} (xs ys : List X) → xs ++ ys ≡ [] → ys ≡ []
right_empty [] ys h = h
right_empty (x ∷ xs) ys h = let e = ap length h in absurd (omega (arith, e))

pub all_left : {X : Type 0} (P : X → Type 0) (xs ys : List X) → AllByRecursion P (xs ++ ys) → AllByRecursion P xs
all_left P [] ys h = tt
all_left P (x ∷ xs) ys h = (h.0, all_left P xs ys h.1)

pub all_right : {X : Type 0} (P : X → Type 0) (xs ys : List X) → AllByRecursion P (xs ++ ys) → AllByRecursion P ys
all_right P [] ys h = h
all_right P (x ∷ xs) ys h = all_right P xs ys h.1

known_if : (b : Bool) (f : NameFault) → fault_unless b f ≡ [] → b ≡ true
known_if true f h = refl
known_if false f h = let e = ap length h in absurd (omega (arith, e))

-- an expression without unknown names is sound, where each name of the scope is a parameter
module _ (count line : ℕ) (scope : Scope) (params : List (List ℕ)) (more : (x : List ℕ) → has_text scope.params x ≡ true → has_text params x ≡ true) where
  all_known : (xs : List (List ℕ)) → flat_map (unknown_param line scope.params) xs ≡ [] → list_all (has_text params) xs ≡ true
  all_known [] h = refl
  all_known (x ∷ xs) h = and_from (has_text params x) (list_all (has_text params) xs)
      (more x (known_if (has_text scope.params x) (fault.UnknownParam line x) (left_empty (unknown_param line scope.params x) _ h)))
      (all_known xs (right_empty (unknown_param line scope.params x) _ h))

  mutual
    pub sound : (e : Expr) → AllByRecursion (λ n. n < count) (numbers_of e) → flat_map (unknown line scope) (uses e) ≡ [] → is_sound count params e ≡ true
    sound Empty below none = refl
    sound (Op v) below none = lt-ltb v count below.0
    sound (Graph name) below none = refl
    sound (When' c shape (more_of-Expr e end_of-Expr)) below none =
        let parts = sym (flat_map-append (unknown line scope) (map param_used (params_of c)) (uses e)) ∙ none in
        and_from (list_all (has_text params) (params_of c)) (is_sound count params e)
        (all_known (params_of c) (sym (flat_map-map (unknown line scope) param_used (params_of c)) ∙ left_empty _ _ parts))
        (sound e below (right_empty (flat_map (unknown line scope) (map param_used (params_of c))) _ parts))
    sound (Overlay' shape members) below none = sound_row members below none
    sound (Sequence' shape members) below none = sound_row members below none

    pub sound_row : {m : _} (es : Row_of-Expr m) → AllByRecursion (λ n. n < count) (row_numbers es) → flat_map (unknown line scope) (row_uses es) ≡ [] → is_sound_row count params es ≡ true
    sound_row end_of-Expr below none = refl
    sound_row (more_of-Expr e rest) below none =
        let parts = sym (flat_map-append (unknown line scope) (uses e) (row_uses rest)) ∙ none in
        and_from (is_sound count params e) (is_sound_row count params rest)
        (sound e (all_left (λ n. n < count) (numbers_of e) (row_numbers rest) below) (left_empty _ _ parts))
        (sound_row rest (all_right (λ n. n < count) (numbers_of e) (row_numbers rest) below) (right_empty (flat_map (unknown line scope) (uses e)) _ parts))

-- ---- bits of masks

either_one : (a b : Bool) → b ≡ true → true ≡ (a || b)
either_one true b h = refl
either_one false b h = sym h

either_none : (a b : Bool) → b ≡ false → a ≡ (a || b)
either_none true b h = refl
either_none false b h = sym h

-- a word with one bit more
pub bit_more : (w r p k : ℕ) → bit r p ≡ true → ((j : ℕ) → j ≢ p → bit r j ≡ bit w j) → bit r k ≡ (bit w k || (p == k))
bit_more w r p k set others = elim (cases_eq p k) [
  | inl same ↦ ap (bit r) (sym same) ∙ set ∙ either_one (bit w k) (p == k) (eq-eqb p k same)
  | inr other ↦ others k (λ e. other (sym e)) ∙ either_none (bit w k) (p == k) (ne_eqb p k other)
]

pub and_one : (a b c : Bool) → c ≡ true → (a || b) ≡ (a || (b && c))
and_one a true c h = ap (λ x. a || x) (sym h)
and_one a false c h = refl

-- ---- the line at hand

pub line_at : (ss : List Numbered) (i : ℕ) (s : Statement) → IsSomeAnd (slice_get ss i) (λ n. s ≡ n.statement)
    → (n : Numbered) × (s ≡ n.statement) × (drop i ss ≡ n ∷ drop (i + 1) ss) × (slice_get ss i ≡ Some n)
line_at ss i s at =
    let n = some_at (λ n. s ≡ n.statement) (slice_get ss i) at in
    (n.0, n.2, next ss i n.0 n.0 (slice_get_within ss i n.0 n.1) (sym (get_or_from_slice_get ss i n.0 n.0 n.1)), n.1)

pub line_without_faults : (scope : Scope) (ss : List Numbered) (i : ℕ) (s : Statement) → IsSomeAnd (slice_get ss i) (λ n. s ≡ n.statement) → faults_from scope (drop i ss) ≡ []
    → (line : ℕ) × (statement_faults line scope s ≡ []) × (faults_from (scope_after scope s) (drop (i + 1) ss) ≡ [])
line_without_faults scope ss i s at none =
    let l = line_at ss i s at in
    let split : statement_faults l.0.line scope l.0.statement ++ faults_from (scope_after scope l.0.statement) (drop (i + 1) ss) ≡ [] = sym (ap (faults_from scope) l.2) ∙ none in (
      l.0.line,
      ap (statement_faults l.0.line scope) l.1
          ∙ left_empty _ _ split,
      ap (λ t. faults_from (scope_after scope t) (drop (i + 1) ss)) l.1
          ∙ right_empty (statement_faults l.0.line scope l.0.statement) _ split,
    )

-- ---- parameters of all lines

kept_after : (s : Statement) (scope : Scope) (x : List ℕ) → has_text scope.params x ≡ true → has_text (scope_after scope s).params x ≡ true
kept_after (statement.Params names) scope x h = list_any-append (bytes_eq x) scope.params names ∙ or_left (has_text scope.params x) (has_text names x) h
kept_after (statement.Graph name e) scope x h = h
kept_after (statement.Scenario name e bindings) scope x h = h

-- a parameter of earlier lines is one of all lines
pub kept_param : (ss : List Numbered) (scope : Scope) (x : List ℕ) → has_text scope.params x ≡ true → has_text (scope_from scope ss).params x ≡ true
kept_param [] scope x h = h
kept_param (n ∷ ss) scope x h = kept_param ss (scope_after scope n.statement) x (kept_after n.statement scope x h)

more_params : (s : Statement) (scope : Scope) → length (scope_after scope s).params ≡ length scope.params + count_in counted.Params s
more_params (statement.Params names) scope = length-append scope.params names
more_params (statement.Graph name e) scope = omega arith
more_params (statement.Scenario name e bindings) scope = omega arith

-- there are as many as the lines state
pub count_params : (ss : List Numbered) (scope : Scope) → length (scope_from scope ss).params ≡ length scope.params + count_of counted.Params ss
count_params [] scope = omega arith
count_params (n ∷ ss) scope = count_params ss (scope_after scope n.statement) ∙ ap (λ m. m + count_of counted.Params ss) (more_params n.statement scope)
    ∙ three (length scope.params) (count_in counted.Params n.statement) (count_of counted.Params ss)
    ∙ ap (λ m. length scope.params + m) (sym (sum_by-cons (λ s. count_in counted.Params s.statement) n ss))
  where
    three : (a b c : ℕ) → (a + b) + c ≡ a + (b + c)
    three a b c = omega arith

pub no_bindings : (params : List (List ℕ)) → IsBinding params [] (record { fixed = 0; values = 0 })
no_bindings params = record { few = (omega arith, omega arith); fixed = λ k. bit-none k; values = λ k. bit-none k }

-- ---- forms so far

abbrev pub origin_of : Normal → Origin
origin_of x = x.origin

-- what is known before line i, and that forms of the lines from there complete the list
pub record At (count : ℕ) (f : Contents) (known : Known) (i : ℕ) (xs : List Normal) : Type 0 where
  pub scope : Scope
  pub before : Before
  pub faults : faults_from scope (drop i f.statements) ≡ []
  pub whole : scope_from nothing f.statements ≡ scope_from scope (drop i f.statements)
  pub names : known.graphs ≡ scope.graphs
  pub params : known.params ≡ params_in f
  pub is_known : IsKnown count known
  pub graphs : (n : ℕ) → n < 64 → graphs_known known n ≡ before.graphs n
  pub orders : orders_known known ≡ before.orders
  pub forms : (rest : List Normal) → AreNormals (params_in f) before (drop i f.statements) rest → AreNormals (params_in f) none_before f.statements (xs ++ rest)
  pub origins : origins_from 0 f.statements ≡ map origin_of xs ++ origins_from i (drop i f.statements)

pub at_first : (count : ℕ) (f : Contents) → name_faults f ≡ [] → IsFile f → (known : Known) → known ≡ record { params = params_in f; graphs = []; tables = [] } → At count f known 0 []
at_first count f none file known is = subst (λ k. At count f k 0 []) (sym is) (record {
  scope = nothing;
  before = none_before;
  faults = none;
  whole = refl;
  names = refl;
  params = refl;
  is_known = record { few = (let few = file.1.few_params in let all = count_params f.statements nothing in omega (arith, few, all)); each = refl; over = tt };
  graphs = λ n h. refl;
  orders = refl;
  forms = λ rest h. h;
  origins = refl;
})

pub at_last : (count : ℕ) (f : Contents) (known : Known) (i : ℕ) (xs : List Normal) → At count f known i xs → length f.statements ≤ i → AreNormals (params_in f) none_before f.statements xs
at_last count f known i xs at le =
    subst (AreNormals (params_in f) none_before f.statements) (append-nil xs)
    (at.forms [] (subst (λ ss. AreNormals (params_in f) at.before ss []) (sym (drop_all i f.statements le)) refl))

pub origins_at_last : (count : ℕ) (f : Contents) (known : Known) (i : ℕ) (xs : List Normal) → At count f known i xs → length f.statements ≤ i → map origin_of xs ≡ origins_from 0 f.statements
origins_at_last count f known i xs at le = sym (at.origins ∙ ap (λ ss. map origin_of xs ++ origins_from i ss) (drop_all i f.statements le) ∙ append-nil (map origin_of xs))

module _ (count : ℕ) (f : Contents) (known : Known) (i : ℕ) (xs : List Normal) (at : At count f known i xs) (s : Statement) (at_s : IsSomeAnd (slice_get f.statements i) (λ n. s ≡ n.statement)) where
  line : (n : Numbered) × (s ≡ n.statement) × (drop i f.statements ≡ n ∷ drop (i + 1) f.statements) × (slice_get f.statements i ≡ Some n)
  line = line_at f.statements i s at_s

  -- the line of the statement is the one that is answered
  same_line : (n : ℕ) → IsSomeAnd (slice_get f.statements i) (λ t. n ≡ t.line) → n ≡ line.0.line
  same_line n at_n = subst (λ o. IsSomeAnd o (λ t. n ≡ t.line)) line.3 at_n

  pub origins_after : (n : ℕ) → IsSomeAnd (slice_get f.statements i) (λ t. n ≡ t.line) →
      origins_from 0 f.statements ≡ map origin_of xs ++
      (origin i n s ++ origins_from (i + 1) (drop (i + 1) f.statements))
  origins_after n at_n = at.origins ∙ ap (λ ss. map origin_of xs ++ origins_from i ss) line.2
      ∙ ap₂ (λ l t. map origin_of xs ++ (origin i l t ++ origins_from (i + 1) (drop (i + 1) f.statements))) (sym (same_line n at_n)) (sym line.1)

  pub origins_added : (n : ℕ) (x : Normal) (o : Origin) → IsSomeAnd (slice_get f.statements i) (λ t. n ≡ t.line) → x.origin ≡ o → origin i n s ≡ o ∷ []
      → origins_from 0 f.statements ≡ map origin_of (xs ++ x ∷ []) ++ origins_from (i + 1) (drop (i + 1) f.statements)
  origins_added n x o at_n is one = origins_after n at_n ∙ ap (λ os. map origin_of xs ++ (os ++ origins_from (i + 1) (drop (i + 1) f.statements))) (one ∙ ap (λ p. p ∷ []) (sym is))
      ∙ sym (append_assoc (map origin_of xs) (x.origin ∷ []) (origins_from (i + 1) (drop (i + 1) f.statements)))
      ∙ ap (λ os. os ++ origins_from (i + 1) (drop (i + 1) f.statements)) (sym (map-append origin_of xs (x ∷ [])))

  pub whole_after : scope_from nothing f.statements ≡ scope_from (scope_after at.scope s) (drop (i + 1) f.statements)
  whole_after = at.whole ∙ ap (scope_from at.scope) line.2 ∙ ap (λ t. scope_from (scope_after at.scope t) (drop (i + 1) f.statements)) (sym line.1)

  pub forms_after : (rest : List Normal) →
      StatementNormals (params_in f) at.before s
      (AreNormals (params_in f) (with_statement (params_in f) at.before s) (drop (i + 1) f.statements)) rest →
      AreNormals (params_in f) none_before f.statements (xs ++ rest)
  forms_after rest h = at.forms rest (subst (λ ss. AreNormals (params_in f) at.before ss rest) (sym line.2)
      (subst (λ t. StatementNormals (params_in f) at.before t (AreNormals (params_in f) (with_statement (params_in f) at.before t) (drop (i + 1) f.statements)) rest) line.1 h))
