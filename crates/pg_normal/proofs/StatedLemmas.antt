-- What the statements of a file say of its scenarios: how many they are, their names, and their forms.
use Rattle.std.specs.Prelude.{◌≡◌, refl, ℕ, ◌+◌, Bool, List, [], ◌∷◌, ◌++◌, length, map}
use Rattle.std.proofs.Common.{ap, ◌∙◌, sym, subst, arith, append_assoc, append-nil}
use Rattle.std.proofs.lemmas.List.Sums.{sum_by-cons}
use Rattle.cpog_base.specs.declared.limits.Counted.TheVariants as counted
use Rattle.pg_algebra.specs.Conditions.{valuation}
use Rattle.pg_algebra.specs.Meaning.{graph_of}
use Rattle.pg_algebra.specs.declared.expr.Expr.{Expr}
use Rattle.pg_text.specs.declared.statement.Statement.{Statement}
use Rattle.pg_text.specs.declared.statement.Statement.TheVariants as statement
use Rattle.pg_text.specs.declared.statement.Numbered.{Numbered}
use Rattle.pg_text.specs.Contents.{Contents}
use Rattle.pg_text.specs.Text.{count_in, count_of}
use Rattle.pg_normal.specs.declared.normal.Kind.{Kind}
use Rattle.pg_normal.specs.declared.normal.Kind.TheVariants as kind
use Rattle.pg_normal.specs.declared.normal.Normal.{Normal}
use Rattle.pg_normal.specs.declared.scope.Scope.{Scope}
use Rattle.pg_normal.specs.Denoting.{Stated, stated, stated_from, stated_in, scenario_names_of}
use Rattle.pg_normal.specs.Naming.{nothing, scope_after, scope_from, scope_in}
use Rattle.pg_normal.specs.Normals.{Before, none_before, with_statement, params_in, binds, binds_one, IsNormal, StatementNormals, AreNormals, AreNormalsOf, origin, origins_from}
use Rattle.pg_normal.proofs.LineLemmas.{heads}
use Rattle.pg_normal.proofs.ListingLemmas.{origin_of}

-- ---- how many scenarios there are

count_behind : (params : List (List ℕ)) (before : Before) (line : ℕ) (s : Statement) (rest : List Stated) → length (stated params before line s ++ rest) ≡ count_in counted.Scenarios s + length rest
count_behind params before line (statement.Params names) rest = omega arith
count_behind params before line (statement.Graph name e) rest = omega arith
count_behind params before line (statement.Scenario name e bindings) rest = omega arith

pub count_stated : (params : List (List ℕ)) (before : Before) (ss : List Numbered) → length (stated_from params before ss) ≡ count_of counted.Scenarios ss
count_stated params before [] = refl
count_stated params before (s ∷ ss) =
    count_behind params before s.line s.statement (stated_from params (with_statement params before s.statement) ss)
    ∙ ap (λ n. count_in counted.Scenarios s.statement + n) (count_stated params (with_statement params before s.statement) ss)
    ∙ sym (sum_by-cons (λ (t : Numbered). count_in counted.Scenarios t.statement) s ss)

-- ---- their names

abbrev name_of : Stated → List ℕ
name_of x = x.name

module _ (params : List (List ℕ)) where
  names_behind : (before : Before) (ss : List Numbered) →
      ((sc : Scope) → (scope_from sc ss).scenarios ≡ sc.scenarios ++ map name_of (stated_from params before ss)) →
      (scope : Scope) (earlier : Before) (line : ℕ) (s : Statement)
      → before ≡ with_statement params earlier s →
      (scope_from (scope_after scope s) ss).scenarios ≡ scope.scenarios ++ map name_of
      (stated params earlier line s ++ stated_from params (with_statement params earlier s) ss)
  names_behind before ss later scope earlier line (statement.Params names) is =
      later (scope_after scope (statement.Params names))
      ∙ ap (λ b. scope.scenarios ++ map name_of (stated_from params b ss)) is
  names_behind before ss later scope earlier line (statement.Graph name e) is =
      later (scope_after scope (statement.Graph name e))
      ∙ ap (λ b. scope.scenarios ++ map name_of (stated_from params b ss)) is
  names_behind before ss later scope earlier line (statement.Scenario name e bindings) is = later (scope_after scope (statement.Scenario name e bindings))
      ∙ append_assoc scope.scenarios (name ∷ []) (map name_of (stated_from params before ss)) ∙ ap (λ b. scope.scenarios ++ name ∷ map name_of (stated_from params b ss)) is

  names_from : (before : Before) (ss : List Numbered) (scope : Scope) → (scope_from scope ss).scenarios ≡ scope.scenarios ++ map name_of (stated_from params before ss)
  names_from before [] scope = sym (append-nil scope.scenarios)
  names_from before (s ∷ ss) scope = names_behind (with_statement params before s.statement) ss (names_from (with_statement params before s.statement) ss) scope before s.line s.statement refl

-- the scenario names of a file are those of the scenarios that it states
pub scenarios_in_scope : (f : Contents) → (scope_in f).scenarios ≡ scenario_names_of f
scenarios_in_scope f = names_from (params_in f) none_before f.statements nothing

-- ---- their forms

-- the form of a scenario that is stated so
pub record IsFormFor (params : List (List ℕ)) (x : Stated) (y : Normal) : Type 0 where
  pub before : Before
  pub expr : Expr
  pub bindings : List (List ℕ × Bool)
  pub normal : IsNormal params before expr bindings y
  pub graph : (n : ℕ) → x.graph n ≡ graph_of (before.graphs n) (valuation params n) expr
  pub fixed : (k : ℕ) → x.fixed k ≡ binds params bindings k
  pub values : (k : ℕ) → x.values k ≡ binds_one params bindings k
  pub line : y.origin.line ≡ x.line

-- a graph's form is of no scenario, and a scenario's of the first that is left
abbrev pub IsNext : List (List ℕ) → Kind → List Stated → Normal → (List Stated → Type 0) → Type 0
IsNext params kind.Graph xs y Rest = Rest xs
IsNext params kind.Scenario [] y Rest = ⊥
IsNext params kind.Scenario (x ∷ xs) y Rest = IsFormFor params x y × Rest xs

-- the forms are those of these scenarios, and of graphs between them
abbrev pub AreFormsFor : List (List ℕ) → List Normal → List Stated → Type 0
AreFormsFor params [] xs = xs ≡ []
AreFormsFor params (y ∷ ys) xs = IsNext params y.origin.kind xs y (AreFormsFor params ys)

module _ (params : List (List ℕ)) (ss : List Numbered) (place : ℕ) where
  abbrev Later : Before → Type 0
  Later before = (ys : List Normal) → AreNormals params before ss ys → map origin_of ys ≡ origins_from (place + 1) ss → AreFormsFor params ys (stated_from params before ss)

  forms_behind : (before : Before) (line : ℕ) (s : Statement) → Later (with_statement params before s) →
      (ys : List Normal) → StatementNormals params before s (AreNormals params (with_statement params before s) ss) ys
      → map origin_of ys ≡ origin place line s ++ origins_from (place + 1) ss → AreFormsFor params ys (stated params before line s ++ stated_from params (with_statement params before s) ss)
  forms_behind before line (statement.Params names) later ys are origins = later ys are origins
  forms_behind before line (statement.Graph name e) later ys are origins =
      let both = heads _ _ _ _ (ap (map origin_of) (sym are.whole) ∙ origins) in
      subst (λ zs. AreFormsFor params zs (stated_from params (with_statement params before (statement.Graph name e)) ss)) (sym are.whole)
      (subst (λ k. IsNext params k (stated_from params
      (with_statement params before (statement.Graph name e)) ss) are.one (AreFormsFor params are.more))
      (sym (ap (λ o. o.kind) both.0)) (later are.more are.rest both.1))
  forms_behind before line (statement.Scenario name e bindings) later ys are origins =
      let both = heads _ _ _ _ (ap (map origin_of) (sym are.whole) ∙ origins) in
      let xs = stated params before line (statement.Scenario name e bindings) ++ stated_from params before ss in
      subst (λ zs. AreFormsFor params zs xs) (sym are.whole)
      (subst (λ k. IsNext params k xs are.one (AreFormsFor params are.more)) (sym (ap (λ o. o.kind) both.0)) (
        record { before = before; expr = e; bindings = bindings; normal = are.is; graph = λ n. refl; fixed = λ k. refl; values = λ k. refl; line = ap (λ o. o.line) both.0 },
        later are.more are.rest both.1,
      ))

forms_from : (params : List (List ℕ)) (ss : List Numbered) (place : ℕ) (before : Before) (ys : List Normal) →
    AreNormals params before ss ys → map origin_of ys ≡ origins_from place ss →
    AreFormsFor params ys (stated_from params before ss)
forms_from params [] place before ys are origins = subst (λ zs. AreFormsFor params zs []) (sym are) refl
forms_from params (s ∷ ss) place before ys are origins =
    forms_behind params ss place before s.line s.statement
    (forms_from params ss (place + 1) (with_statement params before s.statement)) ys are origins

pub forms_for : (f : Contents) (ys : List Normal) → AreNormalsOf f ys → AreFormsFor (params_in f) ys (stated_in f)
forms_for f ys are = forms_from (params_in f) f.statements 0 none_before ys are.forms are.origins
