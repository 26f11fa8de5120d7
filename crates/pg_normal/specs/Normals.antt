-- The normal forms that a file asks for, and the parameters that its statements bind.
use Rattle.std.specs.Prelude.{◌≡◌, ℕ, ◌+◌, ◌^◌, ◌<◌, ◌==◌, Bool, false, ◌&&◌, List, [], ◌∷◌, ◌++◌, map, Option, Some, None, if◌then◌else◌}
use Rattle.std.specs.List.{list_any}
use Rattle.std.specs.Str.{bytes_eq}
use Rattle.cpog_base.specs.Names.{place_of}
use Rattle.cpog_base.specs.declared.limits.TheConstants.{PARAM_LIMIT}
use Rattle.cpog_defs.specs.Codes.{bit}
use Rattle.pg_algebra.specs.Graphs.{empty}
use Rattle.pg_algebra.specs.declared.expr.Expr.{Expr}
use Rattle.pg_algebra.specs.Conditions.{valuation}
use Rattle.pg_algebra.specs.Meaning.{Earlier, graph_of}
use Rattle.pg_text.specs.declared.statement.Statement.{Statement}
use Rattle.pg_text.specs.declared.statement.Statement.TheVariants as statement
use Rattle.pg_text.specs.declared.statement.Numbered.{Numbered}
use Rattle.pg_text.specs.Contents.{Contents}
use Rattle.pg_normal.specs.declared.binding.Partial.{Partial}
use Rattle.pg_normal.specs.declared.normal.Normal.{Normal}
use Rattle.pg_normal.specs.declared.normal.Origin.{Origin}
use Rattle.pg_normal.specs.declared.normal.Kind.TheVariants as kind
use Rattle.pg_normal.specs.Appearing.{first_appearing}
use Rattle.pg_normal.specs.Forms.{IsFormOf}
use Rattle.pg_normal.specs.Naming.{scope_in, name_faults}

-- the parameters of a file, in the order of their definitions
abbrev pub params_in : Contents → List (List ℕ)
params_in f = (scope_in f).params

-- ---- earlier graphs

-- what earlier lines make of a name: its graph under each valuation by number, and its operations in order
pub record Before : Type 0 where
  pub graphs : ℕ → Earlier
  pub orders : List ℕ → List ℕ

-- no line is earlier: each name is the empty graph
abbrev pub none_before : Before
none_before = record { graphs = λ n name. empty; orders = λ name. [] }

-- with the graph of a statement under its name
abbrev pub with_statement : List (List ℕ) → Before → Statement → Before
with_statement params before (statement.Params names) = before
with_statement params before (statement.Graph name e) = record {
  graphs = λ n other.
      if bytes_eq other name then graph_of (before.graphs n) (valuation params n) e else before.graphs n other;
  orders = λ other. if bytes_eq other name then first_appearing before.orders e else before.orders other;
}
with_statement params before (statement.Scenario name e bindings) = before

-- ---- bindings

-- whether this is the place
abbrev pub is_place : ℕ → Option ℕ → Bool
is_place k None = false
is_place k (Some i) = i == k

-- whether the parameter at place k is bound
abbrev pub binds : List (List ℕ) → List (List ℕ × Bool) → ℕ → Bool
binds params bindings k = list_any (λ b. is_place k (place_of params b.0)) bindings

-- whether the parameter at place k is bound to 1
abbrev pub binds_one : List (List ℕ) → List (List ℕ × Bool) → ℕ → Bool
binds_one params bindings k = list_any (λ b. is_place k (place_of params b.0) && b.1) bindings

-- bit k of the masks says whether parameter k is bound, and to what
pub record IsBinding (params : List (List ℕ)) (bindings : List (List ℕ × Bool)) (p : Partial) : Type 0 where
  pub few : (p.fixed < 2 ^ PARAM_LIMIT) × (p.values < 2 ^ PARAM_LIMIT)
  pub fixed : (k : ℕ) → bit p.fixed k ≡ binds params bindings k
  pub values : (k : ℕ) → bit p.values k ≡ binds_one params bindings k

-- ---- forms

-- the form of an expression over earlier graphs under every valuation, and the parameters that are bound
pub record IsNormal (params : List (List ℕ)) (before : Before) (e : Expr) (bindings : List (List ℕ × Bool))
    (x : Normal) : Type 0 where
  pub form : IsFormOf (λ n. graph_of (before.graphs n) (valuation params n) e) (first_appearing before.orders e) x.form
  pub binding : IsBinding params bindings x.binding

-- the first of the list is such a form, and the rest follow
pub record BeginsWithNormal (params : List (List ℕ)) (before : Before) (e : Expr) (bindings : List (List ℕ × Bool))
    (xs : List Normal) (Rest : List Normal → Type 0) : Type 0 where
  pub one : Normal
  pub more : List Normal
  pub whole : xs ≡ one ∷ more
  pub is : IsNormal params before e bindings one
  pub rest : Rest more

-- a statement of parameters has no form, a graph's binds none
abbrev pub StatementNormals : List (List ℕ) → Before → Statement → (List Normal → Type 0) → List Normal → Type 0
StatementNormals params before (statement.Params names) Rest xs = Rest xs
StatementNormals params before (statement.Graph name e) Rest xs = BeginsWithNormal params before e [] xs Rest
StatementNormals params before (statement.Scenario name e bindings) Rest xs =
    BeginsWithNormal params before e bindings xs Rest

-- one form for each graph and scenario of the lines, in their order
abbrev pub AreNormals : List (List ℕ) → Before → List Numbered → List Normal → Type 0
AreNormals params before [] xs = xs ≡ []
AreNormals params before (s ∷ ss) xs =
    StatementNormals params before s.statement (AreNormals params (with_statement params before s.statement) ss) xs

-- ---- where forms come from

-- of a graph or a scenario its place among the statements, its line and its kind; a statement of parameters has no form
abbrev pub origin : ℕ → ℕ → Statement → List Origin
origin place line (statement.Params names) = []
origin place line (statement.Graph name e) = record { statement = place; line = line; kind = kind.Graph } ∷ []
origin place line (statement.Scenario name e bindings) =
    record { statement = place; line = line; kind = kind.Scenario } ∷ []

-- of each graph and scenario, where these statements stand from a place on
abbrev pub origins_from : ℕ → List Numbered → List Origin
origins_from place [] = []
origins_from place (s ∷ ss) = origin place s.line s.statement ++ origins_from (place + 1) ss

-- ---- the forms of a file

-- the forms of a file whose names are in order, and where each comes from
pub record AreNormalsOf (f : Contents) (xs : List Normal) : Type 0 where
  pub names : name_faults f ≡ []
  pub forms : AreNormals (params_in f) none_before f.statements xs
  pub origins : map (λ x. x.origin) xs ≡ origins_from 0 f.statements
