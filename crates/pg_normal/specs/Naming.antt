-- The names that the lines of a file define and use, and the faults in them.
use Rattle.std.specs.Prelude.{◌≡◌, ℕ, Bool, List, [], ◌∷◌, ◌++◌, map, Option, Some, None, if◌then◌else◌}
use Rattle.std.specs.List.{flat_map}
use Rattle.cpog_base.specs.Names.{has_text}
use Rattle.pg_algebra.specs.declared.expr.Expr.{Expr, Empty, Op, Graph, When', Overlay', Sequence', Row_of-Expr, end_of-Expr, more_of-Expr}
use Rattle.pg_algebra.specs.Conditions.{params_of}
use Rattle.pg_text.specs.declared.statement.Statement.{Statement}
use Rattle.pg_text.specs.declared.statement.Statement.TheVariants as statement
use Rattle.pg_text.specs.declared.statement.Numbered.{Numbered}
use Rattle.pg_text.specs.Contents.{Contents}
use Rattle.pg_normal.specs.declared.scope.Scope.{Scope}
use Rattle.pg_normal.specs.declared.naming.NameFault.{NameFault}
use Rattle.pg_normal.specs.declared.naming.NameFault.TheVariants as fault

-- what an expression uses: a graph by reference, or a parameter in a condition
pub data Use : Type 0 where
  graph_used : List ℕ → Use
  param_used : List ℕ → Use

-- the uses in an expression, in the order in which they are written
abbrev mutual
  pub uses : Expr → List Use
  uses Empty = []
  uses (Op v) = []
  uses (Graph name) = graph_used name ∷ []
  uses (When' c shape (more_of-Expr e end_of-Expr)) = map param_used (params_of c) ++ uses e
  uses (Overlay' shape members) = row_uses members
  uses (Sequence' shape members) = row_uses members

  pub row_uses : {m : _} → Row_of-Expr m → List Use
  row_uses end_of-Expr = []
  row_uses (more_of-Expr e rest) = uses e ++ row_uses rest

-- ---- what lines define

-- no name of any kind
abbrev pub nothing : Scope
nothing = record { params = []; graphs = []; scenarios = [] }

-- with the names that the statement defines
abbrev pub scope_after : Scope → Statement → Scope
scope_after scope (statement.Params names) =
    record { params = scope.params ++ names; graphs = scope.graphs; scenarios = scope.scenarios }
scope_after scope (statement.Graph name e) =
    record { params = scope.params; graphs = scope.graphs ++ name ∷ []; scenarios = scope.scenarios }
scope_after scope (statement.Scenario name e bindings) =
    record { params = scope.params; graphs = scope.graphs; scenarios = scope.scenarios ++ name ∷ [] }

-- all names that a list of lines defines
abbrev pub scope_from : Scope → List Numbered → Scope
scope_from scope [] = scope
scope_from scope (s ∷ ss) = scope_from (scope_after scope s.statement) ss

-- all names of a file
abbrev pub scope_in : Contents → Scope
scope_in f = scope_from nothing f.statements

-- ---- faults, on a line of this number

-- the fault where the test holds
abbrev pub fault_if : Bool → NameFault → List NameFault
fault_if b f = if b then f ∷ [] else []

-- the fault where it does not
abbrev pub fault_unless : Bool → NameFault → List NameFault
fault_unless b f = if b then [] else f ∷ []

-- a name that is there already
abbrev pub again : ℕ → List (List ℕ) → List ℕ → List NameFault
again line names name = fault_if (has_text names name) (fault.Duplicate line name)

-- each of the names that is there already, or stands in front
abbrev pub all_again : ℕ → List (List ℕ) → List (List ℕ) → List NameFault
all_again line before [] = []
all_again line before (name ∷ names) = again line before name ++ all_again line (before ++ name ∷ []) names

-- a parameter that no earlier line defines
abbrev pub unknown_param : ℕ → List (List ℕ) → List ℕ → List NameFault
unknown_param line params name = fault_unless (has_text params name) (fault.UnknownParam line name)

-- a graph that no earlier line defines
abbrev pub unknown_graph : ℕ → List (List ℕ) → List ℕ → List NameFault
unknown_graph line graphs name = fault_unless (has_text graphs name) (fault.UnknownGraph line name)

-- a use of a name that no earlier line defines
abbrev pub unknown : ℕ → Scope → Use → List NameFault
unknown line scope (graph_used name) = unknown_graph line scope.graphs name
unknown line scope (param_used name) = unknown_param line scope.params name

-- the uses of an expression that no earlier line defines
abbrev pub expr_faults : ℕ → Scope → Expr → List NameFault
expr_faults line scope e = flat_map (unknown line scope) (uses e)

-- a parameter that is not defined, or is bound in front
abbrev pub binding_faults : ℕ → List (List ℕ) → List (List ℕ) → List (List ℕ × Bool) → List NameFault
binding_faults line params bound [] = []
binding_faults line params bound (b ∷ bs) =
    unknown_param line params b.0 ++ (again line bound b.0 ++ binding_faults line params (bound ++ b.0 ∷ []) bs)

-- all faults of a statement, in the order of their places, where earlier lines define this
abbrev pub statement_faults : ℕ → Scope → Statement → List NameFault
statement_faults line scope (statement.Params names) = all_again line scope.params names
statement_faults line scope (statement.Graph name e) = again line scope.graphs name ++ expr_faults line scope e
statement_faults line scope (statement.Scenario name e bindings) =
    again line scope.scenarios name ++ (expr_faults line scope e ++ binding_faults line scope.params [] bindings)

-- all faults of lines, in their order
abbrev pub faults_from : Scope → List Numbered → List NameFault
faults_from scope [] = []
faults_from scope (s ∷ ss) = statement_faults s.line scope s.statement ++ faults_from (scope_after scope s.statement) ss

-- all faults of names in a file, by line, and within a line by place
abbrev pub name_faults : Contents → List NameFault
name_faults f = faults_from nothing f.statements

-- the names of a file, which are in order
pub record IsScopeOf (f : Contents) (scope : Scope) : Type 0 where
  pub in_order : name_faults f ≡ []
  pub whole : scope ≡ scope_in f

-- ---- the first fault

-- the first of these, if there is one
abbrev pub first : List NameFault → Option NameFault
first [] = None
first (f ∷ fs) = Some f

-- the first of these faults; want of memory may be told at any time
abbrev pub IsFirst : List NameFault → NameFault → Type 0
IsFirst faults (fault.Duplicate line name) = first faults ≡ Some (fault.Duplicate line name)
IsFirst faults (fault.UnknownGraph line name) = first faults ≡ Some (fault.UnknownGraph line name)
IsFirst faults (fault.UnknownParam line name) = first faults ≡ Some (fault.UnknownParam line name)
IsFirst faults fault.Memory = Unit {0}

-- when each fault of names is told
abbrev pub IsNameFault : Contents → NameFault → Type 0
IsNameFault f x = IsFirst (name_faults f) x
