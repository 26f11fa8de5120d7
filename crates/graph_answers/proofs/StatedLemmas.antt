-- The names of a file's scenarios, statement by statement.
use Rattle.std.proofs.Common.{◌≡◌, ℕ, List, [], ◌∷◌, ◌++◌, map, refl, ap, ◌∙◌}
use Rattle.pg_text.specs.declared.statement.Statement.{Statement}
use Rattle.pg_text.specs.declared.statement.Statement.TheVariants as statement
use Rattle.pg_text.specs.declared.statement.Numbered.{Numbered}
use Rattle.pg_text.specs.Contents.{Contents}
use Rattle.pg_normal.specs.Denoting.{Stated, stated, stated_from, scenario_names_of}
use Rattle.pg_normal.specs.Normals.{Before, none_before, with_statement, params_in}

abbrev pub names_in : Statement → List (List ℕ)
names_in (statement.Params names) = []
names_in (statement.Graph name e) = []
names_in (statement.Scenario name e bindings) = name ∷ []

abbrev pub names_from : List Numbered → List (List ℕ)
names_from [] = []
names_from (s ∷ ss) = names_in s.statement ++ names_from ss

names_behind : (params : List (List ℕ)) (before : Before) (line : ℕ) (s : Statement) (rest : List Stated) → map (λ (x : Stated). x.name) (stated params before line s ++ rest) ≡ names_in s ++ map (λ (x : Stated). x.name) rest
names_behind params before line (statement.Params names) rest = refl
names_behind params before line (statement.Graph name e) rest = refl
names_behind params before line (statement.Scenario name e bindings) rest = refl

stated_names : (params : List (List ℕ)) (before : Before) (ss : List Numbered) → map (λ (x : Stated). x.name) (stated_from params before ss) ≡ names_from ss
stated_names params before [] = refl
stated_names params before (s ∷ ss) =
    names_behind params before s.line s.statement (stated_from params (with_statement params before s.statement) ss)
    ∙ ap (λ ns. names_in s.statement ++ ns) (stated_names params (with_statement params before s.statement) ss)

pub names_are : (f : Contents) → scenario_names_of f ≡ names_from f.statements
names_are f = stated_names (params_in f) none_before f.statements
