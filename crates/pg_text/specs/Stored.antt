-- How the contents of a file are stored as a value.
use Rattle.std.specs.Prelude.{◌≡◌, ℕ, ◌⊎◌, Bool, List, refl}
use Rattle.std.specs.Coded.{Coded, code_by, coded×, coded⊎, coded_ℕ, coded_bool, coded_list}
use Rattle.std.proofs.Common.{inl, inr}
use Rattle.pg_algebra.specs.declared.expr.Expr.{Expr}
use Rattle.pg_algebra.specs.contracts.expr.Expr as expr
use Rattle.pg_text.specs.declared.statement.Statement.{Statement}
use Rattle.pg_text.specs.declared.statement.Statement.TheVariants as statement
use Rattle.pg_text.specs.declared.statement.Numbered.{Numbered}
use Rattle.pg_text.specs.Contents.{Contents}

abbrev Name : Type 0
Name = List ℕ

abbrev Parts : Type 0
Parts = List Name ⊎ ((Name × Expr) ⊎ (Name × (Expr × List (Name × Bool))))

abbrev parts : Statement → Parts
parts (statement.Params names) = inl names
parts (statement.Graph name e) = inr (inl (name, e))
parts (statement.Scenario name e bindings) = inr (inr (name, (e, bindings)))

abbrev whole : Parts → Statement
whole (inl names) = statement.Params names
whole (inr (inl p)) = statement.Graph p.0 p.1
whole (inr (inr p)) = statement.Scenario p.0 p.1.0 p.1.1

pub whole_again : (s : Statement) → whole (parts s) ≡ s
whole_again (statement.Params names) = refl
whole_again (statement.Graph name e) = refl
whole_again (statement.Scenario name e bindings) = refl

abbrev name_code : Coded Name
name_code = coded_list coded_ℕ

abbrev pub statement_code : Coded Statement
statement_code = code_by Parts
    (coded⊎ (coded_list name_code) (coded⊎ (coded× name_code expr.the_row.coded) (coded× name_code (coded× expr.the_row.coded (coded_list (coded× name_code coded_bool))))))
    parts whole whole_again

abbrev pub numbered_code : Coded Numbered
numbered_code = code_by (ℕ × Statement) (coded× coded_ℕ statement_code) (λ s. (s.line, s.statement)) (λ p. record { line = p.0; statement = p.1 }) (λ _. refl)

abbrev pub contents_code : Coded Contents
contents_code = code_by (List Numbered × List Name) (coded× (coded_list numbered_code) (coded_list name_code))
    (λ f. (f.statements, f.operations)) (λ p. record { statements = p.0; operations = p.1 }) (λ _. refl)
