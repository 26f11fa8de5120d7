-- The text that the normal forms of a file are written as.
use Rattle.std.specs.Prelude.{ℕ, List, [], ◌∷◌, ◌++◌, codes}
use Rattle.line_text.specs.Lines.{text_of}
use Rattle.pg_text.specs.declared.statement.Statement.{Statement}
use Rattle.pg_text.specs.declared.statement.Statement.TheVariants as statement
use Rattle.pg_text.specs.declared.statement.Numbered.{Numbered}
use Rattle.pg_text.specs.Contents.{Contents}
use Rattle.pg_text.specs.Writing.{row_text, with_text}
use Rattle.pg_normal.specs.declared.normal.Normal.{Normal}
use Rattle.pg_normal.specs.Normals.{params_in}
use Rattle.pg_normal.specs.Forms.{Form}
use Rattle.pg_normal.specs.Writing.{form_text}

-- the line of all parameters, and no line where there is none
abbrev pub params_lines : List (List ℕ) → List (List ℕ)
params_lines [] = []
params_lines (p ∷ ps) = (codes "params " ++ row_text (codes ", ") (p ∷ ps)) ∷ []

-- a keyword, a name and a form
abbrev pub definition_text : List ℕ → List ℕ → List ℕ → List ℕ
definition_text keyword name form = keyword ++ (name ++ (codes " = " ++ form))

-- the line of a statement whose form this is: a scenario's bindings stand behind it, and a statement of parameters
-- has none
abbrev pub form_lines : List (List ℕ) → List (List ℕ) → Statement → Form → List (List ℕ)
form_lines names params (statement.Params ws) form = []
form_lines names params (statement.Graph w e) form =
    definition_text (codes "graph ") w (form_text form names params) ∷ []
form_lines names params (statement.Scenario w e bs) form =
    (definition_text (codes "scenario ") w (form_text form names params) ++ with_text bs) ∷ []

-- the line that the first form stands in, and the lines of the rest
abbrev pub first_line : (Normal → List ℕ) → (List Normal → List (List ℕ)) → List Normal → List (List ℕ)
first_line line rest [] = []
first_line line rest (x ∷ xs) = line x ∷ rest xs

-- a graph or a scenario has a line with its form, a scenario's bindings behind it; a statement of parameters has none
abbrev pub statement_lines : List (List ℕ) → List (List ℕ) → Statement →
    (List Normal → List (List ℕ)) → List Normal → List (List ℕ)
statement_lines names params (statement.Params ws) rest xs = rest xs
statement_lines names params (statement.Graph w e) rest xs =
    first_line (λ x. definition_text (codes "graph ") w (form_text x.form names params)) rest xs
statement_lines names params (statement.Scenario w e bs) rest xs =
    first_line (λ x. definition_text (codes "scenario ") w (form_text x.form names params) ++ with_text bs) rest xs

-- the lines of statements, which take the forms in their order
abbrev pub normal_lines : List (List ℕ) → List (List ℕ) → List Numbered → List Normal → List (List ℕ)
normal_lines names params [] xs = []
normal_lines names params (s ∷ ss) xs = statement_lines names params s.statement (normal_lines names params ss) xs

-- the text of the forms of a file
abbrev pub normal_text : Contents → List Normal → List ℕ
normal_text f xs = text_of (params_lines (params_in f) ++ normal_lines f.operations (params_in f) f.statements xs)
