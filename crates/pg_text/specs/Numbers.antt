-- The operations of a text by their names, and those of its trees by their numbers.
use Rattle.std.specs.Prelude.{◌≡◌, ℕ, List, [], ◌∷◌, ◌++◌, map, slice_get, Option, Some, None}
use Rattle.pg_algebra.specs.declared.expr.Expr.{Expr, Empty, Op, Graph, When', Overlay', Sequence', Row_of-Expr, end_of-Expr, more_of-Expr}
use Rattle.pg_text.specs.declared.statement.Statement.{Statement}
use Rattle.pg_text.specs.declared.statement.Statement.TheVariants as statement
use Rattle.pg_text.specs.declared.statement.Numbered.{Numbered}
use Rattle.pg_text.specs.Grammar.{Side, condition, graph, Level, Phrase, single, joined, named, group, bit, negated, empty, reference, under}
use Rattle.pg_text.specs.Sentences.{Sentence, params_line, graph_line, scenario_line}
use Rattle.pg_text.specs.Contents.{Contents}
use Rattle.pg_text.specs.Text.{IsReadAs}

-- the operation names of a phrase, one after another
abbrev pub operations_in : {s : Side} {l : Level} → Phrase s l → List (List ℕ)
operations_in (single r x) = operations_in x
operations_in (joined r x y) = operations_in x ++ operations_in y
operations_in (named {s = condition} w) = []
operations_in (named {s = graph} w) = w ∷ []
operations_in (group x) = operations_in x
operations_in (bit b) = []
operations_in (negated x) = []
operations_in empty = []
operations_in (reference w) = []
operations_in (under c x) = operations_in x

abbrev pub sentence_operations : Sentence → List (List ℕ)
sentence_operations (params_line w ws) = []
sentence_operations (graph_line w x) = operations_in x
sentence_operations (scenario_line w x bs) = operations_in x

abbrev pub lines_operations : List (Option Sentence) → List (List ℕ)
lines_operations [] = []
lines_operations (None ∷ xs) = lines_operations xs
lines_operations (Some x ∷ xs) = sentence_operations x ++ lines_operations xs

-- the operation numbers of a tree, one after another
abbrev mutual
  pub numbers_of : Expr → List ℕ
  numbers_of Empty = []
  numbers_of (Op n) = n ∷ []
  numbers_of (Graph w) = []
  numbers_of (When' c shape (more_of-Expr e end_of-Expr)) = numbers_of e
  numbers_of (Overlay' shape members) = row_numbers members
  numbers_of (Sequence' shape members) = row_numbers members

  pub row_numbers : {m : _} → Row_of-Expr m → List ℕ
  row_numbers end_of-Expr = []
  row_numbers (more_of-Expr e rest) = numbers_of e ++ row_numbers rest

abbrev pub statement_numbers : Statement → List ℕ
statement_numbers (statement.Params names) = []
statement_numbers (statement.Graph name e) = numbers_of e
statement_numbers (statement.Scenario name e bindings) = numbers_of e

abbrev pub file_numbers : List Numbered → List ℕ
file_numbers [] = []
file_numbers (s ∷ ss) = statement_numbers s.statement ++ file_numbers ss

-- the numbers in the trees of a file stand, one after another, for the operation names in its text
abbrev pub NumbersStandForNames : Type 0
NumbersStandForNames = (bytes : List ℕ) (f : Contents) → (h : IsReadAs bytes f) → map (slice_get f.operations) (file_numbers f.statements) ≡ map Some (lines_operations h.sentences)
