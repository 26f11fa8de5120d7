-- The text that a file is written as.
use Rattle.std.specs.Prelude.{ℕ, ◌+◌, Bool, true, false, List, [], ◌∷◌, ◌++◌, map, codes}
use Rattle.std.proofs.Common.{get_or}
use Rattle.line_text.specs.Lines.{text_of}
use Rattle.pg_algebra.specs.declared.cond.Cond.{Cond, Bit, Param, Not', And', Or', Row_of-Cond, end_of-Cond, more_of-Cond}
use Rattle.pg_algebra.specs.declared.expr.Expr.{Expr, Empty, Op, Graph, When', Overlay', Sequence', Row_of-Expr, end_of-Expr, more_of-Expr}
use Rattle.pg_text.specs.declared.position.Position.{Position}
use Rattle.pg_text.specs.declared.position.Position.TheVariants as position
use Rattle.pg_text.specs.declared.statement.Statement.{Statement}
use Rattle.pg_text.specs.declared.statement.Statement.TheVariants as statement
use Rattle.pg_text.specs.declared.statement.Numbered.{Numbered}
use Rattle.pg_text.specs.Grammar.{Row, product, sum}
use Rattle.pg_text.specs.Contents.{Contents}

-- the text where it is needed
abbrev pub when_needed : Bool → List ℕ → List ℕ
when_needed false text = []
when_needed true text = text

-- whether a row needs parentheses in the place: a sum in a sum, in a product and behind a prefix, and a product in a product and behind a prefix
abbrev pub needs : Position → Row → Bool
needs position.Sum r = false
needs position.Product product = false
needs position.Product sum = true
needs position.Factor r = true

abbrev pub placed : Position → Row → List ℕ → List ℕ
placed p r text = when_needed (needs p r) (codes "(") ++ (text ++ when_needed (needs p r) (codes ")"))

abbrev pub bit_text : Bool → List ℕ
bit_text false = codes "0"
bit_text true = codes "1"

-- ---- conditions

abbrev mutual
  pub cond_text : Position → Cond → List ℕ
  cond_text p (Bit b) = bit_text b
  cond_text p (Param w) = w
  cond_text p (Not' shape (more_of-Cond c end_of-Cond)) = codes "!" ++ cond_text position.Factor c
  cond_text p (And' shape members) = placed p product (cond_row (codes " & ") position.Factor members)
  cond_text p (Or' shape members) = placed p sum (cond_row (codes " | ") position.Product members)

  -- members with a sign between them
  pub cond_row : {m : _} → List ℕ → Position → Row_of-Cond m → List ℕ
  cond_row sign p end_of-Cond = []
  cond_row sign p (more_of-Cond c rest) = cond_text p c ++ cond_rest sign p rest

  pub cond_rest : {m : _} → List ℕ → Position → Row_of-Cond m → List ℕ
  cond_rest sign p end_of-Cond = []
  cond_rest sign p (more_of-Cond c rest) = sign ++ (cond_text p c ++ cond_rest sign p rest)

-- ---- expressions over named operations

abbrev mutual
  pub expr_text : List (List ℕ) → Position → Expr → List ℕ
  expr_text names p Empty = codes "empty"
  expr_text names p (Op n) = get_or names n []
  expr_text names p (Graph w) = codes "@" ++ w
  expr_text names p (When' c shape (more_of-Expr e end_of-Expr)) = codes "[" ++ (cond_text position.Sum c ++ (codes "] " ++ expr_text names position.Factor e))
  expr_text names p (Overlay' shape members) = placed p sum (expr_row names (codes " + ") position.Product members)
  expr_text names p (Sequence' shape members) = placed p product (expr_row names (codes " -> ") position.Factor members)

  pub expr_row : {m : _} → List (List ℕ) → List ℕ → Position → Row_of-Expr m → List ℕ
  expr_row names sign p end_of-Expr = []
  expr_row names sign p (more_of-Expr e rest) = expr_text names p e ++ expr_rest names sign p rest

  pub expr_rest : {m : _} → List (List ℕ) → List ℕ → Position → Row_of-Expr m → List ℕ
  expr_rest names sign p end_of-Expr = []
  expr_rest names sign p (more_of-Expr e rest) = sign ++ (expr_text names p e ++ expr_rest names sign p rest)

-- ---- lines

-- texts with a sign between them
abbrev pub rest_text : List ℕ → List (List ℕ) → List ℕ
rest_text sign [] = []
rest_text sign (t ∷ ts) = sign ++ (t ++ rest_text sign ts)

abbrev pub row_text : List ℕ → List (List ℕ) → List ℕ
row_text sign [] = []
row_text sign (t ∷ ts) = t ++ rest_text sign ts

abbrev pub bind_text : List ℕ × Bool → List ℕ
bind_text (w, b) = w ++ (codes " = " ++ bit_text b)

abbrev pub with_text : List (List ℕ × Bool) → List ℕ
with_text [] = []
with_text (b ∷ bs) = codes " with " ++ row_text (codes ", ") (map bind_text (b ∷ bs))

abbrev pub statement_text : List (List ℕ) → Statement → List ℕ
statement_text names (statement.Params ws) = codes "params " ++ row_text (codes ", ") ws
statement_text names (statement.Graph w e) = codes "graph " ++ (w ++ (codes " = " ++ expr_text names position.Sum e))
statement_text names (statement.Scenario w e bs) = codes "scenario " ++ (w ++ (codes " = " ++ (expr_text names position.Sum e ++ with_text bs)))

-- a line for each statement
abbrev pub file_text : Contents → List ℕ
file_text f = text_of (map (λ s. statement_text f.operations s.statement) f.statements)

-- the statements with the numbers of lines from n on
abbrev pub numbered_from : ℕ → List Numbered → List Numbered
numbered_from n [] = []
numbered_from n (s ∷ ss) = record { line = n; statement = s.statement } ∷ numbered_from (n + 1) ss

abbrev pub renumbered : Contents → Contents
renumbered f = record { statements = numbered_from 1 f.statements; operations = f.operations }
