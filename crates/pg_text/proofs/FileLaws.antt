-- A file has few statements.
use Rattle.std.specs.Prelude.{ℕ, ◌+◌, ◌≤◌, List, [], ◌∷◌, length, Option, Some, None}
use Rattle.std.proofs.Common.{sym, subst, arith}
use Rattle.cpog_base.specs.declared.limits.Counted.TheVariants as counted
use Rattle.pg_text.specs.declared.statement.Statement.TheVariants as statement
use Rattle.pg_text.specs.declared.statement.Numbered.{Numbered}
use Rattle.pg_text.specs.Grammar.{tree}
use Rattle.pg_text.specs.Sentences.{Sentence, params_line, graph_line, scenario_line, line_tree, names_after_line}
use Rattle.pg_text.specs.Contents.{Contents}
use Rattle.pg_text.specs.Text.{put_statement, statements_from, count_in, count_of, IsFile}
use Rattle.std.proofs.lemmas.List.Sums.{sum_by-cons}

abbrev all_counts : List Numbered → ℕ
all_counts s = count_of counted.Params s + (count_of counted.Graphs s + count_of counted.Scenarios s)

one_more : (s : Numbered) (rest : List Numbered) → 1 ≤ count_in counted.Params s.statement + (count_in counted.Graphs s.statement + count_in counted.Scenarios s.statement)
    → length rest ≤ all_counts rest → length (s ∷ rest) ≤ all_counts (s ∷ rest)
one_more s rest some h = omega (arith, some, h, sum_by-cons (λ t. count_in counted.Params t.statement) s rest, sum_by-cons (λ t. count_in counted.Graphs t.statement) s rest, sum_by-cons (λ t. count_in counted.Scenarios t.statement) s rest)

counted_once : (n : ℕ) (names : List (List ℕ)) (x : Option Sentence) (rest : List Numbered) → length rest ≤ all_counts rest → length (put_statement n (line_tree names x) rest) ≤ all_counts (put_statement n (line_tree names x) rest)
counted_once n names None rest h = h
counted_once n names (Some (params_line w ws)) rest h = one_more (record { line = n; statement = statement.Params (w ∷ ws) }) rest (omega arith) h
counted_once n names (Some (graph_line w x)) rest h = one_more (record { line = n; statement = statement.Graph w (tree names x) }) rest (omega arith) h
counted_once n names (Some (scenario_line w x bs)) rest h = one_more (record { line = n; statement = statement.Scenario w (tree names x) bs }) rest (omega arith) h

counted-all : (n : ℕ) (names : List (List ℕ)) (xs : List (Option Sentence)) → length (statements_from n names xs) ≤ all_counts (statements_from n names xs)
counted-all n names [] = omega arith
counted-all n names (x ∷ xs) = counted_once n names x (statements_from (n + 1) (names_after_line names x) xs) (counted-all (n + 1) (names_after_line names x) xs)

pub few_statements : (f : Contents) → IsFile f → length f.statements ≤ 326
few_statements f (bytes, h) =
    let c : length f.statements ≤ all_counts f.statements = subst (λ s. length s ≤ all_counts s) (sym h.reads.statements) (counted-all 1 [] h.reads.sentences) in
    omega (arith, c, h.few_params, h.few_graphs, h.few_scenarios)
