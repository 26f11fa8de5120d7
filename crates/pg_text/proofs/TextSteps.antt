-- A text that is read line by line.
use Rattle.std.specs.Prelude.{◌≡◌, ℕ, ◌+◌, List, [], ◌∷◌, ◌++◌, length, Option, Some, None, refl}
use Rattle.std.proofs.Common.{sym, ◌∙◌, ap, ap₂, subst, arith, append_assoc, append-nil, length-append}
use Rattle.pg_text.specs.declared.statement.Statement.{Statement}
use Rattle.pg_text.specs.declared.statement.Numbered.{Numbered}
use Rattle.pg_text.specs.Lines.{graph_lines, IsFirstBad}
use Rattle.pg_text.specs.Sentences.{Sentence, IsLine, line_tree, names_after_line}
use Rattle.pg_text.specs.ReadingLines.{ReadsLine, NoLine}
use Rattle.pg_text.specs.Text.{IsGoodLine, AreSpelled, put_statement, statements_from, names_after, IsReadAs}
use Rattle.pg_text.proofs.TextLaws.{good_lines}

-- the first lines are read, and those of the rest are left
pub record IsDone (bytes rest : List ℕ) (number : ℕ) (statements : List Numbered) (operations : List (List ℕ)) : Type 0 where
  pub sentences : List (Option Sentence)
  pub lines : List (List ℕ)
  pub whole : graph_lines bytes ≡ lines ++ graph_lines rest
  pub count : number ≡ length lines
  pub spelled : AreSpelled sentences lines
  pub statements_are : statements ≡ statements_from 1 [] sentences
  pub operations_are : operations ≡ names_after [] sentences

pub at_first : (bytes : List ℕ) → IsDone bytes bytes 0 [] []
at_first bytes = record { sentences = []; lines = []; whole = refl; count = refl; spelled = tt; statements_are = refl; operations_are = refl }

-- ---- one line more

as_many : (xs : List (Option Sentence)) (lines : List (List ℕ)) → AreSpelled xs lines → length xs ≡ length lines
as_many [] [] h = refl
as_many [] (line ∷ lines) h = absurd h
as_many (x ∷ xs) [] h = absurd h
as_many (x ∷ xs) (line ∷ lines) h = let e = as_many xs lines h.1 in omega arith

spelled_more : (xs : List (Option Sentence)) (lines : List (List ℕ)) (x : Option Sentence) (line : List ℕ) → AreSpelled xs lines → IsLine x line → AreSpelled (xs ++ x ∷ []) (lines ++ line ∷ [])
spelled_more [] [] x line h k = (k, tt)
spelled_more [] (y ∷ lines) x line h k = absurd h
spelled_more (y ∷ xs) [] x line h k = absurd h
spelled_more (y ∷ xs) (z ∷ lines) x line h k = (h.0, spelled_more xs lines x line h.1 k)

names_more : (names : List (List ℕ)) (xs : List (Option Sentence)) (x : Option Sentence) → names_after names (xs ++ x ∷ []) ≡ names_after_line (names_after names xs) x
names_more names [] x = refl
names_more names (y ∷ xs) x = names_more (names_after_line names y) xs x

put-append : (n : ℕ) (s : Option Statement) (xs ys : List Numbered) → put_statement n s (xs ++ ys) ≡ put_statement n s xs ++ ys
put-append n None xs ys = refl
put-append n (Some s) xs ys = refl

statements_more : (n : ℕ) (names : List (List ℕ)) (xs : List (Option Sentence)) (x : Option Sentence)
    → statements_from n names (xs ++ x ∷ []) ≡ statements_from n names xs ++ put_statement (n + length xs) (line_tree (names_after names xs) x) []
statements_more n names [] x = ap (λ k. put_statement k (line_tree names x) []) (let e : n ≡ n + 0 = omega arith in e)
statements_more n names (y ∷ xs) x =
    ap (put_statement n (line_tree names y)) (statements_more (n + 1) (names_after_line names y) xs x ∙ ap (λ k. statements_from (n + 1) (names_after_line names y) xs ++ put_statement k (line_tree (names_after (names_after_line names y) xs) x) []) (let e : n + 1 + length xs ≡ n + length (y ∷ xs) = omega arith in e))
    ∙ put-append n (line_tree names y) (statements_from (n + 1) (names_after_line names y) xs) (put_statement (n + length (y ∷ xs)) (line_tree (names_after (names_after_line names y) xs) x) [])

-- the line is read, and its statement goes last
pub line_done : (bytes rest line after : List ℕ) (number : ℕ) (statements next : List Numbered) (operations names_new : List (List ℕ)) (tree : Option Statement)
    → IsDone bytes rest number statements operations → graph_lines rest ≡ line ∷ graph_lines after → ReadsLine operations line tree names_new
    → next ≡ statements ++ put_statement (number + 1) tree [] → IsDone bytes after (number + 1) next names_new
line_done bytes rest line after number statements next operations names_new tree done first reads is = record {
  sentences = done.sentences ++ reads.sentence ∷ [];
  lines = done.lines ++ line ∷ [];
  whole = done.whole ∙ ap (λ x. done.lines ++ x) first ∙ sym (append_assoc done.lines (line ∷ []) (graph_lines after));
  count = omega (arith, done.count, length-append done.lines (line ∷ []));
  spelled = spelled_more done.sentences done.lines reads.sentence line done.spelled reads.spelled;
  statements_are =
      is
      ∙ ap₂ (λ x k. x ++ put_statement k tree []) done.statements_are (let e : number + 1 ≡ 1 + length done.sentences = omega (arith, done.count, as_many done.sentences done.lines done.spelled) in e)
      ∙ ap (λ t. statements_from 1 [] done.sentences ++ put_statement (1 + length done.sentences) t []) (reads.means ∙ ap (λ n. line_tree n reads.sentence) done.operations_are)
      ∙ sym (statements_more 1 [] done.sentences reads.sentence);
  operations_are = reads.named ∙ ap (λ n. names_after_line n reads.sentence) done.operations_are ∙ sym (names_more [] done.sentences reads.sentence);
}

-- ---- the end of the text, and a bad line

pub all_done : (bytes rest : List ℕ) (number : ℕ) (statements : List Numbered) (operations : List (List ℕ)) → IsDone bytes rest number statements operations → graph_lines rest ≡ []
    → IsReadAs bytes (record { statements = statements; operations = operations })
all_done bytes rest number statements operations done ends = record {
  sentences = done.sentences;
  spelled = subst (AreSpelled done.sentences) (sym (done.whole ∙ ap (λ x. done.lines ++ x) ends ∙ append-nil done.lines)) done.spelled;
  statements = done.statements_are;
  operations = done.operations_are;
}

pub bad_line : (bytes rest line after : List ℕ) (number : ℕ) (statements : List Numbered) (operations : List (List ℕ)) → IsDone bytes rest number statements operations
    → graph_lines rest ≡ line ∷ graph_lines after → NoLine line → IsFirstBad IsGoodLine (graph_lines bytes) (number + 1)
bad_line bytes rest line after number statements operations done first bad = record {
  before = done.lines;
  line = line;
  after = graph_lines after;
  whole = done.whole ∙ ap (λ x. done.lines ++ x) first;
  number = ap (λ n. n + 1) done.count;
  good = good_lines done.sentences done.lines done.spelled;
  bad = λ good. bad good.0 good.1;
}
