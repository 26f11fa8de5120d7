-- The text of a file is read as its statements, with the lines numbered from 1.
use Rattle.std.specs.Prelude.{◌≡◌, ◌≢◌, ◌+◌, ◌-◌, ◌==◌, refl, ℕ, Bool, true, false, not, List, [], ◌∷◌, map, length, slice_index, Option, Some, None}
use Rattle.std.proofs.Common.{ap, ap₂, sym, ◌∙◌, subst, arith, suc, zero}
use Rattle.std.specs.List.{list_all, AllByRecursion}
use Rattle.std.proofs.lemmas.Bool.{both_ways, and_parts}
use Rattle.std.proofs.lemmas.List.Sums.{sum_by-cons}
use Rattle.line_text.specs.Lines.{text_of}
use Rattle.line_text.proofs.SplittingLemmas.{lines_again}
use Rattle.cpog_base.specs.declared.limits.Counted.{Counted}
use Rattle.cpog_base.specs.declared.limits.Counted.TheVariants as counted
use Rattle.pg_text.specs.declared.statement.Numbered.{Numbered}
use Rattle.pg_text.specs.Lines.{without_return, graph_lines}
use Rattle.pg_text.specs.Sentences.{Sentence, IsLine, names_after_sentence, sentence_tree}
use Rattle.pg_text.specs.Contents.{Contents}
use Rattle.pg_text.specs.Text.{AreSpelled, statements_from, names_after, IsReadAs, count_in, count_of, IsFileOf, IsFile}
use Rattle.pg_text.specs.Writing.{statement_text, file_text, numbered_from, renumbered}
use Rattle.pg_text.proofs.PlainTexts.{Extends, extends-more, extends-self}
use Rattle.pg_text.proofs.Spelling.{in_line}
use Rattle.pg_text.proofs.SentenceTexts.{plain_sentence, names-sentence, tree-sentence, extends-sentence, IsTextOf, statement_again}

-- ---- lines without line ends

not_both : (b : Bool) → not b ≡ true → b ≡ false
not_both true h = absurd (both_ways false refl h)
not_both false h = refl

no_feed : (b : ℕ) → in_line b ≡ true → b ≢ 10
no_feed b h e = both_ways (in_line 10) refl (ap in_line (sym e) ∙ h)

no_feeds : (line : List ℕ) → list_all in_line line ≡ true → AllByRecursion (λ b. b ≢ 10) line
no_feeds [] h = tt
no_feeds (b ∷ bs) h = (no_feed b (and_parts (in_line b) (list_all in_line bs) h).0, no_feeds bs (and_parts (in_line b) (list_all in_line bs) h).1)

at_each : (p : ℕ → Bool) (xs : List ℕ) (i : ℕ) → list_all p xs ≡ true → p 0 ≡ true → p (slice_index xs i) ≡ true
at_each p [] i h zero_passes = zero_passes
at_each p (x ∷ xs) zero h zero_passes = (and_parts (p x) (list_all p xs) h).0
at_each p (x ∷ xs) (suc i) h zero_passes = at_each p xs i (and_parts (p x) (list_all p xs) h).1 zero_passes

no_return : (line : List ℕ) → list_all in_line line ≡ true → without_return line ≡ line
no_return line h =
    let last = slice_index line (length line - 1) in
    let other : (last == 13) ≡ false = not_both (last == 13) (and_parts (not (last == 10)) (not (last == 13)) (at_each in_line line (length line - 1) h refl)).1 in
    rw other refl

no_returns : (lines : List (List ℕ)) → AllByRecursion (λ line. list_all in_line line ≡ true) lines → map without_return lines ≡ lines
no_returns [] h = refl
no_returns (line ∷ lines) h = ap₂ (λ l ls. l ∷ ls) (no_return line h.0) (no_returns lines h.1)

each_no_feed : (lines : List (List ℕ)) → AllByRecursion (λ line. list_all in_line line ≡ true) lines → AllByRecursion (λ line. AllByRecursion (λ b. b ≢ 10) line) lines
each_no_feed [] h = tt
each_no_feed (line ∷ lines) h = (no_feeds line h.0, each_no_feed lines h.1)

lines_stand : (lines : List (List ℕ)) → AllByRecursion (λ line. list_all in_line line ≡ true) lines → graph_lines (text_of lines) ≡ lines
lines_stand lines h = ap (map without_return) (lines_again lines (each_no_feed lines h)) ∙ no_returns lines h

-- ---- the statements, one a line

abbrev plain_lines : List (Option Sentence) → List (Option Sentence)
plain_lines [] = []
plain_lines (None ∷ xs) = plain_lines xs
plain_lines (Some x ∷ xs) = Some (plain_sentence x) ∷ plain_lines xs

abbrev texts : List (List ℕ) → List Numbered → List (List ℕ)
texts final ss = map (λ s. statement_text final s.statement) ss

names-lines : (names : List (List ℕ)) (xs : List (Option Sentence)) → names_after names (plain_lines xs) ≡ names_after names xs
names-lines names [] = refl
names-lines names (None ∷ xs) = names-lines names xs
names-lines names (Some x ∷ xs) = ap (λ n. names_after n (plain_lines xs)) (names-sentence names x) ∙ names-lines (names_after_sentence names x) xs

pub extends-lines : (names : List (List ℕ)) (xs : List (Option Sentence)) → Extends names (names_after names xs)
extends-lines names [] = extends-self names
extends-lines names (None ∷ xs) = extends-lines names xs
extends-lines names (Some x ∷ xs) = extends-more names (names_after_sentence names x) (names_after (names_after_sentence names x) xs) (extends-sentence names x) (extends-lines (names_after_sentence names x) xs)

numbered-lines : (m n : ℕ) (names : List (List ℕ)) (xs : List (Option Sentence)) → numbered_from m (statements_from n names xs) ≡ statements_from m names (plain_lines xs)
numbered-lines m n names [] = refl
numbered-lines m n names (None ∷ xs) = numbered-lines m (n + 1) names xs
numbered-lines m n names (Some x ∷ xs) =
    ap₂ (λ t rest. record { line = m; statement = t } ∷ rest) (sym (tree-sentence names x))
    (numbered-lines (m + 1) (n + 1) (names_after_sentence names x) xs ∙ ap (λ k. statements_from (m + 1) k (plain_lines xs)) (sym (names-sentence names x)))

line_again : (names final : List (List ℕ)) (x : Sentence) (xs : List (Option Sentence)) (line : List ℕ) → IsLine (Some x) line → Extends (names_after (names_after_sentence names x) xs) final → IsTextOf (plain_sentence x) (statement_text final (sentence_tree names x))
line_again names final x xs line h ext =
    statement_again names final x line h (extends-more (names_after_sentence names x) (names_after (names_after_sentence names x) xs) final (extends-lines (names_after_sentence names x) xs) ext)

lines_spelled : (n : ℕ) (names final : List (List ℕ)) (xs : List (Option Sentence)) (lines : List (List ℕ)) → AreSpelled xs lines → Extends (names_after names xs) final → AreSpelled (plain_lines xs) (texts final (statements_from n names xs))
lines_spelled n names final [] lines h ext = tt
lines_spelled n names final (x ∷ xs) [] h ext = absurd h
lines_spelled n names final (None ∷ xs) (line ∷ lines) h ext = lines_spelled (n + 1) names final xs lines h.1 ext
lines_spelled n names final (Some x ∷ xs) (line ∷ lines) h ext = ((line_again names final x xs line h.0 ext).0, lines_spelled (n + 1) (names_after_sentence names x) final xs lines h.1 ext)

lines-in_line : (n : ℕ) (names final : List (List ℕ)) (xs : List (Option Sentence)) (lines : List (List ℕ)) → AreSpelled xs lines → Extends (names_after names xs) final
    → AllByRecursion (λ line. list_all in_line line ≡ true) (texts final (statements_from n names xs))
lines-in_line n names final [] lines h ext = tt
lines-in_line n names final (x ∷ xs) [] h ext = absurd h
lines-in_line n names final (None ∷ xs) (line ∷ lines) h ext = lines-in_line (n + 1) names final xs lines h.1 ext
lines-in_line n names final (Some x ∷ xs) (line ∷ lines) h ext = ((line_again names final x xs line h.0 ext).1, lines-in_line (n + 1) (names_after_sentence names x) final xs lines h.1 ext)

-- ---- counts

same_count : (what : Counted) (n : ℕ) (ss : List Numbered) → count_of what (numbered_from n ss) ≡ count_of what ss
same_count what n [] = refl
same_count what n (s ∷ ss) =
    sum_by-cons (λ t. count_in what t.statement) (record { line = n; statement = s.statement }) (numbered_from (n + 1) ss)
    ∙ ap (λ k. count_in what s.statement + k) (same_count what (n + 1) ss)
    ∙ sym (sum_by-cons (λ t. count_in what t.statement) s ss)

-- ---- the file

text_reads : (bytes : List ℕ) (f : Contents) → IsReadAs bytes f → IsReadAs (file_text f) (renumbered f)
text_reads bytes f h =
    let ext : Extends (names_after [] h.sentences) f.operations = subst (Extends (names_after [] h.sentences)) (sym h.operations) (extends-self (names_after [] h.sentences)) in
    let lines = texts f.operations (statements_from 1 [] h.sentences) in
    let same : graph_lines (file_text f) ≡ lines =
    ap (λ s. graph_lines (text_of (texts f.operations s))) h.statements ∙ lines_stand lines (lines-in_line 1 [] f.operations h.sentences (graph_lines bytes) h.spelled ext)
    in
    record {
      sentences = plain_lines h.sentences;
      spelled = subst (AreSpelled (plain_lines h.sentences)) (sym same) (lines_spelled 1 [] f.operations h.sentences (graph_lines bytes) h.spelled ext);
      statements = ap (numbered_from 1) h.statements ∙ numbered-lines 1 1 [] h.sentences;
      operations = h.operations ∙ sym (names-lines [] h.sentences);
    }

pub text_is_file : (f : Contents) → IsFile f → IsFileOf (file_text f) (renumbered f)
text_is_file f (bytes, h) = record {
  reads = text_reads bytes f h.reads;
  few_params = omega (arith, same_count counted.Params 1 f.statements, h.few_params);
  few_graphs = omega (arith, same_count counted.Graphs 1 f.statements, h.few_graphs);
  few_scenarios = omega (arith, same_count counted.Scenarios 1 f.statements, h.few_scenarios);
  few_operations = h.few_operations;
}

pub written_file : (f : Contents) (bytes : List ℕ) → IsFile f → bytes ≡ file_text f → IsFileOf bytes (renumbered f)
written_file f bytes h is = subst (λ b. IsFileOf b (renumbered f)) (sym is) (text_is_file f h)
