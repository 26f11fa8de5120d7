-- The names of a file's operations and scenarios are names, and those of operations are distinct.
use Rattle.std.proofs.Common.{◌≡◌, ℕ, ◌+◌, Bool, true, false, ◌||◌, if◌then◌else◌, List, [], ◌∷◌, ◌++◌, Some, None, refl, sym, ap, ◌∙◌, subst, inl, inr}
use Rattle.std.specs.Prelude.{Option}
use Rattle.std.specs.Str.{bytes_eq}
use Rattle.std.specs.List.{AllByRecursion, IsDistinct}
use Rattle.std.specs.Cmp.Lexicographic.{bytes_decides}
use Rattle.std.proofs.lemmas.Bool.{cases_Bool, both_ways, false_from_ne_true}
use Rattle.std.proofs.lemmas.List.Elements.{All-from_recursion}
use Rattle.std.proofs.lemmas.Map.Keys.{IsDistinct-cons, IsDistinct-head, IsDistinct-tail}
use Rattle.cpog_base.specs.Names.{has_text, with_text, AreDistinct}
use Rattle.line_text.specs.Words.{is_free_name}
use Rattle.netlist_verilog.specs.Module.{AreNames}
use Rattle.pg_text.specs.Lines.{graph_lines}
use Rattle.pg_text.specs.Grammar.{Side, condition, graph, Level, Phrase, single, joined, named, group, bit, negated, empty, reference, under, tokens, names_after}
use Rattle.pg_text.specs.Sentences.{Sentence, params_line, graph_line, scenario_line, left_tokens, with_tokens, IsLine, names_after_line}
use Rattle.pg_text.specs.Contents.{Contents}
use Rattle.pg_text.specs.Text.{AreSpelled, put_statement, statements_from, IsReadAs, IsFile}
use Rattle.pg_text.specs.Text as text
use Rattle.pg_text.proofs.NameLemmas.{all-with_text}
use Rattle.pg_text.proofs.PhraseLaws.{parts_begin}
use Rattle.pg_text.proofs.PlainPhrases.{HasNames}
use Rattle.pg_text.proofs.Spelling.{spelled-names}
use Rattle.pg_normal.specs.Denoting.{scenario_names_of}
use Rattle.graph_answers.proofs.StatedLemmas.{names_from, names_are}

abbrev IsFree : List ℕ → Type 0
IsFree w = is_free_name w ≡ true

abbrev AreFree : List (List ℕ) → Type 0
AreFree names = AllByRecursion IsFree names

-- ---- operations are names

free-phrase : {s : Side} {l : Level} (names : List (List ℕ)) (p : Phrase s l) → HasNames p → AreFree names → AreFree (names_after names p)
free-phrase names (single r x) h free = free-phrase names x h free
free-phrase names (joined r x y) h free = free-phrase (names_after names x) y h.1 (free-phrase names x h.0 free)
free-phrase names (named {s = condition} w) h free = free
free-phrase names (named {s = graph} w) h free = all-with_text IsFree names w free h
free-phrase names (group x) h free = free-phrase names x h free
free-phrase names (bit b) h free = free
free-phrase names (negated x) h free = free
free-phrase names empty h free = free
free-phrase names (reference w) h free = free
free-phrase names (under c x) h free = free-phrase names x h.1 free

free-line : (names : List (List ℕ)) (x : Option Sentence) (line : List ℕ) → IsLine x line → AreFree names → AreFree (names_after_line names x)
free-line names None line h free = free
free-line names (Some (params_line w ws)) line h free = free
free-line names (Some (graph_line w p)) line h free =
    let m = parts_begin (left_tokens w) (tokens p) h.0.1.0 h.0.0 h.0.1.2 in
    free-phrase names p (spelled-names p m.0 h.0.0 m.2) free
free-line names (Some (scenario_line w p bs)) line h free =
    let m = parts_begin (left_tokens w) (tokens p ++ with_tokens bs) h.0.1.0 h.0.0 h.0.1.2 in
    let o = parts_begin (tokens p) (with_tokens bs) m.0 h.0.0 m.2 in
    free-phrase names p (spelled-names p m.0 o.0 o.1) free

free-lines : (names : List (List ℕ)) (xs : List (Option Sentence)) (lines : List (List ℕ)) → AreSpelled xs lines → AreFree names → AreFree (text.names_after names xs)
free-lines names [] lines h free = free
free-lines names (x ∷ xs) [] h free = absurd h
free-lines names (x ∷ xs) (line ∷ lines) h free = free-lines (names_after_line names x) xs lines h.1 (free-line names x line h.0 free)

pub operations_are_names : (f : Contents) → IsFile f → AreNames f.operations
operations_are_names f file = All-from_recursion IsFree f.operations (subst AreFree (sym file.1.reads.operations) (free-lines [] file.1.reads.sentences (graph_lines file.0) file.1.reads.spelled tt))

-- ---- scenarios have names

free-scenarios : (n : ℕ) (names : List (List ℕ)) (xs : List (Option Sentence)) (lines : List (List ℕ)) → AreSpelled xs lines → AreFree (names_from (statements_from n names xs))
free-scenarios n names [] lines h = tt
free-scenarios n names (x ∷ xs) [] h = absurd h
free-scenarios n names (None ∷ xs) (line ∷ lines) h = free-scenarios (n + 1) names xs lines h.1
free-scenarios n names (Some (params_line w ws) ∷ xs) (line ∷ lines) h = free-scenarios (n + 1) names xs lines h.1
free-scenarios n names (Some (graph_line w p) ∷ xs) (line ∷ lines) h = free-scenarios (n + 1) (names_after names p) xs lines h.1
free-scenarios n names (Some (scenario_line w p bs) ∷ xs) (line ∷ lines) h = (h.0.0.1.2.1.token.0, free-scenarios (n + 1) (names_after names p) xs lines h.1)

pub scenarios_have_names : (f : Contents) → IsFile f → AreNames (scenario_names_of f)
scenarios_have_names f file =
    All-from_recursion IsFree (scenario_names_of f)
    (subst AreFree (sym (names_are f ∙ ap names_from file.1.reads.statements)) (free-scenarios 1 [] file.1.reads.sentences (graph_lines file.0) file.1.reads.spelled))

-- ---- operations are distinct

others_more : (x : List ℕ) (xs : List (List ℕ)) (w : List ℕ) → AllByRecursion (λ y. bytes_eq x y ≡ false) xs → bytes_eq x w ≡ false → AllByRecursion (λ y. bytes_eq x y ≡ false) (xs ++ w ∷ [])
others_more x [] w h ne = (ne, tt)
others_more x (y ∷ xs) w h ne = (h.0, others_more x xs w h.1 ne)

none_left : (a b : Bool) → (a || b) ≡ false → a ≡ false
none_left false b h = refl
none_left true b h = h

none_right : (a b : Bool) → (a || b) ≡ false → b ≡ false
none_right false b h = h
none_right true b h = absurd (both_ways true h refl)

other_way : (x w : List ℕ) → bytes_eq w x ≡ false → bytes_eq x w ≡ false
other_way x w ne = false_from_ne_true (bytes_eq x w) (λ same. absurd (both_ways (bytes_eq w x) ne ((bytes_decides w x).1 (sym ((bytes_decides x w).0 same)))))

distinct_push : (names : List (List ℕ)) (w : List ℕ) → AreDistinct names → has_text names w ≡ false → AreDistinct (names ++ w ∷ [])
distinct_push [] w h new = IsDistinct-cons bytes_eq w [] tt h
distinct_push (x ∷ xs) w h new =
    IsDistinct-cons bytes_eq x (xs ++ w ∷ [])
    (others_more x xs w (IsDistinct-head bytes_eq x xs h) (other_way x w (none_left (bytes_eq w x) (has_text xs w) new)))
    (distinct_push xs w (IsDistinct-tail bytes_eq x xs h) (none_right (bytes_eq w x) (has_text xs w) new))

distinct-with_text : (names : List (List ℕ)) (w : List ℕ) → AreDistinct names → AreDistinct (with_text names w)
distinct-with_text names w h = elim (cases_Bool (has_text names w)) [
  | inl there ↦ subst (λ b. AreDistinct (if b then names else names ++ w ∷ [])) (sym there) h
  | inr new ↦ subst (λ b. AreDistinct (if b then names else names ++ w ∷ [])) (sym new) (distinct_push names w h new)
]

distinct-phrase : {s : Side} {l : Level} (names : List (List ℕ)) (p : Phrase s l) → AreDistinct names → AreDistinct (names_after names p)
distinct-phrase names (single r x) h = distinct-phrase names x h
distinct-phrase names (joined r x y) h = distinct-phrase (names_after names x) y (distinct-phrase names x h)
distinct-phrase names (named {s = condition} w) h = h
distinct-phrase names (named {s = graph} w) h = distinct-with_text names w h
distinct-phrase names (group x) h = distinct-phrase names x h
distinct-phrase names (bit b) h = h
distinct-phrase names (negated x) h = h
distinct-phrase names empty h = h
distinct-phrase names (reference w) h = h
distinct-phrase names (under c x) h = distinct-phrase names x h

distinct-line : (names : List (List ℕ)) (x : Option Sentence) → AreDistinct names → AreDistinct (names_after_line names x)
distinct-line names None h = h
distinct-line names (Some (params_line w ws)) h = h
distinct-line names (Some (graph_line w p)) h = distinct-phrase names p h
distinct-line names (Some (scenario_line w p bs)) h = distinct-phrase names p h

distinct-lines : (names : List (List ℕ)) (xs : List (Option Sentence)) → AreDistinct names → AreDistinct (text.names_after names xs)
distinct-lines names [] h = h
distinct-lines names (x ∷ xs) h = distinct-lines (names_after_line names x) xs (distinct-line names x h)

none_distinct : AreDistinct []
unfolding IsDistinct
none_distinct = tt

pub operations_are_distinct : (f : Contents) → IsFile f → AreDistinct f.operations
operations_are_distinct f file = subst AreDistinct (sym file.1.reads.operations) (distinct-lines [] file.1.reads.sentences none_distinct)
