-- The number of an operation stands for its name in the file's list.
use Rattle.std.specs.Prelude.{◌≡◌, ◌<◌, ◌+◌, refl, ℕ, List, [], ◌∷◌, ◌++◌, map, length, slice_get, Option, Some, None}
use Rattle.std.proofs.Common.{ap, ap₂, sym, ◌∙◌, subst, append-nil, length-append, arith, suc, zero}
use Rattle.std.specs.List.{AllByRecursion, position_or_len}
use Rattle.std.specs.Str.{bytes_eq}
use Rattle.std.proofs.lemmas.List.{map-append}
use Rattle.std.proofs.lemmas.Option.{slice_get_within, slice_get-get_or}
use denote.Hole.Carrier.{hidden}
use Rattle.cpog_base.specs.Names.{with_text}
use Rattle.pg_algebra.specs.declared.expr.Expr.{Expr}
use Rattle.pg_algebra.specs.declared.expr.Expr.TheBlock.{hidden-the_row-Expr-1}
use Rattle.pg_algebra.specs.declared.expr.Expr.TheViews as expr
use Rattle.pg_algebra.specs.declared.cond.Cond.{Cond}
use Rattle.pg_text.specs.declared.statement.Numbered.{Numbered}
use Rattle.pg_text.specs.Grammar.{Side, condition, graph, product, sum, Level, factor, row, member, Phrase, single, joined, named, group, bit, negated, empty, reference, under, names_after, Tree, join, members, tree}
use Rattle.pg_text.specs.Sentences.{Sentence, params_line, graph_line, scenario_line, names_after_sentence, sentence_tree}
use Rattle.pg_text.specs.Contents.{Contents}
use Rattle.pg_text.specs.Text.{statements_from, IsReadAs, IsFile}
use Rattle.pg_text.specs.Text as text
use Rattle.pg_text.specs.Numbers.{operations_in, sentence_operations, lines_operations, numbers_of, row_numbers, statement_numbers, file_numbers, NumbersStandForNames}
use Rattle.pg_text.proofs.NameLemmas.{place-below}
use Rattle.pg_text.proofs.PlainTexts.{Extends, extends-more, extends-self, extends-names, name_at_place}
use Rattle.pg_text.proofs.WriteLaws.{extends-lines}

-- ---- numbers of trees in a row

abbrev tree_numbers : (s : Side) → Tree s → List ℕ
tree_numbers condition c = []
tree_numbers graph e = numbers_of e

abbrev numbers_list : (s : Side) → List (Tree s) → List ℕ
numbers_list s [] = []
numbers_list s (t ∷ ts) = tree_numbers s t ++ numbers_list s ts

row-numbers : (es : List Expr) → row_numbers (hidden-the_row-Expr-1 es) ≡ numbers_list graph es
unfolding hidden-the_row-Expr-1 hidden
row-numbers [] = refl
row-numbers (e ∷ es) = ap (λ l. numbers_of e ++ l) (row-numbers es)

numbers-Overlay : (es : List Expr) → numbers_of (expr.Overlay (record { members = es })) ≡ numbers_list graph es
unfolding hidden-the_row-Expr-1 hidden
numbers-Overlay es = row-numbers es

numbers-Sequence : (es : List Expr) → numbers_of (expr.Sequence (record { members = es })) ≡ numbers_list graph es
unfolding hidden-the_row-Expr-1 hidden
numbers-Sequence es = row-numbers es

numbers-When : (c : Cond) (e : Expr) → numbers_of (expr.When c e) ≡ numbers_of e
unfolding hidden-the_row-Expr-1 hidden
numbers-When c e = refl

no_numbers : (cs : List (Tree condition)) → numbers_list condition cs ≡ []
no_numbers [] = refl
no_numbers (c ∷ cs) = no_numbers cs

numbers-join : (s : Side) (l : Level) (t : Tree s) (ts : List (Tree s)) → tree_numbers s (join s l (t ∷ ts)) ≡ numbers_list s (t ∷ ts)
numbers-join condition l t ts = sym (no_numbers (t ∷ ts))
numbers-join graph l t [] = sym (append-nil (numbers_of t))
numbers-join graph factor t (u ∷ us) = numbers-Overlay (t ∷ (u ∷ us))
numbers-join graph (row product) t (u ∷ us) = numbers-Sequence (t ∷ (u ∷ us))
numbers-join graph (row sum) t (u ∷ us) = numbers-Overlay (t ∷ (u ∷ us))

-- a phrase has a first member
first_member : {s : Side} {l : Level} (names : List (List ℕ)) (p : Phrase s l) → (t : Tree s) × (ts : List (Tree s)) × (members names p ≡ t ∷ ts)
first_member names (single {s} r x) = (join s (member r) (members names x), [], refl)
first_member names (joined {s} r x y) = (join s (member r) (members names x), members (names_after names x) y, refl)
first_member names (named {s = condition} w) = (tree names (named {s = condition} w), [], refl)
first_member names (named {s = graph} w) = (tree names (named {s = graph} w), [], refl)
first_member names (group {s} x) = (join s (row sum) (members names x), [], refl)
first_member names (bit b) = (tree names (bit b), [], refl)
first_member names (negated x) = (tree names (negated x), [], refl)
first_member names empty = (tree names empty, [], refl)
first_member names (reference w) = (tree names (reference w), [], refl)
first_member names (under c x) = (tree names (under c x), [], refl)

numbers-tree : {s : Side} {l : Level} (names : List (List ℕ)) (p : Phrase s l) → tree_numbers s (tree names p) ≡ numbers_list s (members names p)
numbers-tree {s} {l} names p =
    let m = first_member names p in
    ap (λ ts. tree_numbers s (join s l ts)) m.2 ∙ numbers-join s l m.0 m.1 ∙ ap (numbers_list s) (sym m.2)

-- ---- each number stands for its name

name_of_number : (names final : List (List ℕ)) (w : List ℕ) → Extends (with_text names w) final → slice_get final (position_or_len (bytes_eq w) (with_text names w)) ≡ Some w
name_of_number names final w (more, is) =
    let at = position_or_len (bytes_eq w) (with_text names w) in
    slice_get-get_or final at [] (omega (arith, place-below names w, ap length is, length-append (with_text names w) more)) ∙ ap Some (name_at_place names final w (more, is))

both : {X Y Z : Type 0} (f : X → Z) (g : Y → Z) (a b : List X) (c d : List Y) → map f a ≡ map g c → map f b ≡ map g d → map f (a ++ b) ≡ map g (c ++ d)
both f g a b c d h k = map-append f a b ∙ ap₂ (λ x y. x ++ y) h k ∙ sym (map-append g c d)

phrase-numbers : {s : Side} {l : Level} (names final : List (List ℕ)) (p : Phrase s l) → Extends (names_after names p) final → map (slice_get final) (numbers_list s (members names p)) ≡ map Some (operations_in p)
phrase-numbers names final (single {s} r x) h = ap (map (slice_get final)) (append-nil _ ∙ numbers-tree names x) ∙ phrase-numbers names final x h
phrase-numbers names final (joined {s} r x y) h =
    both (slice_get final) Some (tree_numbers s (tree names x)) (numbers_list s (members (names_after names x) y)) (operations_in x) (operations_in y)
    (ap (map (slice_get final)) (numbers-tree names x) ∙ phrase-numbers names final x (extends-more (names_after names x) (names_after (names_after names x) y) final (extends-names (names_after names x) y) h))
    (phrase-numbers (names_after names x) final y h)
phrase-numbers names final (named {s = condition} w) h = refl
phrase-numbers names final (named {s = graph} w) h = ap (λ x. x ∷ []) (name_of_number names final w h)
phrase-numbers names final (group x) h = ap (map (slice_get final)) (append-nil _ ∙ numbers-tree names x) ∙ phrase-numbers names final x h
phrase-numbers names final (bit b) h = refl
phrase-numbers names final (negated x) h = refl
phrase-numbers names final empty h = refl
phrase-numbers names final (reference w) h = refl
phrase-numbers names final (under c x) h = ap (map (slice_get final)) (append-nil _ ∙ numbers-When (tree [] c) (tree names x) ∙ numbers-tree names x) ∙ phrase-numbers names final x h

sentence-numbers : (names final : List (List ℕ)) (x : Sentence) → Extends (names_after_sentence names x) final → map (slice_get final) (statement_numbers (sentence_tree names x)) ≡ map Some (sentence_operations x)
sentence-numbers names final (params_line w ws) h = refl
sentence-numbers names final (graph_line w x) h = ap (map (slice_get final)) (numbers-tree names x) ∙ phrase-numbers names final x h
sentence-numbers names final (scenario_line w x bs) h = ap (map (slice_get final)) (numbers-tree names x) ∙ phrase-numbers names final x h

lines-numbers : (n : ℕ) (names final : List (List ℕ)) (xs : List (Option Sentence)) → Extends (text.names_after names xs) final → map (slice_get final) (file_numbers (statements_from n names xs)) ≡ map Some (lines_operations xs)
lines-numbers n names final [] h = refl
lines-numbers n names final (None ∷ xs) h = lines-numbers (n + 1) names final xs h
lines-numbers n names final (Some x ∷ xs) h =
    both (slice_get final) Some (statement_numbers (sentence_tree names x)) (file_numbers (statements_from (n + 1) (names_after_sentence names x) xs)) (sentence_operations x) (lines_operations xs)
    (sentence-numbers names final x (extends-more (names_after_sentence names x) (text.names_after (names_after_sentence names x) xs) final (extends-lines (names_after_sentence names x) xs) h))
    (lines-numbers (n + 1) (names_after_sentence names x) final xs h)

pub numbers_stand_for_names : NumbersStandForNames
numbers_stand_for_names bytes f h =
    ap (λ s. map (slice_get f.operations) (file_numbers s)) h.statements ∙ lines-numbers 1 [] f.operations h.sentences (subst (Extends (text.names_after [] h.sentences)) (sym h.operations) (extends-self (text.names_after [] h.sentences)))

-- ---- so each number has a name

abbrev pub AreBelow : ℕ → List ℕ → Type 0
AreBelow k ns = AllByRecursion (λ n. n < k) ns

each-below : (final names : List (List ℕ)) (ns : List ℕ) → map (slice_get final) ns ≡ map Some names → AreBelow (length final) ns
each-below final names [] h = tt
each-below final [] (n ∷ ns) h = cc
each-below final (w ∷ ws) (n ∷ ns) h =
    let first : slice_get final n ≡ Some w = cc in
    let others : map (slice_get final) ns ≡ map Some ws = cc in
    (slice_get_within final n w first, each-below final ws ns others)

parts-below : (k : ℕ) (a b : List ℕ) → AreBelow k (a ++ b) → AreBelow k a × AreBelow k b
parts-below k [] b h = (tt, h)
parts-below k (x ∷ a) b h = let p = parts-below k a b h.1 in ((h.0, p.0), p.1)

at-below : (k : ℕ) (ss : List Numbered) (i : ℕ) (s : Numbered) → AreBelow k (file_numbers ss) → slice_get ss i ≡ Some s → AreBelow k (statement_numbers s.statement)
at-below k [] i s h e = cc
at-below k (t ∷ ss) zero s h e = let same : t ≡ s = cc in subst (λ x. AreBelow k (statement_numbers x.statement)) same (parts-below k (statement_numbers t.statement) (file_numbers ss) h).0
at-below k (t ∷ ss) (suc i) s h e = at-below k ss i s (parts-below k (statement_numbers t.statement) (file_numbers ss) h).1 e

pub statement-below : (f : Contents) (i : ℕ) (s : Numbered) → IsFile f → slice_get f.statements i ≡ Some s → AreBelow (length f.operations) (statement_numbers s.statement)
statement-below f i s (bytes, h) e = at-below (length f.operations) f.statements i s (each-below f.operations (lines_operations h.reads.sentences) (file_numbers f.statements) (numbers_stand_for_names bytes f h.reads)) e
