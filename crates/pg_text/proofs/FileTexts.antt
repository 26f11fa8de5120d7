-- The text of a file, line by line.
use Rattle.std.specs.Prelude.{◌≡◌, ◌≤◌, ◌+◌, refl, ℕ, List, [], ◌∷◌, ◌++◌, map, take, length, slice_get, Option, Some, None}
use Rattle.std.proofs.Common.{ap, ap₂, sym, ◌∙◌, append_assoc, append-nil}
use Rattle.std.specs.Option.{IsSomeAnd}
use Rattle.std.proofs.lemmas.List.{take_more, take_all, map-append}
use Rattle.std.proofs.lemmas.List.Concat.{flat_map-cons}
use Rattle.std.proofs.lemmas.Grind.{flat_map-append}
use Rattle.std.proofs.lemmas.Option.{slice_get_within, get_or_from_slice_get}
use Rattle.line_text.specs.Lines.{text_of}
use Rattle.pg_text.specs.declared.statement.Statement.{Statement}
use Rattle.pg_text.specs.declared.statement.Numbered.{Numbered}
use Rattle.pg_text.specs.Writing.{statement_text, file_text}
use Rattle.pg_text.specs.Contents.{Contents}

some_statement : (o : Option Numbered) (stmt : Statement) → IsSomeAnd o (λ s. stmt ≡ s.statement) → (s : Numbered) × (o ≡ Some s) × (stmt ≡ s.statement)
some_statement None stmt h = absurd h
some_statement (Some s) stmt h = (s, refl, h)

abbrev feed_after : List ℕ → List ℕ
feed_after l = l ++ 10 ∷ []

text_of_more : (ls : List (List ℕ)) (l : List ℕ) → text_of (ls ++ l ∷ []) ≡ text_of ls ++ (l ++ 10 ∷ [])
text_of_more ls l = flat_map-append feed_after ls (l ∷ []) ∙ ap (λ t. text_of ls ++ t) (flat_map-cons feed_after l [] ∙ append-nil (l ++ 10 ∷ []))

-- one line more
pub line_more : (names operations : List (List ℕ)) (ss : List Numbered) (i : ℕ) (stmt : Statement) (out middle next : List ℕ) → IsSomeAnd (slice_get ss i) (λ s. stmt ≡ s.statement) → operations ≡ names
    → out ≡ text_of (map (λ s. statement_text names s.statement) (take i ss)) → middle ≡ out ++ statement_text operations stmt → next ≡ middle ++ 10 ∷ []
    → next ≡ text_of (map (λ s. statement_text names s.statement) (take (i + 1) ss))
line_more names operations ss i stmt out middle next at same before puts feeds =
    let s = some_statement (slice_get ss i) stmt at in
    let line : statement_text operations stmt ≡ statement_text names s.0.statement = ap₂ statement_text same s.2 in
    let more : take (i + 1) ss ≡ take i ss ++ s.0 ∷ [] = take_more ss i s.0 (slice_get_within ss i s.0 s.1) ∙ ap (λ x. take i ss ++ x ∷ []) (get_or_from_slice_get ss i s.0 s.0 s.1) in
    feeds ∙ ap (λ m. m ++ 10 ∷ []) (puts ∙ ap₂ (λ o t. o ++ t) before line) ∙ append_assoc (text_of (map (λ s. statement_text names s.statement) (take i ss))) (statement_text names s.0.statement) (10 ∷ [])
    ∙ sym (text_of_more (map (λ s. statement_text names s.statement) (take i ss)) (statement_text names s.0.statement))
    ∙ ap text_of (sym (map-append (λ s. statement_text names s.statement) (take i ss) (s.0 ∷ [])))
    ∙ ap (λ x. text_of (map (λ s. statement_text names s.statement) x)) (sym more)

-- every line stands there
pub all_lines : (f : Contents) (i : ℕ) (out : List ℕ) → out ≡ text_of (map (λ s. statement_text f.operations s.statement) (take i f.statements)) → length f.statements ≤ i → out ≡ file_text f
all_lines f i out h le = h ∙ ap (λ l. text_of (map (λ s. statement_text f.operations s.statement) l)) (take_all i f.statements le)
