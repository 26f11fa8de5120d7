-- The text of a statement is spelled as the statement.
use Rattle.std.specs.Prelude.{◌≡◌, refl, ℕ, Bool, true, List, [], ◌∷◌, ◌++◌, map, codes}
use Rattle.std.proofs.Common.{ap, sym, subst, append_assoc, append-nil}
use Rattle.std.specs.List.{list_all, AllByRecursion}
use Rattle.line_text.specs.Words.{is_free_name}
use Rattle.pg_text.specs.declared.sign.Sign.TheVariants as signs
use Rattle.pg_text.specs.declared.sign.Fixed.TheVariants as words
use Rattle.pg_text.specs.declared.statement.Statement.TheVariants as statement
use Rattle.pg_text.specs.Tokens.{Token, name, word, sign, bit_word, BeginsWithAll, HasNoToken}
use Rattle.pg_text.specs.Grammar.{graph, row, sum, Phrase, tokens, IsWithin}
use Rattle.pg_text.specs.Sentences.{Sentence, params_line, graph_line, scenario_line, commas, name_tokens, left_tokens, bind_tokens, with_tokens, IsSentence, names_after_sentence, sentence_tree}
use Rattle.pg_text.specs.Writing.{bit_text, rest_text, row_text, bind_text, with_text, statement_text}
use Rattle.pg_text.proofs.PhraseLaws.{both_begin, parts_begin}
use Rattle.pg_text.proofs.PlainPhrases.{fit, natural, names-plain, tree-plain, within-plain, HasNames, has_names-plain}
use Rattle.pg_text.proofs.PlainTexts.{Extends, extends-names, extends-self, written, written-plain}
use Rattle.pg_text.proofs.Spelling.{EndsWord, spell, behind_blank, some_token, all_behind_blank, spell-bit, spell-phrase, spelled-names, in_line, all-append, name-in_line, bit-in_line, phrase-in_line}

-- ---- members with commas between them

module _ {A : Type 0} (spell_of : A → List Token) (text : A → List ℕ) (Fits : A → Type 0)
    (each : (x : A) (rest : List ℕ) → Fits x → EndsWord rest → BeginsWithAll (text x ++ rest) (spell_of x) rest)
    (some : (x : A) → (t : Token) × (ts : List Token) × (spell_of x ≡ t ∷ ts)) where
  some_commas : (x : A) (xs : List A) → (t : Token) × (ts : List Token) × (commas spell_of x xs ≡ t ∷ ts)
  some_commas x [] = some x
  some_commas x (y ∷ ys) = let h = some x in (h.0, h.1 ++ sign signs.Comma ∷ commas spell_of y ys, ap (λ l. l ++ sign signs.Comma ∷ commas spell_of y ys) h.2)

  pub spell-commas : (x : A) (xs : List A) → AllByRecursion Fits (x ∷ xs) → BeginsWithAll (row_text (codes ", ") (map text (x ∷ xs))) (commas spell_of x xs) []
  spell-commas x [] h = each x [] h.0 tt
  spell-commas x (y ∷ ys) h =
      let c = some_commas y ys in
      let next = row_text (codes ", ") (map text (y ∷ ys)) in
      both_begin (spell_of x) (sign signs.Comma ∷ commas spell_of y ys) (text x ++ (44 ∷ (32 ∷ next))) (44 ∷ (32 ∷ next)) []
      (each x (44 ∷ (32 ∷ next)) h.0 refl) (32 ∷ next, spell (sign signs.Comma) (32 ∷ next) tt, all_behind_blank next (commas spell_of y ys) c.0 c.1 [] c.2 (spell-commas y ys h.1))

  pub behind_blank-commas : (x : A) (xs : List A) → AllByRecursion Fits (x ∷ xs) → BeginsWithAll (32 ∷ row_text (codes ", ") (map text (x ∷ xs))) (commas spell_of x xs) []
  behind_blank-commas x xs h = let c = some_commas x xs in all_behind_blank (row_text (codes ", ") (map text (x ∷ xs))) (commas spell_of x xs) c.0 c.1 [] c.2 (spell-commas x xs h)

-- members that are spelled fit
commas-fit : {A : Type 0} (spell_of : A → List Token) (Fits : A → Type 0) (fits : (x : A) (bytes rest : List ℕ) → BeginsWithAll bytes (spell_of x) rest → Fits x)
    (x : A) (xs : List A) (bytes rest : List ℕ) → BeginsWithAll bytes (commas spell_of x xs) rest → AllByRecursion Fits (x ∷ xs)
commas-fit spell_of Fits fits x [] bytes rest h = (fits x bytes rest h, tt)
commas-fit spell_of Fits fits x (y ∷ ys) bytes rest h =
    let p = parts_begin (spell_of x) (sign signs.Comma ∷ commas spell_of y ys) bytes rest h in
    (fits x bytes p.0 p.1, commas-fit spell_of Fits fits y ys p.2.0 rest p.2.2)

rest-in_line : {A : Type 0} (text : A → List ℕ) (Fits : A → Type 0) (each : (x : A) → Fits x → list_all in_line (text x) ≡ true) (xs : List A) → AllByRecursion Fits xs → list_all in_line (rest_text (codes ", ") (map text xs)) ≡ true
rest-in_line text Fits each [] h = refl
rest-in_line text Fits each (x ∷ xs) h =
    all-append in_line (codes ", ") (text x ++ rest_text (codes ", ") (map text xs)) refl (all-append in_line (text x) (rest_text (codes ", ") (map text xs)) (each x h.0) (rest-in_line text Fits each xs h.1))

row-in_line : {A : Type 0} (text : A → List ℕ) (Fits : A → Type 0) (each : (x : A) → Fits x → list_all in_line (text x) ≡ true) (xs : List A) → AllByRecursion Fits xs → list_all in_line (row_text (codes ", ") (map text xs)) ≡ true
row-in_line text Fits each [] h = refl
row-in_line text Fits each (x ∷ xs) h = all-append in_line (text x) (rest_text (codes ", ") (map text xs)) (each x h.0) (rest-in_line text Fits each xs h.1)

map-same : (xs : List (List ℕ)) → map (λ w. w) xs ≡ xs
map-same [] = refl
map-same (x ∷ xs) = ap (λ l. x ∷ l) (map-same xs)

-- ---- names, and bindings

abbrev IsFree : List ℕ → Type 0
IsFree w = is_free_name w ≡ true

free-name : (w bytes rest : List ℕ) → BeginsWithAll bytes (name_tokens w) rest → IsFree w
free-name w bytes rest h = h.1.token.0

each-name : (w rest : List ℕ) → IsFree w → EndsWord rest → BeginsWithAll (w ++ rest) (name_tokens w) rest
each-name w rest h ends = (rest, spell (name w) rest (h, ends), refl)

some-name : (w : List ℕ) → (t : Token) × (ts : List Token) × (name_tokens w ≡ t ∷ ts)
some-name w = (name w, [], refl)

abbrev IsFreeBinding : List ℕ × Bool → Type 0
IsFreeBinding (w, b) = IsFree w

free-binding : (x : List ℕ × Bool) (bytes rest : List ℕ) → BeginsWithAll bytes (bind_tokens x) rest → IsFreeBinding x
free-binding (w, b) bytes rest h = h.1.token.0

each-binding : (x : List ℕ × Bool) (rest : List ℕ) → IsFreeBinding x → EndsWord rest → BeginsWithAll (bind_text x ++ rest) (bind_tokens x) rest
each-binding (w, b) rest h ends =
    let next = bit_text b ++ rest in
    subst (λ t. BeginsWithAll t (bind_tokens (w, b)) rest) (sym (append_assoc w (codes " = " ++ bit_text b) rest)) (
      32 ∷ (61 ∷ (32 ∷ next)),
      spell (name w) (32 ∷ (61 ∷ (32 ∷ next))) (h, refl),
      (
        32 ∷ next,
        behind_blank (61 ∷ (32 ∷ next)) (sign signs.Equals) (32 ∷ next) (spell (sign signs.Equals) (32 ∷ next) tt),
        (rest, behind_blank next (bit_word b) rest (spell-bit b rest ends), refl),
      ),
    )

some-binding : (x : List ℕ × Bool) → (t : Token) × (ts : List Token) × (bind_tokens x ≡ t ∷ ts)
some-binding (w, b) = (name w, sign signs.Equals ∷ (bit_word b ∷ []), refl)

binding-in_line : (x : List ℕ × Bool) → IsFreeBinding x → list_all in_line (bind_text x) ≡ true
binding-in_line (w, b) h = all-append in_line w (codes " = " ++ bit_text b) (name-in_line w h) (all-append in_line (codes " = ") (bit_text b) refl (bit-in_line b))

abbrev AreFree : List (List ℕ × Bool) → Type 0
AreFree bs = AllByRecursion IsFreeBinding bs

with-fit : (bs : List (List ℕ × Bool)) (bytes rest : List ℕ) → BeginsWithAll bytes (with_tokens bs) rest → AreFree bs
with-fit [] bytes rest h = tt
with-fit (b ∷ bs) bytes rest h = commas-fit bind_tokens IsFreeBinding free-binding b bs h.0 rest h.2

spell-with : (bs : List (List ℕ × Bool)) → AreFree bs → BeginsWithAll (with_text bs) (with_tokens bs) []
spell-with [] h = refl
spell-with (b ∷ bs) h =
    let next = row_text (codes ", ") (map bind_text (b ∷ bs)) in
    (32 ∷ next, behind_blank (codes "with" ++ 32 ∷ next) (word words.With) (32 ∷ next) (spell (word words.With) (32 ∷ next) refl), behind_blank-commas bind_tokens bind_text IsFreeBinding each-binding some-binding b bs h)

with-ends : (bs : List (List ℕ × Bool)) → EndsWord (with_text bs)
with-ends [] = tt
with-ends (b ∷ bs) = refl

with-in_line : (bs : List (List ℕ × Bool)) → AreFree bs → list_all in_line (with_text bs) ≡ true
with-in_line [] h = refl
with-in_line (b ∷ bs) h = all-append in_line (codes " with ") (row_text (codes ", ") (map bind_text (b ∷ bs))) refl (row-in_line bind_text IsFreeBinding binding-in_line (b ∷ bs) h)

-- ---- `NAME = expr`, and what follows

spell-tail : (w : List ℕ) (q : Phrase graph (row sum)) (t : List ℕ) (ts : List Token) → IsFree w → HasNames q → EndsWord t → BeginsWithAll t ts [] → BeginsWithAll (32 ∷ (w ++ (codes " = " ++ (written q ++ t)))) (left_tokens w ++ (tokens q ++ ts)) []
spell-tail w q t ts free names ends more =
    let next = written q ++ t in
    let some = some_token q in (
      32 ∷ (61 ∷ (32 ∷ next)),
      behind_blank (w ++ (32 ∷ (61 ∷ (32 ∷ next)))) (name w) (32 ∷ (61 ∷ (32 ∷ next))) (spell (name w) (32 ∷ (61 ∷ (32 ∷ next))) (free, refl)),
      (
        32 ∷ next,
        behind_blank (61 ∷ (32 ∷ next)) (sign signs.Equals) (32 ∷ next) (spell (sign signs.Equals) (32 ∷ next) tt),
        both_begin (tokens q) ts (32 ∷ next) t [] (all_behind_blank next (tokens q) some.0 some.1 t some.2 (spell-phrase q t names ends)) more,
      ),
    )

tail-in_line : (w : List ℕ) (q : Phrase graph (row sum)) (t : List ℕ) → IsFree w → HasNames q → list_all in_line t ≡ true → list_all in_line (w ++ (codes " = " ++ (written q ++ t))) ≡ true
tail-in_line w q t free names h =
    all-append in_line w (codes " = " ++ (written q ++ t)) (name-in_line w free) (all-append in_line (codes " = ") (written q ++ t) refl (all-append in_line (written q) t (phrase-in_line q names) h))

-- ---- statements

abbrev plain : Phrase graph (row sum) → Phrase graph (row sum)
plain p = fit (row sum) (natural p)

-- the statement without needless parentheses
abbrev pub plain_sentence : Sentence → Sentence
plain_sentence (params_line w ws) = params_line w ws
plain_sentence (graph_line w p) = graph_line w (plain p)
plain_sentence (scenario_line w p bs) = scenario_line w (plain p) bs

pub names-sentence : (names : List (List ℕ)) (x : Sentence) → names_after_sentence names (plain_sentence x) ≡ names_after_sentence names x
names-sentence names (params_line w ws) = refl
names-sentence names (graph_line w p) = names-plain (row sum) names p
names-sentence names (scenario_line w p bs) = names-plain (row sum) names p

pub tree-sentence : (names : List (List ℕ)) (x : Sentence) → sentence_tree names (plain_sentence x) ≡ sentence_tree names x
tree-sentence names (params_line w ws) = refl
tree-sentence names (graph_line w p) = ap (statement.Graph w) (tree-plain (row sum) names p)
tree-sentence names (scenario_line w p bs) = ap (λ e. statement.Scenario w e bs) (tree-plain (row sum) names p)

pub extends-sentence : (names : List (List ℕ)) (x : Sentence) → Extends names (names_after_sentence names x)
extends-sentence names (params_line w ws) = extends-self names
extends-sentence names (graph_line w p) = extends-names names p
extends-sentence names (scenario_line w p bs) = extends-names names p

no_token_left : HasNoToken []
no_token_left = record { blanks = []; after = []; run = record { whole = refl; each = refl; stops = tt }; comment = tt }

-- the line is the statement, and no line end stands in it
abbrev pub IsTextOf : Sentence → List ℕ → Type 0
IsTextOf x line = IsSentence x line × (list_all in_line line ≡ true)

graph_text : (w : List ℕ) (q : Phrase graph (row sum)) → IsFree w → HasNames q → IsWithin 100 q → IsTextOf (graph_line w q) (codes "graph " ++ (w ++ (codes " = " ++ written q)))
graph_text w q free names within =
    let next = w ++ (codes " = " ++ written q) in
    let whole : next ≡ w ++ (codes " = " ++ (written q ++ [])) = ap (λ t. w ++ (codes " = " ++ t)) (sym (append-nil (written q))) in
    let spelled : BeginsWithAll (32 ∷ next) (left_tokens w ++ tokens q) [] =
    subst (λ ts. BeginsWithAll (32 ∷ next) (left_tokens w ++ ts) []) (append-nil (tokens q)) (subst (λ b. BeginsWithAll (32 ∷ b) (left_tokens w ++ (tokens q ++ [])) []) (sym whole) (spell-tail w q [] [] free names tt refl))
    in (
      (([], (32 ∷ next, spell (word words.Graph) (32 ∷ next) refl, spelled), no_token_left), within),
      all-append in_line (codes "graph ") next refl (subst (λ b. list_all in_line b ≡ true) (sym whole) (tail-in_line w q [] free names refl)),
    )

scenario_text : (w : List ℕ) (q : Phrase graph (row sum)) (bs : List (List ℕ × Bool)) → IsFree w → HasNames q → IsWithin 100 q → AreFree bs → IsTextOf (scenario_line w q bs) (codes "scenario " ++ (w ++ (codes " = " ++ (written q ++ with_text bs))))
scenario_text w q bs free names within bound =
    let next = w ++ (codes " = " ++ (written q ++ with_text bs)) in (
      (([], (32 ∷ next, spell (word words.Scenario) (32 ∷ next) refl, spell-tail w q (with_text bs) (with_tokens bs) free names (with-ends bs) (spell-with bs bound)), no_token_left), within),
      all-append in_line (codes "scenario ") next refl (tail-in_line w q (with_text bs) free names (with-in_line bs bound)),
    )

params_text : (w : List ℕ) (ws : List (List ℕ)) → AllByRecursion IsFree (w ∷ ws) → IsTextOf (params_line w ws) (codes "params " ++ row_text (codes ", ") (w ∷ ws))
params_text w ws free =
    let next = row_text (codes ", ") (map (λ v. v) (w ∷ ws)) in
    let same : next ≡ row_text (codes ", ") (w ∷ ws) = ap (row_text (codes ", ")) (map-same (w ∷ ws)) in
    subst (λ t. IsTextOf (params_line w ws) (codes "params " ++ t)) same (
      (([], (32 ∷ next, spell (word words.Params) (32 ∷ next) refl, behind_blank-commas name_tokens (λ v. v) IsFree each-name some-name w ws free), no_token_left), tt),
      all-append in_line (codes "params ") next refl (row-in_line (λ v. v) IsFree name-in_line (w ∷ ws) free),
    )

-- a statement is written as the statement without needless parentheses
pub statement_again : (names final : List (List ℕ)) (x : Sentence) (line : List ℕ) → IsSentence x line → Extends (names_after_sentence names x) final → IsTextOf (plain_sentence x) (statement_text final (sentence_tree names x))
statement_again names final (params_line w ws) line h ext = params_text w ws (commas-fit name_tokens IsFree free-name w ws h.0.1.0 h.0.0 h.0.1.2)
statement_again names final (graph_line w p) line h ext =
    let m = parts_begin (left_tokens w) (tokens p) h.0.1.0 h.0.0 h.0.1.2 in
    subst (λ t. IsTextOf (graph_line w (plain p)) (codes "graph " ++ (w ++ (codes " = " ++ t)))) (written-plain final names (row sum) p ext)
    (graph_text w (plain p) m.1.1.token.0 (has_names-plain (row sum) p (spelled-names p m.0 h.0.0 m.2)) (within-plain 100 p h.1))
statement_again names final (scenario_line w p bs) line h ext =
    let m = parts_begin (left_tokens w) (tokens p ++ with_tokens bs) h.0.1.0 h.0.0 h.0.1.2 in
    let o = parts_begin (tokens p) (with_tokens bs) m.0 h.0.0 m.2 in
    subst (λ t. IsTextOf (scenario_line w (plain p) bs) (codes "scenario " ++ (w ++ (codes " = " ++ (t ++ with_text bs))))) (written-plain final names (row sum) p ext)
    (scenario_text w (plain p) bs m.1.1.token.0 (has_names-plain (row sum) p (spelled-names p m.0 o.0 o.1)) (within-plain 100 p h.1) (with-fit bs o.0 h.0.0 o.2))
