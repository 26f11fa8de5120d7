-- The grammar of a whole line: what stands in it, its tokens, its tree, and the operation names after it.
use Rattle.std.specs.Prelude.{ℕ, Bool, List, [], ◌∷◌, ◌++◌, Option, Some, None}
use Rattle.cpog_base.specs.declared.limits.TheConstants.{NESTING_LIMIT}
use Rattle.pg_text.specs.declared.sign.Sign.TheVariants as signs
use Rattle.pg_text.specs.declared.sign.Fixed.TheVariants as words
use Rattle.pg_text.specs.declared.statement.Statement.{Statement}
use Rattle.pg_text.specs.declared.statement.Statement.TheVariants as statement
use Rattle.pg_text.specs.Tokens.{Token, name, word, sign, bit_word, Spells}
use Rattle.pg_text.specs.Grammar.{graph, sum, row, Phrase, tokens, IsWithin, names_after, tree}

-- statement = "params" NAME {"," NAME} | "graph" NAME "=" expr | "scenario" NAME "=" expr ["with" bind {"," bind}]
-- bind = NAME "=" ("0" | "1")
pub data Sentence : Type 0 where
  params_line : List ℕ → List (List ℕ) → Sentence
  graph_line : List ℕ → Phrase graph (row sum) → Sentence
  scenario_line : List ℕ → Phrase graph (row sum) → List (List ℕ × Bool) → Sentence

-- ---- tokens

-- members with commas between them
abbrev pub commas : {A : Type 0} → (A → List Token) → A → List A → List Token
commas spell x [] = spell x
commas spell x (y ∷ ys) = spell x ++ sign signs.Comma ∷ commas spell y ys

abbrev pub name_tokens : List ℕ → List Token
name_tokens w = name w ∷ []

-- `NAME =`
abbrev pub left_tokens : List ℕ → List Token
left_tokens w = name w ∷ (sign signs.Equals ∷ [])

abbrev pub bind_tokens : List ℕ × Bool → List Token
bind_tokens (w, b) = name w ∷ (sign signs.Equals ∷ (bit_word b ∷ []))

-- no bindings leave no token
abbrev pub with_tokens : List (List ℕ × Bool) → List Token
with_tokens [] = []
with_tokens (b ∷ bs) = word words.With ∷ commas bind_tokens b bs

abbrev pub sentence_tokens : Sentence → List Token
sentence_tokens (params_line w ws) = word words.Params ∷ commas name_tokens w ws
sentence_tokens (graph_line w x) = word words.Graph ∷ (left_tokens w ++ tokens x)
sentence_tokens (scenario_line w x bs) = word words.Scenario ∷ (left_tokens w ++ (tokens x ++ with_tokens bs))

-- ---- nesting: no token is deeper than the limit

abbrev pub IsShallow : Sentence → Type 0
IsShallow (params_line w ws) = Unit {0}
IsShallow (graph_line w x) = IsWithin NESTING_LIMIT x
IsShallow (scenario_line w x bs) = IsWithin NESTING_LIMIT x

-- the line is this statement
abbrev pub IsSentence : Sentence → List ℕ → Type 0
IsSentence x line = Spells (sentence_tokens x) line × IsShallow x

-- the line is this statement, or has none
abbrev pub IsLine : Option Sentence → List ℕ → Type 0
IsLine None line = Spells [] line
IsLine (Some x) line = IsSentence x line

-- ---- the operation names after it, and the tree with the names before it

abbrev pub names_after_sentence : List (List ℕ) → Sentence → List (List ℕ)
names_after_sentence names (params_line w ws) = names
names_after_sentence names (graph_line w x) = names_after names x
names_after_sentence names (scenario_line w x bs) = names_after names x

abbrev pub names_after_line : List (List ℕ) → Option Sentence → List (List ℕ)
names_after_line names None = names
names_after_line names (Some x) = names_after_sentence names x

abbrev pub sentence_tree : List (List ℕ) → Sentence → Statement
sentence_tree names (params_line w ws) = statement.Params (w ∷ ws)
sentence_tree names (graph_line w x) = statement.Graph w (tree names x)
sentence_tree names (scenario_line w x bs) = statement.Scenario w (tree names x) bs

abbrev pub line_tree : List (List ℕ) → Option Sentence → Option Statement
line_tree names None = None
line_tree names (Some x) = Some (sentence_tree names x)
