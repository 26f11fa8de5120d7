-- What is read of a line, and the rest.
use Rattle.std.specs.Prelude.{◌≡◌, ℕ, Bool, List, [], ◌∷◌, ◌++◌, Option}
use Rattle.cpog_base.specs.declared.limits.TheConstants.{NESTING_LIMIT}
use Rattle.pg_algebra.specs.declared.expr.Expr.{Expr}
use Rattle.pg_text.specs.declared.sign.Sign.TheVariants as signs
use Rattle.pg_text.specs.declared.sign.Fixed.TheVariants as words
use Rattle.pg_text.specs.declared.statement.Statement.{Statement}
use Rattle.pg_text.specs.Tokens.{Token, word, sign, BeginsWithAll}
use Rattle.pg_text.specs.Grammar.{graph, row, sum, Phrase, tokens, IsWithin, tree, names_after}
use Rattle.pg_text.specs.Sentences.{Sentence, commas, left_tokens, with_tokens, IsSentence, IsLine, names_after_sentence, names_after_line, sentence_tree, line_tree}
use Rattle.pg_text.specs.Reading.{Lacks, Stops}

-- members with commas between them, as many as there are
pub record ReadsCommas {A : Type 0} (spell : A → List Token) (bytes : List ℕ) (items : List A) (rest : List ℕ) : Type 0 where
  pub first : A
  pub others : List A
  pub spelled : BeginsWithAll bytes (commas spell first others) rest
  pub means : items ≡ first ∷ others
  pub stops : Lacks (sign signs.Comma) rest

abbrev pub NoCommas : {A : Type 0} → (A → List Token) → List ℕ → Type 0
NoCommas {A} spell bytes = (x : A) (xs : List A) (rest : List ℕ) → BeginsWithAll bytes (commas spell x xs) rest → Lacks (sign signs.Comma) rest → ⊥

-- bindings that end here go as far as they can
abbrev pub WithStops : List (List ℕ × Bool) → List ℕ → Type 0
WithStops [] rest = Lacks (word words.With) rest
WithStops (b ∷ bs) rest = Lacks (sign signs.Comma) rest

pub record ReadsWith (bytes : List ℕ) (bindings : List (List ℕ × Bool)) (rest : List ℕ) : Type 0 where
  pub spelled : BeginsWithAll bytes (with_tokens bindings) rest
  pub stops : WithStops bindings rest

abbrev pub NoWith : List ℕ → Type 0
NoWith bytes = (bs : List (List ℕ × Bool)) (rest : List ℕ) → BeginsWithAll bytes (with_tokens bs) rest → WithStops bs rest → ⊥

-- `NAME = expr` stands at the front
pub record IsDefinition (bytes : List ℕ) (w : List ℕ) (p : Phrase graph (row sum)) (rest : List ℕ) : Type 0 where
  pub spelled : BeginsWithAll bytes (left_tokens w ++ tokens p) rest
  pub within : IsWithin NESTING_LIMIT p
  pub stops : Stops graph (row sum) rest

pub record ReadsDefinition (names : List (List ℕ)) (bytes : List ℕ) (w : List ℕ) (t : Expr) (names_new : List (List ℕ)) (rest : List ℕ) : Type 0 where
  pub phrase : Phrase graph (row sum)
  pub front : IsDefinition bytes w phrase rest
  pub means : t ≡ tree names phrase
  pub named : names_new ≡ names_after names phrase

abbrev pub NoDefinition : List ℕ → Type 0
NoDefinition bytes = (w : List ℕ) (p : Phrase graph (row sum)) (rest : List ℕ) → IsDefinition bytes w p rest → ⊥

-- a whole line with a statement
pub record ReadsSentence (names : List (List ℕ)) (line : List ℕ) (t : Statement) (names_new : List (List ℕ)) : Type 0 where
  pub sentence : Sentence
  pub spelled : IsSentence sentence line
  pub means : t ≡ sentence_tree names sentence
  pub named : names_new ≡ names_after_sentence names sentence

-- a whole line
pub record ReadsLine (names : List (List ℕ)) (line : List ℕ) (t : Option Statement) (names_new : List (List ℕ)) : Type 0 where
  pub sentence : Option Sentence
  pub spelled : IsLine sentence line
  pub means : t ≡ line_tree names sentence
  pub named : names_new ≡ names_after_line names sentence

abbrev pub NoSentence : List ℕ → Type 0
NoSentence line = (x : Sentence) → IsSentence x line → ⊥

abbrev pub NoLine : List ℕ → Type 0
NoLine line = (x : Option Sentence) → IsLine x line → ⊥
