-- The grammar of a line: what stands in it, its tokens, its levels, its tree, and the operation names after it.
use Rattle.std.specs.Prelude.{◌≤◌, ◌-◌, ℕ, Bool, List, [], ◌∷◌, ◌++◌}
use Rattle.std.specs.List.{position_or_len}
use Rattle.std.specs.Str.{bytes_eq}
use Rattle.cpog_base.specs.Names.{with_text}
use Rattle.pg_algebra.specs.declared.cond.Cond.{Cond, Bit, Param}
use Rattle.pg_algebra.specs.declared.cond.Cond.TheViews as cond
use Rattle.pg_algebra.specs.declared.expr.Expr.{Expr, Empty, Op, Graph}
use Rattle.pg_algebra.specs.declared.expr.Expr.TheViews as expr
use Rattle.pg_text.specs.declared.sign.Sign.{Sign}
use Rattle.pg_text.specs.declared.sign.Sign.TheVariants as signs
use Rattle.pg_text.specs.declared.sign.Fixed.TheVariants as words
use Rattle.pg_text.specs.Tokens.{Token, name, word, sign, bit_word}

-- what is written: a condition or a graph
pub data Side : Type 0 where
  condition : Side
  graph : Side

-- what is written in a row: factors joined to a product, or products joined to a sum
pub data Row : Type 0 where
  product : Row
  sum : Row

-- how tightly it is bound
pub data Level : Type 0 where
  factor : Level
  row : Row → Level

-- what a row is made of
abbrev pub member : Row → Level
member product = factor
member sum = row product

-- the sign between the members of a row
abbrev pub joint : Side → Row → Sign
joint condition product = signs.And
joint condition sum = signs.Or
joint graph product = signs.Arrow
joint graph sum = signs.Plus

-- bool = and {"|" and}    and = neg {"&" neg}     neg = NAME | "(" bool ")" | "0" | "1" | "!" neg
-- expr = seq {"+" seq}    seq = when {"->" when}  when = NAME | "(" expr ")" | "empty" | "@" NAME | "[" bool "]" when
pub data Phrase : Side → Level → Type 0 where
  single : {s : Side} (r : Row) → Phrase s (member r) → Phrase s (row r)
  joined : {s : Side} (r : Row) → Phrase s (member r) → Phrase s (row r) → Phrase s (row r)
  named : {s : Side} → List ℕ → Phrase s factor
  group : {s : Side} → Phrase s (row sum) → Phrase s factor
  bit : Bool → Phrase condition factor
  negated : Phrase condition factor → Phrase condition factor
  empty : Phrase graph factor
  reference : List ℕ → Phrase graph factor
  under : Phrase condition (row sum) → Phrase graph factor → Phrase graph factor

-- ---- tokens

abbrev pub tokens : {s : Side} {l : Level} → Phrase s l → List Token
tokens (single r x) = tokens x
tokens (joined {s} r x y) = tokens x ++ sign (joint s r) ∷ tokens y
tokens (named w) = name w ∷ []
tokens (group x) = sign signs.Open ∷ (tokens x ++ sign signs.Close ∷ [])
tokens (bit b) = bit_word b ∷ []
tokens (negated x) = sign signs.Not ∷ tokens x
tokens empty = word words.Empty ∷ []
tokens (reference w) = sign signs.At ∷ (name w ∷ [])
tokens (under c x) = sign signs.OpenSquare ∷ (tokens c ++ sign signs.CloseSquare ∷ tokens x)

-- ---- nesting: no token in it stands deeper than n levels

abbrev pub IsWithin : {s : Side} {l : Level} → ℕ → Phrase s l → Type 0
IsWithin n (single r x) = IsWithin n x
IsWithin n (joined r x y) = IsWithin n x × IsWithin n y
IsWithin n (named w) = Unit {0}
IsWithin n (group x) = (1 ≤ n) × IsWithin (n - 1) x
IsWithin n (bit b) = Unit {0}
IsWithin n (negated x) = (1 ≤ n) × IsWithin (n - 1) x
IsWithin n empty = Unit {0}
IsWithin n (reference w) = Unit {0}
IsWithin n (under c x) = (1 ≤ n) × IsWithin (n - 1) c × IsWithin (n - 1) x

-- ---- the operation names after it, each new one last: a name in a graph is an operation, and one in a condition a parameter

abbrev pub names_after : {s : Side} {l : Level} → List (List ℕ) → Phrase s l → List (List ℕ)
names_after names (single r x) = names_after names x
names_after names (joined r x y) = names_after (names_after names x) y
names_after names (named {s = condition} w) = names
names_after names (named {s = graph} w) = with_text names w
names_after names (group x) = names_after names x
names_after names (bit b) = names
names_after names (negated x) = names
names_after names empty = names
names_after names (reference w) = names
names_after names (under c x) = names_after names x

-- ---- the tree, with the names before it; an operation is the place of its name

abbrev pub Tree : Side → Type 0
Tree condition = Cond
Tree graph = Expr

-- two or more members are joined, and one stands for itself
abbrev pub join : (s : Side) → Level → List (Tree s) → Tree s
join condition l (c ∷ []) = c
join condition (row product) cs = cond.And (record { members = cs })
join condition l cs = cond.Or (record { members = cs })
join graph l (e ∷ []) = e
join graph (row product) es = expr.Sequence (record { members = es })
join graph l es = expr.Overlay (record { members = es })

-- the trees that stand in a row
abbrev pub members : {s : Side} {l : Level} → List (List ℕ) → Phrase s l → List (Tree s)
members names (single {s} r x) = join s (member r) (members names x) ∷ []
members names (joined {s} r x y) = join s (member r) (members names x) ∷ members (names_after names x) y
members names (named {s = condition} w) = Param w ∷ []
members names (named {s = graph} w) = Op (position_or_len (bytes_eq w) (with_text names w)) ∷ []
members names (group {s} x) = join s (row sum) (members names x) ∷ []
members names (bit b) = Bit b ∷ []
members names (negated x) = cond.Not (join condition factor (members names x)) ∷ []
members names empty = Empty ∷ []
members names (reference w) = Graph w ∷ []
members names (under c x) = expr.When (join condition (row sum) (members [] c)) (join graph factor (members names x)) ∷ []

abbrev pub tree : {s : Side} {l : Level} → List (List ℕ) → Phrase s l → Tree s
tree {s} {l} names x = join s l (members names x)
