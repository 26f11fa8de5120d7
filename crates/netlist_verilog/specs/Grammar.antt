-- What a text of Verilog is read as: the tokens, the grammar of expressions on single bits, and assignments (IEEE
-- 1364-2005, clauses 3 and 5.1, A.6.1 and A.8).
use Rattle.std.specs.Prelude.{◌≡◌, ℕ, Bool, true, false, not, ◌&&◌, ◌||◌, ◌==◌, List, [], ◌∷◌, ◌++◌, codes}
use Rattle.std.specs.List.{list_all}
use Rattle.line_text.specs.Words.{begins_name, continues_name}
use Rattle.netlist_verilog.specs.Module.{ModuleValue, IsWireOf, called}
use Rattle.netlist_verilog.specs.Wires.{Wire}
use Rattle.netlist_verilog.specs.Keywords.{is_verilog_keyword}
use Rattle.netlist_verilog.specs.Formulas.{Formula, Bit, Read, Not, And, Xor, Or}

-- the operators on two bits
pub data Operator : Type 0 where
  and : Operator
  xor : Operator
  or : Operator

-- ---- tokens

-- a wire's name, a bit, a sign, or the word assign
pub data Token : Type 0 where
  name : Wire → Token
  bit : Bool → Token
  tilde : Token
  operator : Operator → Token
  opening : Token
  closing : Token
  assign : Token
  equals : Token
  semicolon : Token

-- how a token is written
abbrev pub token_text : ModuleValue → Token → List ℕ
token_text m (name w) = called m w
token_text m (bit false) = codes "1'b0"
token_text m (bit true) = codes "1'b1"
token_text m tilde = codes "~"
token_text m (operator and) = codes "&"
token_text m (operator xor) = codes "^"
token_text m (operator or) = codes "|"
token_text m opening = codes "("
token_text m closing = codes ")"
token_text m assign = codes "assign"
token_text m equals = codes "="
token_text m semicolon = codes ";"

-- a letter, `_`, a digit or `$`
abbrev pub continues_identifier : ℕ → Bool
continues_identifier b = continues_name b || (b == 36)

-- a letter or `_` and then these, and no keyword
abbrev pub is_identifier : List ℕ → Bool
is_identifier [] = false
is_identifier (b ∷ bs) = begins_name b && (list_all continues_identifier bs && not (is_verilog_keyword (b ∷ bs)))

-- a name is that of a wire of the module, and an identifier
abbrev pub IsTokenOf : ModuleValue → Token → Type 0
IsTokenOf m (name w) = IsWireOf m w × (is_identifier (called m w) ≡ true)
IsTokenOf m (bit b) = Unit {0}
IsTokenOf m tilde = Unit {0}
IsTokenOf m (operator o) = Unit {0}
IsTokenOf m opening = Unit {0}
IsTokenOf m closing = Unit {0}
IsTokenOf m assign = Unit {0}
IsTokenOf m equals = Unit {0}
IsTokenOf m semicolon = Unit {0}

-- a next byte that would make a longer token of it: a word or a number that goes on, or `~&`, `~^`, `~|`, `&&`, `^~`,
-- `||`, `(*`, `==`
abbrev pub lengthens : Token → ℕ → Bool
lengthens (name w) b = continues_identifier b
lengthens (bit v) b = continues_identifier b || (b == 63)
lengthens tilde b = (b == 38) || ((b == 94) || (b == 124))
lengthens (operator and) b = b == 38
lengthens (operator xor) b = b == 126
lengthens (operator or) b = b == 124
lengthens opening b = b == 42
lengthens closing b = false
lengthens assign b = continues_identifier b
lengthens equals b = b == 61
lengthens semicolon b = false

-- a space, a tab, a line feed or a form feed
abbrev pub is_blank : ℕ → Bool
is_blank b = (b == 32) || ((b == 9) || ((b == 10) || (b == 12)))

-- the bytes don't begin with one that passes
abbrev pub NoneFirst : (ℕ → Bool) → List ℕ → Type 0
NoneFirst p [] = Unit {0}
NoneFirst p (b ∷ bs) = p b ≡ false

-- no `*/` stands in the bytes
abbrev pub HoldsNoEnd : List ℕ → Type 0
HoldsNoEnd [] = Unit {0}
HoldsNoEnd (b ∷ bs) = (b ≡ 42 → NoneFirst (λ c. c == 47) bs) × HoldsNoEnd bs

-- white space and comments
pub data Gap : Type 0 where
  nothing : Gap
  blank : ℕ → Gap → Gap
  comment : List ℕ → Gap → Gap

-- how a gap is written
abbrev pub gap_text : Gap → List ℕ
gap_text nothing = []
gap_text (blank b g) = b ∷ gap_text g
gap_text (comment bytes g) = codes "/*" ++ (bytes ++ (codes "*/" ++ gap_text g))

-- its blanks are blanks, and its comments end where they say
abbrev pub IsGap : Gap → Type 0
IsGap nothing = Unit {0}
IsGap (blank b g) = (is_blank b ≡ true) × IsGap g
IsGap (comment bytes g) = HoldsNoEnd bytes × IsGap g

-- the text begins with a gap and the token, which goes as far as it can, and then comes the rest
pub record Begins (m : ModuleValue) (t : Token) (text rest : List ℕ) : Type 0 where
  pub known : IsTokenOf m t
  pub gap : Gap
  pub is_gap : IsGap gap
  pub whole : text ≡ gap_text gap ++ (token_text m t ++ rest)
  pub ends : NoneFirst (lengthens t) rest

-- the text is these tokens
abbrev pub Spells : ModuleValue → List Token → List ℕ → Type 0
Spells m [] text = (g : Gap) × IsGap g × (text ≡ gap_text g)
Spells m (t ∷ ts) text = (rest : List ℕ) × Begins m t text rest × Spells m ts rest

-- ---- expressions

-- a primary, which may have a unary operator before it, or a row of expressions that one operator joins
pub data Level : Type 0 where
  primary : Level
  unary : Level
  row : Operator → Level

-- what an operator joins binds tighter: ~ before & before ^ before |
abbrev pub member : Operator → Level
member and = unary
member xor = row and
member or = row xor

-- what stands in an expression; a row is read from the left
pub data Expression : Level → Type 0 where
  named : Wire → Expression primary
  constant : Bool → Expression primary
  group : Expression (row or) → Expression primary
  plain : Expression primary → Expression unary
  negated : Expression primary → Expression unary
  single : (o : Operator) → Expression (member o) → Expression (row o)
  joined : (o : Operator) → Expression (row o) → Expression (member o) → Expression (row o)

-- the tokens of an expression, from left to right
abbrev pub tokens : {l : Level} → Expression l → List Token
tokens (named w) = name w ∷ []
tokens (constant b) = bit b ∷ []
tokens (group e) = opening ∷ (tokens e ++ closing ∷ [])
tokens (plain e) = tokens e
tokens (negated e) = tilde ∷ tokens e
tokens (single o e) = tokens e
tokens (joined o e g) = tokens e ++ operator o ∷ tokens g

-- two formulas joined by an operator
abbrev pub join : Operator → Formula → Formula → Formula
join and f g = And f g
join xor f g = Xor f g
join or f g = Or f g

-- the formula that an expression stands for
abbrev pub formula : {l : Level} → Expression l → Formula
formula (named w) = Read w
formula (constant b) = Bit b
formula (group e) = formula e
formula (plain e) = formula e
formula (negated e) = Not (formula e)
formula (single o e) = formula e
formula (joined o e g) = join o (formula e) (formula g)

-- the text is an expression, and this is its formula
abbrev pub IsReadAs : ModuleValue → List ℕ → Formula → Type 0
IsReadAs m text f = (e : Expression (row or)) × Spells m (tokens e) text × (formula e ≡ f)

-- the text is an assignment to this wire, and what it assigns is this formula
abbrev pub IsAssignment : ModuleValue → List ℕ → Wire → Formula → Type 0
IsAssignment m text w f =
    (e : Expression (row or)) × Spells m (assign ∷ name w ∷ equals ∷ (tokens e ++ semicolon ∷ [])) text ×
    (formula e ≡ f)
