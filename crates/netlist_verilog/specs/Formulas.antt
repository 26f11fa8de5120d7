-- The right sides of a module's equations: formulas on single bits, their text and their value (IEEE 1364-2005).
use Rattle.std.specs.Prelude.{ℕ, nat_lt, Bool, true, false, not, ◌&&◌, ◌||◌, if◌then◌else◌, List, [], ◌++◌, Option, None, Some, codes}
use Rattle.netlist_verilog.specs.Wires.{Wire, wire_text}

-- a bit, a wire, or these joined by ~, &, ^ and |
pub data Formula : Type 0 where
  Bit : Bool → Formula
  Read : Wire → Formula
  Not : Formula → Formula
  And : Formula → Formula → Formula
  Xor : Formula → Formula → Formula
  Or : Formula → Formula → Formula

-- the value under these values of the wires
abbrev pub value : (Wire → Bool) → Formula → Bool
value at (Bit b) = b
value at (Read w) = at w
value at (Not f) = not (value at f)
value at (And f g) = value at f && value at g
value at (Xor f g) = if value at f then not (value at g) else value at g
value at (Or f g) = value at f || value at g

-- each wire that the formula reads is one of these
abbrev pub ReadsOnly : (Wire → Type 0) → Formula → Type 0
ReadsOnly P (Bit b) = Unit {0}
ReadsOnly P (Read w) = P w
ReadsOnly P (Not f) = ReadsOnly P f
ReadsOnly P (And f g) = ReadsOnly P f × ReadsOnly P g
ReadsOnly P (Xor f g) = ReadsOnly P f × ReadsOnly P g
ReadsOnly P (Or f g) = ReadsOnly P f × ReadsOnly P g

-- which operators bind tighter: ~ before & before ^ before |
abbrev pub tightness : Formula → ℕ
tightness (Bit b) = 4
tightness (Read w) = 4
tightness (Not f) = 3
tightness (And f g) = 2
tightness (Xor f g) = 1
tightness (Or f g) = 0

-- a text in parentheses, where it binds less tightly than its place asks
abbrev pub grouped : ℕ → ℕ → List ℕ → List ℕ
grouped least tight text = if nat_lt tight least then codes "(" ++ (text ++ codes ")") else text

-- the text of a formula: operators of one kind are read from the left, so a right operand has to bind tighter than its
-- operator; and none stands right behind ~
abbrev pub formula_text : ℕ → List (List ℕ) → Formula → List ℕ
formula_text inputs names (Bit false) = codes "1'b0"
formula_text inputs names (Bit true) = codes "1'b1"
formula_text inputs names (Read w) = wire_text inputs names w
formula_text inputs names (Not f) = codes "~" ++ grouped 4 (tightness f) (formula_text inputs names f)
formula_text inputs names (And f g) =
    grouped 2 (tightness f) (formula_text inputs names f) ++
    (codes " & " ++ grouped 3 (tightness g) (formula_text inputs names g))
formula_text inputs names (Xor f g) =
    grouped 1 (tightness f) (formula_text inputs names f) ++
    (codes " ^ " ++ grouped 2 (tightness g) (formula_text inputs names g))
formula_text inputs names (Or f g) =
    formula_text inputs names f ++ (codes " | " ++ grouped 1 (tightness g) (formula_text inputs names g))

-- the assignment of a formula to a wire, with a comment that names two more wires where that is wanted
pub record Equation : Type 0 where
  pub wire : Wire
  pub formula : Formula
  pub comment : Option (Wire × Wire)

-- each wire that the comment names is one of these
abbrev pub NamesOnly : (Wire → Type 0) → Option (Wire × Wire) → Type 0
NamesOnly P None = Unit {0}
NamesOnly P (Some both) = P both.0 × P both.1

-- a comment that names two wires, behind a blank, where one is wanted
abbrev pub comment_text : ℕ → List (List ℕ) → Option (Wire × Wire) → List ℕ
comment_text inputs names None = []
comment_text inputs names (Some both) =
    codes " /* " ++ (wire_text inputs names both.0 ++ (codes " " ++ (wire_text inputs names both.1 ++ codes " */")))

-- the line of an equation
abbrev pub equation_row : ℕ → List (List ℕ) → Equation → List ℕ
equation_row inputs names e =
    codes "  assign " ++ (wire_text inputs names e.wire ++
    (codes " = " ++ (formula_text inputs names e.formula ++ (comment_text inputs names e.comment ++ codes ";"))))
