-- How the line of a gate is read.
use Rattle.std.specs.Prelude.{ℕ, ◌+◌, ◌==◌, nat_lt, Bool, true, false, List, Option, Some, None, codes, if◌then◌else◌}
use Rattle.std.specs.Str.{bytes_eq}
use Rattle.cpog_defs.specs.declared.types.Gate.{Gate}
use Rattle.cpog_defs.specs.declared.types.Ref.{Ref}
use Rattle.cpog_defs.specs.declared.types.Ref.TheVariants.{Const, Signal}
use Rattle.line_rows.specs.Words.{◌>>=?◌, number_in, behind_of, before_of, pair_of, made_of}
use Rattle.module_reader.specs.declared.gate.Join.{Join}
use Rattle.module_reader.specs.declared.gate.Join.TheVariants.{And, Xor, Or, Note}
use Rattle.module_reader.specs.declared.gate.Tail.{Tail}
use Rattle.module_reader.specs.declared.gate.Tail.TheVariants.{One, Both}
use Rattle.module_reader.specs.Reading.{signal_in, reference_in}

-- the operator that the word is, or the sign that begins a comment
unfoldable pub join_in : List ℕ → Option Join
join_in word = if bytes_eq word (codes "&") then Some And else (if bytes_eq word (codes "^") then Some Xor else (if bytes_eq word (codes "|") then Some Or else (if bytes_eq word (codes "/*") then Some Note else None)))

-- a reference follows
abbrev pub one_of : Ref → Option Tail
one_of r = Some (One r)

-- both signals follow
abbrev pub both_of : ℕ × ℕ → Option Tail
both_of x = Some (Both x.0 x.1)

-- the two signals in a comment, up to its end
abbrev pub both_in : ℕ → ℕ → List ℕ → Option Tail
both_in inputs gates = made_of both_of (pair_of (signal_in inputs gates) (λ _. before_of (codes " */") (signal_in inputs gates)))

-- the reference behind an operator
abbrev pub one_in : ℕ → ℕ → List ℕ → Option Tail
one_in inputs gates = made_of one_of (reference_in inputs gates)

-- what follows the operator or the sign
unfoldable pub tail_in : ℕ → ℕ → Join → List ℕ → Option Tail
tail_in inputs gates Note = both_in inputs gates
tail_in inputs gates And = one_in inputs gates
tail_in inputs gates Xor = one_in inputs gates
tail_in inputs gates Or = one_in inputs gates

-- the table by the operator, and by which of the two are complements
abbrev pub table_of : Join → Bool → Bool → Option ℕ
table_of And false false = Some 8
table_of And false true = Some 4
table_of And true false = Some 2
table_of And true true = Some 1
table_of Xor false false = Some 6
table_of Xor false true = Some 9
table_of Xor true b = None
table_of Or false false = Some 14
table_of Or false true = Some 13
table_of Or true false = Some 11
table_of Or true true = Some 7
table_of Note a b = None

-- a gate reads the lower signal first
abbrev pub ordered : ℕ → ℕ → ℕ → Option Gate
ordered j k table = if nat_lt j k then Some (record { j = j; k = k; table = table }) else None

-- the first word where a comment names both signals
abbrev pub noted : Ref → ℕ → ℕ → Option Gate
noted (Const false) p q = ordered p q 0
noted (Const true) p q = ordered p q 15
noted (Signal n a) p q = if n == p then ordered p q (if a then 3 else 12) else (if n == q then ordered p q (if a then 5 else 10) else None)

-- two references with an operator between them
abbrev pub joined : Join → Ref → Ref → Option Gate
joined op (Const a) s = None
joined op (Signal j a) (Const b) = None
joined op (Signal j a) (Signal k b) = table_of op a b >>=? ordered j k

-- the gate of what was read
abbrev pub gate_from : Ref × (Join × Tail) → Option Gate
gate_from (r, (op, Both p q)) = noted r p q
gate_from (r, (op, One s)) = joined op r s

-- the gate whose function the text is, over so many inputs and gates
unfoldable pub function_in : ℕ → ℕ → List ℕ → Option Gate
function_in inputs gates = made_of gate_from (pair_of (reference_in inputs gates) (λ _. pair_of join_in (λ op. tail_in inputs gates op)))

-- the gate, where its number is this one
abbrev pub gate_with : ℕ → ℕ × Gate → Option Gate
gate_with g x = if x.0 == g then Some x.1 else None

-- gate g, as its line says
unfoldable pub gate_in : ℕ → ℕ → List ℕ → Option Gate
gate_in inputs g = behind_of (codes "  assign g") (made_of (gate_with g) (pair_of (number_in (g + 1)) (λ _. behind_of (codes "= ") (before_of (codes ";") (function_in inputs g)))))
