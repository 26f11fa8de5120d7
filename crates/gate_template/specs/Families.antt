-- The clauses of a template by name, family by family.
use Rattle.std.specs.Prelude.{ℕ, ◌+◌, Bool, true, false, List, [], ◌∷◌, ◌++◌, map, slice_index_or, if◌then◌else◌}
use Rattle.std.specs.List.{list_any}
use Rattle.cpog_defs.specs.declared.types.Bit3.{Bit3}
use Rattle.cpog_defs.specs.declared.types.Bit3.TheVariants.{Zero, One, Free}
use Rattle.cpog_defs.specs.Entries.{entry_at}
use Rattle.cpog_defs.specs.Orders.{each_below}
use Rattle.cpog_base.specs.Pattern.{is_given}
use Rattle.clause_arena.specs.Clauses.{Lit, Clause}
use Rattle.gate_template.specs.declared.types.Shape.{Shape}
use Rattle.gate_template.specs.Variables.{Var, X, D, Sel, T, V, O, P, each_pair, number, value_var}

-- a literal by name: the variable, and whether it is complemented
abbrev pub NamedLiteral : Type 0
NamedLiteral = Var × Bool

-- the variable as it stands
abbrev pub plain : Var → NamedLiteral
plain x = (x, false)

-- its complement
abbrev pub complemented : Var → NamedLiteral
complemented x = (x, true)

-- the literal, by its variable's number
abbrev pub numbered : Shape → NamedLiteral → Lit
numbered z x = record { var = number z x.0; negated = x.1 }

-- a named clause, by the numbers of its variables
unfoldable pub as_clause : Shape → List NamedLiteral → Clause
as_clause z named = map (numbered z) named

-- named clauses, by the numbers of their variables
unfoldable pub as_clauses : Shape → List (List NamedLiteral) → List Clause
as_clauses z named = map (as_clause z) named

-- ---- distinct codes

-- where s and t differ in bit i, their bits there aren't equal
abbrev pub differ_at : ℕ → ℕ → ℕ → List (List NamedLiteral)
differ_at s t i =
    (complemented (D s t i) ∷ plain (X s i) ∷ plain (X t i) ∷ [])
    ∷ (complemented (D s t i) ∷ complemented (X s i) ∷ complemented (X t i) ∷ [])
    ∷ []

-- they differ in some bit
abbrev pub some_bit : Shape → ℕ → ℕ → List NamedLiteral
some_bit z s t = each_below (λ i. plain (D s t i) ∷ []) z.bits

-- the codes of s and t differ, in a bit that D says
abbrev pub code_pair : Shape → ℕ → ℕ → List (List NamedLiteral)
code_pair z s t = each_below (differ_at s t) z.bits ++ some_bit z s t ∷ []

-- any two codes differ
unfoldable pub code_clauses : Shape → List (List NamedLiteral)
code_clauses z = each_pair (code_pair z) z.scenarios

-- ---- gates

-- where gate g is read from j and k, its value in s is its table's at their values
abbrev pub gate_clauses_at : Shape → ℕ → ℕ → ℕ → ℕ → List (List NamedLiteral)
gate_clauses_at z g j k s =
    let sel = complemented (Sel g j k) in
    let a = value_var z j s in
    let b = value_var z k s in
    (sel ∷ plain a ∷ plain b ∷ complemented (V g s) ∷ [])
    ∷ (sel ∷ plain a ∷ complemented b ∷ complemented (V g s) ∷ plain (T g 1) ∷ [])
    ∷ (sel ∷ plain a ∷ complemented b ∷ plain (V g s) ∷ complemented (T g 1) ∷ [])
    ∷ (sel ∷ complemented a ∷ plain b ∷ complemented (V g s) ∷ plain (T g 2) ∷ [])
    ∷ (sel ∷ complemented a ∷ plain b ∷ plain (V g s) ∷ complemented (T g 2) ∷ [])
    ∷ (sel ∷ complemented a ∷ complemented b ∷ complemented (V g s) ∷ plain (T g 3) ∷ [])
    ∷ (sel ∷ complemented a ∷ complemented b ∷ plain (V g s) ∷ complemented (T g 3) ∷ [])
    ∷ []

-- where gate g is read from j and k, its value in each scenario is its table's
abbrev pub gate_pair : Shape → ℕ → ℕ → ℕ → List (List NamedLiteral)
gate_pair z g j k = each_below (gate_clauses_at z g j k) z.scenarios

-- gate g is read from some pair of earlier signals
abbrev pub some_pair : Shape → ℕ → List NamedLiteral
some_pair z g = each_pair (λ j k. plain (Sel g j k) ∷ []) (z.bits + g)

-- gate g is read from some pair, and has the values of its table there
abbrev pub one_gate : Shape → ℕ → List (List NamedLiteral)
one_gate z g = some_pair z g ∷ each_pair (gate_pair z g) (z.bits + g)

-- each gate is
unfoldable pub gate_clauses : Shape → List (List NamedLiteral)
gate_clauses z = each_below (one_gate z) z.gates

-- ---- classes

-- where class c is taken from signal n, its value in s is the entry, complemented where p says so
abbrev pub class_clauses_at : Shape → ℕ → ℕ → ℕ → Bit3 → List (List NamedLiteral)
class_clauses_at z c n s Free = []
class_clauses_at z c n s One =
    (complemented (O c n) ∷ plain (value_var z n s) ∷ plain (P c) ∷ [])
    ∷ (complemented (O c n) ∷ complemented (value_var z n s) ∷ complemented (P c) ∷ [])
    ∷ []
class_clauses_at z c n s Zero =
    (complemented (O c n) ∷ complemented (value_var z n s) ∷ plain (P c) ∷ [])
    ∷ (complemented (O c n) ∷ plain (value_var z n s) ∷ complemented (P c) ∷ [])
    ∷ []

-- where class c is taken from signal n, its value in each scenario is as the column asks
abbrev pub class_signal : Shape → ℕ → List Bit3 → ℕ → List (List NamedLiteral)
class_signal z c column n = each_below (λ s. class_clauses_at z c n s (entry_at column s)) z.scenarios

-- class c is taken from some signal
abbrev pub some_signal : Shape → ℕ → List NamedLiteral
some_signal z c = each_below (λ n. plain (O c n) ∷ []) (z.bits + z.gates)

-- class c is taken from some signal, which has the values that its column asks for
abbrev pub one_class : Shape → List (List Bit3) → ℕ → List (List NamedLiteral)
one_class z columns c = some_signal z c ∷ each_below (class_signal z c (slice_index_or columns c [])) (z.bits + z.gates)

-- each class is
unfoldable pub class_clauses : Shape → List (List Bit3) → List (List NamedLiteral)
class_clauses z columns = each_below (one_class z columns) z.classes

-- ---- given bits

-- the bit is as given
abbrev pub given_bit : ℕ → ℕ → Bit3 → List (List NamedLiteral)
given_bit s i Free = []
given_bit s i One = (plain (X s i) ∷ []) ∷ []
given_bit s i Zero = (complemented (X s i) ∷ []) ∷ []

-- each bit of the code of s is as its pattern gives it
abbrev pub given_pattern : Shape → ℕ → List Bit3 → List (List NamedLiteral)
given_pattern z s pattern = each_below (λ i. given_bit s i (entry_at pattern i)) z.bits

-- each bit of each code is
unfoldable pub given_clauses : Shape → List (List Bit3) → List (List NamedLiteral)
given_clauses z patterns = each_below (λ s. given_pattern z s (slice_index_or patterns s [])) z.scenarios

-- ---- a first code of zeros

-- some pattern gives bit i
abbrev pub gives : List (List Bit3) → ℕ → Bool
gives patterns i = list_any (λ pattern. is_given (entry_at pattern i)) patterns

-- the first code has 0 everywhere
unfoldable pub all_zero_clauses : Shape → List (List NamedLiteral)
all_zero_clauses z = each_below (λ i. (complemented (X 0 i) ∷ []) ∷ []) z.bits

-- the first code has 0 in each column that no pattern gives
unfoldable pub zero_clauses : Shape → List (List Bit3) → List (List NamedLiteral)
zero_clauses z patterns = each_below (λ i. if gives patterns i then [] else (complemented (X 0 i) ∷ []) ∷ []) z.bits
