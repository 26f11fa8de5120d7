-- The text of a log.
use Rattle.std.specs.Prelude.{◌≡◌, ℕ, ◌<◌, ◌≤◌, Bool, true, false, ◌==◌, List, [], ◌∷◌, ◌++◌, length, map, codes, if◌then◌else◌, slice_index}
use Rattle.std.specs.List.{AllByRecursion}
use Rattle.std.specs.Fmt.{decimal}
use Rattle.clause_arena.specs.Clauses.{Lit, Clause}
use Rattle.proof_check.specs.Lines.{Line}
use Rattle.text_rows.specs.Words.{tokens, signed_word}

-- words that `0` ends
abbrev pub ended : List (List ℕ) → List (List ℕ)
ended words = words ++ decimal 0 ∷ []

-- the word of a literal
abbrev pub lit_word : Lit → List ℕ
lit_word l = signed_word l.negated l.var

-- its variable is from 1 to so many
abbrev pub IsLitWithin : ℕ → Lit → Type 0
IsLitWithin variables l = (0 < l.var) × (l.var ≤ variables)

-- those of all literals are
abbrev pub LitsWithin : ℕ → Clause → Type 0
LitsWithin variables lits = AllByRecursion (IsLitWithin variables) lits

-- an id or a hint: a number from 1 to 4294967295
abbrev pub IsId : ℕ → Type 0
IsId n = (0 < n) × (n < 4294967296)

-- all are ids
abbrev pub AreIds : List ℕ → Type 0
AreIds ids = AllByRecursion IsId ids

-- the words of a line spell an addition or a deletion, behind additions of which the last has this id
abbrev pub SpellsLine : ℕ → ℕ → Line → List (List ℕ) → Type 0
SpellsLine variables last (Line.Add id lits hints) words =
    (last < id) × (id < 4294967296) × LitsWithin variables lits × AreIds hints × (words ≡ decimal id ∷ (ended (map lit_word lits) ++ ended (map decimal hints)))
SpellsLine variables last (Line.Del ids) words =
    AreIds ids × ((id : ℕ) × (0 < id) × (id < 4294967296) × (words ≡ decimal id ∷ codes "d" ∷ ended (map decimal ids)))

-- the id of the last addition behind one more line
abbrev pub id_after : ℕ → Line → ℕ
id_after last (Line.Add id lits hints) = id
id_after last (Line.Del ids) = last

-- a comment begins with `c`, and a blank line has no word
abbrev pub is_passed : List ℕ → Bool
is_passed line = if slice_index line 0 == 99 then true else length (tokens line) == 0

-- the first where the test holds, and else the second
abbrev pub SpellsIf : Bool → Type 0 → Type 0 → Type 0
SpellsIf true P Q = P
SpellsIf false P Q = Q

-- the lines of a text spell the lines of a log
abbrev pub SpellsLog : ℕ → ℕ → List (List ℕ) → List Line → Type 0
SpellsLog variables last [] log = log ≡ []
SpellsLog variables last (l ∷ ls) log = SpellsIf (is_passed l) (SpellsLog variables last ls log)
    ((e : Line) × (others : List Line) × (log ≡ e ∷ others) × SpellsLine variables last e (tokens l) × SpellsLog variables (id_after last e) ls others)
