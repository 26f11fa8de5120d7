-- How the operations and the arcs of a scenario are read.
use Rattle.std.specs.Prelude.{◌≡◌, ℕ, ◌+◌, ◌==◌, ◌&&◌, ◌||◌, nat_le, nat_lt, Bool, true, false, List, [], ◌∷◌, ◌++◌, length, take, drop, Option, Some, None, codes, if◌then◌else◌}
use Rattle.std.specs.List.{position_or_len}
use Rattle.std.specs.FinSet as set
use Rattle.cpog_base.specs.Names.{place_of}
use Rattle.cpog_base.specs.Arcs.{with_arc}
use Rattle.cpog_defs.specs.declared.types.OpId.{OpId}
use Rattle.cpog_defs.specs.Orders.{Set}
use Rattle.line_rows.specs.Words.{◌>>=?◌, behind_of}
use Rattle.report_reader.specs.Lists.{words_after}

-- the least number that may come next, and the members so far
pub record Members : Type 0 where
  pub least : ℕ
  pub ops : Set

-- an operation that may come next
abbrev pub member_from : Members → ℕ → Option Members
member_from m v = if nat_le m.least v then Some (record { least = v + 1; ops = set.insert m.ops v }) else None

abbrev pub take_member : List (List ℕ) → Members → List ℕ → Option Members
take_member names m word = place_of names word >>=? member_from m

abbrev pub members_of : Members → Option Set
members_of m = Some m.ops

-- the operations that a scenario has
unfoldable pub has_in : List (List ℕ) → List ℕ → Option Set
has_in names = behind_of (codes "has") (λ bytes. words_after (take_member names) (record { least = 0; ops = set.empty }) bytes >>=? members_of)

-- the words before and behind the first such byte
unfoldable pub word_to : ℕ → List ℕ → Option (List ℕ × List ℕ)
word_to byte bytes = if nat_lt (position_or_len (λ b. b == byte) bytes) (length bytes) then Some (take (position_or_len (λ b. b == byte) bytes) bytes, drop (position_or_len (λ b. b == byte) bytes + 1) bytes) else None

-- the ends of an arc
unfoldable pub ends_in : List (List ℕ) → List ℕ → Option (ℕ × ℕ)
ends_in names word = word_to 62 word >>=? λ w. place_of names w.0 >>=? λ u. place_of names w.1 >>=? λ v. Some (u, v)

-- a pair of numbers
pub record Pair : Type 0 where
  pub first : ℕ
  pub second : ℕ

-- by the first numbers, and then the second
abbrev pub is_from : Pair → ℕ → ℕ → Bool
is_from p u v = nat_lt p.first u || (p.first == u && nat_le p.second v)

-- the least pair that may come next, and the arcs so far
pub record Written : Type 0 where
  pub least : Pair
  pub arcs : List (OpId × OpId)

-- an arc between members that may come next
abbrev pub arc_from : Set → Written → ℕ × ℕ → Option Written
arc_from ops w e = if is_from w.least e.0 e.1 && (set.contains ops e.0 && set.contains ops e.1) then Some (record { least = record { first = e.0; second = e.1 + 1 }; arcs = with_arc w.arcs e.0 e.1 }) else None

abbrev pub take_arc : List (List ℕ) → Set → Written → List ℕ → Option Written
take_arc names ops w word = ends_in names word >>=? arc_from ops w

abbrev pub arcs_of : Written → Option (List (OpId × OpId))
arcs_of w = Some w.arcs

-- the arcs of a scenario with these operations
unfoldable pub arcs_in : List (List ℕ) → Set → List ℕ → Option (List (OpId × OpId))
arcs_in names ops = behind_of (codes "arcs") (λ bytes. words_after (take_arc names ops) (record { least = record { first = 0; second = 0 }; arcs = [] }) bytes >>=? arcs_of)

-- an answer by a test, with what was put in
abbrev pub Told : {A : Type 0} → Bool → Option A → A → Type 0
Told true o x = o ≡ Some x
Told false o x = o ≡ None

-- the members that stand behind these
abbrev pub behind_words : (Members → List ℕ → Option Members) → Members → List ℕ → Option Set
behind_words take m bytes = words_after take m bytes >>=? members_of

-- the arcs that stand behind these
abbrev pub behind_arcs : List (List ℕ) → Set → Written → List ℕ → Option (List (OpId × OpId))
behind_arcs names ops w bytes = words_after (take_arc names ops) w bytes >>=? arcs_of
