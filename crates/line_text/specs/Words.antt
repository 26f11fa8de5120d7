-- Words of a line, and which of them are names.
use Rattle.std.specs.Prelude.{ℕ, Bool, true, false, not, ◌&&◌, ◌||◌, ◌==◌, nat_le, List, [], ◌∷◌, length, codes}
use Rattle.std.specs.List.{list_any}
use Rattle.std.specs.Str.{bytes_eq}

-- a letter or `_`
abbrev pub begins_name : ℕ → Bool
begins_name b = (nat_le 97 b && nat_le b 122) || ((nat_le 65 b && nat_le b 90) || (b == 95))

-- that or a digit
abbrev pub continues_name : ℕ → Bool
continues_name b = begins_name b || (nat_le 48 b && nat_le b 57)

-- each byte is a letter, `_` or a digit
abbrev pub all_continue : List ℕ → Bool
all_continue [] = true
all_continue (b ∷ bs) = continues_name b && all_continue bs

-- a letter or `_`, and then at most 31 letters, digits or `_`
abbrev pub is_name : List ℕ → Bool
is_name [] = false
is_name (b ∷ bs) = begins_name b && (all_continue bs && nat_le (length bs) 31)

-- the words of the graph text that no graph, parameter, scenario or operation may have as its name
abbrev pub keywords : List (List ℕ)
keywords = codes "params" ∷ codes "graph" ∷ codes "scenario" ∷ codes "with" ∷ codes "empty" ∷ codes "code" ∷ []

abbrev pub is_keyword : List ℕ → Bool
is_keyword word = list_any (bytes_eq word) keywords

-- a name that is no keyword
abbrev pub is_free_name : List ℕ → Bool
is_free_name word = is_name word && not (is_keyword word)
