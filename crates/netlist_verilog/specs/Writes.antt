-- What is written behind a text.
use Rattle.std.specs.Prelude.{◌≡◌, ℕ, List, ◌++◌, String, string_bytes}

-- the text after it is the text before with these bytes behind it
abbrev pub Writes : {Z : Type 0} → String Z → String Z → List ℕ → Type 0
Writes before after bytes = string_bytes after ≡ string_bytes before ++ bytes
