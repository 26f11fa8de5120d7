-- What is proved of texts and words.
use Rattle.std.specs.Prelude.{◌≡◌, ◌≢◌, ℕ, ◌<◌, ◌^◌, List}
use Rattle.std.specs.List.{AllByRecursion}
use Rattle.std.specs.Fmt.{decimal}
use Rattle.line_text.specs.Lines.{lines_of, text_of}

-- lines that hold no line feed are those of their text
abbrev pub LinesAreRead : Type 0
LinesAreRead = (lines : List (List ℕ)) → AllByRecursion (λ line. AllByRecursion (λ b. b ≢ 10) line) lines → lines_of (text_of lines) ≡ lines

-- two numbers with the same digits are one
abbrev pub NumbersAreTold : Type 0
NumbersAreTold = (m n : ℕ) → m < 2 ^ 64 → n < 2 ^ 64 → decimal m ≡ decimal n → m ≡ n
