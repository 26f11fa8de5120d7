-- Names are text, and an operation that is found is one of them.
use Rattle.std.proofs.Common.{◌≡◌, ℕ, zero, suc, ◌<◌, true, List, [], ◌∷◌, length, Some, arith}
use Rattle.std.specs.Str.{IsAscii, IsUtf8, bytes_eq}
use Rattle.std.proofs.lemmas.Str.{IsUtf8-from_ascii}
use Rattle.std.proofs.lemmas.Bool.Decides.{nat_tests}
use Rattle.std.proofs.lemmas.List.Quantifiers.{position-Some}
use Rattle.cpog_base.specs.Names.{place_of}
use Rattle.line_text.specs.Words.{is_free_name, continues_name}
use Rattle.line_text.proofs.TellingLemmas.{AllPass, free_name_passes}

continues_lt : (b : ℕ) → continues_name b ≡ true → b < 128
continues_lt b h = grind (arith, nat_tests)

word_is_ascii : (w : List ℕ) → AllPass continues_name w → IsAscii w
word_is_ascii [] h zero = omega arith
word_is_ascii [] h (suc i) = omega arith
word_is_ascii (b ∷ w) h zero = continues_lt b h.0
word_is_ascii (b ∷ w) h (suc i) = word_is_ascii w h.1 i

pub name_is_utf8 : (w : List ℕ) → is_free_name w ≡ true → IsUtf8 w
name_is_utf8 w h = IsUtf8-from_ascii w (word_is_ascii w (free_name_passes w h))

pub place_is_below : (names : List (List ℕ)) (name : List ℕ) (v : ℕ) → place_of names name ≡ Some v → v < length names
place_is_below names name v e = (position-Some (bytes_eq name) names v [] e).0
