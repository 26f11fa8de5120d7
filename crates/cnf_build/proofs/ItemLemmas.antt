-- Items of lists of patterns and of columns.
use Rattle.std.proofs.Common.{◌≡◌, ℕ, zero, suc, ◌<◌, List, [], ◌∷◌, length, get_or, sym, arith}
use Rattle.cpog_defs.specs.declared.types.Bit3.{Bit3}

-- an item of a list of lists, read with any default
pub item_is : (xs : List (List Bit3)) (k : ℕ) (x : List Bit3) → k < length xs → x ≡ get_or xs k x → get_or xs k [] ≡ x
item_is [] k x l e = absurd (omega arith)
item_is (y ∷ xs) zero x l e = sym e
item_is (y ∷ xs) (suc k) x l e = item_is xs k x (omega arith) e
