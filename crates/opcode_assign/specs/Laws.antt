-- What is proved of first assignments.
use Rattle.std.specs.Prelude.{◌≡◌, ℕ, List}
use Rattle.cpog_defs.specs.declared.types.Bit3.{Bit3}
use Rattle.cpog_defs.specs.Orders.{Order}
use Rattle.cpog_defs.specs.Encodings.{Encoding}
use Rattle.opcode_assign.specs.Assignments.{IsFirstAssignment}

-- scenarios have one first assignment of so many bits that keeps the given ones
abbrev pub FirstAssignmentsAgree : Type 0
FirstAssignmentsAgree =
    (count bits : ℕ) (orders : List Order) (patterns : List (List Bit3)) (a b : Encoding) →
    IsFirstAssignment count orders patterns bits a → IsFirstAssignment count orders patterns bits b → a ≡ b
