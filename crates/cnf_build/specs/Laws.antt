-- What is proved of evidence.
use Rattle.std.specs.Prelude.{ℕ, ◌≤◌, List, length}
use Rattle.std.specs.List.{All}
use Rattle.cpog_defs.specs.declared.types.Bit3.{Bit3}
use Rattle.cpog_defs.specs.Orders.{Order, IsOrderOf}
use Rattle.cpog_merge.specs.Columns.{Columns, count_of, AreColumnsOf}
use Rattle.cpog_merge.specs.Classes.{Classes, AreClassesOf}
use Rattle.gate_core.specs.Bounds.{IsLowerBound}
use Rattle.gate_template.specs.Templates.{ArePatterns}
use Rattle.cnf_build.specs.Evidence.{EvidenceValue, IsEvidence}

-- where there is evidence for a number, no encoding that keeps the given bits has fewer gates
abbrev pub EvidenceBounds : Type 0
EvidenceBounds =
    (orders : List Order) (patterns : List (List Bit3)) (t : Columns) (list : Classes) (bits lo : ℕ) (evidence : EvidenceValue) →
    All (IsOrderOf (count_of orders)) orders → AreColumnsOf orders t → AreClassesOf t list → 1 ≤ length orders →
    ArePatterns bits (length orders) patterns →
    IsEvidence (count_of orders) orders patterns bits list.columns lo evidence →
    IsLowerBound (count_of orders) orders patterns bits lo
