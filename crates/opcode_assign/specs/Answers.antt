-- What a search answers.
use Rattle.std.specs.Prelude.{ℕ, ◌+◌, ◌<◌, ◌≤◌, List, length}
use Rattle.cpog_defs.specs.declared.types.Bit3.{Bit3}
use Rattle.cpog_defs.specs.declared.types.Ref.{Ref}
use Rattle.cpog_defs.specs.Orders.{Order}
use Rattle.cpog_defs.specs.Encodings.{Encoding, Encodes}
use Rattle.gate_core.specs.Serving.{ReferencesServe}
use Rattle.gate_core.specs.Bounds.{IsLowerBound}
use Rattle.cpog_merge.specs.Columns.{Columns, AreColumnsOf, count_of}
use Rattle.cpog_merge.specs.Classes.{Classes, AreClassesOf}
use Rattle.cpog_merge.specs.ByClass.{IsGraphByClass}
use Rattle.cpog_merge.specs.Incompatible.{IsIncompatibleSet}
use Rattle.cnf_build.specs.Evidence.{EvidenceValue, OpenValue, evidence_of, open_of, IsEvidence, IsOpenPart, AreLogsWritten}
use Rattle.opcode_assign.specs.declared.minimum.Answer.{Answer}
use Rattle.opcode_assign.specs.Assignments.{IsFirstAssignment, IsFirstOrFewer, most_gates}
use Rattle.opcode_assign.specs.Searches.{IsShownBy}

-- what a search says of the encodings of scenarios that keep the given bits: the encoding fits them by the classes of
-- their columns; no encoding has fewer gates than a number, which is at least the count of incompatible columns less the
-- bits, and there is evidence for it, by the count where that gives the number; nothing but fewer gates takes the place
-- of the first encoding; where the encoding has more gates than the number, it is the first one, and the rest is open
pub record IsSearched (orders : List Order) (patterns : List (List Bit3)) (bits budget : ℕ) (e : Encoding) (lo : ℕ)
    (evidence : EvidenceValue) (open_part : OpenValue) : Type 0 where
  pub encodes : Encodes (count_of orders) orders patterns bits e
  pub few_gates : length e.gates.gates ≤ most_gates
  pub columns : Columns
  pub are_columns : AreColumnsOf orders columns
  pub classes : Classes
  pub are_classes : AreClassesOf columns classes
  pub refs : List Ref
  pub serve : ReferencesServe classes.columns e.codes e.gates refs
  pub conditions : IsGraphByClass (count_of orders) classes refs e.graph
  pub taken : List ℕ
  pub set : IsIncompatibleSet classes.columns taken
  pub counted : length taken ≤ lo + bits
  pub shown_by : IsShownBy classes patterns bits budget taken lo evidence
  pub is_evidence : IsEvidence (count_of orders) orders patterns bits classes.columns lo evidence
  pub lower : IsLowerBound (count_of orders) orders patterns bits lo
  pub is_open_part : IsOpenPart patterns bits classes.columns lo (length e.gates.gates) budget open_part
  pub first : lo < length e.gates.gates → IsFirstAssignment (count_of orders) orders patterns bits e
  pub kept_or_fewer : IsFirstOrFewer (count_of orders) orders patterns bits e
  pub written : AreLogsWritten evidence open_part

-- the encoding, the number, the evidence and the open part of an answer are what a search says
abbrev pub IsAnswer : List Order → List (List Bit3) → ℕ → ℕ → Answer → Type 0
IsAnswer orders patterns bits budget a =
    IsSearched orders patterns bits budget a.encoding a.lo (evidence_of a.evidence) (open_of a.open_part)
