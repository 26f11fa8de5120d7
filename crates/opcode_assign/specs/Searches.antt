-- What the steps of a search say of the classes of scenarios.
use Rattle.std.specs.Prelude.{◌≡◌, ℕ, ◌+◌, ◌^◌, ◌<◌, ◌≤◌, List, length, map}
use Rattle.std.specs.List.{All}
use Rattle.cpog_base.specs.declared.limits.TheConstants.{SCENARIO_LIMIT, TEMPLATE_LIMIT}
use Rattle.cpog_defs.specs.declared.types.Bit3.{Bit3}
use Rattle.cpog_defs.specs.Orders.{Order}
use Rattle.cpog_defs.specs.Gates.{IsGateList, signal_count, IsRefOver}
use Rattle.cpog_defs.specs.Graphs.{IsGraph}
use Rattle.cpog_defs.specs.Encodings.{Encoding}
use Rattle.clause_arena.specs.Arenas.{literals}
use Rattle.proof_check.specs.Lines.{Line}
use Rattle.proof_check.specs.Following.{Refutes}
use Rattle.proof_check.specs.Progress.{IsProgressLog, StaysBelow, Spends}
use Rattle.cpog_merge.specs.Classes.{Classes}
use Rattle.cpog_merge.specs.ByClass.{HaveReferences, IsGraphByClass}
use Rattle.cpog_merge.specs.Incompatible.{IsIncompatibleSet, place_at}
use Rattle.gate_template.specs.declared.types.Template.{Template}
use Rattle.gate_template.specs.declared.types.Template.TheVariants.{Third}
use Rattle.gate_template.specs.Variables.{variables}
use Rattle.gate_template.specs.Templates.{shape_of, template}
use Rattle.gate_template.specs.Values.{Parts, IsSolution}
use Rattle.cnf_build.specs.Decoded.{parts_of}
use Rattle.cnf_build.specs.Evidence.{EvidenceValue, IsEvidence, IsOpenPart, IsWrittenLog, HasWrittenOpenPart, open_of, template_for}
use Rattle.opcode_assign.specs.declared.attempt.Attempt.{Attempt}
use Rattle.opcode_assign.specs.declared.attempt.Attempt.TheVariants as attempts
use Rattle.opcode_assign.specs.declared.raising.End.{End}
use Rattle.opcode_assign.specs.declared.raising.End.TheVariants as ends

-- a number is the count of incompatible classes less the bits, or 0 where there are no more of them than bits
abbrev pub IsCountOf : Classes → ℕ → List ℕ → ℕ → EvidenceValue → Type 0
IsCountOf list bits taken lo EvidenceValue.Zero = (lo ≡ 0) × (length taken ≤ bits)
IsCountOf list bits taken lo (EvidenceValue.Count places) = (length taken ≡ lo + bits) × (places ≡ map (place_at list) taken)
IsCountOf list bits taken lo (EvidenceValue.Refutation kind gates log) = ⊥

-- such a number of the set that is taken in order
pub record IsCounted (list : Classes) (bits lo : ℕ) (evidence : EvidenceValue) : Type 0 where
  pub taken : List ℕ
  pub set : IsIncompatibleSet list.columns taken
  pub count : IsCountOf list bits taken lo evidence

-- how a search shows a number: by the count of the incompatible classes where that gives it, else by a refutation of the
-- template that it asks, whose log stays below the budget
abbrev pub IsShownBy : Classes → List (List Bit3) → ℕ → ℕ → List ℕ → ℕ → EvidenceValue → Type 0
IsShownBy list patterns bits budget taken lo (EvidenceValue.Refutation kind gates log) =
    (length taken < lo + bits) × (kind ≡ template_for patterns) × StaysBelow budget log
IsShownBy list patterns bits budget taken lo evidence = IsCountOf list bits taken lo evidence

-- a log below the budget that refutes the template, which is not too large
pub record IsRefuted (kind : Template) (patterns : List (List Bit3)) (bits : ℕ) (columns : List (List Bit3))
    (gates budget : ℕ) (log : List Line) : Type 0 where
  pub size : literals (template kind patterns bits gates columns) ≤ TEMPLATE_LIMIT
  pub refutes : Refutes (length (variables (shape_of patterns bits gates columns))) (template kind patterns bits gates columns) log
  pub below : StaysBelow budget log
  pub written : IsWrittenLog log

-- a progress log that spends the budget on the template, which is not too large
pub record IsLeftOpen (kind : Template) (patterns : List (List Bit3)) (bits : ℕ) (columns : List (List Bit3))
    (gates budget : ℕ) (log : List Line) : Type 0 where
  pub size : literals (template kind patterns bits gates columns) ≤ TEMPLATE_LIMIT
  pub progress : IsProgressLog (length (variables (shape_of patterns bits gates columns))) (template kind patterns bits gates columns) log
  pub spends : Spends budget log
  pub written : IsWrittenLog log

-- what an attempt at a template shows: a solution with so many gates, a refutation, a log that spends the budget, or
-- that it is too large
abbrev pub IsAttempt : Template → List (List Bit3) → ℕ → List (List Bit3) → ℕ → ℕ → Attempt → Type 0
IsAttempt kind patterns bits columns gates budget (attempts.Found d) =
    IsSolution kind patterns bits columns (parts_of d.codes.items d.gates d.refs.items) × (length d.gates.gates ≡ gates)
IsAttempt kind patterns bits columns gates budget (attempts.Refuted log) = IsRefuted kind patterns bits columns gates budget log.lines
IsAttempt kind patterns bits columns gates budget (attempts.Open log) = IsLeftOpen kind patterns bits columns gates budget log.lines
IsAttempt kind patterns bits columns gates budget attempts.TooLarge = TEMPLATE_LIMIT < literals (template kind patterns bits gates columns)

-- how the search ends at a bound: with a solution of so many gates, fewer than hi, which keeps the given bits, or with
-- what it leaves open up to hi gates
abbrev pub IsEnd : List (List Bit3) → ℕ → List (List Bit3) → ℕ → ℕ → ℕ → End → Type 0
IsEnd patterns bits columns lo hi budget (ends.Found d) =
    IsSolution Third patterns bits columns (parts_of d.codes.items d.gates d.refs.items) × (length d.gates.gates ≡ lo) × (lo < hi)
IsEnd patterns bits columns lo hi budget (ends.Left open_part) =
    IsOpenPart patterns bits columns lo hi budget (open_of open_part) × HasWrittenOpenPart (open_of open_part)

-- evidence for a number gives evidence for another one, whatever the orders of the columns
abbrev pub Raises : List (List Bit3) → ℕ → List (List Bit3) → ℕ → EvidenceValue → ℕ → EvidenceValue → Type 0
Raises patterns bits columns before shown after evidence =
    (operations : ℕ) (orders : List Order) → IsEvidence operations orders patterns bits columns before shown →
    IsEvidence operations orders patterns bits columns after evidence

-- codes, gates and references of which a graph by the classes makes an encoding
pub record CanBeEncoded (list : Classes) (parts : Parts) : Type 0 where
  pub references : HaveReferences list parts.refs
  pub over : All (IsRefOver (signal_count parts.gates)) parts.refs
  pub codes : All (λ word. word < 2 ^ parts.gates.inputs) parts.codes
  pub few : length parts.codes ≤ SCENARIO_LIMIT
  pub gates : IsGateList parts.gates

-- an encoding has these codes and gates, and the graph of these references by the classes
pub record IsEncodedBy (list : Classes) (parts : Parts) (e : Encoding) : Type 0 where
  pub same : e ≡ record { codes = parts.codes; gates = parts.gates; graph = e.graph }
  pub is_graph : IsGraph list.count (signal_count parts.gates) e.graph
  pub conditions : IsGraphByClass list.count list parts.refs e.graph
