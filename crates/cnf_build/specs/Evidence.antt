-- What shows that no encoding has fewer gates than a number, and what is left open above it.
use Rattle.std.specs.Prelude.{◌≡◌, ℕ, ◌+◌, ◌<◌, ◌≤◌, if◌then◌else◌, List, length}
use Rattle.std.specs.List.{list_any, AllByRecursion}
use Rattle.cpog_base.specs.declared.limits.TheConstants.{TEMPLATE_LIMIT, VARIABLE_LIMIT}
use Rattle.cpog_base.specs.Pattern.{is_given}
use Rattle.cpog_defs.specs.declared.types.Bit3.{Bit3}
use Rattle.cpog_defs.specs.declared.types.Place.{Place}
use Rattle.cpog_defs.specs.Orders.{Order}
use Rattle.clause_arena.specs.Clauses.{Lit}
use Rattle.clause_arena.specs.Arenas.{literals}
use Rattle.cpog_merge.specs.Incompatible.{IsCountEvidence}
use Rattle.proof_check.specs.Lines.{Line, Rise, LinesPositive}
use Rattle.proof_check.specs.Following.{Refutes}
use Rattle.proof_check.specs.Progress.{IsProgressLog, Spends}
use Rattle.gate_template.specs.declared.types.Template.{Template}
use Rattle.gate_template.specs.declared.types.Template.TheVariants.{Second, Third}
use Rattle.gate_template.specs.Variables.{variables}
use Rattle.gate_template.specs.Templates.{shape_of, template}
use Rattle.cnf_build.specs.declared.evidence.Evidence.{Evidence}
use Rattle.cnf_build.specs.declared.evidence.Evidence.TheVariants as evidences
use Rattle.cnf_build.specs.declared.evidence.OpenPart.{OpenPart}
use Rattle.cnf_build.specs.declared.evidence.OpenPart.TheVariants as open_parts

-- evidence, with its log as a list of lines
pub data EvidenceValue : Type 0 where
  Zero : EvidenceValue
  Count : (places : List Place) → EvidenceValue
  Refutation : (kind : Template) (gates : ℕ) (log : List Line) → EvidenceValue

-- what is left open, with its log as a list of lines
pub data OpenValue : Type 0 where
  Closed : OpenValue
  Log : (kind : Template) (gates : ℕ) (log : List Line) → OpenValue
  Size : (kind : Template) (gates : ℕ) → OpenValue

-- evidence as clauses see it
abbrev pub evidence_of : Evidence → EvidenceValue
evidence_of evidences.Zero = EvidenceValue.Zero
evidence_of (evidences.Count places) = EvidenceValue.Count places.items
evidence_of (evidences.Refutation kind gates log) = EvidenceValue.Refutation kind gates log.lines

-- an open part as clauses see it
abbrev pub open_of : OpenPart → OpenValue
open_of open_parts.Closed = OpenValue.Closed
open_of (open_parts.Log kind gates log) = OpenValue.Log kind gates log.lines
open_of (open_parts.Size kind gates) = OpenValue.Size kind gates

-- the template that a search asks: the third where a bit is given, else the second
abbrev pub template_for : List (List Bit3) → Template
template_for patterns = if list_any (list_any is_given) patterns then Third else Second

-- a log that refutes the template with one gate fewer than the number, which is not too large
pub record IsRefutation (patterns : List (List Bit3)) (bits : ℕ) (columns : List (List Bit3)) (lo : ℕ) (kind : Template)
    (gates : ℕ) (log : List Line) : Type 0 where
  pub one_fewer : gates + 1 ≡ lo
  pub some_bits : 2 ≤ bits
  pub size : literals (template kind patterns bits gates columns) ≤ TEMPLATE_LIMIT
  pub refutes : Refutes (length (variables (shape_of patterns bits gates columns))) (template kind patterns bits gates columns) log

-- evidence that no encoding has fewer gates than a number, by the columns of the classes: the number is 0; or so many
-- places, and one for each bit of a code, have columns any two of which are incompatible; or a log refutes a template
abbrev pub IsEvidence : ℕ → List Order → List (List Bit3) → ℕ → List (List Bit3) → ℕ → EvidenceValue → Type 0
IsEvidence operations orders patterns bits columns lo EvidenceValue.Zero = lo ≡ 0
IsEvidence operations orders patterns bits columns lo (EvidenceValue.Count places) =
    (length places ≡ lo + bits) × IsCountEvidence operations orders places
IsEvidence operations orders patterns bits columns lo (EvidenceValue.Refutation kind gates log) =
    IsRefutation patterns bits columns lo kind gates log

-- a progress log that spends the budget on the template with so many gates as the bound says, which is not too large
pub record IsOpenLog (patterns : List (List Bit3)) (bits : ℕ) (columns : List (List Bit3)) (lo budget : ℕ) (kind : Template)
    (gates : ℕ) (log : List Line) : Type 0 where
  pub kind_is : kind ≡ template_for patterns
  pub gates_are : gates ≡ lo
  pub size : literals (template kind patterns bits gates columns) ≤ TEMPLATE_LIMIT
  pub progress : IsProgressLog (length (variables (shape_of patterns bits gates columns))) (template kind patterns bits gates columns) log
  pub spends : Spends budget log

-- the template with so many gates as the bound says is too large
pub record IsTooLarge (patterns : List (List Bit3)) (bits : ℕ) (columns : List (List Bit3)) (lo : ℕ) (kind : Template)
    (gates : ℕ) : Type 0 where
  pub kind_is : kind ≡ template_for patterns
  pub gates_are : gates ≡ lo
  pub size : TEMPLATE_LIMIT < literals (template kind patterns bits gates columns)

-- nothing is open where the bounds are equal; else such a log, or a template that is too large
abbrev pub IsOpenPart : List (List Bit3) → ℕ → List (List Bit3) → ℕ → ℕ → ℕ → OpenValue → Type 0
IsOpenPart patterns bits columns lo hi budget OpenValue.Closed = lo ≡ hi
IsOpenPart patterns bits columns lo hi budget (OpenValue.Log kind gates log) =
    (lo < hi) × IsOpenLog patterns bits columns lo budget kind gates log
IsOpenPart patterns bits columns lo hi budget (OpenValue.Size kind gates) =
    (lo < hi) × IsTooLarge patterns bits columns lo kind gates

-- a literal of a variable from 1 to the greatest that a formula may have
abbrev pub IsNumbered : Lit → Type 0
IsNumbered l = (1 ≤ l.var) × (l.var ≤ VARIABLE_LIMIT)

-- the literals of an addition are such literals
abbrev pub line_numbered : Line → Type 0
line_numbered (Line.Add id lits hints) = AllByRecursion IsNumbered lits
line_numbered (Line.Del ids) = Unit {0}

-- what a writer of a log needs: ids that rise from 0, hints and deleted ids above 0, and variables within the limit
pub record IsWrittenLog (log : List Line) : Type 0 where
  pub rise : Rise 0 log
  pub positive : LinesPositive log
  pub numbered : AllByRecursion line_numbered log

-- the log of evidence is such a one
abbrev pub HasWrittenEvidence : EvidenceValue → Type 0
HasWrittenEvidence EvidenceValue.Zero = Unit {0}
HasWrittenEvidence (EvidenceValue.Count places) = Unit {0}
HasWrittenEvidence (EvidenceValue.Refutation kind gates log) = IsWrittenLog log

-- the log of an open part is such a one
abbrev pub HasWrittenOpenPart : OpenValue → Type 0
HasWrittenOpenPart OpenValue.Closed = Unit {0}
HasWrittenOpenPart (OpenValue.Log kind gates log) = IsWrittenLog log
HasWrittenOpenPart (OpenValue.Size kind gates) = Unit {0}

-- the logs of both are
pub record AreLogsWritten (evidence : EvidenceValue) (open_part : OpenValue) : Type 0 where
  pub of_evidence : HasWrittenEvidence evidence
  pub of_open_part : HasWrittenOpenPart open_part
