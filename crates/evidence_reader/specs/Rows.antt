-- The lines of evidence and of what is left open, and how each is read.
use Rattle.std.specs.Prelude.{ℕ, ◌<◌, Bool, not, ◌==◌, List, ◌++◌, take, Option, Some, None, codes, if◌then◌else◌}
use Rattle.std.specs.Str.{bytes_eq}
use Rattle.cpog_base.specs.Names.{place_of}
use Rattle.cpog_defs.specs.declared.types.Place.{Place}
use Rattle.cpog_defs.specs.declared.types.Place.TheVariants.{Op, Arc}
use Rattle.line_text.specs.Words.{is_free_name}
use Rattle.gate_template.specs.declared.types.Template.{Template}
use Rattle.gate_template.specs.declared.types.Template.TheVariants.{First, Second, Third}
use Rattle.report_text.specs.Rows.{template_text}
use Rattle.line_rows.specs.Words.{number_in, behind_of, pair_of, made_of}
use Rattle.evidence_reader.specs.LogLines.{first_of}
use Rattle.evidence_reader.specs.declared.heads.EvidenceHead.{EvidenceHead}
use Rattle.evidence_reader.specs.declared.heads.EvidenceHead.TheVariants as evidence_heads
use Rattle.evidence_reader.specs.declared.heads.OpenHead.{OpenHead}
use Rattle.evidence_reader.specs.declared.heads.OpenHead.TheVariants as open_heads

-- the template of a number
abbrev pub kind_of : ℕ → Option Template
kind_of n = if n == 1 then Some First else if n == 2 then Some Second else if n == 3 then Some Third else None

-- a template by its number
unfoldable pub kind_in : List ℕ → Option Template
kind_in = made_of kind_of (number_in 4)

-- a template and its number of gates, which is below the limit
unfoldable pub template_in : ℕ → List ℕ → Option (Template × ℕ)
template_in limit = pair_of kind_in (λ _. number_in limit)

-- the first line of evidence
abbrev pub evidence_row : EvidenceHead → List ℕ
evidence_row evidence_heads.Zero = codes "evidence zero"
evidence_row evidence_heads.Count = codes "evidence count"
evidence_row (evidence_heads.Refutation kind gates) = codes "evidence refutation " ++ template_text kind gates

-- the number of gates that it says is below the limit
abbrev pub IsEvidenceHead : ℕ → EvidenceHead → Type 0
IsEvidenceHead limit evidence_heads.Zero = Unit {0}
IsEvidenceHead limit evidence_heads.Count = Unit {0}
IsEvidenceHead limit (evidence_heads.Refutation kind gates) = gates < limit

-- evidence by a refutation
abbrev pub refutation_of : Template × ℕ → Option EvidenceHead
refutation_of x = Some (evidence_heads.Refutation x.0 x.1)

-- the first line of evidence, read
unfoldable pub evidence_head_in : ℕ → List ℕ → Option EvidenceHead
evidence_head_in limit line =
    if bytes_eq line (codes "evidence zero") then Some evidence_heads.Zero
    else if bytes_eq line (codes "evidence count") then Some evidence_heads.Count
    else behind_of (codes "evidence refutation ") (made_of refutation_of (template_in limit)) line

-- the first line of what is left open
abbrev pub open_row : OpenHead → List ℕ
open_row open_heads.Closed = codes "open none"
open_row (open_heads.Log kind gates) = codes "open log " ++ template_text kind gates
open_row (open_heads.Size kind gates) = codes "open size " ++ template_text kind gates

-- the number of gates that it says is below the limit
abbrev pub IsOpenHead : ℕ → OpenHead → Type 0
IsOpenHead limit open_heads.Closed = Unit {0}
IsOpenHead limit (open_heads.Log kind gates) = gates < limit
IsOpenHead limit (open_heads.Size kind gates) = gates < limit

-- a log that is open
abbrev pub open_log_of : Template × ℕ → Option OpenHead
open_log_of x = Some (open_heads.Log x.0 x.1)

-- a template that is too large
abbrev pub open_size_of : Template × ℕ → Option OpenHead
open_size_of x = Some (open_heads.Size x.0 x.1)

-- the first line of what is left open, read
unfoldable pub open_head_in : ℕ → List ℕ → Option OpenHead
open_head_in limit line =
    if bytes_eq line (codes "open none") then Some open_heads.Closed
    else first_of (behind_of (codes "open log ") (made_of open_log_of (template_in limit)) line)
    (behind_of (codes "open size ") (made_of open_size_of (template_in limit)) line)

-- the number of an operation by its name
unfoldable pub known_in : List (List ℕ) → List ℕ → Option ℕ
known_in names word = if is_free_name word then place_of names word else None

-- a place of one operation
abbrev pub op_of : ℕ → Option Place
op_of v = Some (Op (record { 0 = v }))

-- a place of two different operations
abbrev pub arc_of : ℕ × ℕ → Option Place
arc_of x = if x.0 == x.1 then None else Some (Arc (record { 0 = x.0 }) (record { 0 = x.1 }))

-- a place by the names of its operations, read
unfoldable pub place_in : List (List ℕ) → List ℕ → Option Place
place_in names line = first_of (behind_of (codes "op ") (made_of op_of (known_in names)) line)
    (behind_of (codes "arc ") (made_of arc_of (pair_of (known_in names) (λ _. known_in names))) line)

-- whether a line behind the first one of a count is one of its places: it doesn't begin what is left open
abbrev pub is_member_row : List ℕ → Bool
is_member_row line = not (bytes_eq (take 5 line) (codes "open "))

-- whether a line behind the first one of a log is one of its lines
abbrev pub is_log_row : List ℕ → Bool
is_log_row line = not (bytes_eq line (codes "end"))
