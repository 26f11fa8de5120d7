-- The evidence of a report and what it leaves open: how lines spell both, and how both are read.
use Rattle.std.specs.Prelude.{◌≡◌, ℕ, List, ◌++◌, length, Result, Ok, codes}
use Rattle.cpog_base.specs.declared.limits.TheConstants.{VARIABLE_LIMIT}
use Rattle.cpog_defs.specs.declared.types.Place.{Place}
use Rattle.proof_check.specs.Lines.{Line}
use Rattle.dimacs_text.specs.Logs.{id_after}
use Rattle.cnf_build.specs.Evidence.{EvidenceValue, OpenValue, evidence_of, open_of}
use Rattle.report_text.specs.Report.{IsReportEvidence, IsReportOpen}
use Rattle.report_text.specs.Spelling.{SpellsEvidence, SpellsOpen}
use Rattle.line_rows.specs.Position.{Position}
use Rattle.line_rows.specs.Reading.{row, exactly, then_of, view_of}
use Rattle.line_rows.specs.Lined.{lined_of}
use Rattle.evidence_reader.specs.LogLines.{log_line_in}
use Rattle.evidence_reader.specs.Rows.{evidence_head_in, open_head_in, place_in, is_member_row, is_log_row}
use Rattle.evidence_reader.specs.declared.heads.EvidenceHead.{EvidenceHead}
use Rattle.evidence_reader.specs.declared.heads.EvidenceHead.TheVariants as evidence_heads
use Rattle.evidence_reader.specs.declared.heads.OpenHead.{OpenHead}
use Rattle.evidence_reader.specs.declared.heads.OpenHead.TheVariants as open_heads
use Rattle.evidence_reader.specs.declared.shown.Shown.{Shown}

-- what is shown, with its logs as lists of lines
abbrev pub shown_value : Shown → EvidenceValue × OpenValue
shown_value s = (evidence_of s.evidence, open_of s.open_part)

-- lines spell evidence that a report may have
abbrev pub SpellsReportEvidence : List (List ℕ) → ℕ → EvidenceValue → List (List ℕ) → Type 0
SpellsReportEvidence names limit e ls = IsReportEvidence (length names) limit e × SpellsEvidence names e ls

-- lines spell an open part that a report may have
abbrev pub SpellsReportOpen : ℕ → OpenValue → List (List ℕ) → Type 0
SpellsReportOpen limit o ls = IsReportOpen limit o × SpellsOpen o ls

-- lines spell the evidence, and behind it what is left open
abbrev pub SpellsShown : List (List ℕ) → ℕ → EvidenceValue × OpenValue → List (List ℕ) → Type 0
SpellsShown names limit v ls = (evidence_lines : List (List ℕ)) × (open_lines : List (List ℕ)) × SpellsReportEvidence names limit v.0 evidence_lines
    × SpellsReportOpen limit v.1 open_lines × (ls ≡ evidence_lines ++ open_lines)

-- the second of two
abbrev pub second_of : {A B : Type 0} → A × B → B
second_of x = x.1

-- the lines of a log up to its end
abbrev pub log_rows_at : Position → Result ((List Line × Unit {0}) × Position) ℕ
log_rows_at = lined_of is_log_row (log_line_in VARIABLE_LIMIT) id_after (exactly (codes "end")) 0

-- the values that stand before the end
abbrev pub rows_before : {A E : Type 0} → List A × E → List A
rows_before x = x.0

-- a log up to its end
unfoldable pub log_at : Position → Result (List Line × Position) ℕ
log_at = view_of rows_before log_rows_at

-- what follows the first line of what is left open
abbrev pub after_open : OpenHead → Position → Result (OpenValue × Position) ℕ
after_open open_heads.Closed p = Ok (OpenValue.Closed, p)
after_open (open_heads.Log kind gates) p = view_of (OpenValue.Log kind gates) log_at p
after_open (open_heads.Size kind gates) p = Ok (OpenValue.Size kind gates, p)

-- what is left open
unfoldable pub open_at : ℕ → Position → Result (OpenValue × Position) ℕ
open_at limit = view_of second_of (then_of (row (open_head_in limit)) after_open)

-- nothing is passed on from place to place
abbrev pub same_state : {A : Type 0} → Unit {0} → A → Unit {0}
same_state s v = s

-- the places of a count, up to the first line of what is left open
unfoldable pub places_at : List (List ℕ) → ℕ → Position → Result ((List Place × OpenHead) × Position) ℕ
places_at names limit = lined_of is_member_row (λ _. place_in names) same_state (open_head_in limit) tt

-- evidence that is one line, with what is left open
abbrev pub with_none : OpenValue → EvidenceValue × OpenValue
with_none o = (EvidenceValue.Zero, o)

-- evidence by a count, with what is left open
abbrev pub with_places : (List Place × OpenHead) × OpenValue → EvidenceValue × OpenValue
with_places x = (EvidenceValue.Count x.0.0, x.1)

-- what follows the first line of evidence
abbrev pub after_evidence : List (List ℕ) → ℕ → EvidenceHead → Position → Result ((EvidenceValue × OpenValue) × Position) ℕ
after_evidence names limit evidence_heads.Zero p = view_of with_none (open_at limit) p
after_evidence names limit evidence_heads.Count p = view_of with_places (then_of (places_at names limit) (λ x. after_open x.1)) p
after_evidence names limit (evidence_heads.Refutation kind gates) p =
    view_of (λ x. (EvidenceValue.Refutation kind gates x.0, x.1)) (then_of log_at (λ _. open_at limit)) p

-- evidence, and what is left open
unfoldable pub shown_at : List (List ℕ) → ℕ → Position → Result ((EvidenceValue × OpenValue) × Position) ℕ
shown_at names limit = view_of second_of (then_of (row (evidence_head_in limit)) (after_evidence names limit))
