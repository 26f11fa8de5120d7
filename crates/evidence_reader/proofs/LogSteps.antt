-- The steps of the loop over the lines of a log.
use Rattle.std.proofs.Common.{◌≡◌, ℕ, ◌<◌, Bool, true, false, List, [], ◌∷◌, ◌++◌, length, Some, None, Ok, Err, not, refl, sym, ap, ap₂, subst, ◌∙◌, arith}
use Rattle.std.specs.Prelude.{codes}
use Rattle.std.specs.Bool.{MatchBool}
use Rattle.std.specs.Str.{bytes_eq}
use Rattle.cpog_base.specs.declared.limits.TheConstants.{VARIABLE_LIMIT}
use Rattle.proof_check.specs.Lines.{Line, last_id}
use Rattle.text_rows.specs.Words.{tokens}
use Rattle.dimacs_text.specs.Logs.{SpellsLine, id_after}
use Rattle.dimacs_text.proofs.LogTextLemmas.{last_push}
use Rattle.report_text.specs.Spelling.{IsSingleSpaced}
use Rattle.line_rows.specs.Position.{Position}
use Rattle.line_rows.specs.Reading.{Fails, line_at, exactly}
use Rattle.line_rows.specs.Lined.{lined_of}
use Rattle.line_rows.proofs.LinedLoops.{with_rows, rows_go_on, row_is_bad, rows_end, rows_break_off}
use Rattle.evidence_reader.specs.Rows.{is_log_row}
use Rattle.line_rows.specs.declared.fault.ReadError.{ReadError}
use Rattle.line_rows.specs.declared.fault.ReadError.TheVariants as errors
use Rattle.evidence_reader.specs.LogLines.{log_line_in}
use Rattle.evidence_reader.specs.Shown.{log_rows_at, log_at}
use Rattle.evidence_reader.specs.Spacing.{is_tight}
use Rattle.evidence_reader.proofs.LogLineLaws.{log_line_found}
use Rattle.evidence_reader.proofs.SpacedLemmas.{tight_is_single, loose_is_not}

pub single_told : (b : Bool) (line : List ℕ) → 0 < length line → b ≡ is_tight true line → MatchBool b (IsSingleSpaced line) (IsSingleSpaced line → ⊥)
single_told true line some e = tight_is_single line (sym e)
single_told false line some e = loose_is_not line some (sym e)

-- one line more
pub pushed : (last first first' next : ℕ) (line : List ℕ) (old new : List Line) (e : Line) → IsSingleSpaced line → SpellsLine VARIABLE_LIMIT last e (tokens line) → first' ≡ first → last_id first old ≡ last → new ≡ old ++ e ∷ [] → next ≡ id_after last e
    → (x : Line) × (log_line_in VARIABLE_LIMIT last line ≡ Some x) × (new ≡ old ++ x ∷ []) × (next ≡ id_after last x) × (last_id first' new ≡ next)
pushed last first first' next line old new e single spells same before is after =
    let behind : last_id first' new ≡ next = ap₂ last_id same is ∙ last_push first old e ∙ ap (λ (k : ℕ). id_after k e) before ∙ sym after in
    (e, log_line_found VARIABLE_LIMIT (omega arith) last line e single spells, is, after, behind)

pub log_of_rows : (p q : Position) (log : List Line) → log_rows_at p ≡ Ok ((log, tt), q) → log_at p ≡ Ok (log, q)
unfolding log_at
log_of_rows p q log e = rw e refl

pub log_of_fault : (e : ReadError) (p : Position) → Fails e (log_rows_at p) → Fails e (log_at p)
unfolding log_at
log_of_fault errors.Memory p h = tt
log_of_fault (errors.BadLine k) p h = rw h refl

-- ---- the loop

-- behind these lines, the last of which had this id, the rest is read from here
abbrev pub IsReadTo : Position → List Line → ℕ → Position → Type 0
IsReadTo start log last p = with_rows log (lined_of is_log_row (log_line_in VARIABLE_LIMIT) id_after (exactly (codes "end")) last p) ≡ log_rows_at start

pub log_ends : (start p q : Position) (log : List Line) (last : ℕ) (l : List ℕ) → IsReadTo start log last p → line_at p ≡ Ok (l, q) → bytes_eq l (codes "end") ≡ true → log_at start ≡ Ok (log, q)
log_ends start p q log last l read here end =
    log_of_rows start q log (rows_end is_log_row (log_line_in VARIABLE_LIMIT) id_after (exactly (codes "end")) log last p q l tt (log_rows_at start) here (ap not end) (rw end refl) read)

pub log_line_bad : (start p q : Position) (log : List Line) (last : ℕ) (l : List ℕ) → IsReadTo start log last p → line_at p ≡ Ok (l, q) → bytes_eq l (codes "end") ≡ false → log_line_in VARIABLE_LIMIT last l ≡ None → log_at start ≡ Err q.number
log_line_bad start p q log last l read here more none =
    log_of_fault (errors.BadLine q.number) start (row_is_bad is_log_row (log_line_in VARIABLE_LIMIT) id_after (exactly (codes "end")) log last p q l (log_rows_at start) here (ap not more) none read)

pub log_goes_on : (start p q : Position) (log new : List Line) (last next : ℕ) (l : List ℕ) (e : Line) → IsReadTo start log last p → line_at p ≡ Ok (l, q) → bytes_eq l (codes "end") ≡ false → log_line_in VARIABLE_LIMIT last l ≡ Some e → new ≡ log ++ e ∷ [] → next ≡ id_after last e → IsReadTo start new next q
log_goes_on start p q log new last next l e read here more some is after =
    subst (λ (ls : List Line). IsReadTo start ls next q) (sym is) (subst (λ (k : ℕ). IsReadTo start (log ++ e ∷ []) k q) (sym after)
    (rows_go_on is_log_row (log_line_in VARIABLE_LIMIT) id_after (exactly (codes "end")) log last p q l e (log_rows_at start) here (ap not more) some read))

pub log_breaks_off : (start p : Position) (e : ReadError) (log : List Line) (last : ℕ) → IsReadTo start log last p → Fails e (line_at p) → Fails e (log_at start)
log_breaks_off start p e log last read fails =
    log_of_fault e start (rows_break_off is_log_row (log_line_in VARIABLE_LIMIT) id_after (exactly (codes "end")) log e last p (log_rows_at start) fails read)
