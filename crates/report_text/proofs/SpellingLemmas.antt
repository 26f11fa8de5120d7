-- What is written of a report spells it, and lines up to an end spell one log.
use Rattle.std.proofs.Common.{◌≡◌, ℕ, ◌<◌, ◌^◌, List, [], ◌∷◌, ◌++◌, length, refl, sym, ap, ◌∙◌, subst, arith, append_assoc}
use Rattle.std.specs.Prelude.{codes, map}
use Rattle.std.specs.List.{AllByRecursion}
use Rattle.std.specs.Fmt.{decimal}
use Rattle.std.proofs.lemmas.List.{append-nil, append_cancel_left}
use Rattle.std.proofs.lemmas.Fmt.{decimal_nonempty}
use Rattle.text_rows.proofs.PlainLemmas.{digit_in}
use Rattle.cpog_base.specs.declared.limits.TheConstants.{VARIABLE_LIMIT}
use Rattle.cpog_defs.specs.Orders.{each_below}
use Rattle.text_rows.specs.Words.{tokens, spaced}
use Rattle.text_rows.proofs.WritingLemmas.{words_read, spaced_unbroken}
use Rattle.proof_check.specs.Lines.{Line, Rise, LinesPositive}
use Rattle.line_text.specs.Lines.{text_of}
use Rattle.dimacs_text.specs.Logs.{ended, lit_word, AreIds, SpellsLine, id_after}
use Rattle.dimacs_text.specs.Writing.{written_words, written_lines, LineFits, line_within, LinesWithin}
use Rattle.dimacs_text.proofs.EntryLemmas.{line_told}
use Rattle.dimacs_text.proofs.WritingLemmas.{line_words, are_ids}
use Rattle.cnf_build.specs.Evidence.{EvidenceValue, OpenValue}
use Rattle.report_text.specs.Versions.{gate_limit}
use Rattle.report_text.specs.Report.{IsReportEvidence, IsReportOpen, LinesFit, EvidenceFits, OpenFits}
use Rattle.report_text.specs.Rows.{head_lines, scenario_lines, gates_row, gate_lines, op_lines, arc_lines, bound_row, closed_log, evidence_lines, open_lines, netlist_lines}
use Rattle.report_text.specs.Spelling.{IsSingleSpaced, SpellsToEnd, SpellsEvidence, SpellsOpen}
use Rattle.report_text.specs.Laws.{WrittenIsSpelled, SpellingTellsLog}
use Rattle.report_text.proofs.LogLemmas.{IsPrinted, within, BeginsLow, IsLogRow, number_first, free_of, rows_told}
use Rattle.report_text.proofs.RowLemmas.{lists_differ}

-- ---- logs

spaced_again : (words : List (List ℕ)) → tokens (spaced words) ≡ words → IsSingleSpaced (spaced words)
spaced_again words e = sym (ap spaced e)

to_end : (last w : ℕ) → 0 < w → w < 4294967296 → (log : List Line) → Rise last log → LinesPositive log → LinesFit log → LinesWithin VARIABLE_LIMIT log
    → SpellsToEnd last log (written_lines w log ++ codes "end" ∷ [])
to_end last w some lw [] r p f h = refl
to_end last w some lw (Line.Add id lits hints ∷ log) r p f h =
    let l = Line.Add id lits hints in
    let read = words_read (written_words w l) (line_words VARIABLE_LIMIT w (omega arith) lw l f.0 h.0) in
    (spaced_again (written_words w l) read, (r.0, f.0.0, h.0, are_ids hints p.0 f.0.1, read), to_end id id (omega (arith, r.0)) f.0.0 log r.1 p.1 f.1 h.1)
to_end last w some lw (Line.Del ids ∷ log) r p f h =
    let l = Line.Del ids in
    let read = words_read (written_words w l) (line_words VARIABLE_LIMIT w (omega arith) lw l f.0 h.0) in
    (spaced_again (written_words w l) read, (are_ids ids p.0 f.0, (w, some, lw, read)), to_end last w some lw log r p.1 f.1 h.1)

log_to_end : (log : List Line) → IsPrinted log → SpellsToEnd 0 log (closed_log log)
log_to_end log h = to_end 0 1 (omega arith) (omega arith) log h.0.rise h.0.positive h.1 (within log h.0.numbered)

end_words : tokens (codes "end") ≡ codes "end" ∷ []
end_words = words_read (codes "end" ∷ []) ((omega arith, (omega arith, (omega arith, (omega arith, tt)))), tt)

no_number : (n : ℕ) (more : List (List ℕ)) → n < 4294967296 → (codes "end" ∷ []) ≡ decimal n ∷ more → ⊥
no_number n more lt e =
    let same : codes "end" ≡ decimal n = cc in
    let some = decimal_nonempty n (let h : n < 2 ^ 64 = omega (arith, lt) in h) in
    absurd (omega (arith, digit_in (codes "end") [] n 0 (omega (arith, lt)) some (same ∙ sym (append-nil (decimal n)))))

-- the line of the end is none of a log
no_end : (last : ℕ) (line : List ℕ) (e : Line) → line ≡ codes "end" → SpellsLine VARIABLE_LIMIT last e (tokens line) → ⊥
no_end last line (Line.Add id lits hints) same h = no_number id _ h.1 (sym (ap tokens same ∙ end_words) ∙ h.4)
no_end last line (Line.Del ids) same h = no_number h.1.0 _ h.1.2 (sym (ap tokens same ∙ end_words) ∙ h.1.3)

-- lines up to an end spell one log
pub one_to_end : SpellingTellsLog
one_to_end last [] [] [] h k = absurd cc
one_to_end last [] [] (e ∷ b) h k = absurd k
one_to_end last [] (e ∷ a) b h k = absurd h
one_to_end last (line ∷ lines) [] [] h k = refl
one_to_end last (line ∷ lines) [] (e ∷ b) h k = absurd (no_end last line e (let g : line ≡ codes "end" = cc in g) k.1)
one_to_end last (line ∷ lines) (e ∷ a) [] h k = absurd (no_end last line e (let g : line ≡ codes "end" = cc in g) h.1)
one_to_end last (line ∷ lines) (e ∷ a) (f ∷ b) h k =
    let same : e ≡ f = line_told VARIABLE_LIMIT (omega arith) last (tokens line) e f h.1 k.1 in
    let rest = one_to_end (id_after last e) lines a b h.2 (subst (λ (x : Line). SpellsToEnd (id_after last x) b lines) (sym same) k.2) in
    λ i. same i ∷ rest i

-- ---- a log told by its text

ids_fit : (ids : List ℕ) → AreIds ids → AllByRecursion (λ n. n < 4294967296) ids
ids_fit [] h = tt
ids_fit (n ∷ ids) h = (h.0.1, ids_fit ids h.1)

-- the words of a line are those that are written of it, with some id where it is a deletion
spelled_words : (last : ℕ) (e : Line) (words : List (List ℕ)) → SpellsLine VARIABLE_LIMIT last e words
    → (k : ℕ) × (k < 4294967296) × LineFits e × line_within VARIABLE_LIMIT e × (words ≡ written_words k e)
spelled_words last (Line.Add id lits hints) words h = (id, h.1, (h.1, ids_fit hints h.3), h.2, h.4)
spelled_words last (Line.Del ids) words h = (h.1.0, h.1.2, ids_fit ids h.0, tt, h.1.3)

begins : (k : ℕ) (e : Line) → k < 4294967296 → LineFits e → BeginsLow (spaced (written_words k e))
begins k (Line.Add id lits hints) lt f = number_first (decimal id) id (ended (map lit_word lits) ++ ended (map decimal hints)) (omega (arith, f.0)) refl
begins k (Line.Del ids) lt f = number_first (decimal k) k (codes "d" ∷ ended (map decimal ids)) (omega (arith, lt)) refl

spelled_row : (last : ℕ) (e : Line) (line : List ℕ) → IsSingleSpaced line → SpellsLine VARIABLE_LIMIT last e (tokens line) → IsLogRow line
spelled_row last e line single h =
    let w = spelled_words last e (tokens line) h in
    let same : line ≡ spaced (written_words w.0 e) = single ∙ ap spaced w.4 in
    subst IsLogRow (sym same) (free_of (spaced (written_words w.0 e)) (spaced_unbroken (written_words w.0 e) (line_words VARIABLE_LIMIT w.0 (omega arith) w.1 e w.2 w.3)), begins w.0 e w.1 w.2)

rows_to_end : (last : ℕ) (log : List Line) (lines : List (List ℕ)) → SpellsToEnd last log lines → (rows : List (List ℕ)) × (lines ≡ rows ++ codes "end" ∷ []) × AllByRecursion IsLogRow rows
rows_to_end last [] lines h = ([], h, tt)
rows_to_end last (e ∷ log) [] h = absurd h
rows_to_end last (e ∷ log) (line ∷ lines) h =
    let r = rows_to_end (id_after last e) log lines h.2 in
    (line ∷ r.0, ap (λ (z : List (List ℕ)). line ∷ z) r.1, (spelled_row last e line h.0 h.1, r.2))

-- lines that have these forms
pub in_forms : (ls ls' ms ms' : List (List ℕ)) (x y : List ℕ) → ls ≡ ls' → ms ≡ ms' → text_of ls ++ x ≡ text_of ms ++ y → text_of ls' ++ x ≡ text_of ms' ++ y
in_forms ls ls' ms ms' x y p q e = ap (λ (z : List (List ℕ)). text_of z ++ x) (sym p) ∙ e ∙ ap (λ (z : List (List ℕ)). text_of z ++ y) q

-- a log up to its end
pub log_told : (la lb : List (List ℕ)) (a b : List Line) (x y : List ℕ) → SpellsToEnd 0 a la → SpellsToEnd 0 b lb → text_of la ++ x ≡ text_of lb ++ y → (a ≡ b) × (x ≡ y)
log_told la lb a b x y ha hb e =
    let ra = rows_to_end 0 a la ha in
    let rb = rows_to_end 0 b lb hb in
    let end = codes "end" ∷ [] in
    let e' = lists_differ ra.0 rb.0 end end x y (in_forms la (ra.0 ++ end) lb (rb.0 ++ end) x y ra.1 rb.1 e) in
    let r = rows_told ra.0 rb.0 (text_of end ++ x) (text_of end ++ y) ra.2 rb.2 (101, _, omega arith, refl) (101, _, omega arith, refl) e' in
    let same : la ≡ lb = ra.1 ∙ ap (λ (z : List (List ℕ)). z ++ end) r.0 ∙ sym rb.1 in
    (one_to_end 0 la a b ha (subst (SpellsToEnd 0 b) (sym same) hb), append_cancel_left (codes "end\n") x y r.1)

-- ---- reports

pub behind : {X : Type 0} (h s g o a b n : List X) → h ++ (s ++ (g ++ (o ++ (a ++ (b ++ n))))) ≡ (h ++ (s ++ (g ++ (o ++ (a ++ b))))) ++ n
behind h s g o a b n =
    ap (λ x. h ++ (s ++ (g ++ (o ++ x)))) (sym (append_assoc a b n))
    ∙ ap (λ x. h ++ (s ++ (g ++ x))) (sym (append_assoc o (a ++ b) n))
    ∙ ap (λ x. h ++ (s ++ x)) (sym (append_assoc g (o ++ (a ++ b)) n))
    ∙ ap (λ x. h ++ x) (sym (append_assoc s (g ++ (o ++ (a ++ b))) n))
    ∙ sym (append_assoc h (s ++ (g ++ (o ++ (a ++ b)))) n)

evidence_spelled : (names : List (List ℕ)) (count limit : ℕ) (e : EvidenceValue) → IsReportEvidence count limit e → EvidenceFits e → SpellsEvidence names e (evidence_lines names e)
evidence_spelled names count limit EvidenceValue.Zero h f = refl
evidence_spelled names count limit (EvidenceValue.Count places) h f = refl
evidence_spelled names count limit (EvidenceValue.Refutation kind gates log) h f = (closed_log log, refl, log_to_end log (h.1, f))

open_spelled : (limit : ℕ) (o : OpenValue) → IsReportOpen limit o → OpenFits o → SpellsOpen o (open_lines o)
open_spelled limit OpenValue.Closed h f = refl
open_spelled limit (OpenValue.Log kind gates log) h f = (closed_log log, refl, log_to_end log (h.1, f))
open_spelled limit (OpenValue.Size kind gates) h f = refl

-- what is written of a report spells it
pub written_spelled : WrittenIsSpelled
written_spelled r is fits = record {
  report = is;
  evidence_lines = evidence_lines r.names r.evidence;
  evidence = evidence_spelled r.names (length r.names) (gate_limit r.version) r.evidence is.evidence fits.0;
  open_lines = open_lines r.open_part;
  open_part = open_spelled (gate_limit r.version) r.open_part is.open_part fits.1;
  whole = behind (head_lines r) (each_below (scenario_lines r) (length r.scenarios))
      (gates_row (length r.encoding.gates.gates) ∷ gate_lines r.bits r.encoding.gates.gates)
      (op_lines r.bits r.names r.encoding.graph) (arc_lines r.bits r.names r.encoding.graph) (bound_row r.bound ∷ [])
      (evidence_lines r.names r.evidence ++ (open_lines r.open_part ++ netlist_lines r.design));
}
