-- Evidence and what is left open are read exactly.
use Rattle.std.proofs.Common.{◌≡◌, ℕ, ◌≤◌, ◌^◌, true, false, not, List, [], ◌∷◌, ◌++◌, map, length, Option, Some, None, Result, refl, sym, ap, subst, ◌∙◌, arith, append_assoc}
use Rattle.std.specs.Prelude.{codes}
use Rattle.std.specs.List.{AllByRecursion}
use Rattle.std.proofs.lemmas.List.Elements.{recursion_from_All, All-from_recursion}
use Rattle.cpog_base.specs.Names.{AreDistinct}
use Rattle.cpog_base.specs.declared.limits.TheConstants.{VARIABLE_LIMIT}
use Rattle.cpog_defs.specs.declared.types.Place.{Place}
use Rattle.cpog_defs.specs.Graphs.{IsPlace}
use Rattle.clause_arena.specs.Clauses.{Clause}
use Rattle.proof_check.specs.Lines.{Line, Rise, LinesPositive}
use Rattle.dimacs_text.specs.Logs.{LitsWithin, id_after}
use Rattle.gate_template.specs.declared.types.Template.{Template}
use Rattle.cnf_build.specs.Evidence.{EvidenceValue, OpenValue, IsNumbered, line_numbered, IsWrittenLog}
use Rattle.netlist_verilog.specs.Module.{AreNames}
use Rattle.report_text.specs.Rows.{place_row}
use Rattle.report_text.specs.Spelling.{SpellsToEnd}
use Rattle.line_rows.specs.Position.{Position}
use Rattle.line_rows.specs.Reading.{exactly, view_of}
use Rattle.line_rows.specs.Spelling.{IsOf, ThenSpells}
use Rattle.line_rows.specs.Lined.{SpellsLined}
use Rattle.line_rows.proofs.Exact.{IsExact}
use Rattle.line_rows.proofs.RowLaws.{rows-none, exact-exactly}
use Rattle.line_rows.proofs.SpelledLaws.{IsSpelled, spelled-rows, spelled-row, spelled-then, spelled-view}
use Rattle.line_rows.proofs.LinedLaws.{IsExactOf, spelled-lined}
use Rattle.evidence_reader.specs.LogLines.{log_line_in}
use Rattle.evidence_reader.specs.Rows.{evidence_row, IsEvidenceHead, open_row, IsOpenHead, open_head_in, place_in, is_member_row, is_log_row}
use Rattle.evidence_reader.specs.Shown.{SpellsReportOpen, SpellsShown, second_of, log_rows_at, rows_before, log_at, after_open, open_at, same_state, places_at, with_none, with_places, after_evidence, shown_at}
use Rattle.evidence_reader.specs.declared.heads.EvidenceHead.{EvidenceHead}
use Rattle.evidence_reader.specs.declared.heads.EvidenceHead.TheVariants as evidence_heads
use Rattle.evidence_reader.specs.declared.heads.OpenHead.{OpenHead}
use Rattle.evidence_reader.specs.declared.heads.OpenHead.TheVariants as open_heads
use Rattle.evidence_reader.proofs.LogLineLaws.{SpellsLogLine, log_line_exact, no_end_line, bytes_apart, ids_positive}
use Rattle.evidence_reader.proofs.HeadLaws.{evidence_head_exact, open_head_exact, place_exact, place_is_member, open_is_no_member}

-- what is made of a value is spelled by the value's lines
abbrev MadeSpells : {A B : Type 0} → (A → B) → (A → List (List ℕ) → Type 0) → B → List (List ℕ) → Type 0
MadeSpells {A = A} make S b ls = (a : A) × S a ls × (make a ≡ b)

spelled_made : {A B : Type 0} (make : A → B) {S : A → List (List ℕ) → Type 0} {r : Position → Result (A × Position) ℕ} → IsSpelled S r → IsSpelled (MadeSpells make S) (view_of make r)
spelled_made make {S = S} rows = spelled-view make (MadeSpells make S) rows (λ b ls h. h) (λ a ls h. (a, h, refl))

exact_of : {A : Type 0} {F : A → Type 0} {t : A → List ℕ} {r : List ℕ → Option A} → IsExact F t r → IsExactOf (λ v l. F v × (l ≡ t v)) r
exact_of {r = r} exact = record {
  again = λ v l h. ap r h.1 ∙ exact.again v h.0;
  takes = λ l v e. exact.takes l v e;
}

-- ---- logs

abbrev IsEnd : Unit {0} → List ℕ → Type 0
IsEnd u l = Unit {0} × (l ≡ codes "end")

log_row_begins : (last : ℕ) (e : Line) (l : List ℕ) → SpellsLogLine VARIABLE_LIMIT last e l → is_log_row l ≡ true
log_row_begins last e l h = ap not (bytes_apart l (codes "end") (λ same.
    let none : None ≡ Some e = sym (no_end_line VARIABLE_LIMIT last) ∙ ap (log_line_in VARIABLE_LIMIT last) (sym same) ∙ (log_line_exact VARIABLE_LIMIT (omega arith) last).again e l h in
    absurd cc))

end_is_none : (u : Unit {0}) (l : List ℕ) → IsEnd u l → is_log_row l ≡ false
end_is_none u l h = ap is_log_row h.1

log_rows : IsSpelled (SpellsLined (SpellsLogLine VARIABLE_LIMIT) id_after IsEnd 0) log_rows_at
log_rows = spelled-lined (SpellsLogLine VARIABLE_LIMIT) id_after IsEnd is_log_row (log_line_in VARIABLE_LIMIT) (exactly (codes "end"))
    (λ last. log_line_exact VARIABLE_LIMIT (omega arith) last) log_row_begins (exact_of (exact-exactly (codes "end"))) end_is_none (tt, codes "end", (tt, refl)) 0

from_to_end : (last : ℕ) (log : List Line) (ls : List (List ℕ)) → SpellsToEnd last log ls → SpellsLined (SpellsLogLine VARIABLE_LIMIT) id_after IsEnd last (log, tt) ls
from_to_end last [] ls h = (codes "end", (tt, refl), h)
from_to_end last (e ∷ log) [] h = absurd h
from_to_end last (e ∷ log) (l ∷ ls) h = (l, ls, (h.0, h.1), from_to_end (id_after last e) log ls h.2, refl)

to_end : (last : ℕ) (log : List Line) (ls : List (List ℕ)) → SpellsLined (SpellsLogLine VARIABLE_LIMIT) id_after IsEnd last (log, tt) ls → SpellsToEnd last log ls
to_end last [] ls h = h.2 ∙ ap (λ (l : List ℕ). l ∷ []) h.1.1
to_end last (e ∷ log) ls h = subst (SpellsToEnd last (e ∷ log)) (sym h.4) (h.2.0, h.2.1, to_end (id_after last e) log h.1 h.3)

pub log_spelled : IsSpelled (SpellsToEnd 0) log_at
unfolding log_at
log_spelled = spelled-view rows_before (SpellsToEnd 0) log_rows (λ log ls h. ((log, tt), from_to_end 0 log ls h, refl)) (λ x ls h. to_end 0 x.0 ls h)

numbered_lits : (lits : Clause) → LitsWithin VARIABLE_LIMIT lits → AllByRecursion IsNumbered lits
numbered_lits [] h = tt
numbered_lits (l ∷ lits) h = ((omega (arith, h.0.0), h.0.1), numbered_lits lits h.1)

rises : (last : ℕ) (log : List Line) (ls : List (List ℕ)) → SpellsToEnd last log ls → Rise last log
rises last [] ls h = tt
rises last (e ∷ log) [] h = absurd h
rises last (Line.Add id lits hints ∷ log) (l ∷ ls) h = (h.1.0, rises id log ls h.2)
rises last (Line.Del ids ∷ log) (l ∷ ls) h = rises last log ls h.2

are_positive : (last : ℕ) (log : List Line) (ls : List (List ℕ)) → SpellsToEnd last log ls → LinesPositive log
are_positive last [] ls h = tt
are_positive last (e ∷ log) [] h = absurd h
are_positive last (Line.Add id lits hints ∷ log) (l ∷ ls) h = (ids_positive hints h.1.3, are_positive id log ls h.2)
are_positive last (Line.Del ids ∷ log) (l ∷ ls) h = (ids_positive ids h.1.0, are_positive last log ls h.2)

numbered : (last : ℕ) (log : List Line) (ls : List (List ℕ)) → SpellsToEnd last log ls → AllByRecursion line_numbered log
numbered last [] ls h = tt
numbered last (e ∷ log) [] h = absurd h
numbered last (Line.Add id lits hints ∷ log) (l ∷ ls) h = (numbered_lits lits h.1.2, numbered id log ls h.2)
numbered last (Line.Del ids ∷ log) (l ∷ ls) h = (tt, numbered last log ls h.2)

pub written_log : (log : List Line) (ls : List (List ℕ)) → SpellsToEnd 0 log ls → IsWrittenLog log
written_log log ls h = record { rise = rises 0 log ls h; positive = are_positive 0 log ls h; numbered = numbered 0 log ls h }

-- ---- what is left open

abbrev SpellsAfterOpen : OpenHead → OpenValue → List (List ℕ) → Type 0
SpellsAfterOpen open_heads.Closed = IsOf (λ y. y ≡ OpenValue.Closed) (λ _. [])
SpellsAfterOpen (open_heads.Log kind gates) = MadeSpells (OpenValue.Log kind gates) (SpellsToEnd 0)
SpellsAfterOpen (open_heads.Size kind gates) = IsOf (λ y. y ≡ OpenValue.Size kind gates) (λ _. [])

after_open_spelled : (h : OpenHead) → IsSpelled (SpellsAfterOpen h) (after_open h)
after_open_spelled open_heads.Closed = spelled-rows (rows-none OpenValue.Closed)
after_open_spelled (open_heads.Log kind gates) = spelled_made (OpenValue.Log kind gates) log_spelled
after_open_spelled (open_heads.Size kind gates) = spelled-rows (rows-none (OpenValue.Size kind gates))

abbrev SpellsOpenHead : ℕ → OpenHead → List (List ℕ) → Type 0
SpellsOpenHead limit = IsOf (IsOpenHead limit) (λ h. open_row h ∷ [])

from_open : (limit : ℕ) (o : OpenValue) (ls : List (List ℕ)) → SpellsReportOpen limit o ls → (x : OpenHead × OpenValue) × ThenSpells (SpellsOpenHead limit) SpellsAfterOpen x ls × (x.1 ≡ o)
from_open limit OpenValue.Closed ls h = ((open_heads.Closed, OpenValue.Closed), (codes "open none" ∷ [], [], (tt, refl), (refl, refl), h.1), refl)
from_open limit (OpenValue.Log kind gates log) ls h =
    ((open_heads.Log kind gates, OpenValue.Log kind gates log), (open_row (open_heads.Log kind gates) ∷ [], h.1.0, (h.0.0, refl), (log, h.1.2, refl), h.1.1), refl)
from_open limit (OpenValue.Size kind gates) ls h =
    ((open_heads.Size kind gates, OpenValue.Size kind gates), (open_row (open_heads.Size kind gates) ∷ [], [], (h.0, refl), (refl, refl), h.1), refl)

head_and : (front rest ls : List (List ℕ)) (l : List ℕ) → front ≡ l ∷ [] → ls ≡ front ++ rest → ls ≡ l ∷ rest
head_and front rest ls l e whole = whole ∙ ap (λ (f : List (List ℕ)). f ++ rest) e

head_alone : (front rest ls : List (List ℕ)) (l : List ℕ) → front ≡ l ∷ [] → rest ≡ [] → ls ≡ front ++ rest → ls ≡ l ∷ []
head_alone front rest ls l e none whole = head_and front rest ls l e whole ∙ ap (λ (r : List (List ℕ)). l ∷ r) none

to_open : (limit : ℕ) (h : OpenHead) (o : OpenValue) (ls : List (List ℕ)) → ThenSpells (SpellsOpenHead limit) SpellsAfterOpen (h, o) ls → SpellsReportOpen limit o ls
to_open limit open_heads.Closed o ls h = subst (λ (x : OpenValue). SpellsReportOpen limit x ls) (sym h.3.0) (tt, head_alone h.0 h.1 ls (codes "open none") h.2.1 h.3.1 h.4)
to_open limit (open_heads.Log kind gates) o ls h =
    subst (λ (x : OpenValue). SpellsReportOpen limit x ls) h.3.2
    ((h.2.0, written_log h.3.0 h.1 h.3.1), (h.1, head_and h.0 h.1 ls (open_row (open_heads.Log kind gates)) h.2.1 h.4, h.3.1))
to_open limit (open_heads.Size kind gates) o ls h =
    subst (λ (x : OpenValue). SpellsReportOpen limit x ls) (sym h.3.0) (h.2.0, head_alone h.0 h.1 ls (open_row (open_heads.Size kind gates)) h.2.1 h.3.1 h.4)

pub open_spelled : (limit : ℕ) → limit ≤ 2 ^ 64 → IsSpelled (SpellsReportOpen limit) (open_at limit)
unfolding open_at
open_spelled limit fits =
    spelled-view second_of (SpellsReportOpen limit) (spelled-then (spelled-row (open_head_exact limit fits) (open_heads.Closed, tt)) (λ h ls is. after_open_spelled h))
    (from_open limit) (λ x ls h. to_open limit x.0 x.1 ls h)

-- ---- places

abbrev SpellsPlace : List (List ℕ) → Unit {0} → Place → List ℕ → Type 0
SpellsPlace names u p l = IsPlace (length names) p × (l ≡ place_row names p)

abbrev IsOpening : ℕ → OpenHead → List ℕ → Type 0
IsOpening limit h l = IsOpenHead limit h × (l ≡ open_row h)

abbrev SpellsPlaces : List (List ℕ) → ℕ → List Place × OpenHead → List (List ℕ) → Type 0
SpellsPlaces names limit = SpellsLined (SpellsPlace names) same_state (IsOpening limit) tt

places_spelled : (names : List (List ℕ)) (limit : ℕ) → AreNames names → AreDistinct names → limit ≤ 2 ^ 64 → IsSpelled (SpellsPlaces names limit) (places_at names limit)
unfolding places_at
places_spelled names limit are distinct fits = spelled-lined (SpellsPlace names) same_state (IsOpening limit) is_member_row (λ _. place_in names) (open_head_in limit)
    (λ u. exact_of (place_exact names are distinct)) (λ u p l h. ap is_member_row h.1 ∙ place_is_member names p) (exact_of (open_head_exact limit fits)) (λ h l is. ap is_member_row is.1 ∙ open_is_no_member h)
    (open_heads.Closed, codes "open none", (tt, refl)) tt

from_places : (names : List (List ℕ)) (limit : ℕ) (places : List Place) (h : OpenHead) → AllByRecursion (IsPlace (length names)) places → IsOpenHead limit h → SpellsPlaces names limit (places, h) (map (place_row names) places ++ open_row h ∷ [])
from_places names limit [] h are is = (open_row h, (is, refl), refl)
from_places names limit (p ∷ places) h are is = (place_row names p, map (place_row names) places ++ open_row h ∷ [], (are.0, refl), from_places names limit places h are.1 is, refl)

to_places : (names : List (List ℕ)) (limit : ℕ) (places : List Place) (h : OpenHead) (ls : List (List ℕ)) → SpellsPlaces names limit (places, h) ls → AllByRecursion (IsPlace (length names)) places × IsOpenHead limit h × (ls ≡ map (place_row names) places ++ open_row h ∷ [])
to_places names limit [] h ls s = (tt, s.1.0, s.2 ∙ ap (λ (l : List ℕ). l ∷ []) s.1.1)
to_places names limit (p ∷ places) h ls s =
    let r = to_places names limit places h s.1 s.3 in
    let both : (s.0 ∷ s.1) ≡ place_row names p ∷ (map (place_row names) places ++ open_row h ∷ []) = λ i. s.2.1 i ∷ r.2 i in
    ((s.2.0, r.0), r.1, s.4 ∙ both)

-- ---- both

abbrev with_log : Template → ℕ → List Line × OpenValue → EvidenceValue × OpenValue
with_log kind gates x = (EvidenceValue.Refutation kind gates x.0, x.1)

abbrev SpellsAfterEvidence : List (List ℕ) → ℕ → EvidenceHead → EvidenceValue × OpenValue → List (List ℕ) → Type 0
SpellsAfterEvidence names limit evidence_heads.Zero = MadeSpells with_none (SpellsReportOpen limit)
SpellsAfterEvidence names limit evidence_heads.Count = MadeSpells with_places (ThenSpells (SpellsPlaces names limit) (λ x. SpellsAfterOpen x.1))
SpellsAfterEvidence names limit (evidence_heads.Refutation kind gates) = MadeSpells (with_log kind gates) (ThenSpells (SpellsToEnd 0) (λ _. SpellsReportOpen limit))

after_evidence_spelled : (names : List (List ℕ)) (limit : ℕ) → AreNames names → AreDistinct names → limit ≤ 2 ^ 64 → (h : EvidenceHead) → IsSpelled (SpellsAfterEvidence names limit h) (after_evidence names limit h)
after_evidence_spelled names limit are distinct fits evidence_heads.Zero = spelled_made with_none (open_spelled limit fits)
after_evidence_spelled names limit are distinct fits evidence_heads.Count =
    spelled_made with_places (spelled-then (places_spelled names limit are distinct fits) (λ x ls h. after_open_spelled x.1))
after_evidence_spelled names limit are distinct fits (evidence_heads.Refutation kind gates) =
    spelled_made (with_log kind gates) (spelled-then log_spelled (λ x ls h. open_spelled limit fits))

abbrev SpellsEvidenceHead : ℕ → EvidenceHead → List (List ℕ) → Type 0
SpellsEvidenceHead limit = IsOf (IsEvidenceHead limit) (λ h. evidence_row h ∷ [])

-- one line, and others behind it
front_line : (l : List ℕ) (e o ls : List (List ℕ)) (rest : List (List ℕ)) → e ≡ l ∷ rest → ls ≡ e ++ o → ls ≡ (l ∷ []) ++ (rest ++ o)
front_line l e o ls rest is whole = whole ∙ ap (λ (z : List (List ℕ)). z ++ o) is

from_shown : (names : List (List ℕ)) (limit : ℕ) (e : EvidenceValue) (o : OpenValue) (ls : List (List ℕ)) → SpellsShown names limit (e, o) ls
    → (x : EvidenceHead × (EvidenceValue × OpenValue)) × ThenSpells (SpellsEvidenceHead limit) (SpellsAfterEvidence names limit) x ls × (x.1 ≡ (e, o))
from_shown names limit EvidenceValue.Zero o ls h =
    ((evidence_heads.Zero, (EvidenceValue.Zero, o)), (codes "evidence zero" ∷ [], h.1, (tt, refl), (o, h.3, refl), front_line (codes "evidence zero") h.0 h.1 ls [] h.2.1 h.4), refl)
from_shown names limit (EvidenceValue.Count places) o ls h =
    let f = from_open limit o h.1 h.3 in
    let t = f.1 in
    let rows = map (place_row names) places in
    let opening : List ℕ = open_row f.0.0 in
    let split : rows ++ h.1 ≡ (rows ++ opening ∷ []) ++ t.1 =
    ap (λ (z : List (List ℕ)). rows ++ z) (head_and t.0 t.1 h.1 opening t.2.1 t.4) ∙ sym (append_assoc rows (opening ∷ []) t.1) in
    let after : SpellsAfterOpen f.0.0 o t.1 = subst (λ (x : OpenValue). SpellsAfterOpen f.0.0 x t.1) f.2 t.3 in (
      (evidence_heads.Count, (EvidenceValue.Count places, o)),
      (
        codes "evidence count" ∷ [],
        rows ++ h.1,
        (tt, refl),
        (((places, f.0.0), o), (rows ++ opening ∷ [], t.1, from_places names limit places f.0.0 (recursion_from_All (IsPlace (length names)) places h.2.0) t.2.0, after, split), refl),
        front_line (codes "evidence count") h.0 h.1 ls rows h.2.1 h.4,
      ),
      refl,
    )
from_shown names limit (EvidenceValue.Refutation kind gates log) o ls h =
    let head = evidence_heads.Refutation kind gates in (
      (head, (EvidenceValue.Refutation kind gates log, o)),
      (evidence_row head ∷ [], h.2.1.0 ++ h.1, (h.2.0.0, refl), ((log, o), (h.2.1.0, h.1, h.2.1.2, h.3, refl), refl), front_line (evidence_row head) h.0 h.1 ls h.2.1.0 h.2.1.1 h.4),
      refl,
    )

to_shown : (names : List (List ℕ)) (limit : ℕ) (h : EvidenceHead) (v : EvidenceValue × OpenValue) (ls : List (List ℕ)) → ThenSpells (SpellsEvidenceHead limit) (SpellsAfterEvidence names limit) (h, v) ls → SpellsShown names limit v ls
to_shown names limit evidence_heads.Zero v ls h =
    subst (λ (x : EvidenceValue × OpenValue). SpellsShown names limit x ls) h.3.2
    (codes "evidence zero" ∷ [], h.1, (tt, refl), h.3.1, head_and h.0 h.1 ls (codes "evidence zero") h.2.1 h.4)
to_shown names limit evidence_heads.Count v ls h =
    let x = h.3.0 in
    let t = h.3.1 in
    let p = to_places names limit x.0.0 x.0.1 t.0 t.2 in
    let rows = map (place_row names) x.0.0 in
    let opening : List ℕ = open_row x.0.1 in
    let behind : h.1 ≡ rows ++ (opening ∷ t.1) = t.4 ∙ ap (λ (z : List (List ℕ)). z ++ t.1) p.2 ∙ append_assoc rows (opening ∷ []) t.1 in
    subst (λ (y : EvidenceValue × OpenValue). SpellsShown names limit y ls) h.3.2 (
      codes "evidence count" ∷ rows,
      opening ∷ t.1,
      (All-from_recursion (IsPlace (length names)) x.0.0 p.0, refl),
      to_open limit x.0.1 x.1 (opening ∷ t.1) (opening ∷ [], t.1, (p.1, refl), t.3, refl),
      head_and h.0 h.1 ls (codes "evidence count") h.2.1 h.4 ∙ ap (λ (z : List (List ℕ)). codes "evidence count" ∷ z) behind,
    )
to_shown names limit (evidence_heads.Refutation kind gates) v ls h =
    let x = h.3.0 in
    let t = h.3.1 in
    let first : List ℕ = evidence_row (evidence_heads.Refutation kind gates) in
    subst (λ (y : EvidenceValue × OpenValue). SpellsShown names limit y ls) h.3.2 (
      first ∷ t.0,
      t.1,
      ((h.2.0, written_log x.0 t.0 t.2), (t.0, refl, t.2)),
      t.3,
      head_and h.0 h.1 ls first h.2.1 h.4 ∙ ap (λ (z : List (List ℕ)). first ∷ z) t.4,
    )

-- evidence and what is left open are read where the lines spell them
pub shown_spelled : (names : List (List ℕ)) (limit : ℕ) → AreNames names → AreDistinct names → limit ≤ 2 ^ 64 → IsSpelled (SpellsShown names limit) (shown_at names limit)
unfolding shown_at
shown_spelled names limit are distinct fits =
    spelled-view second_of (SpellsShown names limit) (spelled-then (spelled-row (evidence_head_exact limit fits) (evidence_heads.Zero, tt)) (λ h ls is. after_evidence_spelled names limit are distinct fits h))
    (λ v ls h. from_shown names limit v.0 v.1 ls h) (λ x ls h. to_shown names limit x.0 x.1 ls h)
