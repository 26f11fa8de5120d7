-- The lines of a log: each begins with a digit and holds no line feed, so they are told up to the line `end`, and tell the log.
use Rattle.std.proofs.Common.{◌≡◌, ◌≢◌, ℕ, ◌<◌, ◌^◌, not, List, [], ◌∷◌, ◌++◌, length, refl, sym, ap, ap₂, ◌∙◌, arith, append_assoc}
use Rattle.std.specs.Prelude.{codes, map}
use Rattle.std.specs.List.{AllByRecursion}
use Rattle.std.specs.Fmt.{decimal}
use Rattle.std.proofs.lemmas.Bool.{ne_eqb}
use Rattle.std.proofs.lemmas.List.{append-nil}
use Rattle.std.proofs.lemmas.Fmt.{decimal_nonempty}
use Rattle.cpog_base.specs.declared.limits.TheConstants.{VARIABLE_LIMIT}
use Rattle.line_text.specs.Lines.{text_of}
use Rattle.line_text.proofs.FeedLemmas.{NoFeed}
use Rattle.line_text.proofs.TellingLemmas.{AllPass, word_told, heads}
use Rattle.text_rows.specs.Lines.{IsUnbroken}
use Rattle.text_rows.specs.Words.{spaced}
use Rattle.text_rows.proofs.PlainLemmas.{digit_in}
use Rattle.text_rows.proofs.WritingLemmas.{spaced_unbroken}
use Rattle.proof_check.specs.Lines.{Line}
use Rattle.clause_arena.specs.Clauses.{Clause}
use Rattle.dimacs_text.specs.Logs.{ended, lit_word, LitsWithin}
use Rattle.dimacs_text.specs.Writing.{written_words, written_lines, log_lines, LinesWithin}
use Rattle.dimacs_text.proofs.WritingLemmas.{line_words}
use Rattle.cnf_build.specs.Evidence.{IsNumbered, line_numbered, IsWrittenLog}
use Rattle.report_text.specs.Report.{LinesFit}
use Rattle.report_text.specs.Laws.{EndClosesLog}
use Rattle.report_text.proofs.WordLemmas.{is_inside}

-- what a log owes that is printed
abbrev pub IsPrinted : List Line → Type 0
IsPrinted log = IsWrittenLog log × LinesFit log

lits_within : (lits : Clause) → AllByRecursion IsNumbered lits → LitsWithin VARIABLE_LIMIT lits
lits_within [] h = tt
lits_within (l ∷ lits) h = (h.0, lits_within lits h.1)

pub within : (log : List Line) → AllByRecursion line_numbered log → LinesWithin VARIABLE_LIMIT log
within [] h = tt
within (Line.Add id lits hints ∷ log) h = (lits_within lits h.0, within log h.1)
within (Line.Del ids ∷ log) h = (tt, within log h.1)

-- it begins with a digit, or an earlier byte
abbrev pub BeginsLow : List ℕ → Type 0
BeginsLow row = (b : ℕ) × (r : List ℕ) × (b < 58) × (row ≡ b ∷ r)

-- and holds no line feed
abbrev pub IsLogRow : List ℕ → Type 0
IsLogRow row = NoFeed row × BeginsLow row

spaced_first : (b : ℕ) (w : List ℕ) (ws : List (List ℕ)) → (r : List ℕ) × (spaced ((b ∷ w) ∷ ws) ≡ b ∷ r)
spaced_first b w [] = (w, refl)
spaced_first b w (v ∷ ws) = (w ++ 32 ∷ spaced (v ∷ ws), refl)

pub number_first : (w : List ℕ) (n : ℕ) (ws : List (List ℕ)) → n < 10000000000 → decimal n ≡ w → BeginsLow (spaced (w ∷ ws))
number_first [] n ws lt e = absurd (omega (arith, decimal_nonempty n (let h : n < 2 ^ 64 = omega arith in h), ap length e))
number_first (b ∷ w) n ws lt e =
    let s = spaced_first b w ws in
    let digit = digit_in (b ∷ w) [] n 0 lt (decimal_nonempty n (let h : n < 2 ^ 64 = omega arith in h)) (sym e ∙ sym (append-nil (decimal n))) in
    (b, s.0, omega (arith, digit), s.1)

pub free_of : (row : List ℕ) → IsUnbroken row → NoFeed row
free_of [] h = tt
free_of (b ∷ bs) h = (h.0.0, free_of bs h.1)

pub log_rows : (w : ℕ) (lines : List Line) → w < 4294967296 → LinesFit lines → LinesWithin VARIABLE_LIMIT lines → AllByRecursion IsLogRow (written_lines w lines)
log_rows w [] lw f h = tt
log_rows w (Line.Add id lits hints ∷ lines) lw f h =
    let l = Line.Add id lits hints in (
      (
        free_of (spaced (written_words w l)) (spaced_unbroken (written_words w l) (line_words VARIABLE_LIMIT w (omega arith) lw l f.0 h.0)),
        number_first (decimal id) id (ended (map lit_word lits) ++ ended (map decimal hints)) (omega (arith, f.0.0)) refl,
      ),
      log_rows id lines f.0.0 f.1 h.1,
    )
log_rows w (Line.Del ids ∷ lines) lw f h =
    let l = Line.Del ids in (
      (
        free_of (spaced (written_words w l)) (spaced_unbroken (written_words w l) (line_words VARIABLE_LIMIT w (omega arith) lw l f.0 h.0)),
        number_first (decimal w) w (codes "d" ∷ ended (map decimal ids)) (omega (arith, lw)) refl,
      ),
      log_rows w lines lw f.1 h.1,
    )

pub rows_of : (log : List Line) → IsPrinted log → AllByRecursion IsLogRow (log_lines log)
rows_of log h = log_rows 1 log (omega arith) h.1 (within log h.0.numbered)

-- ---- rows up to a byte behind the digits

inside : (row : List ℕ) → NoFeed row → AllPass is_inside row
inside [] h = tt
inside (b ∷ bs) h = (ap not (ne_eqb b 10 h.0), inside bs h.1)

row_told : (a b x y : List ℕ) → IsLogRow a → IsLogRow b → (a ++ 10 ∷ []) ++ x ≡ (b ++ 10 ∷ []) ++ y → (a ≡ b) × (x ≡ y)
row_told a b x y ha hb e = word_told is_inside a b 10 x y (inside a ha.0) (inside b hb.0) refl (sym (append_assoc a (10 ∷ []) x) ∙ e ∙ append_assoc b (10 ∷ []) y)

-- what follows the rows begins with a later byte
abbrev pub IsAfterRows : List ℕ → Type 0
IsAfterRows x = (b : ℕ) × (r : List ℕ) × (57 < b) × (x ≡ b ∷ r)

row_apart : (a x y : List ℕ) → IsLogRow a → IsAfterRows y → (a ++ 10 ∷ []) ++ x ≡ y → ⊥
row_apart a x y h after e =
    let first = ap (λ (t : List ℕ). (t ++ 10 ∷ []) ++ x) h.1.3 in
    let same = heads h.1.0 after.0 _ _ (sym first ∙ e ∙ after.3) in
    omega (arith, same, h.1.2, after.2)

pub rows_told : (as' bs : List (List ℕ)) (x y : List ℕ) → AllByRecursion IsLogRow as' → AllByRecursion IsLogRow bs → IsAfterRows x → IsAfterRows y → text_of as' ++ x ≡ text_of bs ++ y → (as' ≡ bs) × (x ≡ y)
rows_told [] [] x y ha hb ex ey e = (refl, e)
rows_told [] (b ∷ bs) x y ha hb ex ey e = absurd (row_apart b (text_of bs ++ y) x hb.0 ex (sym (append_assoc (b ++ 10 ∷ []) (text_of bs) y) ∙ sym e))
rows_told (a ∷ as') [] x y ha hb ex ey e = absurd (row_apart a (text_of as' ++ x) y ha.0 ey (sym (append_assoc (a ++ 10 ∷ []) (text_of as') x) ∙ e))
rows_told (a ∷ as') (b ∷ bs) x y ha hb ex ey e =
    let r = row_told a b (text_of as' ++ x) (text_of bs ++ y) ha.0 hb.0 (sym (append_assoc (a ++ 10 ∷ []) (text_of as') x) ∙ e ∙ append_assoc (b ++ 10 ∷ []) (text_of bs) y) in
    let s = rows_told as' bs x y ha.1 hb.1 ex ey r.1 in
    (ap₂ (λ (z : List ℕ) (zs : List (List ℕ)). z ∷ zs) r.0 s.0, s.1)

-- ---- the line that ends it

row_no_end : (row : List ℕ) → IsLogRow row → row ≡ codes "end" → ⊥
row_no_end row h e = omega (arith, h.1.2, heads h.1.0 101 _ _ (sym h.1.3 ∙ e))

none_ends : (rows : List (List ℕ)) → AllByRecursion IsLogRow rows → AllByRecursion (λ row. row ≢ codes "end") rows
none_ends [] h = tt
none_ends (row ∷ rows) h = (row_no_end row h.0, none_ends rows h.1)

pub end_closes : EndClosesLog
end_closes log written fits = none_ends (log_lines log) (rows_of log (written, fits))
