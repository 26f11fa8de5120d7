-- The head of a report is read exactly, and a bad line is the first.
use Rattle.std.proofs.Common.{lit<, ◌≡◌, ℕ, ◌<◌, ◌≤◌, ◌+◌, Bool, true, leb, List, [], ◌∷◌, ◌++◌, Result, Ok, Err, refl, ap, subst, ◌∙◌, arith}
use Rattle.std.specs.Prelude.{codes, IfOk}
use Rattle.std.proofs.lemmas.Bool.{le-leb, leb-true}
use Rattle.report_text.specs.Rows.{bits_row, budget_row, operations_row}
use Rattle.line_rows.specs.declared.fault.ReadError.{ReadError}
use Rattle.line_rows.specs.declared.fault.ReadError.TheVariants as errors
use Rattle.line_rows.specs.Position.{Position}
use Rattle.line_rows.specs.FirstBad.{BadIsFirst}
use Rattle.line_rows.specs.Reading.{row, exactly, then_of, view_of, whole, Gives}
use Rattle.line_rows.proofs.RowLaws.{IsRows, rows-row, rows-then, rows-view, exact-exactly, whole_found, whole_again, whole_first_bad}
use Rattle.report_reader.specs.declared.rows.Head.{Head}
use Rattle.report_reader.specs.Reading.{bits_in, budget_in, operations_in, AreNext}
use Rattle.report_reader.specs.Heads.{HeadValue, value_of, lines_of_head, IsHead, head_from, head_at}
use Rattle.report_reader.proofs.HeadLaws.{bits_exact, budget_exact}
use Rattle.report_reader.proofs.NameLaws.{operations_exact}

abbrev Parts : Type 0
Parts = Unit {0} × (ℕ × (ℕ × List (List ℕ)))

abbrev PartsFit : Parts → Type 0
PartsFit x = Unit {0} × (((x.1.0 < 9) × (leb 1 x.1.0 ≡ true)) × (((x.1.1.0 < 8388609) × (leb 1 x.1.1.0 ≡ true)) × AreNext 64 [] x.1.1.1))

abbrev parts_lines : Parts → List (List ℕ)
parts_lines x = (codes "cpog report 1" ∷ []) ++ ((bits_row x.1.0 ∷ []) ++ ((budget_row x.1.1.0 ∷ []) ++ (operations_row x.1.1.1 ∷ [])))

parts_rows : IsRows PartsFit parts_lines (then_of (row (exactly (codes "cpog report 1"))) (λ _. then_of (row bits_in) (λ _. then_of (row budget_in) (λ _. row operations_in))))
parts_rows = rows-then (rows-row (exact-exactly (codes "cpog report 1")) (tt, tt)) (λ _ _.
    rows-then (rows-row bits_exact (1, (lit< tt, refl))) (λ _ _.
    rows-then (rows-row budget_exact (1, (lit< tt, refl))) (λ _ _. rows-row operations_exact ([], tt))))

parts_of : (h : HeadValue) → IsHead h → (x : Parts) × PartsFit x × (lines_of_head h ≡ parts_lines x) × (head_from x ≡ h)
parts_of h fits = ((tt, (h.bits, (h.budget, h.names))), (tt, ((omega (arith, fits.few_bits), le-leb 1 h.bits fits.some_bit), ((omega (arith, fits.few_budget), le-leb 1 h.budget fits.some_budget), fits.names))), refl, refl)

head_is : (x : Parts) → PartsFit x → IsHead (head_from x) × (lines_of_head (head_from x) ≡ parts_lines x)
head_is x h = (record { some_bit = leb-true 1 x.1.0 h.1.0.1; few_bits = omega (arith, h.1.0.0); some_budget = leb-true 1 x.1.1.0 h.1.1.0.1; few_budget = omega (arith, h.1.1.0.0); names = h.1.1.1 }, refl)

pub head_rows : IsRows IsHead lines_of_head head_at
unfolding head_at
head_rows = rows-view head_from IsHead lines_of_head parts_rows parts_of head_is

pub is_found : (text : List (List ℕ)) (r : Result Head ReadError) → Gives value_of r (whole head_at text) → IfOk r (λ c. IsHead (value_of c) × (text ≡ lines_of_head (value_of c)))
is_found text (Ok c) given = whole_found head_rows text (value_of c) given
is_found text (Err e) given = tt

pub is_first : (text : List (List ℕ)) (r : Result Head ReadError) → Gives value_of r (whole head_at text) → BadIsFirst IsHead lines_of_head text r
is_first text (Ok c) given = tt
is_first text (Err errors.Memory) given = tt
is_first text (Err (errors.BadLine k)) given = whole_first_bad head_rows text k given

pub is_only : (text : List (List ℕ)) (r : Result Head ReadError) → Gives value_of r (whole head_at text) → (d : HeadValue) → IsHead d → text ≡ lines_of_head d → Gives value_of r (Ok d)
is_only text r given d fits same = subst (λ (x : Result HeadValue ℕ). Gives value_of r x) (ap (whole head_at) same ∙ whole_again head_rows d fits) given
