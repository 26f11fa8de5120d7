-- The conditions of arcs and the bound behind them are read exactly.
use Rattle.std.proofs.Common.{lit<, ◌≡◌, ◌≢◌, ℕ, zero, suc, ◌<◌, ◌≤◌, ◌+◌, ◌-◌, ◌^◌, Bool, true, false, cond, ltb, leb, eqb, ◌&&◌, ◌||◌, not, List, [], ◌∷◌, ◌++◌, length, map, get_or, Option, Some, None, Result, Ok, Err, refl, sym, ap, ap₂, subst, ◌∙◌, arith, append_assoc, inl, inr, ◌⊎◌}
use Rattle.std.specs.Prelude.{codes, is_some}
use Rattle.std.specs.Fmt.{decimal}
use Rattle.std.proofs.lemmas.Bool.{cases_Bool, both_ways, eqb-true, eq-eqb, ne_eqb}
use Rattle.std.proofs.lemmas.Bool.Decides.{nat_tests}
use Rattle.cpog_base.specs.Names.{place_of}
use Rattle.cpog_defs.specs.declared.types.Ref.{Ref}
use Rattle.cpog_defs.specs.declared.types.Ref.TheVariants.{Const, Signal}
use Rattle.cpog_defs.specs.Gates.{IsRefOver}
use Rattle.netlist_verilog.specs.Wires.{name_of}
use Rattle.report_text.specs.declared.bound.Bound.{Bound}
use Rattle.report_text.specs.declared.bound.Bound.TheVariants.{Minimum, Between}
use Rattle.report_text.specs.Report.{IsBound}
use Rattle.report_text.specs.Rows.{ref_text, arc_row, bound_row}
use Rattle.line_rows.specs.Words.{◌>>=?◌, number_in, behind, behind_of, pair_of, made_of}
use Rattle.line_rows.specs.Position.{Position}
use Rattle.line_rows.specs.Lined.{lined_of, SpellsLined}
use Rattle.line_rows.proofs.Exact.{IsExact, IsWord, exact-behind, exact-pair, exact-made, number_exact, decimal_word, behind_again, behind_takes, tested, both_true, some_of, some_is}
use Rattle.line_rows.proofs.LinedLaws.{IsExactOf, spelled-lined}
use Rattle.line_rows.proofs.SpelledLaws.{IsSpelled, spelled-same}
use Rattle.report_reader.specs.Operations.{Pair, is_from}
use Rattle.report_reader.specs.References.{condition_in}
use Rattle.report_reader.specs.Gates.{is_zero, entry_from, entry_in, after_entry, is_arc, bound_from, bound_in, first_pair, arcs_at}
use Rattle.report_reader.specs.Entries.{FitsEntry, FitEntries, entry_row}
use Rattle.report_reader.specs.declared.gates.ArcLine.{ArcLine}
use Rattle.report_reader.proofs.ReferenceLaws.{condition_exact}
use Rattle.report_reader.proofs.OperationLaws.{AreKnown, operation_exact, name_is_plain}

-- ---- the bound

no_minimum : (x : List ℕ) → behind (codes "minimum ") (codes "between " ++ x) ≡ None
unfolding behind
no_minimum x = refl

abbrev pub FitsBound : Bound → Type 0
FitsBound = IsBound 65536

numbers_exact : IsExact (λ (p : ℕ × ℕ). (p.0 < 65536) × (p.1 < 65536)) (λ p. decimal p.0 ++ 32 ∷ decimal p.1) (pair_of (number_in 65536) (λ _. number_in 65536))
numbers_exact = exact-pair (number_exact 65536 (omega arith)) (decimal_word 65536 (omega arith)) (λ _ _. number_exact 65536 (omega arith))

bound_again : (b : Bound) → FitsBound b → bound_in (bound_row b) ≡ Some b
unfolding bound_in
bound_again (Minimum h) fits = rw (behind_again (codes "minimum ") (decimal h), (number_exact 65536 (omega arith)).again h fits) refl
bound_again (Between lo hi) fits = rw (no_minimum (decimal lo ++ 32 ∷ decimal hi), behind_again (codes "between ") (decimal lo ++ 32 ∷ decimal hi), numbers_exact.again (lo, hi) fits) refl

bound_from_takes : (line : List ℕ) (m o : Option (List ℕ)) (b : Bound) → m ≡ behind (codes "minimum ") line → o ≡ behind (codes "between ") line → bound_from m o ≡ Some b → FitsBound b × (line ≡ bound_row b)
bound_from_takes line (Some w) o b em eo e =
    let n = some_of (number_in 65536 w) (λ h. Some (Minimum h)) b e in
    let t = (number_exact 65536 (omega arith)).takes w n.0 n.1 in
    subst (λ (x : Bound). FitsBound x × (line ≡ bound_row x)) (some_is (Minimum n.0) b n.2) (t.0, behind_takes (codes "minimum ") line w (sym em) ∙ ap (λ (x : List ℕ). codes "minimum " ++ x) t.1)
bound_from_takes line None (Some w) b em eo e =
    let n = some_of (pair_of (number_in 65536) (λ _. number_in 65536) w) (λ x. Some (Between x.0 x.1)) b e in
    let t = numbers_exact.takes w n.0 n.1 in
    subst (λ (x : Bound). FitsBound x × (line ≡ bound_row x)) (some_is (Between n.0.0 n.0.1) b n.2) (t.0, behind_takes (codes "between ") line w (sym eo) ∙ ap (λ (x : List ℕ). codes "between " ++ x) t.1)
bound_from_takes line None None b em eo e = absurd cc

pub bound_exact : IsExact FitsBound bound_row bound_in
unfolding bound_in
bound_exact = record { again = bound_again; takes = λ line b e. bound_from_takes line _ _ b refl refl e }

no_arc : (b : Bound) → is_arc (bound_row b) ≡ false
unfolding behind
no_arc (Minimum h) = refl
no_arc (Between lo hi) = refl

-- ---- arcs

ends_differ : (u v : ℕ) → not (eqb u v) ≡ true → u ≢ v
ends_differ u v h e = absurd (both_ways (eqb u v) (not_of (eqb u v) h) (eq-eqb u v e))
  where
    not_of : (b : Bool) → not b ≡ true → b ≡ false
    not_of false h = refl
    not_of true h = absurd cc

not_zero : (b : Bool) → not b ≡ true → b ≡ false
not_zero false h = refl
not_zero true h = absurd cc

module _ (inputs gates : ℕ) (names : List (List ℕ)) (known : AreKnown names) (small : inputs + gates < 2 ^ 32) where
  abbrev signals : ℕ
  signals = inputs + gates

  abbrev Parts : Type 0
  Parts = ℕ × (ℕ × Ref)

  abbrev PartsFit : Parts → Type 0
  PartsFit x = (x.0 < length names) × ((x.1.0 < length names) × IsRefOver signals x.1.1)

  abbrev parts_text : Parts → List ℕ
  parts_text x = name_of names x.0 ++ 32 ∷ (name_of names x.1.0 ++ 32 ∷ ref_text inputs x.1.1)

  name_word : IsWord (λ v. v < length names) (name_of names)
  name_word = record { no_blank = λ v lt. name_is_plain names v known.free }

  parts_exact : IsExact PartsFit parts_text (pair_of (place_of names) (λ _. pair_of (place_of names) (λ _. condition_in inputs gates)))
  parts_exact = exact-pair (operation_exact names known.distinct) name_word (λ _ _. exact-pair (operation_exact names known.distinct) name_word (λ _ _. condition_exact inputs gates small))

  abbrev Fits : Pair → ArcLine → Type 0
  Fits = FitsEntry signals (length names)

  abbrev tail_text : ArcLine → List ℕ
  tail_text e = parts_text (e.first, (e.second, e.condition))

  from : (least : Pair) (e : ArcLine) → Fits least e → (x : Parts) × PartsFit x × (entry_from least x ≡ Some e) × (tail_text e ≡ parts_text x)
  from least e h =
      let differ : eqb e.first e.second ≡ false = ne_eqb e.first e.second h.differ in
      ((e.first, (e.second, e.condition)), (h.first, (h.second, h.over)), rw (h.next, differ, h.counts) refl, refl)

  to : (least : Pair) (x : Parts) (e : ArcLine) → PartsFit x → entry_from least x ≡ Some e → Fits least e × (tail_text e ≡ parts_text x)
  to least x e fits h =
      let t = tested (is_from least x.0 x.1.0 && (not (eqb x.0 x.1.0) && not (is_zero x.1.1))) (record { first = x.0; second = x.1.0; condition = x.1.1 }) e h in
      let b = both_true (is_from least x.0 x.1.0) _ t.0 in
      let c = both_true (not (eqb x.0 x.1.0)) (not (is_zero x.1.1)) b.1 in
      subst (λ (y : ArcLine). Fits least y × (tail_text y ≡ parts_text x)) t.1
      (record { next = b.0; first = fits.0; second = fits.1.0; differ = ends_differ x.0 x.1.0 c.0; counts = not_zero (is_zero x.1.1) c.1; over = fits.1.1 }, refl)

  entry_exact : (least : Pair) → IsExact (Fits least) (entry_row inputs names) (entry_in inputs gates names least)
  unfolding entry_in
  entry_exact least = exact-behind (codes "arc ") (exact-made (entry_from least) (Fits least) tail_text parts_exact (from least) (to least))

  abbrev Spelt : Pair → ArcLine → List ℕ → Type 0
  Spelt least e l = Fits least e × (l ≡ entry_row inputs names e)

  abbrev BoundSpelt : Bound → List ℕ → Type 0
  BoundSpelt b l = FitsBound b × (l ≡ bound_row b)

  begins_arc : (x : List ℕ) → is_arc (codes "arc " ++ x) ≡ true
  begins_arc x = rw (behind_again (codes "arc ") x) refl

  lined : (s : Pair) → IsSpelled (SpellsLined Spelt after_entry BoundSpelt s) (lined_of is_arc (entry_in inputs gates names) after_entry bound_in s)
  lined = spelled-lined Spelt after_entry BoundSpelt is_arc (entry_in inputs gates names) bound_in
      (λ s. record { again = λ e l h. ap (entry_in inputs gates names s) h.1 ∙ (entry_exact s).again e h.0; takes = λ l e h. (entry_exact s).takes l e h })
      (λ s e l h. ap is_arc h.1 ∙ begins_arc _)
      (record { again = λ b l h. ap bound_in h.1 ∙ bound_exact.again b h.0; takes = λ l b h. bound_exact.takes l b h })
      (λ b l h. ap is_arc h.1 ∙ no_arc b)
      (Minimum 0, bound_row (Minimum 0), (lit< tt, refl))

  -- the lines of the conditions, and the bound's
  abbrev pub arcs_lines : List ArcLine × Bound → List (List ℕ)
  arcs_lines x = map (entry_row inputs names) x.0 ++ bound_row x.1 ∷ []

  abbrev pub SpellsArcs : Pair → List ArcLine × Bound → List (List ℕ) → Type 0
  SpellsArcs s x ls = (FitEntries signals (length names) s x.0 × FitsBound x.1) × (ls ≡ arcs_lines x)

  to_lined : (s : Pair) (es : List ArcLine) (b : Bound) (ls : List (List ℕ)) → SpellsArcs s (es, b) ls → SpellsLined Spelt after_entry BoundSpelt s (es, b) ls
  to_lined s [] b ls h = (bound_row b, (h.0.1, refl), h.1)
  to_lined s (e ∷ es) b ls h = (entry_row inputs names e, arcs_lines (es, b), (h.0.0.0, refl), to_lined (after_entry s e) es b (arcs_lines (es, b)) ((h.0.0.1, h.0.1), refl), h.1)

  from_lined : (s : Pair) (es : List ArcLine) (b : Bound) (ls : List (List ℕ)) → SpellsLined Spelt after_entry BoundSpelt s (es, b) ls → SpellsArcs s (es, b) ls
  from_lined s [] b ls h = ((tt, h.1.0), h.2 ∙ ap (λ (l : List ℕ). l ∷ []) h.1.1)
  from_lined s (e ∷ es) b ls h =
      let r = from_lined (after_entry s e) es b h.1 h.3 in
      (((h.2.0, r.0.0), r.0.1), h.4 ∙ ap₂ (λ (l : List ℕ) (rest : List (List ℕ)). l ∷ rest) h.2.1 r.1)

  pub arcs_spelled : IsSpelled (SpellsArcs first_pair) (arcs_at inputs gates names)
  arcs_spelled = spelled-same (SpellsArcs first_pair) (lined first_pair) (λ x ls h. to_lined first_pair x.0 x.1 ls h) (λ x ls h. from_lined first_pair x.0 x.1 ls h)
