-- The scenarios of a report are read exactly.
use Rattle.std.proofs.Common.{lit<, ◌≡◌, ◌≢◌, ℕ, zero, suc, ◌<◌, ◌≤◌, ◌+◌, ◌-◌, ◌^◌, Bool, true, false, cond, eqb, ltb, leb, ◌&&◌, ◌||◌, not, List, [], ◌∷◌, ◌++◌, length, map, get_or, Option, Some, None, Result, Ok, Err, refl, sym, ap, ap₂, subst, ◌∙◌, arith, inl, inr, ◌⊎◌, append_assoc, length-append}
use Rattle.std.specs.Prelude.{codes, is_some, replicate}
use Rattle.std.specs.List.{All, AllByRecursion, AllPairs, Contains, list_any}
use Rattle.std.specs.FinSet as set
use Rattle.std.specs.Ordering.{nat_cmp}
use Rattle.std.specs.Str.{bytes_eq}
use Rattle.std.proofs.lemmas.Bool.{cases_Bool, cases_lt, both_ways, eqb-true, eq-eqb, ne_eqb, ltb-true, lt-ltb}
use Rattle.std.proofs.lemmas.Slice.Eq.{bytes_eq-Decides}
use Rattle.std.proofs.lemmas.Bool.Decides.{nat_tests}
use Rattle.std.proofs.lemmas.List.Elements.{All-from_recursion, recursion_from_All}
use Rattle.std.proofs.lemmas.List.Kept.{AllPairs-cons}
use Rattle.cpog_base.specs.Names.{has_text, AreDistinct}
use Rattle.cpog_defs.specs.declared.types.Bit3.{Bit3}
use Rattle.cpog_defs.specs.declared.types.Bit3.TheVariants as bits
use Rattle.cpog_defs.specs.declared.types.OpId.{OpId}
use Rattle.cpog_defs.specs.Codes.{word_bits}
use Rattle.cpog_defs.specs.Orders.{Set, arc_of, each_below}
use Rattle.cpog_defs.specs.Scenarios.{Scenario, IsScenario, HasArc}
use Rattle.line_text.specs.Words.{is_free_name, continues_name, all_continue}
use Rattle.report_text.specs.Report.{IsReported, IsArcBefore}
use Rattle.report_text.specs.Rows.{digit, digits_of, given_text, scenario_row, has_row, arcs_row, gates_row, arc_text, blank_names, members_below}
use Rattle.line_rows.specs.Position.{Position}
use Rattle.line_rows.specs.Words.{◌>>=?◌, number_in, behind, behind_of, pair_of}
use Rattle.line_rows.specs.Reading.{◌>>=◌, line_at, read_or_fault, row, then_of, view_of, lines_many}
use Rattle.line_rows.specs.Either.{until_of}
use Rattle.line_rows.proofs.Exact.{IsExact, IsWord, exact-behind, exact-pair, number_exact, behind_again, tested, both_true, same_bytes}
use Rattle.line_rows.proofs.RowLaws.{at, IsRows, rows-row, rows-then, rows-view}
use Rattle.line_rows.proofs.EitherLaws.{Begun}
use Rattle.line_rows.proofs.UntilLaws.{FitsUntil, rows-until}
use Rattle.report_reader.specs.Reading.{is_next, AreNext}
use Rattle.report_reader.specs.Codes.{digits_in, given_in, split_of}
use Rattle.report_reader.specs.Operations.{has_in, arcs_in, Pair, is_from}
use Rattle.report_reader.specs.Scenarios.{name_in, code_in, label_in, Block, block_of, block_behind, block_at, is_label, gate_bound, gates_in, with_name, blocks_at, scenarios_at, FitsBlock, block_lines}
use Rattle.report_reader.proofs.NameLaws.{is_blank, word_plain}
use Rattle.report_reader.proofs.CodeLaws.{digits_exact, code_exact}
use Rattle.report_reader.proofs.OperationLaws.{AreKnown, FitsHas, FitsArcs, no_pair, has_exact, arcs_exact}

-- ---- arcs that ascend, and that come one after another

arc_before : (a b : OpId × OpId) → is_from (record { first = a.0.0; second = a.1.0 + 1 }) b.0.0 b.1.0 ≡ true → IsArcBefore a b
arc_before a b h = order a.0.0 a.1.0 b.0.0 b.1.0 h
  where
    order : (u v x y : ℕ) → (ltb u x || (eqb u x && leb (v + 1) y)) ≡ true → (u < x) ⊎ ((u ≡ x) × (v < y))
    order u v x y h = grind (arith, nat_tests)

before_arc : (a b : OpId × OpId) → IsArcBefore a b → is_from (record { first = a.0.0; second = a.1.0 + 1 }) b.0.0 b.1.0 ≡ true
before_arc a b h = order a.0.0 a.1.0 b.0.0 b.1.0 h
  where
    order : (u v x y : ℕ) → (u < x) ⊎ ((u ≡ x) × (v < y)) → (ltb u x || (eqb u x && leb (v + 1) y)) ≡ true
    order u v x y h = grind (arith, nat_tests)

still_from : (p : Pair) (u v x y : ℕ) → is_from p u v ≡ true → is_from (record { first = u; second = v + 1 }) x y ≡ true → is_from p x y ≡ true
still_from p u v x y h g = order p.first p.second u v x y h g
  where
    order : (a b u v x y : ℕ) → (ltb a u || (eqb a u && leb b v)) ≡ true → (ltb u x || (eqb u x && leb (v + 1) y)) ≡ true → (ltb a x || (eqb a x && leb b y)) ≡ true
    order a b u v x y h g = grind (arith, nat_tests)

from_no_pair : (u v : ℕ) → is_from (record { first = 0; second = 0 }) u v ≡ true
from_no_pair u v = order u v
  where
    order : (u v : ℕ) → (ltb 0 u || (eqb 0 u && leb 0 v)) ≡ true
    order u v = grind (arith, nat_tests)

module _ (names : List (List ℕ)) (known : AreKnown names) where
  abbrev Fit : Set → Pair → List (OpId × OpId) → Type 0
  Fit = FitsArcs names known

  all_from : (ops : Set) (p : Pair) (arcs : List (OpId × OpId)) → Fit ops p arcs → AllByRecursion (λ b. is_from p b.0.0 b.1.0 ≡ true) arcs
  all_from ops p [] h = tt
  all_from ops p (a ∷ arcs) h = (h.0.0, wider arcs (all_from ops (record { first = a.0.0; second = a.1.0 + 1 }) arcs h.1))
    where
      wider : (bs : List (OpId × OpId)) → AllByRecursion (λ b. is_from (record { first = a.0.0; second = a.1.0 + 1 }) b.0.0 b.1.0 ≡ true) bs → AllByRecursion (λ b. is_from p b.0.0 b.1.0 ≡ true) bs
      wider [] g = tt
      wider (b ∷ bs) g = (still_from p a.0.0 a.1.0 b.0.0 b.1.0 h.0.0 g.0, wider bs g.1)

  all_before : (a : OpId × OpId) (bs : List (OpId × OpId)) → AllByRecursion (λ b. is_from (record { first = a.0.0; second = a.1.0 + 1 }) b.0.0 b.1.0 ≡ true) bs → AllByRecursion (IsArcBefore a) bs
  all_before a [] h = tt
  all_before a (b ∷ bs) h = (arc_before a b h.0, all_before a bs h.1)

  ascend : (ops : Set) (p : Pair) (arcs : List (OpId × OpId)) → Fit ops p arcs → AllPairs IsArcBefore arcs
  ascend ops p [] h = λ i j d lt within. absurd (omega arith)
  ascend ops p (a ∷ arcs) h = AllPairs-cons IsArcBefore a arcs (All-from_recursion (IsArcBefore a) arcs (all_before a arcs (all_from ops (record { first = a.0.0; second = a.1.0 + 1 }) arcs h.1))) (ascend ops (record { first = a.0.0; second = a.1.0 + 1 }) arcs h.1)

  ends_kept : (ops : Set) (p : Pair) (arcs : List (OpId × OpId)) → Fit ops p arcs → (k : ℕ) (d : OpId × OpId) → k < length arcs → (set.contains ops (get_or arcs k d).0.0 ≡ true) × (set.contains ops (get_or arcs k d).1.0 ≡ true)
  ends_kept ops p [] h k d lt = absurd (omega arith)
  ends_kept ops p (a ∷ arcs) h zero d lt = (h.0.1.0, h.0.1.1)
  ends_kept ops p (a ∷ arcs) h (suc k) d lt = ends_kept ops (record { first = a.0.0; second = a.1.0 + 1 }) arcs h.1 k d (omega arith)

  arcs_fit : (ops : Set) (p : Pair) (arcs : List (OpId × OpId)) → AllPairs IsArcBefore arcs
      → ((k : ℕ) (d : OpId × OpId) → k < length arcs → (set.contains ops (get_or arcs k d).0.0 ≡ true) × (set.contains ops (get_or arcs k d).1.0 ≡ true))
      → ((d : OpId × OpId) → 0 < length arcs → is_from p (get_or arcs 0 d).0.0 (get_or arcs 0 d).1.0 ≡ true) → Fit ops p arcs
  arcs_fit ops p [] pairs kept first = tt
  arcs_fit ops p (a ∷ arcs) pairs kept first =
      let ends = kept 0 a (omega arith) in (
        (first a (omega arith), (ends.0, ends.1)),
        arcs_fit ops (record { first = a.0.0; second = a.1.0 + 1 }) arcs
            (λ i j d lt within. pairs (suc i) (suc j) d (omega (arith, lt)) (omega (arith, within)))
            (λ k d lt. kept (suc k) d (omega (arith, lt)))
            (λ d some. before_arc a (get_or arcs 0 d) (pairs 0 1 d (omega arith) (omega (arith, some)))),
      )

  not_before_itself : (a : OpId × OpId) → IsArcBefore a a → ⊥
  not_before_itself a h = elim h [ inl lt ↦ absurd (omega (arith, lt)) | inr e ↦ absurd (let l = e.1 in omega (arith, l)) ]

  pub reported : (ops : Set) (arcs : List (OpId × OpId)) → FitsHas names known ops → Fit ops (no_pair names known) arcs → IsReported (length names) (record { count = length names; ops = ops; arcs = arcs })
  reported ops arcs below fits = record {
    count_is = refl;
    scenario = record {
      below = λ v h. below v h;
      first_kept = λ u v c. let e = ends_kept ops (no_pair names known) arcs fits c.0 (arc_of u v) c.1 in ap (λ (a : OpId × OpId). set.contains ops a.0.0) (sym c.2) ∙ e.0;
      second_kept = λ u v c. let e = ends_kept ops (no_pair names known) arcs fits c.0 (arc_of u v) c.1 in ap (λ (a : OpId × OpId). set.contains ops a.1.0) (sym c.2) ∙ e.1;
      distinct = λ i j d lt within same. not_before_itself (get_or arcs j d) (subst (λ (a : OpId × OpId). IsArcBefore a (get_or arcs j d)) same (ascend ops (no_pair names known) arcs fits i j d lt within));
    };
    ascending = ascend ops (no_pair names known) arcs fits;
  }

  pub has_fits : (sc : Scenario) → IsReported (length names) sc → FitsHas names known sc.ops
  has_fits sc h q has = let lt = h.scenario.below q has in omega (arith, lt, h.count_is)

  pub fits_arcs : (sc : Scenario) → IsReported (length names) sc → Fit sc.ops (no_pair names known) sc.arcs
  fits_arcs sc h = arcs_fit sc.ops (no_pair names known) sc.arcs h.ascending
      (λ k d lt. (h.scenario.first_kept (get_or sc.arcs k d).0.0 (get_or sc.arcs k d).1.0 (there k d lt), h.scenario.second_kept (get_or sc.arcs k d).0.0 (get_or sc.arcs k d).1.0 (there k d lt)))
      (λ d some. from_no_pair (get_or sc.arcs 0 d).0.0 (get_or sc.arcs 0 d).1.0)
    where
      there : (k : ℕ) (d : OpId × OpId) (lt : k < length sc.arcs) → HasArc sc (get_or sc.arcs k d).0.0 (get_or sc.arcs k d).1.0
      there k d lt = (k, lt, any_default sc.arcs k d (arc_of (get_or sc.arcs k d).0.0 (get_or sc.arcs k d).1.0) lt)
        where
          any_default : (xs : List (OpId × OpId)) (k : ℕ) (d e : OpId × OpId) → k < length xs → get_or xs k e ≡ get_or xs k d
          any_default [] k d e lt = absurd (omega arith)
          any_default (x ∷ xs) zero d e lt = refl
          any_default (x ∷ xs) (suc k) d e lt = any_default xs k d e (omega arith)
