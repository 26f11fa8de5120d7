-- The report of a search is good.
use Rattle.std.proofs.Common.{ℕ, suc, List, [], ◌∷◌, length, map, refl, sym, subst, arith}
use Rattle.std.specs.List.{All}
use Rattle.clause_arena.specs.Clauses.{Clause}
use Rattle.cpog_defs.specs.declared.types.Bit3.{Bit3}
use Rattle.cpog_defs.specs.Orders.{Order, IsOrder}
use Rattle.cpog_defs.specs.Scenarios.{AreOrdersOf}
use Rattle.cpog_merge.proofs.ScenarioLemmas.{fits_is_fitting_scenarios_lem}
use Rattle.cnf_build.specs.Evidence.{EvidenceValue, OpenValue, IsEvidence, IsOpenPart}
use Rattle.order_reduce.specs.Scenarios.{covering_scenario}
use Rattle.order_reduce.proofs.PairWalks.{pairs_walk}
use Rattle.proof_check.specs.Lines.{Line}
use Rattle.proof_check.specs.Following.{Live, after, AllFollow}
use Rattle.proof_check.specs.Progress.{IsProgress}
use Rattle.report_text.specs.Report.{ReportValue}
use Rattle.report_judge.specs.Good.{ByClasses, IsGood}
use Rattle.report_judge.specs.Known.{printed_lower, SpeaksOf, IsShown, IsOpenBetween, OpenFollows, ReachesBudget}
use Rattle.report_judge.specs.Laws.{IsReportOfSearch}
use Rattle.report_judge.specs.Parts.{Part}

-- the covering pairs of orders have these orders
have_orders : (orders : List Order) → All IsOrder orders → AreOrdersOf (map covering_scenario orders) orders
have_orders [] h = tt
have_orders (o ∷ orders) h =
    let ord : IsOrder o = h 0 o (omega arith) in (
      record { order = ord; count = refl; ops = refl; before = λ u v. ((pairs_walk o ord u v).1, (pairs_walk o ord u v).0) },
      have_orders orders (λ k d l. h (suc k) d (omega (arith, l))),
    )

-- the lines of a progress log follow
progress_follows : (v n : ℕ) (live : Live) (known : List Clause) (log : List Line) → IsProgress v n live known log → AllFollow v n live log
progress_follows v n live known [] h = tt
progress_follows v n live known (Line.Add id lits hints ∷ log) h = (h.0, progress_follows v n (after live (Line.Add id lits hints)) (lits ∷ known) log h.2)
progress_follows v n live known (Line.Del ids ∷ log) h = absurd h

module _ (operations : ℕ) (orders : List Order) (patterns : List (List Bit3)) (bits : ℕ) (columns : List (List Bit3)) (lo hi budget : ℕ) where
  speaks : (evidence : EvidenceValue) → IsEvidence operations orders patterns bits columns lo evidence → SpeaksOf patterns bits columns lo evidence
  speaks EvidenceValue.Zero h = h
  speaks (EvidenceValue.Count places) h = h.0
  speaks (EvidenceValue.Refutation kind gates log) h = record { one_fewer = h.one_fewer; some_bits = h.some_bits; size = h.size }

  shows : (evidence : EvidenceValue) → IsEvidence operations orders patterns bits columns lo evidence → IsShown operations orders patterns bits columns evidence
  shows EvidenceValue.Zero h = tt
  shows (EvidenceValue.Count places) h = h.1
  shows (EvidenceValue.Refutation kind gates log) h = h.refutes

  between : (open_part : OpenValue) → IsOpenPart patterns bits columns lo hi budget open_part → IsOpenBetween patterns bits columns lo hi open_part
  between OpenValue.Closed h = h
  between (OpenValue.Log kind gates log) h = (h.0, h.1.gates_are, h.1.size)
  between (OpenValue.Size kind gates) h = (h.0, h.1.gates_are, h.1.size)

  follows : (open_part : OpenValue) → IsOpenPart patterns bits columns lo hi budget open_part → OpenFollows patterns bits columns open_part
  follows OpenValue.Closed h = tt
  follows (OpenValue.Log kind gates log) h = progress_follows _ _ _ _ log h.1.progress
  follows (OpenValue.Size kind gates) h = tt

  reaches : (open_part : OpenValue) → IsOpenPart patterns bits columns lo hi budget open_part → ReachesBudget budget open_part
  reaches OpenValue.Closed h = tt
  reaches (OpenValue.Log kind gates log) h = h.1.spends.reached
  reaches (OpenValue.Size kind gates) h = tt

module _ (r : ReportValue) (is : IsReportOfSearch r) where
  are_orders : AreOrdersOf r.scenarios is.orders
  are_orders = subst (λ scenarios. AreOrdersOf scenarios is.orders) (sym is.scenarios) (have_orders is.orders (λ k d l. (is.one_count k d l).order))

  by_classes : (P : List Order → List (List Bit3) → Type 0) → P is.orders is.classes.columns → ByClasses r P
  by_classes P h = record {
    orders = is.orders;
    columns = is.classes.columns;
    are_columns = record { are_orders = are_orders; table = is.columns; are_columns = is.are_columns; classes = is.classes; are_classes = is.are_classes; columns_are = refl };
    holds = h;
  }

  abbrev lo : ℕ
  lo = printed_lower r.bound

  abbrev hi : ℕ
  hi = length r.encoding.gates.gates

  pub report_of_search_is_good : IsGood r
  report_of_search_is_good Part.Acyclic = (is.orders, are_orders)
  report_of_search_is_good Part.Different = record { orders = is.orders; are_orders = are_orders; different = is.different }
  report_of_search_is_good Part.Codes = is.encodes.codes.distinct
  report_of_search_is_good Part.Given = is.encodes.given
  report_of_search_is_good Part.Fitting = (fits_is_fitting_scenarios_lem r.encoding r.scenarios is.orders are_orders).0 is.encodes.fits
  report_of_search_is_good Part.Netlist = (is.module_names, is.module_netlist)
  report_of_search_is_good Part.Count = is.attained
  report_of_search_is_good Part.Evidence = by_classes (λ orders columns. SpeaksOf r.patterns r.bits columns lo r.evidence)
      (speaks (length r.names) is.orders r.patterns r.bits is.classes.columns lo hi r.budget r.evidence is.evidence)
  report_of_search_is_good Part.Shown = by_classes (λ orders columns. IsShown (length r.names) orders r.patterns r.bits columns r.evidence)
      (shows (length r.names) is.orders r.patterns r.bits is.classes.columns lo hi r.budget r.evidence is.evidence)
  report_of_search_is_good Part.Open = by_classes (λ orders columns. IsOpenBetween r.patterns r.bits columns lo hi r.open_part)
      (between (length r.names) is.orders r.patterns r.bits is.classes.columns lo hi r.budget r.open_part is.open_part)
  report_of_search_is_good Part.Followed = by_classes (λ orders columns. OpenFollows r.patterns r.bits columns r.open_part)
      (follows (length r.names) is.orders r.patterns r.bits is.classes.columns lo hi r.budget r.open_part is.open_part)
  report_of_search_is_good Part.Long = reaches (length r.names) is.orders r.patterns r.bits is.classes.columns lo hi r.budget r.open_part is.open_part
