-- Scenarios have one list of orders, and one list of class columns.
use Rattle.std.proofs.Common.{◌≡◌, ℕ, List, [], ◌∷◌, refl, sym, ap₂, ◌∙◌, subst}
use Rattle.std.specs.FinSet as set
use Rattle.std.specs.FinMap.{nat_cmp-IsAntisymmetric}
use Rattle.std.specs.Cmp.{nat_cmp_total}
use Rattle.std.proofs.lemmas.List.{ext_get_or}
use Rattle.cpog_defs.specs.declared.types.Bit3.{Bit3}
use Rattle.cpog_defs.specs.Graphs.{IsPlace}
use Rattle.cpog_defs.specs.Orders.{Order, is_before}
use Rattle.cpog_defs.specs.Scenarios.{Scenario, IsOrderOfScenario, AreOrdersOf}
use Rattle.cpog_merge.specs.Columns.{Columns, AreColumnsOf, AreSameColumns}
use Rattle.cpog_merge.proofs.AgreeLemmas.{classes_are_one_lem}
use Rattle.cpog_merge.proofs.SameLemmas.{same_classes}
use Rattle.report_text.specs.Report.{ReportValue}
use Rattle.report_judge.specs.Good.{ByClasses}
use Rattle.report_judge.specs.Known.{AreClassColumns}
use Rattle.report_judge.proofs.FittingLemmas.{same_truth}

same_order : (a b : Order) → a.count ≡ b.count → a.ops ≡ b.ops → a.before ≡ b.before → a ≡ b
same_order a b count ops before = λ i. record { count = count i; ops = ops i; before = before i }

one_order : (sc : Scenario) (a b : Order) → IsOrderOfScenario sc a → IsOrderOfScenario sc b → a ≡ b
one_order sc a b h k =
    let count : a.count ≡ b.count = h.count ∙ sym k.count in
    same_order a b count (h.ops ∙ sym k.ops)
    (ext_get_or set.empty a.before b.before (h.order.rows ∙ count ∙ sym k.order.rows)
    (λ v l. set.same_set nat_cmp_total nat_cmp-IsAntisymmetric _ _
    (λ u. same_truth (is_before a u v) (is_before b u v) (λ t. (k.before u v).1 ((h.before u v).0 t)) (λ t. (h.before u v).1 ((k.before u v).0 t)))))

pub one_orders : (scenarios : List Scenario) (os ps : List Order) → AreOrdersOf scenarios os → AreOrdersOf scenarios ps → os ≡ ps
one_orders [] [] [] h k = refl
one_orders [] [] (p ∷ ps) h k = absurd k
one_orders [] (o ∷ os) ps h k = absurd h
one_orders (sc ∷ scenarios) [] ps h k = absurd h
one_orders (sc ∷ scenarios) (o ∷ os) [] h k = absurd k
one_orders (sc ∷ scenarios) (o ∷ os) (p ∷ ps) h k = ap₂ (λ x xs. x ∷ xs) (one_order sc o p h.0 k.0) (one_orders scenarios os ps h.1 k.1)

same_columns : (orders : List Order) (t u : Columns) → AreColumnsOf orders t → AreColumnsOf orders u → AreSameColumns t u
same_columns orders t u h k = record {
  count = h.count ∙ sym k.count;
  columns = λ p l. let here = subst (λ (n : ℕ). IsPlace n p) h.count l in h.columns p here ∙ sym (k.columns p here);
}

pub one_columns : (scenarios : List Scenario) (orders : List Order) (a b : List (List Bit3)) → AreClassColumns scenarios orders a → AreClassColumns scenarios orders b → a ≡ b
one_columns scenarios orders a b h k =
    let there = same_classes h.table k.table h.classes (same_columns orders h.table k.table h.are_columns k.are_columns) h.are_classes in
    h.columns_are ∙ (classes_are_one_lem k.table h.classes k.classes there k.are_classes).1 ∙ sym k.columns_are

-- two facts by the classes of a report are about the same orders and columns
pub with_both : {R : Type 0} (r : ReportValue) (P Q : List Order → List (List Bit3) → Type 0) → ByClasses r P → ByClasses r Q →
    ((orders : List Order) (columns : List (List Bit3)) → AreClassColumns r.scenarios orders columns → P orders columns → Q orders columns → R) → R
with_both r P Q h k f =
    let orders = one_orders r.scenarios k.orders h.orders k.are_columns.are_orders h.are_columns.are_orders in
    let there = subst (λ (os : List Order). AreClassColumns r.scenarios os k.columns) orders k.are_columns in
    let columns = one_columns r.scenarios h.orders k.columns h.columns there h.are_columns in
    f h.orders h.columns h.are_columns h.holds
    (subst (λ (cs : List (List Bit3)). Q h.orders cs) columns (subst (λ (os : List Order). Q os k.columns) orders k.holds))
