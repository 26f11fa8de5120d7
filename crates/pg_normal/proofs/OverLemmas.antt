-- The tables of an expression have the ends of their arcs, and what occurs is listed.
use Rattle.std.specs.Prelude.{◌≡◌, refl, ℕ, ◌<◌, true, List, [], ◌∷◌, length, slice_get, Option, Some, None}
use Rattle.std.proofs.Common.{zero, suc, ap, ◌∙◌, sym, subst, arith, get_or}
use Rattle.std.specs.List.{AllByRecursion}
use Rattle.std.proofs.lemmas.Bool.{both_ways}
use Rattle.std.proofs.lemmas.Option.{get_or_from_slice_get, none-some, slice_get_within}
use Rattle.cpog_base.specs.Names.{place_of}
use Rattle.cpog_defs.specs.Codes.{bit}
use Rattle.pg_algebra.specs.declared.expr.Expr.{Expr}
use Rattle.pg_algebra.specs.Conditions.{valuation}
use Rattle.pg_algebra.specs.Meaning.{graph_of}
use Rattle.pg_normal.specs.declared.tables.Tables.{Tables}
use Rattle.pg_normal.specs.declared.known.Known.{Known}
use Rattle.pg_normal.specs.Appearing.{appearing, first_appearing, has}
use Rattle.pg_normal.specs.Known.{HasFullRows, IsOver, entry, graph_of_tables, graph_or_empty, order_or_none, tables_at, tables_named, graphs_known, orders_known}
use Rattle.pg_normal.proofs.MeaningLemmas.{HasEnds, ends, appears}
use Rattle.pg_normal.proofs.OrderLemmas.{listed}

all-get : {X : Type 0} (P : X → Type 0) (xs : List X) (i : ℕ) (d : X) → AllByRecursion P xs → i < length xs → P (get_or xs i d)
all-get P [] i d all h = absurd (omega arith)
all-get P (x ∷ xs) zero d all h = all.0
all-get P (x ∷ xs) (suc i) d all h = all-get P xs i d all.1 (omega arith)

pub all-at : {X : Type 0} (P : X → Type 0) (xs : List X) (i : ℕ) (x : X) → AllByRecursion P xs → slice_get xs i ≡ Some x → P x
all-at P xs i x all is = subst P (get_or_from_slice_get xs i x x is) (all-get P xs i x all (slice_get_within xs i x is))

named-over : (count : ℕ) (tables : List Tables) (place : Option ℕ) (t : Tables) → AllByRecursion (IsOver count) tables → tables_at tables place ≡ Some t → IsOver count t
named-over count tables None t all is = absurd (none-some t is)
named-over count tables (Some i) t all is = all-at (IsOver count) tables i t all is

-- what was found is over the operations
pub known_is_over : (count : ℕ) (known : Known) (name : List ℕ) (t : Tables) → AllByRecursion (IsOver count) known.tables → tables_named known name ≡ Some t → IsOver count t
known_is_over count known name t all is = named-over count known.tables (place_of known.graphs name) t all is

ends-option : (count n : ℕ) → n < 64 → (o : Option Tables) → ((t : Tables) → o ≡ Some t → IsOver count t) → HasEnds (graph_or_empty n o)
ends-option count n h None over u v arc = absurd (both_ways _ refl arc)
ends-option count n h (Some t) over u v arc = ((over t refl).first u v n h arc, (over t refl).second u v n h arc)

lists-option : (count n : ℕ) → n < 64 → (o : Option Tables) → ((t : Tables) → o ≡ Some t → IsOver count t) → (v : ℕ) → (graph_or_empty n o).vertex v ≡ true → has (order_or_none o) v ≡ true
lists-option count n h None over v there = absurd (both_ways _ refl there)
lists-option count n h (Some t) over v there = (over t refl).listed v n h there

-- tables of an expression over what is known
pub tables_are_over : (count : ℕ) (known : Known) (e : Expr) (t : Tables) → AllByRecursion (IsOver count) known.tables
    → length t.vertices ≡ count → HasFullRows count t.arcs
    → ((n : ℕ) → n < 64 → graph_of_tables t n ≡ graph_of (graphs_known known n) (valuation known.params n) e)
    → t.order ≡ first_appearing (orders_known known) e
    → IsOver count t
tables_are_over count known e t all vertices square graph order = record {
  vertices = vertices;
  arcs = square;
  first = λ u v n h held. ap (λ g. g.vertex u) (graph n h) ∙ (end n h u v held).0;
  second = λ u v n h held. ap (λ g. g.vertex v) (graph n h) ∙ (end n h u v held).1;
  listed = λ v n h held. ap (λ vs. has vs v) order ∙ listed [] (appearing (orders_known known) e) v
      (appears (graphs_known known n) (valuation known.params n) (orders_known known)
      (λ name w there. lists-option count n h (tables_named known name)
      (λ x is. known_is_over count known name x all is) w there) e v
      (sym (ap (λ g. g.vertex v) (graph n h)) ∙ held));
}
  where
    end : (n : ℕ) → n < 64 → (u v : ℕ) → bit (entry t.arcs u v) n ≡ true
        → ((graph_of (graphs_known known n) (valuation known.params n) e).vertex u ≡ true) × ((graph_of (graphs_known known n) (valuation known.params n) e).vertex v ≡ true)
    end n h u v held =
        ends (graphs_known known n) (valuation known.params n)
        (λ name. ends-option count n h (tables_named known name)
        (λ x is. known_is_over count known name x all is)) e u v (sym (ap (λ g. g.arc u v) (graph n h)) ∙ held)
