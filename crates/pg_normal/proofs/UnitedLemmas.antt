-- What is united already need not be united again.
use Rattle.std.specs.Prelude.{◌≡◌, refl, ℕ, ◌<◌, Bool, true, false, not, ◌&&◌, ◌||◌, List, slice_get, slice_index, Some}
use Rattle.std.proofs.Common.{ap, ◌∙◌, sym}
use Rattle.std.proofs.lemmas.Bool.{both_ways, or_left}
use Rattle.cpog_defs.specs.Codes.{bit}
use Rattle.pg_algebra.specs.Graphs.{overlay, when}
use Rattle.pg_algebra.proofs.GraphLaws.{same_graph}
use Rattle.pg_algebra.proofs.TableLemmas.{no_ones}
use Rattle.pg_normal.specs.declared.tables.Tables.{Tables}
use Rattle.pg_normal.specs.declared.known.Known.{Known}
use Rattle.pg_normal.specs.Known.{AreUnited, AreJoined, entry, graph_of_rows, graph_of_tables, graph_or_empty}

-- more arcs keep what is there
pub united_grows : (known : Known) (united : List ℕ) (arcs more : List (List ℕ)) →
    ((u v n : ℕ) → n < 64 → bit (entry arcs u v) n ≡ true → bit (entry more u v) n ≡ true) →
    AreUnited known united arcs → AreUnited known united more
united_grows known united arcs more grows is = record {
  each = is.each;
  there = λ i t at u v n h among held. grows u v n h (is.there i t at u v n h among held);
}

pub both_held : (a b c : Bool) → c ≡ (a || b) → a ≡ true → c ≡ true
both_held a b c is h = is ∙ or_left a b h

absorbed : (a g t : Bool) → (g ≡ true → t ≡ true → a ≡ true) → a ≡ (a || (g && t))
absorbed true g t h = refl
absorbed false false t h = refl
absorbed false true false h = refl
absorbed false true true h = h refl refl

guarded : (g there left : Bool) → left ≡ (g && not there) → left ≡ false → g ≡ true → there ≡ true
guarded g true left is none held = refl
guarded true false left is none held = absurd (both_ways _ none is)
guarded false false left is none held = absurd (both_ways _ refl held)

module _ (known : Known) (place : ℕ) (t : Tables) (at : slice_get known.tables place ≡ Some t) (guard : ℕ) where
  pub earlier_added : (vertices after : List ℕ) (arcs more : List (List ℕ)) (n : ℕ)
      → ((v : ℕ) → bit (slice_index after v) n ≡ (bit (slice_index vertices v) n || (bit guard n && bit (slice_index t.vertices v) n)))
      → ((u v : ℕ) → bit (entry more u v) n ≡ (bit (entry arcs u v) n || (bit guard n && bit (entry t.arcs u v) n)))
      → graph_of_rows after more n ≡ overlay (graph_of_rows vertices arcs n) (when (bit guard n) (graph_or_empty n (slice_get known.tables place)))
  earlier_added vertices after arcs more n united joined =
      same_graph _ (overlay (graph_of_rows vertices arcs n) (when (bit guard n) (graph_of_tables t n))) united joined
      ∙ ap (λ o. overlay (graph_of_rows vertices arcs n) (when (bit guard n) (graph_or_empty n o))) (sym at)

  module _ (united : List ℕ) (arcs : List (List ℕ)) (is : AreUnited known united arcs) where
    -- nothing is left to unite
    pub arcs_there : (there left : ℕ) → left ≡ 0 → there ≡ slice_index united place → ((n : ℕ) → n < 64 → bit left n ≡ (bit guard n && not (bit there n)))
        → (u v n : ℕ) → n < 64 → bit (entry arcs u v) n ≡ (bit (entry arcs u v) n || (bit guard n && bit (entry t.arcs u v) n))
    arcs_there there left none there_is left_is u v n h = absorbed (bit (entry arcs u v) n) (bit guard n) (bit (entry t.arcs u v) n) (λ hg ht.
        is.there place t at u v n h (ap (λ x. bit x n) (sym there_is) ∙ guarded (bit guard n) (bit there n) (bit left n) (left_is n h) (ap (λ x. bit x n) none ∙ no_ones n) hg) ht)

-- ---- rows that are joined

pub joined_grows : (before joined : List ℕ) (arcs more : List (List ℕ)) →
    ((u v n : ℕ) → n < 64 → bit (entry arcs u v) n ≡ true → bit (entry more u v) n ≡ true) →
    AreJoined before joined arcs → AreJoined before joined more
joined_grows before joined arcs more grows is u v n h hb hj = grows u v n h (is u v n h hb hj)
