-- The laws of graphs under overlay, sequence and conditions, and which way the arcs of a sequence go (Mokhov and Khomenko 2014).
use Rattle.std.specs.Prelude.{◌≡◌, ◌≢◌, ◌↔◌, ◌⊎◌, ℕ, Bool, true, false, ◌&&◌, ◌||◌, List, ◌∷◌, ◌++◌}
use Rattle.std.specs.List.{list_any}
use Rattle.pg_algebra.specs.Graphs.{Graph, empty, single, overlay, sequence, when, overlay_all, sequence_all}

-- one graph of the list has the vertex u, and a later one has v
pub record Leads (ps : List Graph) (u v : ℕ) : Type 0 where
  pub before : List Graph
  pub earlier : Graph
  pub between : List Graph
  pub later : Graph
  pub after : List Graph
  pub whole : ps ≡ before ++ earlier ∷ between ++ later ∷ after
  pub has_first : earlier.vertex u ≡ true
  pub has_second : later.vertex v ≡ true

pub record AlgebraOfGraphs : Type 0 where
  pub sequence_arc : (u v : ℕ) → (sequence (single u) (single v)).arc u v ≡ true
  pub sequence_order : (u v : ℕ) → u ≢ v → (sequence (single u) (single v)).arc v u ≡ false
  pub overlay_commutes : (p q : Graph) → overlay p q ≡ overlay q p
  pub overlay_associates : (p q r : Graph) → overlay (overlay p q) r ≡ overlay p (overlay q r)
  pub overlay_idempotent : (p : Graph) → overlay p p ≡ p
  pub overlay_empty : (p : Graph) → overlay p empty ≡ p
  pub sequence_associates : (p q r : Graph) → sequence (sequence p q) r ≡ sequence p (sequence q r)
  pub empty_first : (p : Graph) → sequence empty p ≡ p
  pub empty_last : (p : Graph) → sequence p empty ≡ p
  pub over_overlay_right : (p q r : Graph) → sequence p (overlay q r) ≡ overlay (sequence p q) (sequence p r)
  pub over_overlay_left : (p q r : Graph) → sequence (overlay p q) r ≡ overlay (sequence p r) (sequence q r)
  pub decomposes : (p q r : Graph) → sequence (sequence p q) r ≡ overlay (overlay (sequence p q) (sequence p r)) (sequence q r)
  pub when_false : (p : Graph) → when false p ≡ empty
  pub when_true : (p : Graph) → when true p ≡ p
  pub when_overlay : (b : Bool) (p q : Graph) → when b (overlay p q) ≡ overlay (when b p) (when b q)
  pub when_sequence : (b : Bool) (p q : Graph) → when b (sequence p q) ≡ sequence (when b p) (when b q)
  pub when_both : (a b : Bool) (p : Graph) → when (a && b) p ≡ when a (when b p)
  pub when_either : (a b : Bool) (p : Graph) → when (a || b) p ≡ overlay (when a p) (when b p)
  pub overlay_vertices : (ps : List Graph) (v : ℕ) → (overlay_all ps).vertex v ≡ list_any (λ p. p.vertex v) ps
  pub overlay_arcs : (ps : List Graph) (u v : ℕ) → (overlay_all ps).arc u v ≡ list_any (λ p. p.arc u v) ps
  pub sequence_vertices : (ps : List Graph) (v : ℕ) → (sequence_all ps).vertex v ≡ list_any (λ p. p.vertex v) ps
  pub sequence_arcs : (ps : List Graph) (u v : ℕ) → ((sequence_all ps).arc u v ≡ true) ↔ ((list_any (λ p. p.arc u v) ps ≡ true) ⊎ Leads ps u v)
