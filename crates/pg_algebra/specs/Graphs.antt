-- Graphs as tests, and what joins them (Mokhov and Khomenko 2014).
use Rattle.std.specs.Prelude.{ℕ, Bool, false, ◌&&◌, ◌||◌, ◌==◌, List, [], ◌∷◌}

-- which vertices and which arcs a graph has
pub record Graph : Type 0 where
  pub vertex : ℕ → Bool
  pub arc : ℕ → ℕ → Bool

-- the graph without a vertex
abbrev pub empty : Graph
empty = record { vertex = λ v. false; arc = λ u v. false }

-- one vertex and no arc
abbrev pub single : ℕ → Graph
single o = record { vertex = λ v. v == o; arc = λ u v. false }

-- the vertices and arcs of both
abbrev pub overlay : Graph → Graph → Graph
overlay p q = record { vertex = λ v. p.vertex v || q.vertex v; arc = λ u v. p.arc u v || q.arc u v }

-- both, and an arc from each vertex of the first to each of the second
abbrev pub sequence : Graph → Graph → Graph
sequence p q = record {
  vertex = λ v. p.vertex v || q.vertex v;
  arc = λ u v. (p.arc u v || q.arc u v) || (p.vertex u && q.vertex v);
}

-- the graph where the value is 1, else the empty one
abbrev pub when : Bool → Graph → Graph
when b p = record { vertex = λ v. b && p.vertex v; arc = λ u v. b && p.arc u v }

-- the overlay of all graphs of a list
abbrev pub overlay_all : List Graph → Graph
overlay_all [] = empty
overlay_all (p ∷ ps) = overlay p (overlay_all ps)

-- the sequence of all graphs of a list, in their order
abbrev pub sequence_all : List Graph → Graph
sequence_all [] = empty
sequence_all (p ∷ ps) = sequence p (sequence_all ps)
