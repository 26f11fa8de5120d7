-- Which vertices and arcs the overlay and the sequence of a list of graphs have.
use Rattle.std.specs.Prelude.{◌≡◌, ◌⊎◌, refl, ℕ, Bool, true, ◌&&◌, ◌||◌, List, [], ◌∷◌, ◌++◌}
use Rattle.std.specs.List.{list_any}
use Rattle.std.proofs.Common.{ap, ◌∙◌, sym, inl, inr}
use Rattle.std.proofs.lemmas.Bool.{and_parts, and_from, or_cases, or_left, or_right, both_ways}
use Rattle.pg_algebra.specs.Graphs.{Graph, overlay_all, sequence_all}
use Rattle.pg_algebra.specs.Algebra.{Leads}

pub overlay-vertices : (ps : List Graph) (v : ℕ) → (overlay_all ps).vertex v ≡ list_any (λ p. p.vertex v) ps
overlay-vertices [] v = refl
overlay-vertices (p ∷ ps) v = ap (λ b. p.vertex v || b) (overlay-vertices ps v)

pub overlay-arcs : (ps : List Graph) (u v : ℕ) → (overlay_all ps).arc u v ≡ list_any (λ p. p.arc u v) ps
overlay-arcs [] u v = refl
overlay-arcs (p ∷ ps) u v = ap (λ b. p.arc u v || b) (overlay-arcs ps u v)

pub sequence-vertices : (ps : List Graph) (v : ℕ) → (sequence_all ps).vertex v ≡ list_any (λ p. p.vertex v) ps
sequence-vertices [] v = refl
sequence-vertices (p ∷ ps) v = ap (λ b. p.vertex v || b) (sequence-vertices ps v)

-- an element that passes stands somewhere in the list
record Stands (test : Graph → Bool) (ps : List Graph) : Type 0 where
  before : List Graph
  found : Graph
  after : List Graph
  whole : ps ≡ before ++ found ∷ after
  passes : test found ≡ true

stands : (test : Graph → Bool) (ps : List Graph) → list_any test ps ≡ true → Stands test ps
stands test [] h = absurd (both_ways _ refl h)
stands test (p ∷ ps) h = elim (or_cases (test p) (list_any test ps) h) [
  | inl here ↦ record { before = []; found = p; after = ps; whole = refl; passes = here }
  | inr later ↦ further (stands test ps later)
]
  where
    further : Stands test ps → Stands test (p ∷ ps)
    further s = record { before = p ∷ s.before; found = s.found; after = s.after; whole = ap (λ qs. p ∷ qs) s.whole; passes = s.passes }

list_any-inside : (test : Graph → Bool) (before : List Graph) (p : Graph) (after : List Graph) → test p ≡ true → list_any test (before ++ p ∷ after) ≡ true
list_any-inside test [] p after h = or_left (test p) (list_any test after) h
list_any-inside test (q ∷ before) p after h = or_right (test q) (list_any test (before ++ p ∷ after)) (list_any-inside test before p after h)

pub arc_comes : (ps : List Graph) (u v : ℕ) → (sequence_all ps).arc u v ≡ true → (list_any (λ p. p.arc u v) ps ≡ true) ⊎ Leads ps u v
arc_comes [] u v h = absurd (both_ways _ refl h)
arc_comes (p ∷ ps) u v h = elim (or_cases (p.arc u v || (sequence_all ps).arc u v) (p.vertex u && (sequence_all ps).vertex v) h) [
  | inl kept ↦ elim (or_cases (p.arc u v) ((sequence_all ps).arc u v) kept) [
    | inl first ↦ inl (or_left (p.arc u v) (list_any (λ q. q.arc u v) ps) first)
    | inr rest ↦ elim (arc_comes ps u v rest) [
      | inl any ↦ inl (or_right (p.arc u v) (list_any (λ q. q.arc u v) ps) any)
      | inr leads ↦ inr (behind leads)
    ]
  ]
  | inr new ↦ inr (leading (and_parts (p.vertex u) ((sequence_all ps).vertex v) new).0 (stands (λ q. q.vertex v) ps (sym (sequence-vertices ps v) ∙ (and_parts (p.vertex u) ((sequence_all ps).vertex v) new).1)))
]
  where
    behind : Leads ps u v → Leads (p ∷ ps) u v
    behind l = record {
      before = p ∷ l.before;
      earlier = l.earlier;
      between = l.between;
      later = l.later;
      after = l.after;
      whole = ap (λ qs. p ∷ qs) l.whole;
      has_first = l.has_first;
      has_second = l.has_second;
    }

    leading : p.vertex u ≡ true → Stands (λ q. q.vertex v) ps → Leads (p ∷ ps) u v
    leading has s = record {
      before = [];
      earlier = p;
      between = s.before;
      later = s.found;
      after = s.after;
      whole = ap (λ qs. p ∷ qs) s.whole;
      has_first = has;
      has_second = s.passes;
    }

kept_arc : (ps : List Graph) (u v : ℕ) → list_any (λ p. p.arc u v) ps ≡ true → (sequence_all ps).arc u v ≡ true
kept_arc [] u v h = h
kept_arc (p ∷ ps) u v h = or_left (p.arc u v || (sequence_all ps).arc u v) (p.vertex u && (sequence_all ps).vertex v) (elim (or_cases (p.arc u v) (list_any (λ q. q.arc u v) ps) h) [
  | inl first ↦ or_left (p.arc u v) ((sequence_all ps).arc u v) first
  | inr rest ↦ or_right (p.arc u v) ((sequence_all ps).arc u v) (kept_arc ps u v rest)
])

new_arc : (before : List Graph) (p : Graph) (between : List Graph) (q : Graph) (after : List Graph) (u v : ℕ)
    → p.vertex u ≡ true → q.vertex v ≡ true → (sequence_all (before ++ p ∷ between ++ q ∷ after)).arc u v ≡ true
new_arc [] p between q after u v has_u has_v =
    or_right (p.arc u v || (sequence_all (between ++ q ∷ after)).arc u v) (p.vertex u && (sequence_all (between ++ q ∷ after)).vertex v)
    (and_from (p.vertex u) ((sequence_all (between ++ q ∷ after)).vertex v) has_u
    (sequence-vertices (between ++ q ∷ after) v ∙ list_any-inside (λ r. r.vertex v) between q after has_v))
new_arc (r ∷ before) p between q after u v has_u has_v =
    or_left (r.arc u v || (sequence_all rest).arc u v) (r.vertex u && (sequence_all rest).vertex v)
    (or_right (r.arc u v) ((sequence_all rest).arc u v) (new_arc before p between q after u v has_u has_v))
  where
    rest : List Graph
    rest = before ++ p ∷ between ++ q ∷ after

pub arc_goes : (ps : List Graph) (u v : ℕ) → (list_any (λ p. p.arc u v) ps ≡ true) ⊎ Leads ps u v → (sequence_all ps).arc u v ≡ true
arc_goes ps u v (inl any) = kept_arc ps u v any
arc_goes ps u v (inr l) = ap (λ qs. (sequence_all qs).arc u v) l.whole ∙ new_arc l.before l.earlier l.between l.later l.after u v l.has_first l.has_second
