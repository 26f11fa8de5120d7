-- Each law is one of truth values at each vertex and each arc.
use Rattle.std.specs.Prelude.{◌≡◌, refl, ℕ, Bool, true, false, ◌&&◌, ◌||◌, ◌==◌}
use Rattle.std.proofs.Common.{sym}
use Rattle.std.proofs.lemmas.Bool.{eq-eqb, eqb-true, false_from_ne_true}
use Rattle.pg_algebra.specs.Graphs.{Graph}
use Rattle.pg_algebra.specs.Algebra.{AlgebraOfGraphs}
use Rattle.pg_algebra.proofs.ListLaws.{overlay-vertices, overlay-arcs, sequence-vertices, arc_comes, arc_goes}

-- graphs with the same vertices and the same arcs are one
pub same_graph : (p q : Graph) → ((v : ℕ) → p.vertex v ≡ q.vertex v) → ((u v : ℕ) → p.arc u v ≡ q.arc u v) → p ≡ q
same_graph p q vertices arcs = λ i. record { vertex = λ v. vertices v i; arc = λ u v. arcs u v i }

comm : (a b : Bool) → (a || b) ≡ (b || a)
comm true true = refl
comm true false = refl
comm false true = refl
comm false false = refl

assoc : (a b c : Bool) → ((a || b) || c) ≡ (a || (b || c))
assoc true b c = refl
assoc false b c = refl

idem : (a : Bool) → (a || a) ≡ a
idem true = refl
idem false = refl

none : (a : Bool) → (a || false) ≡ a
none true = refl
none false = refl

both_none : (a d : Bool) → ((a || false) || (d && false)) ≡ a
both_none true d = refl
both_none false true = refl
both_none false false = refl

-- a, b, c are arcs of the three; d, f whether the first end stands in the first two, and e, g whether the second end stands in the last two
seq_assoc : (a b c d e f g : Bool) → ((((a || b) || (d && e)) || c) || ((d || f) && g)) ≡ ((a || ((b || c) || (f && g))) || (d && (e || g)))
seq_assoc true b c d e f g = refl
seq_assoc false true c d e f g = refl
seq_assoc false false c false e f g = sym (none (c || (f && g)))
seq_assoc false false true true true f g = refl
seq_assoc false false false true true f g = last f g
  where
    last : (f g : Bool) → true ≡ ((f && g) || true)
    last true true = refl
    last true false = refl
    last false g = refl
seq_assoc false false true true false f g = refl
seq_assoc false false false true false f g = last f g
  where
    last : (f g : Bool) → g ≡ ((f && g) || g)
    last true true = refl
    last true false = refl
    last false g = refl

-- p, q, r: arcs a, b, c; d whether the first end is in p; f, g whether the second is in q, r
right_over : (a b c d f g : Bool) → ((a || (b || c)) || (d && (f || g))) ≡ (((a || b) || (d && f)) || ((a || c) || (d && g)))
right_over true b c d f g = refl
right_over false true c d f g = refl
right_over false false true true true g = refl
right_over false false true true false g = refl
right_over false false true false f g = refl
right_over false false false true f g = refl
right_over false false false false f g = refl

left_over : (a b c d e g : Bool) → (((a || b) || c) || ((d || e) && g)) ≡ (((a || c) || (d && g)) || ((b || c) || (e && g)))
left_over true b c d e g = refl
left_over false true true d e g = refl
left_over false true false true e true = refl
left_over false true false true e false = refl
left_over false true false false e g = refl
left_over false false true d e g = refl
left_over false false false true e true = refl
left_over false false false true true false = refl
left_over false false false true false false = refl
left_over false false false false e g = refl

three : (a b c : Bool) → ((a || b) || c) ≡ (((a || b) || (a || c)) || (b || c))
three true b c = refl
three false true c = refl
three false false true = refl
three false false false = refl

-- a, b, c arcs; d, f: first end in p, q; e, g: second end in q, r
decompose : (a b c d e f g : Bool) → ((((a || b) || (d && e)) || c) || ((d || f) && g)) ≡ ((((a || b) || (d && e)) || ((a || c) || (d && g))) || ((b || c) || (f && g)))
decompose true b c d e f g = refl
decompose false true c d e f g = refl
decompose false false true true true f g = refl
decompose false false true true false f g = refl
decompose false false true false e f g = refl
decompose false false false true true f g = refl
decompose false false false true false f true = refl
decompose false false false true false true false = refl
decompose false false false true false false false = refl
decompose false false false false e f g = refl

spread_or : (b x y : Bool) → (b && (x || y)) ≡ ((b && x) || (b && y))
spread_or true x y = refl
spread_or false x y = refl

spread_seq : (b x y d e : Bool) → (b && ((x || y) || (d && e))) ≡ (((b && x) || (b && y)) || ((b && d) && (b && e)))
spread_seq true x y d e = refl
spread_seq false x y d e = refl

and_assoc : (a b x : Bool) → ((a && b) && x) ≡ (a && (b && x))
and_assoc true b x = refl
and_assoc false b x = refl

either : (a b x : Bool) → ((a || b) && x) ≡ ((a && x) || (b && x))
either true true true = refl
either true true false = refl
either true false x = sym (none x)
either false b x = refl

pub algebra_of_graphs : AlgebraOfGraphs
algebra_of_graphs = record {
  sequence_arc = λ u v. rw (eq-eqb u u refl, eq-eqb v v refl) refl;
  sequence_order = λ u v differ. rw (false_from_ne_true (v == u) (λ h. differ (sym (eqb-true v u h)))) refl;
  overlay_commutes = λ p q. same_graph _ _ (λ v. comm (p.vertex v) (q.vertex v)) (λ u v. comm (p.arc u v) (q.arc u v));
  overlay_associates = λ p q r. same_graph _ _ (λ v. assoc (p.vertex v) (q.vertex v) (r.vertex v)) (λ u v. assoc (p.arc u v) (q.arc u v) (r.arc u v));
  overlay_idempotent = λ p. same_graph _ _ (λ v. idem (p.vertex v)) (λ u v. idem (p.arc u v));
  overlay_empty = λ p. same_graph _ _ (λ v. none (p.vertex v)) (λ u v. none (p.arc u v));
  sequence_associates = λ p q r. same_graph _ _ (λ v. assoc (p.vertex v) (q.vertex v) (r.vertex v)) (λ u v. seq_assoc (p.arc u v) (q.arc u v) (r.arc u v) (p.vertex u) (q.vertex v) (q.vertex u) (r.vertex v));
  empty_first = λ p. same_graph _ _ (λ v. refl) (λ u v. none (p.arc u v));
  empty_last = λ p. same_graph _ _ (λ v. none (p.vertex v)) (λ u v. both_none (p.arc u v) (p.vertex u));
  over_overlay_right = λ p q r. same_graph _ _ (λ v. spread_p (p.vertex v) (q.vertex v) (r.vertex v)) (λ u v. right_over (p.arc u v) (q.arc u v) (r.arc u v) (p.vertex u) (q.vertex v) (r.vertex v));
  over_overlay_left = λ p q r. same_graph _ _ (λ v. spread_r (p.vertex v) (q.vertex v) (r.vertex v)) (λ u v. left_over (p.arc u v) (q.arc u v) (r.arc u v) (p.vertex u) (q.vertex u) (r.vertex v));
  decomposes = λ p q r. same_graph _ _ (λ v. three (p.vertex v) (q.vertex v) (r.vertex v)) (λ u v. decompose (p.arc u v) (q.arc u v) (r.arc u v) (p.vertex u) (q.vertex v) (q.vertex u) (r.vertex v));
  when_false = λ p. refl;
  when_true = λ p. refl;
  when_overlay = λ b p q. same_graph _ _ (λ v. spread_or b (p.vertex v) (q.vertex v)) (λ u v. spread_or b (p.arc u v) (q.arc u v));
  when_sequence = λ b p q. same_graph _ _ (λ v. spread_or b (p.vertex v) (q.vertex v)) (λ u v. spread_seq b (p.arc u v) (q.arc u v) (p.vertex u) (q.vertex v));
  when_both = λ a b p. same_graph _ _ (λ v. and_assoc a b (p.vertex v)) (λ u v. and_assoc a b (p.arc u v));
  when_either = λ a b p. same_graph _ _ (λ v. either a b (p.vertex v)) (λ u v. either a b (p.arc u v));
  overlay_vertices = overlay-vertices;
  overlay_arcs = overlay-arcs;
  sequence_vertices = sequence-vertices;
  sequence_arcs = λ ps u v. (arc_comes ps u v, arc_goes ps u v);
}
  where
    spread_p : (a b c : Bool) → (a || (b || c)) ≡ ((a || b) || (a || c))
    spread_p true b c = refl
    spread_p false b c = refl

    spread_r : (a b c : Bool) → ((a || b) || c) ≡ ((a || c) || (b || c))
    spread_r true b c = refl
    spread_r false true true = refl
    spread_r false true false = refl
    spread_r false false true = refl
    spread_r false false false = refl
