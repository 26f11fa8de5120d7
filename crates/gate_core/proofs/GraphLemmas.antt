-- Rows of conditions, and the change of one.
use Rattle.std.proofs.Common.{◌≡◌, ◌≢◌, ℕ, zero, suc, ◌<◌, ◌≤◌, false, List, [], map, length, slice_index_or, slice_set, replicate, refl, sym, ap, ◌∙◌, inl, inr, arith}
use Rattle.std.proofs.lemmas.Bool.{cases_eq}
use Rattle.std.proofs.lemmas.List.{get_or-map, map-set, length-set, length-replicate, get_or-set_same, get_or-set_other}
use Rattle.cpog_defs.specs.declared.types.Ref.{Ref}
use Rattle.cpog_defs.specs.declared.types.Ref.TheVariants.{Const}
use Rattle.cpog_defs.specs.Graphs.{ConditionalGraph}
use Rattle.gate_core.specs.Square.{IsSquare}

-- a row of the view is the view of the row
pub row_seen : {V A : Type 0} (f : V → List A) (rows : List V) (u : ℕ) (row : V) → u < length rows → row ≡ slice_index_or rows u row → slice_index_or (map f rows) u [] ≡ f row
row_seen f rows u row l is = get_or-map f rows u row [] l ∙ ap f (sym is)

-- a change in one row of the view is a change of that row
pub row_changed : {V A : Type 0} (f : V → List A) (rows : List V) (u v : ℕ) (r : A) (row new : V) → u < length rows → row ≡ slice_index_or rows u row → f new ≡ slice_set (f row) v r →
    map f (slice_set rows u new) ≡ slice_set (map f rows) u (slice_set (slice_index_or (map f rows) u []) v r)
row_changed f rows u v r row new l is changed = map-set f rows u new ∙ ap (λ z. slice_set (map f rows) u z) (changed ∙ ap (λ z. slice_set z v r) (sym (row_seen f rows u row l is)))

-- the graph with another condition at a pair
abbrev pub with_arc : ConditionalGraph → ℕ → ℕ → Ref → ConditionalGraph
with_arc graph u v r = record { ops = graph.ops; arcs = slice_set graph.arcs u (slice_set (slice_index_or graph.arcs u []) v r) }

pub square_with_arc : (graph : ConditionalGraph) (u v : ℕ) (r : Ref) → IsSquare graph → u < length graph.ops → u ≢ v → IsSquare (with_arc graph u v r)
square_with_arc graph u v r square l differ =
    let row = slice_index_or graph.arcs u [] in
    let changed = slice_set row v r in
    let lu : u < length graph.arcs = omega (arith, l, square.arcs) in
    record {
      few = square.few;
      arcs = length-set graph.arcs u changed ∙ square.arcs;
      rows = λ w lw. elim (cases_eq w u) [
        | inl same ↦ rw same (ap length (get_or-set_same graph.arcs u changed [] lu) ∙ length-set row v r ∙ square.rows u l)
        | inr other ↦ ap length (get_or-set_other graph.arcs u w changed [] other) ∙ square.rows w lw
      ];
      diagonal = λ w. elim (cases_eq w u) [
        | inl same ↦ rw same (ap (λ x. slice_index_or x u (Const false)) (get_or-set_same graph.arcs u changed [] lu) ∙ get_or-set_other row v u r (Const false) differ ∙ square.diagonal u)
        | inr other ↦ ap (λ x. slice_index_or x w (Const false)) (get_or-set_other graph.arcs u w changed [] other) ∙ square.diagonal w
      ];
    }

-- a list of equal entries, read past the end as that entry too
pub replicate_at : {A : Type 0} (n i : ℕ) (d : A) → slice_index_or (replicate n d) i d ≡ d
replicate_at zero i d = refl
replicate_at (suc n) zero d = refl
replicate_at (suc n) (suc i) d = replicate_at n i d

-- so many equal rows, read past the end as the empty row
pub replicate_row_at : {A : Type 0} (row : List A) (n u v : ℕ) (d : A) → slice_index_or row v d ≡ d → slice_index_or (slice_index_or (replicate n row) u []) v d ≡ d
replicate_row_at row zero u v d is = refl
replicate_row_at row (suc n) zero v d is = is
replicate_row_at row (suc n) (suc u) v d is = replicate_row_at row n u v d is

pub length-replicate_row : {A : Type 0} (row : List A) (n u : ℕ) → u < n → length (slice_index_or (replicate n row) u []) ≡ length row
length-replicate_row row zero u l = absurd (omega arith)
length-replicate_row row (suc n) zero l = refl
length-replicate_row row (suc n) (suc u) l = length-replicate_row row n u (omega arith)

-- the graph of constants 0
pub square_of_zeros : (n : ℕ) → n ≤ 128 → IsSquare (record { ops = replicate n (Const false); arcs = replicate n (replicate n (Const false)) })
square_of_zeros n few =
    let long = length-replicate n (Const false) in
    record {
      few = rw long few;
      arcs = length-replicate n (replicate n (Const false)) ∙ sym long;
      rows = λ u l. length-replicate_row (replicate n (Const false)) n u (rw long at l);
      diagonal = λ u. replicate_row_at (replicate n (Const false)) n u u (Const false) (replicate_at n u (Const false));
    }

pub zero_graph : (n : ℕ) {ops : List Ref} {arcs : List (List Ref)} → ops ≡ replicate n (Const false) → arcs ≡ replicate n (replicate n (Const false)) →
    let whole : List Ref → List (List Ref) → ConditionalGraph = λ a b. record { ops = a; arcs = b } in whole ops arcs ≡ whole (replicate n (Const false)) (replicate n (replicate n (Const false)))
zero_graph n p q = rw (p, q) refl
