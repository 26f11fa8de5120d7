-- What holds of each vertex and each arc that a form lists.
use Rattle.std.specs.Prelude.{◌≡◌, ◌⊎◌, refl, ℕ, ◌≤◌, ◌+◌, ◌==◌, Bool, true, false, cond, ◌&&◌, ◌||◌, List, [], ◌∷◌, ◌++◌, length, slice_get, Some}
use Rattle.std.proofs.Common.{ap, ap₂, ◌∙◌, sym, subst, inl, inr, arith, eqb-true, take}
use Rattle.std.specs.Option.{IsSomeAnd}
use Rattle.std.specs.List.{AllByRecursion, list_any}
use Rattle.std.specs.Map.{lookup}
use Rattle.std.proofs.Math.Bool.{and-false, or-false}
use Rattle.std.proofs.lemmas.Bool.{cases_Bool, and_from, and_parts, or_right}
use Rattle.std.proofs.lemmas.List.{take_more, take_all}
use Rattle.std.proofs.lemmas.Bool.Decides.{nat_tests}
use Rattle.std.proofs.lemmas.Grind.{common_steps}
use Rattle.std.proofs.lemmas.List.Folds.{list_any-append}
use Rattle.std.proofs.lemmas.Option.{get_or_from_slice_get, slice_get_within}
use Rattle.cpog_defs.specs.Codes.{bit}
use Rattle.cpog_defs.specs.declared.types.OpId.{OpId}
use Rattle.cpog_base.specs.Arcs.{has_arc, with_arc}
use Rattle.pg_algebra.specs.declared.table.Table.{Table}
use Rattle.pg_algebra.specs.Tables.{flip}
use Rattle.pg_algebra.proofs.TableLemmas.{no_ones}
use Rattle.pg_normal.specs.Forms.{Form, word, is_arc, vertex_table, arc_table}
use Rattle.pg_normal.specs.Changes.{Keeps, KeepsVertices, KeepsArcs}
use Rattle.pg_normal.proofs.ChangeLemmas.{all_there}
use Rattle.pg_normal.proofs.EntryLemmas.{all-push}
use Rattle.pg_normal.proofs.RowLemmas.{some_at}

one_more : {K : Type 0} (es : List (K × Table)) (i : ℕ) (k : K) → IsSomeAnd (slice_get es i) (λ e. k ≡ e.0) → (e : K × Table) × (take (i + 1) es ≡ take i es ++ e ∷ []) × (k ≡ e.0)
one_more es i k at =
    let e = some_at (λ e. k ≡ e.0) (slice_get es i) at in
    (e.0, (take_more es i e.0 (slice_get_within es i e.0 e.1) ∙ ap (λ x. take i es ++ x ∷ []) (get_or_from_slice_get es i e.0 e.0 e.1)), e.2)

-- it holds of one entry more
pub all_more : {K : Type 0} (P : K → Type 0) (es : List (K × Table)) (i : ℕ) (k : K) → IsSomeAnd (slice_get es i) (λ e. k ≡ e.0) → P k
    → AllByRecursion (λ e. P e.0) (take i es) → AllByRecursion (λ e. P e.0) (take (i + 1) es)
all_more P es i k at p all =
    let m = one_more es i k at in
    subst (λ l. AllByRecursion (λ e. P e.0) l) (sym m.1) (all-push (λ e. P e.0) (take i es) m.0 all (subst P m.2 p))

-- a key is one of those, or has the table 0
zero_or : {K : Type 0} (is : K → Bool) (P : K → Type 0) (Q : Type 0) (es : List (K × Table)) → ((k : K) → is k ≡ true → P k → Q) → AllByRecursion (λ e. P e.0) es → (word (lookup is es) ≡ 0) ⊎ Q
zero_or is P Q [] at all = inl refl
zero_or is P Q (e ∷ es) at all = elim (cases_Bool (is e.0)) [
  | inl here ↦ inr (at e.0 here all.0)
  | inr other ↦ elim (zero_or is P Q es at all.1) [
    | inl none ↦ inl (ap (λ b. word (cond b (Some e.1) (lookup is es))) other ∙ none)
    | inr q ↦ inr q
  ]
]

zero_keeps : (t k among : ℕ) → t ≡ 0 → Keeps t k among
zero_keeps t k among is n h chosen = ap (λ w. bit w n) is ∙ no_ones n ∙ sym (ap (λ w. bit w (flip n k)) is ∙ no_ones (flip n k))

module _ (f : Form) (k among i : ℕ) where
  pub all_vertices_keep : length f.vertices ≤ i → AllByRecursion (λ e. Keeps (vertex_table f e.0) k among) (take i f.vertices) → KeepsVertices f k among
  all_vertices_keep past all v = elim (zero_or (λ w. v == w) (λ w. Keeps (vertex_table f w) k among) (Keeps (vertex_table f v) k among) f.vertices
      (λ w same p. subst (λ x. Keeps (vertex_table f x) k among) (sym (eqb-true v w same)) p)
      (subst (λ l. AllByRecursion (λ e. Keeps (vertex_table f e.0) k among) l) (take_all i f.vertices past) all)) [
        | inl none ↦ zero_keeps (vertex_table f v) k among none
        | inr keeps ↦ keeps
      ]

  pub all_arcs_keep : length f.arcs ≤ i → AllByRecursion (λ e. Keeps (arc_table f e.0.0 e.0.1) k among) (take i f.arcs) → KeepsArcs f k among
  all_arcs_keep past all u v = elim (zero_or (is_arc u v) (λ a. Keeps (arc_table f a.0 a.1) k among) (Keeps (arc_table f u v) k among) f.arcs
      (λ a same p. rw (eqb-true u a.0 (and_parts (u == a.0) (v == a.1) same).0, eqb-true v a.1 (and_parts (u == a.0) (v == a.1) same).1) p)
      (subst (λ l. AllByRecursion (λ e. Keeps (arc_table f e.0.0 e.0.1) k among) l) (take_all i f.arcs past) all)) [
        | inl none ↦ zero_keeps (arc_table f u v) k among none
        | inr keeps ↦ keeps
      ]

-- ---- the arcs of a scenario

-- whether an arc stands in front
abbrev pub in_front : List ((ℕ × ℕ) × Table) → ℕ → ℕ → ℕ → Bool
in_front es i u v = list_any (λ e. is_arc u v e.0) (take i es)

module _ (f : Form) (n i u v a b : ℕ) (at : IsSomeAnd (slice_get f.arcs i) (λ e. (u, v) ≡ e.0)) where
  next_in_front : in_front f.arcs (i + 1) a b ≡ (in_front f.arcs i a b || is_arc a b (u, v))
  next_in_front =
      let m = one_more f.arcs i (u, v) at in
      ap (λ l. list_any (λ e. is_arc a b e.0) l) m.1 ∙ list_any-append (λ e. is_arc a b e.0) (take i f.arcs) (m.0 ∷ [])
      ∙ ap (λ c. in_front f.arcs i a b || c) (or-false (is_arc a b m.0.0) ∙ ap (is_arc a b) (sym m.2))

  same_bit : is_arc a b (u, v) ≡ true → bit (arc_table f a b) n ≡ bit (arc_table f u v) n
  same_bit same = rw (eqb-true a u (and_parts (a == u) (b == v) same).0, eqb-true b v (and_parts (a == u) (b == v) same).1) refl

  other_arc : is_arc a b (u, v) ≡ false → in_front f.arcs (i + 1) a b ≡ in_front f.arcs i a b
  other_arc other = next_in_front ∙ ap (λ c. in_front f.arcs i a b || c) other ∙ or-false (in_front f.arcs i a b)

  pub arc_added : (old new : Bool) → bit (arc_table f u v) n ≡ true → new ≡ (is_arc a b (u, v) || old) →
      old ≡ (in_front f.arcs i a b && bit (arc_table f a b) n) →
      new ≡ (in_front f.arcs (i + 1) a b && bit (arc_table f a b) n)
  arc_added old new held is before = elim (cases_Bool (is_arc a b (u, v))) [
    | inl same ↦ is ∙ ap (λ c. c || old) same ∙ sym (and_from _ _ (next_in_front ∙ or_right (in_front f.arcs i a b) (is_arc a b (u, v)) same) (same_bit same ∙ held))
    | inr other ↦ is ∙ ap (λ c. c || old) other ∙ before ∙ ap (λ c. c && bit (arc_table f a b) n) (sym (other_arc other))
  ]

  pub arc_skipped : (old : Bool) → bit (arc_table f u v) n ≡ false → old ≡ (in_front f.arcs i a b && bit (arc_table f a b) n) → old ≡ (in_front f.arcs (i + 1) a b && bit (arc_table f a b) n)
  arc_skipped old fails before = elim (cases_Bool (is_arc a b (u, v))) [
    | inl same ↦ before ∙ none (in_front f.arcs i a b) same ∙ sym (none (in_front f.arcs (i + 1) a b) same)
    | inr other ↦ before ∙ ap (λ c. c && bit (arc_table f a b) n) (sym (other_arc other))
  ]
    where
      none : (front : Bool) → is_arc a b (u, v) ≡ true → (front && bit (arc_table f a b) n) ≡ false
      none front same = ap (λ d. front && d) (same_bit same ∙ fails) ∙ and-false front

zero_unless : (es : List ((ℕ × ℕ) × Table)) (u v : ℕ) → (list_any (λ e. is_arc u v e.0) es ≡ true) ⊎ (word (lookup (is_arc u v) es) ≡ 0)
zero_unless [] u v = inr refl
zero_unless (e ∷ es) u v = elim (cases_Bool (is_arc u v e.0)) [
  | inl here ↦ inl (ap (λ c. c || list_any (λ x. is_arc u v x.0) es) here)
  | inr other ↦ elim (zero_unless es u v) [
    | inl later ↦ inl (ap₂ (λ c d. c || d) other later)
    | inr none ↦ inr (ap (λ c. word (cond c (Some e.1) (lookup (is_arc u v) es))) other ∙ none)
  ]
]

pub all_in_front : (f : Form) (n i u v : ℕ) → length f.arcs ≤ i → (in_front f.arcs i u v && bit (arc_table f u v) n) ≡ bit (arc_table f u v) n
all_in_front f n i u v past =
    ap (λ l. list_any (λ e. is_arc u v e.0) l && bit (arc_table f u v) n) (take_all i f.arcs past)
    ∙ all_there (list_any (λ e. is_arc u v e.0) f.arcs) (bit (arc_table f u v) n) (elim (zero_unless f.arcs u v) [
      | inl listed ↦ inl listed
      | inr zero ↦ inr (ap (λ w. bit w n) zero ∙ no_ones n)
    ])

pub has_with_arc : (arcs : List (OpId × OpId)) (u v a b : ℕ) → has_arc (with_arc arcs u v) a b ≡ (is_arc a b (u, v) || has_arc arcs a b)
has_with_arc arcs u v a b = grind (arith, common_steps, nat_tests)
