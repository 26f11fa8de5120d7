-- From tables to a normal form.
use Rattle.std.specs.Prelude.{◌≡◌, ◌⊎◌, refl, ℕ, ◌<◌, ◌^◌, ◌+◌, ◌==◌, Bool, true, false, not, cond, ◌||◌, List, [], ◌∷◌, ◌++◌, map, filter, slice_get, slice_index, Some, Result, Ok, Err, IfOk}
use Rattle.std.proofs.Common.{zero, suc, ap, ap₂, ◌∙◌, sym, subst, arith, inl, inr, eqb-true, take, drop}
use Rattle.std.specs.List.{AllByRecursion, IsDistinct, list_any}
use Rattle.std.specs.Map.{lookup}
use Rattle.std.proofs.Math.Bool.{or-false, or-true}
use Rattle.std.proofs.lemmas.Bool.Decides.{nat_tests}
use Rattle.std.proofs.lemmas.Bool.{both_ways, cases_Bool, cases_eq, eqb-false}
use Rattle.std.proofs.lemmas.List.{take_more, map-append, append_assoc, append-nil, take-append-drop}
use Rattle.std.proofs.lemmas.List.Elements.{filter-append}
use Rattle.std.proofs.lemmas.List.Folds.{list_any-append}
use Rattle.std.proofs.lemmas.Nat.Bits.{same_from_bits_below, bit_at-lt, bit_at-zero}
use Rattle.std.proofs.lemmas.Option.{get_or_from_slice_get, slice_get_within}
use Rattle.std.specs.Int.{bit_at}
use Rattle.cpog_defs.specs.Codes.{bit}
use Rattle.cpog_defs.specs.Orders.{any_below}
use Rattle.pg_algebra.specs.declared.table.Table.{Table}
use Rattle.pg_algebra.specs.Graphs.{Graph}
use Rattle.pg_algebra.proofs.TableLemmas.{no_ones}
use Rattle.pg_algebra.proofs.GraphLaws.{same_graph}
use Rattle.pg_normal.specs.Appearing.{has}
use Rattle.pg_normal.specs.Forms.{Form, word, is_arc, vertex_table, arc_table, IsWord, IsForm, sometimes, IsFormOf}
use Rattle.pg_normal.specs.declared.tables.Tables.{Tables}
use Rattle.pg_normal.specs.Known.{IsOver, entry, graph_of_tables}

-- ---- what some valuation makes 1

below-same : (p q : ℕ → Bool) (w : ℕ) → ((n : ℕ) → n < w → p n ≡ q n) → any_below p w ≡ any_below q w
below-same p q zero same = refl
below-same p q (suc w) same = ap₂ (λ a b. a || b) (same w (omega arith)) (below-same p q w (λ n h. same n (omega arith)))

pub sometimes-same : (p q : ℕ → Bool) → ((n : ℕ) → n < 64 → p n ≡ q n) → sometimes p ≡ sometimes q
sometimes-same p q same = below-same p q 64 same

below-none : (w : ℕ) → any_below (bit 0) w ≡ false
below-none zero = refl
below-none (suc w) = ap₂ (λ a b. a || b) (no_ones w) (below-none w)

both_none : (a b : Bool) → (a || b) ≡ false → (a ≡ false) × (b ≡ false)
both_none false b h = (refl, h)
both_none true b h = absurd (both_ways _ h refl)

pub none_below : (p : ℕ → Bool) (w : ℕ) → any_below p w ≡ false → (n : ℕ) → n < w → p n ≡ false
none_below p zero h n lt = absurd (omega arith)
none_below p (suc w) h n lt = elim (cases_eq n w) [
  | inl e ↦ ap p e ∙ (both_none (p w) (any_below p w) h).0
  | inr ne ↦ none_below p w (both_none (p w) (any_below p w) h).1 n (omega arith)
]

same_digit : (a : ℕ) → a < 2 → (a == 1) ≡ false → a ≡ 0
same_digit a h e = grind (arith, nat_tests)

-- a word is 1 under some valuation where it is not 0
pub sometimes-zero : (w : ℕ) → w ≡ 0 → sometimes (bit w) ≡ false
sometimes-zero w is = ap (λ x. sometimes (bit x)) is ∙ below-none 64

pub sometimes-word : (w : ℕ) → IsWord w → sometimes (bit w) ≡ true
sometimes-word w is = elim (cases_Bool (sometimes (bit w))) [
  | inl yes_ ↦ yes_
  | inr none ↦ absurd (is.0 (same_from_bits_below 64 w 0 is.1 (omega arith) (λ i h. same_digit (bit_at w i) (bit_at-lt w i) (none_below (bit w) 64 none i h) ∙ sym (bit_at-zero i))))
]

pub nonzero : (w : ℕ) → w < 2 ^ 64 → not (w == 0) ≡ sometimes (bit w)
nonzero w h = elim (cases_Bool (w == 0)) [
  | inl e ↦ ap not e ∙ sym (sometimes-zero w (eqb-true w 0 e))
  | inr e ↦ ap not e ∙ sym (sometimes-word w (eqb-false w 0 e, h))
]

-- ---- the next operation

split-distinct : (ys : List ℕ) (x : ℕ) (zs : List ℕ) → IsDistinct (λ v w. v == w) (ys ++ x ∷ zs) → has ys x ≡ false
unfolding IsDistinct
split-distinct [] x zs distinct = refl
split-distinct (y ∷ ys) x zs distinct = ap₂ (λ a b. a || b) (other y (differs ys distinct.0)) (split-distinct ys x zs distinct.1)
  where
    differs : (ws : List ℕ) → AllByRecursion (λ w. (y == w) ≡ false) (ws ++ x ∷ zs) → (y == x) ≡ false
    differs [] all = all.0
    differs (w ∷ ws) all = differs ws all.1

    other : (k : ℕ) → (k == x) ≡ false → (x == k) ≡ false
    other k ne = elim (cases_Bool (x == k)) [
      | inl same ↦ absurd (eqb-false k x ne (sym (eqb-true x k same)))
      | inr is ↦ is
    ]

module _ (order : List ℕ) (i x : ℕ) (at : slice_get order i ≡ Some x) where
  next : take (i + 1) order ≡ take i order ++ x ∷ []
  next = take_more order i x (slice_get_within order i x at) ∙ ap (λ y. take i order ++ y ∷ []) (get_or_from_slice_get order i x x at)

  pub not_yet : IsDistinct (λ v w. v == w) order → has (take i order) x ≡ false
  not_yet distinct = split-distinct (take i order) x (drop (i + 1) order) (subst (λ vs. IsDistinct (λ v w. v == w) vs) (sym whole) distinct)
    where
      whole : take i order ++ x ∷ drop (i + 1) order ≡ order
      whole = sym (append_assoc (take i order) (x ∷ []) (drop (i + 1) order)) ∙ ap (λ vs. vs ++ drop (i + 1) order) (sym next) ∙ take-append-drop (i + 1) order

  has-next : (v : ℕ) → has (take (i + 1) order) v ≡ (has (take i order) v || (v == x))
  has-next v = ap (λ vs. has vs v) next ∙ list_any-append (λ w. v == w) (take i order) (x ∷ []) ∙ ap (λ b. has (take i order) v || b) (or-false (v == x))

  pub keys_added : (p : ℕ → Bool) (es : List (ℕ × Table)) (t : Table) → p x ≡ true → map (λ e. e.0) es ≡ filter p (take i order) → map (λ e. e.0) (es ++ (x, t) ∷ []) ≡ filter p (take (i + 1) order)
  keys_added p es t passes so_far =
      map-append (λ e. e.0) es ((x, t) ∷ [])
      ∙ ap₂ (λ ks b. ks ++ cond b (x ∷ []) []) so_far (sym passes)
      ∙ sym (filter-append p (take i order) (x ∷ []))
      ∙ ap (filter p) (sym next)

  pub keys_skipped : (p : ℕ → Bool) (ks : List ℕ) → p x ≡ false → ks ≡ filter p (take i order) → ks ≡ filter p (take (i + 1) order)
  keys_skipped p ks fails so_far =
      so_far
      ∙ sym (append-nil (filter p (take i order)))
      ∙ ap (λ b. filter p (take i order) ++ cond b (x ∷ []) []) (sym fails)
      ∙ sym (filter-append p (take i order) (x ∷ []))
      ∙ ap (filter p) (sym next)

  pub table_added : (tables : List ℕ) (old new w v : ℕ) → w ≡ slice_index tables x → new ≡ cond (v == x) w old → old ≡ cond (has (take i order) v) (slice_index tables v) 0
      → new ≡ cond (has (take (i + 1) order) v) (slice_index tables v) 0
  table_added tables old new w v is after before = elim (cases_Bool (v == x)) [
    | inl same ↦ after ∙ ap (λ b. cond b w old) same ∙ is ∙ ap (slice_index tables) (sym (eqb-true v x same))
        ∙ sym (ap (λ b. cond b (slice_index tables v) 0) (has-next v ∙ ap (λ b. has (take i order) v || b) same
        ∙ or-true (has (take i order) v)))
    | inr other ↦ after ∙ ap (λ b. cond b w old) other ∙ before
        ∙ sym (ap (λ b. cond b (slice_index tables v) 0) (has-next v ∙ ap (λ b. has (take i order) v || b) other
        ∙ or-false (has (take i order) v)))
  ]

  pub table_skipped : (tables : List ℕ) (old v : ℕ) → slice_index tables x ≡ 0 →
      old ≡ cond (has (take i order) v) (slice_index tables v) 0 →
      old ≡ cond (has (take (i + 1) order) v) (slice_index tables v) 0
  table_skipped tables old v zero_there before = table_added tables old old 0 v (sym zero_there) (same (cases_Bool (v == x))) before
    where
      same : ((v == x) ≡ true) ⊎ ((v == x) ≡ false) → old ≡ cond (v == x) 0 old
      same (inl e) = before ∙ whichever (has (take i order) v) ∙ ap (λ b. cond b 0 old) (sym e)
        where
          whichever : (b : Bool) → cond b (slice_index tables v) 0 ≡ 0
          whichever true = ap (slice_index tables) (eqb-true v x e) ∙ zero_there
          whichever false = refl
      same (inr e) = ap (λ b. cond b 0 old) (sym e)

-- ---- the whole form

-- a table that is listed, or 0, is the table itself where it counts
pub listed_bit : (count : ℕ) (t : Tables) → IsOver count t → (v table n : ℕ) → n < 64 → table ≡ cond (has t.order v) (slice_index t.vertices v) 0 → bit table n ≡ bit (slice_index t.vertices v) n
listed_bit count t over v table n h is = elim (cases_Bool (has t.order v)) [
  | inl there ↦ ap (λ x. bit x n) (is ∙ ap (λ b. cond b (slice_index t.vertices v) 0) there)
  | inr absent ↦ ap (λ x. bit x n) (is ∙ ap (λ b. cond b (slice_index t.vertices v) 0) absent) ∙ no_ones n ∙ sym (never absent)
]
  where
    never : has t.order v ≡ false → bit (slice_index t.vertices v) n ≡ false
    never absent = elim (cases_Bool (bit (slice_index t.vertices v) n)) [
      | inl held ↦ absurd (both_ways _ absent (over.listed v n h held))
      | inr is_not ↦ is_not
    ]

found : {K : Type 0} (test : K → Bool) (es : List (K × Table)) → AllByRecursion (λ e. IsWord e.1.0) es → list_any test (map (λ e. e.0) es) ≡ sometimes (bit (word (lookup test es)))
found test [] all = sym (below-none 64)
found test (e ∷ es) all = elim (test e.0) as (λ b. (b || list_any test (map (λ f. f.0) es)) ≡ sometimes (bit (word (cond b (Some e.1) (lookup test es))))) [
  | true ↦ sym (sometimes-word e.1.0 all.0)
  | false ↦ found test es all.1
]

pub form_of_tables_is : (t : Tables) (f : Form) → IsForm f
    → ((v n : ℕ) → n < 64 → bit (vertex_table f v) n ≡ bit (slice_index t.vertices v) n)
    → ((u v : ℕ) → arc_table f u v ≡ entry t.arcs u v)
    → map (λ e. e.0) f.vertices ≡ filter (λ v. sometimes (bit (slice_index t.vertices v))) t.order
    → IsFormOf (graph_of_tables t) t.order f
form_of_tables_is t f is vertices arcs order = record {
  normal = is;
  graph = λ n h. same_graph _ _ (λ v. vertices v n h) (λ u v. ap (λ x. bit x n) (arcs u v));
  vertices = order;
  arcs = λ u v. found (is_arc u v) f.arcs is.some_arc ∙ ap (λ x. sometimes (bit x)) (arcs u v);
}

filter-same : (p q : ℕ → Bool) → ((v : ℕ) → p v ≡ q v) → (xs : List ℕ) → filter p xs ≡ filter q xs
filter-same p q same [] = refl
filter-same p q same (x ∷ xs) = ap₂ (λ b rest. cond b (x ∷ rest) rest) (same x) (filter-same p q same xs)

-- the form of the same graphs in the same order
pub form_same : (old new : ℕ → Graph) (order places : List ℕ) (f : Form) → ((n : ℕ) → n < 64 → old n ≡ new n) → order ≡ places → IsFormOf old order f → IsFormOf new places f
form_same old new order places f same is form = record {
  normal = form.normal;
  graph = λ n h. form.graph n h ∙ same n h;
  vertices = form.vertices
      ∙ ap (filter (λ v. sometimes (λ n. (old n).vertex v))) is
      ∙ filter-same _ _ (λ v. sometimes-same (λ n. (old n).vertex v) (λ n. (new n).vertex v) (λ n h. ap (λ g. g.vertex v) (same n h))) places;
  arcs = λ u v. form.arcs u v ∙ sometimes-same (λ n. (old n).arc u v) (λ n. (new n).arc u v) (λ n h. ap (λ g. g.arc u v) (same n h));
}

pub if_ok_map : {A E : Type 0} (r : Result A E) (P Q : A → Type 0) → ((x : A) → P x → Q x) → IfOk r P → IfOk r Q
if_ok_map (Ok x) P Q more p = more x p
if_ok_map (Err e) P Q more p = p
