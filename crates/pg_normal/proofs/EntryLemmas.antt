-- Entries that are looked up, where one more goes last.
use Rattle.std.specs.Prelude.{◌≡◌, refl, ℕ, ◌+◌, ◌==◌, Bool, true, false, cond, List, [], ◌∷◌, ◌++◌, length, map, Some, None}
use Rattle.std.proofs.Common.{◌∙◌, sym, ap, ap₂, arith, eqb-true, inl, inr}
use Rattle.std.specs.List.{AllByRecursion, IsDistinct}
use Rattle.std.specs.Map.{lookup}
use Rattle.std.proofs.lemmas.Bool.{both_ways, and_parts, cases_Bool}
use Rattle.cpog_defs.specs.Codes.{bit}
use Rattle.pg_algebra.specs.declared.table.Table.{Table}
use Rattle.pg_algebra.proofs.TableLemmas.{no_ones}
use Rattle.pg_normal.specs.Forms.{Form, word, vertex_table, arc_table, is_arc, Implies, AsksForEnds, IsWord, IsForm}

pub all-push : {X : Type 0} (P : X → Type 0) (xs : List X) (x : X) → AllByRecursion P xs → P x → AllByRecursion P (xs ++ x ∷ [])
all-push P [] x all one = (one, tt)
all-push P (y ∷ xs) x all one = (all.0, all-push P xs x all.1 one)

all-more : {X : Type 0} (P Q : X → Type 0) → ((x : X) → P x → Q x) → (xs : List X) → AllByRecursion P xs → AllByRecursion Q xs
all-more P Q more [] all = tt
all-more P Q more (x ∷ xs) all = (more x all.0, all-more P Q more xs all.1)

-- a table that is not found is not there
pub absent : {K : Type 0} (test : K → Bool) (es : List (K × Table)) → AllByRecursion (λ e. IsWord e.1.0) es → word (lookup test es) ≡ 0 → lookup test es ≡ None
absent test [] all zero = refl
absent test (e ∷ es) all zero = (elim (test e.0) as (λ b. word (cond b (Some e.1) (lookup test es)) ≡ 0 → cond b (Some e.1) (lookup test es) ≡ None) [
  | true ↦ λ none. absurd (all.0.0 none)
  | false ↦ λ none. absent test es all.1 none
]) zero

-- a valuation under which something occurs stays one
still : {K : Type 0} (test : K → Bool) (es fs : List (K × Table)) (n : ℕ) → bit (word (lookup test es)) n ≡ true → bit (word (lookup test (es ++ fs))) n ≡ true
still test [] fs n h = absurd (both_ways _ (no_ones n) h)
still test (e ∷ es) fs n h = (elim (test e.0) as (λ b. bit (word (cond b (Some e.1) (lookup test es))) n ≡ true → bit (word (cond b (Some e.1) (lookup test (es ++ fs)))) n ≡ true) [
  | true ↦ λ held. held
  | false ↦ λ held. still test es fs n held
]) h

-- a form with one more vertex
pub with_vertex : (f : Form) (v : ℕ) (t : Table) → IsForm f → IsWord t.0 →
    IsDistinct (λ v w. v == w) (map (λ e. e.0) (f.vertices ++ (v, t) ∷ [])) →
    IsForm (record { vertices = f.vertices ++ (v, t) ∷ []; arcs = f.arcs })
with_vertex f v t is some distinct = record {
  vertices = distinct;
  arcs = is.arcs;
  some_vertex = all-push (λ e. IsWord e.1.0) f.vertices (v, t) is.some_vertex some;
  some_arc = is.some_arc;
  ends = all-more (AsksForEnds f) (AsksForEnds (record { vertices = f.vertices ++ (v, t) ∷ []; arcs = f.arcs })) (λ e asks. (kept e.1.0 e.0.0 asks.0, kept e.1.0 e.0.1 asks.1)) f.arcs is.ends;
}
  where
    kept : (table w : ℕ) → Implies table (vertex_table f w) → Implies table (word (lookup (λ x. w == x) (f.vertices ++ (v, t) ∷ [])))
    kept table w implies n h held = still (λ x. w == x) f.vertices ((v, t) ∷ []) n (implies n h held)

-- a form with one more arc
pub with_arc : (f : Form) (u v : ℕ) (t : Table) → IsForm f → IsWord t.0 → Implies t.0 (vertex_table f u) → Implies t.0 (vertex_table f v)
    → IsDistinct (λ a b. is_arc a.0 a.1 b) (map (λ e. e.0) (f.arcs ++ ((u, v), t) ∷ [])) → IsForm (record { vertices = f.vertices; arcs = f.arcs ++ ((u, v), t) ∷ [] })
with_arc f u v t is some first second distinct = record {
  vertices = is.vertices;
  arcs = distinct;
  some_vertex = is.some_vertex;
  some_arc = all-push (λ e. IsWord e.1.0) f.arcs ((u, v), t) is.some_arc some;
  ends = all-push (AsksForEnds f) f.arcs ((u, v), t) is.ends (first, second);
}

pub length-push : {X : Type 0} (xs : List X) (x : X) → length (xs ++ x ∷ []) ≡ length xs + 1
length-push [] x = refl
length-push (y ∷ xs) x = omega (arith, length-push xs x)

-- what is found once one more entry goes last
pub pushed : {K : Type 0} (test : K → Bool) (es : List (K × Table)) (k : K) (t : Table) →
    (test k ≡ true → lookup test es ≡ None) →
    word (lookup test (es ++ (k, t) ∷ [])) ≡ cond (test k) t.0 (word (lookup test es))
pushed test [] k t new = elim (test k) as (λ b. word (cond b (Some t) None) ≡ cond b t.0 0) [ true ↦ refl | false ↦ refl ]
pushed test (e ∷ es) k t new =
    (elim (test e.0) as (λ b. (test k ≡ true → cond b (Some e.1) (lookup test es) ≡ None) →
    word (cond b (Some e.1) (lookup test (es ++ (k, t) ∷ []))) ≡ cond (test k) t.0
    (word (cond b (Some e.1) (lookup test es)))) [
      | true ↦ λ none. elim (cases_Bool (test k)) [
        | inl same ↦ absurd (some_none (none same))
        | inr other ↦ ap (λ b. cond b t.0 e.1.0) (sym other)
      ]
      | false ↦ λ none. pushed test es k t none
    ]) new
  where
    some_none : Some e.1 ≡ None → ⊥
    some_none same = cc

-- the tables of vertices once one more goes last
pub vertex_pushed : (f : Form) (v : ℕ) (t : Table) → lookup (λ x. v == x) f.vertices ≡ None → (w : ℕ) → word (lookup (λ x. w == x) (f.vertices ++ (v, t) ∷ [])) ≡ cond (w == v) t.0 (vertex_table f w)
vertex_pushed f v t new w = pushed (λ x. w == x) f.vertices v t (λ same. ap (λ k. lookup (λ x. k == x) f.vertices) (eqb-true w v same) ∙ new)

-- and of arcs
pub arc_pushed : (f : Form) (u v : ℕ) (t : Table) → lookup (is_arc u v) f.arcs ≡ None → (a b : ℕ) →
    word (lookup (is_arc a b) (f.arcs ++ ((u, v), t) ∷ [])) ≡ cond (is_arc a b (u, v)) t.0 (arc_table f a b)
arc_pushed f u v t new a b =
    pushed (is_arc a b) f.arcs (u, v) t (λ same. ap₂ (λ i j. lookup (is_arc i j) f.arcs)
    (eqb-true a u (and_parts (a == u) (b == v) same).0) (eqb-true b v (and_parts (a == u) (b == v) same).1) ∙ new)
