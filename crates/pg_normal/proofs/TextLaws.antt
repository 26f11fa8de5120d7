-- Forms of one file are written alike.
use Rattle.std.specs.Prelude.{◌≡◌, refl, ℕ, ◌<◌, ◌^◌, ◌==◌, Bool, true, false, cond, if◌then◌else◌, List, [], ◌∷◌, ◌++◌, map, codes, Some}
use Rattle.std.specs.List.{AllByRecursion, flat_map}
use Rattle.std.specs.Map.{lookup}
use Rattle.std.specs.Int.{bit_at}
use Rattle.std.proofs.Common.{zero, suc, ap, ap₂, ◌∙◌, sym, get_or, arith}
use Rattle.std.proofs.lemmas.Bool.{both_ways}
use Rattle.std.proofs.lemmas.Nat.Bits.{same_from_bits_below, bit_at-lt}
use Rattle.cpog_defs.specs.Codes.{bit}
use Rattle.pg_algebra.specs.Graphs.{Graph}
use Rattle.pg_algebra.specs.declared.table.Table.{Table}
use Rattle.pg_text.specs.declared.statement.Statement.{Statement}
use Rattle.pg_text.specs.declared.statement.Statement.TheVariants as statement
use Rattle.pg_text.specs.declared.statement.Numbered.{Numbered}
use Rattle.pg_text.specs.Contents.{Contents}
use Rattle.pg_text.specs.Writing.{with_text}
use Rattle.line_text.specs.Lines.{text_of}
use Rattle.pg_normal.specs.declared.normal.Normal.{Normal}
use Rattle.pg_normal.specs.Forms.{Form, word, vertex_table, arc_table, IsWord, IsFormOf}
use Rattle.pg_normal.specs.Normals.{Before, with_statement, params_in, StatementNormals, AreNormals, AreNormalsOf, none_before}
use Rattle.pg_normal.specs.Writing.{prefix_text, arc_text, sum_text, vertices_of, form_text}
use Rattle.pg_normal.specs.Listing.{params_lines, definition_text, first_line, statement_lines, normal_lines, normal_text}

-- ---- tables

small_word : {K : Type 0} (test : K → Bool) (es : List (K × Table)) → AllByRecursion (λ e. IsWord e.1.0) es → word (lookup test es) < 2 ^ 64
small_word test [] all = omega arith
small_word test (e ∷ es) all = elim (test e.0) as (λ b. word (cond b (Some e.1) (lookup test es)) < 2 ^ 64) [
  | true ↦ all.0.1
  | false ↦ small_word test es all.1
]

same_digits : (a b : ℕ) → a < 2 → b < 2 → (a == 1) ≡ (b == 1) → a ≡ b
same_digits zero zero ha hb e = refl
same_digits zero (suc zero) ha hb e = absurd (both_ways false refl e)
same_digits (suc zero) zero ha hb e = absurd (both_ways false refl (sym e))
same_digits (suc zero) (suc zero) ha hb e = refl
same_digits (suc (suc a)) b ha hb e = absurd (omega arith)
same_digits a (suc (suc b)) ha hb e = absurd (omega arith)

same_word : (a b : ℕ) → a < 2 ^ 64 → b < 2 ^ 64 → ((n : ℕ) → n < 64 → bit a n ≡ bit b n) → a ≡ b
same_word a b ha hb same = same_from_bits_below 64 a b ha hb (λ n h. same_digits (bit_at a n) (bit_at b n) (bit_at-lt a n) (bit_at-lt b n) (same n h))

-- ---- one form

abbrev text_by : List (List ℕ) → List (List ℕ) → (ℕ → ℕ) → (ℕ → ℕ → ℕ) → List ℕ → List ℕ
text_by names params vertex arc vs = sum_text (map (λ v. prefix_text params (vertex v) ++ get_or names v []) vs
    ++ flat_map (λ u. flat_map (λ v. if arc u v == 0 then [] else (prefix_text params (arc u v) ++ arc_text (get_or names u []) (get_or names v [])) ∷ []) vs) vs)

module _ (names params : List (List ℕ)) (graphs : ℕ → Graph) (order : List ℕ) (x y : Form) (is_x : IsFormOf graphs order x) (is_y : IsFormOf graphs order y) where
  same_vertex : (v : ℕ) → vertex_table x v ≡ vertex_table y v
  same_vertex v = same_word (vertex_table x v) (vertex_table y v) (small_word (λ w. v == w) x.vertices is_x.normal.some_vertex) (small_word (λ w. v == w) y.vertices is_y.normal.some_vertex)
      (λ n h. ap (λ g. g.vertex v) (is_x.graph n h ∙ sym (is_y.graph n h)))

  same_arc : (u v : ℕ) → arc_table x u v ≡ arc_table y u v
  same_arc u v = same_word (arc_table x u v) (arc_table y u v) (small_word _ x.arcs is_x.normal.some_arc) (small_word _ y.arcs is_y.normal.some_arc)
      (λ n h. ap (λ g. g.arc u v) (is_x.graph n h ∙ sym (is_y.graph n h)))

  same_vertices : vertices_of x ≡ vertices_of y
  same_vertices = is_x.vertices ∙ sym is_y.vertices

  pub one_form_text : form_text x names params ≡ form_text y names params
  one_form_text = λ j. text_by names params (λ v. same_vertex v j) (λ u v. same_arc u v j) (same_vertices j)

-- ---- the lines

module _ (names params : List (List ℕ)) where
  statement_same : (s : Statement) (before : Before) (R : List Normal → Type 0) (rest : List Normal → List (List ℕ)) → ((xs ys : List Normal) → R xs → R ys → rest xs ≡ rest ys)
      → (xs ys : List Normal) → StatementNormals params before s R xs → StatementNormals params before s R ys → statement_lines names params s rest xs ≡ statement_lines names params s rest ys
  statement_same (statement.Params ws) before R rest same xs ys hx hy = same xs ys hx hy
  statement_same (statement.Graph w e) before R rest same xs ys hx hy =
      let line : Normal → List ℕ = λ x. definition_text (codes "graph ") w (form_text x.form names params) in
      ap (first_line line rest) hx.whole
      ∙ ap₂ (λ t ls. definition_text (codes "graph ") w t ∷ ls) (one_form_text names params _ _ hx.one.form hy.one.form hx.is.form hy.is.form) (same hx.more hy.more hx.rest hy.rest)
      ∙ sym (ap (first_line line rest) hy.whole)
  statement_same (statement.Scenario w e bs) before R rest same xs ys hx hy =
      let line : Normal → List ℕ = λ x. definition_text (codes "scenario ") w (form_text x.form names params) ++ with_text bs in
      ap (first_line line rest) hx.whole
      ∙ ap₂ (λ t ls. (definition_text (codes "scenario ") w t ++ with_text bs) ∷ ls)
      (one_form_text names params _ _ hx.one.form hy.one.form hx.is.form hy.is.form)
      (same hx.more hy.more hx.rest hy.rest)
      ∙ sym (ap (first_line line rest) hy.whole)

  same_lines : (ss : List Numbered) (before : Before) (xs ys : List Normal) → AreNormals params before ss xs →
      AreNormals params before ss ys → normal_lines names params ss xs ≡ normal_lines names params ss ys
  same_lines [] before xs ys hx hy = refl
  same_lines (s ∷ ss) before xs ys hx hy =
      statement_same s.statement before (AreNormals params (with_statement params before s.statement) ss)
      (normal_lines names params ss) (λ ps qs. same_lines ss
      (with_statement params before s.statement) ps qs) xs ys hx hy

-- a file has one text of forms
pub one_normal_text : (f : Contents) (xs ys : List Normal) → AreNormalsOf f xs → AreNormalsOf f ys → normal_text f xs ≡ normal_text f ys
one_normal_text f xs ys hx hy = ap (λ ls. text_of (params_lines (params_in f) ++ ls)) (same_lines f.operations (params_in f) f.statements none_before xs ys hx.forms hy.forms)
