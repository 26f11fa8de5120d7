-- What each step of the walk over an expression does to the graphs.
use Rattle.std.specs.Prelude.{◌≡◌, refl, ℕ, ◌<◌, ◌≤◌, ◌+◌, Bool, true, false, ◌&&◌, ◌||◌, List, length, map, slice_index, IsTrue, Option, Some, None, IfSome}
use Rattle.std.proofs.Common.{ap, ap₂, ◌∙◌, sym, subst, get_or, drop, inl, inr}
use Rattle.std.proofs.Math.Bool.{and-true, or-false}
use Rattle.std.proofs.lemmas.Option.{none-some, same_Some}
use Rattle.std.proofs.lemmas.Bool.{and_parts, cases_eq, eq-eqb, ne_eqb}
use Rattle.std.proofs.lemmas.List.{drop_all}
use Rattle.cpog_defs.specs.Codes.{bit}
use Rattle.pg_algebra.specs.declared.expr.Expr.{Expr}
use Rattle.pg_algebra.specs.declared.table.Table.{Table}
use Rattle.pg_algebra.specs.declared.cond.Cond.{Cond}
use Rattle.pg_algebra.specs.Conditions.{Valuation, value}
use Rattle.pg_algebra.specs.Meaning.{Earlier, graph_of}
use Rattle.pg_algebra.specs.Graphs.{Graph, empty, single, overlay, sequence, when, overlay_all, sequence_all}
use Rattle.pg_algebra.proofs.GraphLaws.{same_graph, algebra_of_graphs}
use Rattle.pg_normal.specs.Known.{entry, graph_of_rows}
use Rattle.pg_normal.specs.Sound.{is_sound, all_sound}
use Rattle.pg_normal.proofs.RowLemmas.{next_item}

-- arcs alone
abbrev pub arcs_at : List (List ℕ) → ℕ → Graph
arcs_at arcs n = record { vertex = λ v. false; arc = λ u v. bit (entry arcs u v) n }

-- one more member of a sequence: its arcs are in `one`, and those from what came before are in `two`
pub next_member : (zero before here after : List ℕ) (arcs one two : List (List ℕ)) (n : ℕ) (g : Graph)
    → ((v : ℕ) → bit (slice_index zero v) n ≡ false)
    → graph_of_rows here one n ≡ overlay (graph_of_rows zero arcs n) g
    → ((u v : ℕ) → bit (entry two u v) n ≡ (bit (entry one u v) n || (bit (slice_index before u) n && bit (slice_index here v) n)))
    → ((v : ℕ) → bit (slice_index after v) n ≡ (bit (slice_index before v) n || bit (slice_index here v) n))
    → graph_of_rows after two n ≡ sequence (graph_of_rows before arcs n) g
next_member zero before here after arcs one two n g none added joined united =
    same_graph _ _
    (λ v. united v ∙ ap (λ b. bit (slice_index before v) n || b) (here_is v))
    (λ u v. joined u v ∙ ap₂ (λ a b. a || (bit (slice_index before u) n && b)) (ap (λ h. h.arc u v) added) (here_is v))
  where
    here_is : (v : ℕ) → bit (slice_index here v) n ≡ g.vertex v
    here_is v = ap (λ h. h.vertex v) added ∙ ap (λ b. b || g.vertex v) (none v)

-- so the sequence of what came before and of the rest stays the same
pub line_step : (g : Earlier) (t : Valuation) (guard : Bool) (items : List Expr) (i : ℕ) (x : Expr) (a b whole : Graph)
    → i < length items → x ≡ get_or items i x
    → b ≡ sequence a (when guard (graph_of g t x))
    → sequence a (when guard (sequence_all (map (graph_of g t) (drop i items)))) ≡ whole
    → sequence b (when guard (sequence_all (map (graph_of g t) (drop (i + 1) items)))) ≡ whole
line_step g t guard items i x a b whole h at is so_far =
    ap (λ y. sequence y (when guard (sequence_all (map (graph_of g t) (drop (i + 1) items))))) is
    ∙ algebra_of_graphs.sequence_associates a (when guard (graph_of g t x)) (when guard (sequence_all (map (graph_of g t) (drop (i + 1) items))))
    ∙ ap (sequence a) (sym (algebra_of_graphs.when_sequence guard (graph_of g t x) (sequence_all (map (graph_of g t) (drop (i + 1) items)))))
    ∙ ap (λ es. sequence a (when guard (sequence_all (map (graph_of g t) es)))) (sym (next_item items i x h at))
    ∙ so_far

pub over_step : (g : Earlier) (t : Valuation) (guard : Bool) (items : List Expr) (i : ℕ) (x : Expr) (a b whole : Graph)
    → i < length items → x ≡ get_or items i x
    → b ≡ overlay a (when guard (graph_of g t x))
    → overlay a (when guard (overlay_all (map (graph_of g t) (drop i items)))) ≡ whole
    → overlay b (when guard (overlay_all (map (graph_of g t) (drop (i + 1) items)))) ≡ whole
over_step g t guard items i x a b whole h at is so_far =
    ap (λ y. overlay y (when guard (overlay_all (map (graph_of g t) (drop (i + 1) items))))) is
    ∙ algebra_of_graphs.overlay_associates a (when guard (graph_of g t x)) (when guard (overlay_all (map (graph_of g t) (drop (i + 1) items))))
    ∙ ap (overlay a) (sym (algebra_of_graphs.when_overlay guard (graph_of g t x) (overlay_all (map (graph_of g t) (drop (i + 1) items)))))
    ∙ ap (λ es. overlay a (when guard (overlay_all (map (graph_of g t) es)))) (sym (next_item items i x h at))
    ∙ so_far

when_empty : (b : Bool) → when b empty ≡ empty
when_empty true = refl
when_empty false = refl

pub over_done : (g : Earlier) (t : Valuation) (guard : Bool) (items : List Expr) (i : ℕ) (a whole : Graph)
    → length items ≤ i → overlay a (when guard (overlay_all (map (graph_of g t) (drop i items)))) ≡ whole → a ≡ whole
over_done g t guard items i a whole h so_far =
    sym (algebra_of_graphs.overlay_empty a)
    ∙ ap (overlay a) (sym (when_empty guard))
    ∙ ap (λ es. overlay a (when guard (overlay_all (map (graph_of g t) es)))) (sym (drop_all i items h))
    ∙ so_far

pub line_done : (g : Earlier) (t : Valuation) (guard : Bool) (items : List Expr) (i : ℕ) (a whole : Graph)
    → length items ≤ i → sequence a (when guard (sequence_all (map (graph_of g t) (drop i items)))) ≡ whole → a ≡ whole
line_done g t guard items i a whole h so_far =
    sym (algebra_of_graphs.empty_last a)
    ∙ ap (sequence a) (sym (when_empty guard))
    ∙ ap (λ es. sequence a (when guard (sequence_all (map (graph_of g t) es)))) (sym (drop_all i items h))
    ∙ so_far

pub sound_step : (count : ℕ) (params : List (List ℕ)) (items : List Expr) (i : ℕ) (x : Expr) → i < length items → x ≡ get_or items i x
    → IsTrue (all_sound count params (drop i items)) → IsTrue (is_sound count params x) × IsTrue (all_sound count params (drop (i + 1) items))
sound_step count params items i x h at all =
    and_parts (is_sound count params x) (all_sound count params (drop (i + 1) items))
    (subst (λ es. IsTrue (all_sound count params es)) (next_item items i x h at) all)

pub op_added : (vertices after : List ℕ) (arcs : List (List ℕ)) (v n : ℕ) (guard : Bool)
    → bit (slice_index after v) n ≡ (bit (slice_index vertices v) n || guard)
    → ((k : ℕ) → (k ≡ v → ⊥) → slice_index after k ≡ slice_index vertices k)
    → graph_of_rows after arcs n ≡ overlay (graph_of_rows vertices arcs n) (when guard (single v))
op_added vertices after arcs v n guard same others = same_graph _ _
    (λ k. elim (cases_eq k v) [
      | inl e ↦ rw e (rw (eq-eqb v v refl) (same ∙ ap (λ b. bit (slice_index vertices v) n || b) (sym (and-true guard))))
      | inr ne ↦ rw (ne_eqb k v ne) (ap (λ x. bit x n) (others k ne) ∙ sym (none (bit (slice_index vertices k) n) guard))
    ])
    (λ u w. sym (none (bit (entry arcs u w) n) guard))
  where
    none : (a b : Bool) → (a || (b && false)) ≡ a
    none true b = refl
    none false true = refl
    none false false = refl

pub no_vertices : (row : List ℕ) (arcs : List (List ℕ)) (n : ℕ) → ((v : ℕ) → bit (slice_index row v) n ≡ false) → graph_of_rows row arcs n ≡ arcs_at arcs n
no_vertices row arcs n none = same_graph _ _ none (λ u v. refl)

-- at the end the vertices of the sequence join those that were there
pub line_ends : (vertices before after : List ℕ) (arcs start : List (List ℕ)) (n : ℕ) (g : Graph)
    → graph_of_rows before arcs n ≡ sequence (arcs_at start n) g
    → ((v : ℕ) → bit (slice_index after v) n ≡ (bit (slice_index vertices v) n || bit (slice_index before v) n))
    → graph_of_rows after arcs n ≡ overlay (graph_of_rows vertices start n) g
line_ends vertices before after arcs start n g is united =
    same_graph _ _
    (λ v. united v ∙ ap (λ b. bit (slice_index vertices v) n || b) (ap (λ h. h.vertex v) is))
    (λ u v. ap (λ h. h.arc u v) is ∙ or-false _)

pub when_done : (g : Earlier) (t : Valuation) (c : Cond) (e : Expr) (guard table both : Bool) → both ≡ (guard && table) → table ≡ value t c
    → when both (graph_of g t e) ≡ when guard (when (value t c) (graph_of g t e))
when_done g t c e guard table both is held = ap (λ b. when b (graph_of g t e)) (is ∙ ap (λ b. guard && b) held) ∙ algebra_of_graphs.when_both guard (value t c) (graph_of g t e)

-- over nothing there is the graph itself
pub nothing_before : (a g : Graph) (b : Bool) → ((v : ℕ) → a.vertex v ≡ false) → ((u v : ℕ) → a.arc u v ≡ false) → b ≡ true → overlay a (when b g) ≡ g
nothing_before a g b vertices arcs is = same_graph _ _
    (λ v. ap₂ (λ x y. x || (y && g.vertex v)) (vertices v) is)
    (λ u v. ap₂ (λ x y. x || (y && g.arc u v)) (arcs u v) is)

-- what holds of the table that was found
pub table_in : (P : Table → Type 0) (o : Option Table) (x : Table) → o ≡ Some x → IfSome o P → P x
table_in P (Some y) x e p = subst P (same_Some y x e) p
table_in P None x e p = absurd (none-some x e)
